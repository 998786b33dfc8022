-- A host of `init` is one: the same names in the order of their bytes are one list.
use Rattle.std.proofs.Common.{◌≡◌, ℕ, zero, suc, Bool, true, false, List, [], ◌∷◌, refl, sym, ap, ◌∙◌, arith}
use Rattle.std.specs.List.{AllByRecursion, AllPairs, sum_by}
use Rattle.std.specs.List.Sorted.{IsSorted}
use Rattle.std.specs.Ordering.{is_eq, is_lt, ordering_reverse}
use Rattle.std.specs.declared.cmp.Ordering.{Ordering}
use Rattle.std.specs.declared.cmp.Ordering.TheVariants.{Less, Equal, Greater}
use Rattle.std.proofs.lemmas.Bool.{true≢false}
use Rattle.std.proofs.lemmas.List.Elements.{recursion_from_All}
use Rattle.std.proofs.lemmas.List.Sorted.{sum_by-IsPermutation}
use Rattle.std.proofs.lemmas.List.Sums.{sum_by-cons}
use Rattle.ext_lines.specs.ByteOrder.{bytes_cmp, bytes_total}
use Rattle.ext_text.specs.declared.arch.Arch.{Arch}
use Rattle.ext_text.specs.declared.scope.Scope.{Scope}
use Rattle.ext_text.proofs.ForCallers.{same_name}
use Rattle.ext_host.specs.declared.host.Host.{Host}
use Rattle.ext_cmd.specs.declared.answer.Answer.TheVariants as answers
use Rattle.ext_cmd.specs.declared.command.Chosen.{Chosen}
use Rattle.ext_intents.specs.Init.{InitWants, IsInOrder, IsNewHost}
use Rattle.ext_intents.specs.declared.intent.Intent.{Intent}
use Rattle.ext_intents.specs.declared.intent.Intent.TheVariants.{Changes}
use Rattle.ext_intents.proofs.InitLemmas.{far_apart}

-- neither before nor after is equal
tie : (o p : Ordering) → o ≡ ordering_reverse p → is_lt o ≡ false → is_lt p ≡ false → is_eq o ≡ true
tie Less p back low high = absurd (true≢false low)
tie Equal p back low high = refl
tie Greater Less back low high = absurd (true≢false high)
tie Greater Equal back low high = cc
tie Greater Greater back low high = cc

pub tied : (a b : List ℕ) → is_lt (bytes_cmp a b) ≡ false → is_lt (bytes_cmp b a) ≡ false → a ≡ b
tied a b low high = same_name a b (tie (bytes_cmp a b) (bytes_cmp b a) (bytes_total.antisymm a b) low high)

-- names in order: none is before one that stands before it
abbrev Ordered : List (List ℕ) → Type 0
Ordered [] = Unit {0}
Ordered (a ∷ names) = AllByRecursion (λ b. is_lt (bytes_cmp b a) ≡ false) names × Ordered names

ordered_far : (names : List (List ℕ)) → AllPairs (λ a b. is_lt (bytes_cmp b a) ≡ false) names → Ordered names
ordered_far [] far = tt
ordered_far (a ∷ names) far = (
  recursion_from_All (λ b. is_lt (bytes_cmp b a) ≡ false) names (λ j d inside. far zero (suc j) d (omega arith) (omega arith)),
  ordered_far names (λ i j d below inside. far (suc i) (suc j) d (omega arith) (omega arith)),
)

is_ordered : (names : List (List ℕ)) → IsSorted bytes_cmp names → Ordered names
is_ordered names order = ordered_far names (far_apart names order)

abbrev point : Bool → ℕ
point true = 1
point false = 0

-- how many names stand before this one
abbrev before : List ℕ → List ℕ → ℕ
before a b = point (is_lt (bytes_cmp b a))

never_before : (a : List ℕ) → is_lt (bytes_cmp a a) ≡ false
never_before a = by_order (bytes_cmp a a) (bytes_total.antisymm a a)
  where
    by_order : (o : Ordering) → o ≡ ordering_reverse o → is_lt o ≡ false
    by_order Less same = cc
    by_order Equal same = refl
    by_order Greater same = refl

none_before : (a : List ℕ) (names : List (List ℕ)) → AllByRecursion (λ b. is_lt (bytes_cmp b a) ≡ false) names → sum_by (before a) names ≡ 0
none_before a [] all = refl
none_before a (b ∷ names) all =
    let first : before a b ≡ 0 = ap point all.0 in
    omega (arith, none_before a names all.1, sum_by-cons (before a) b names)

not_before : (b : Bool) → point b ≡ 0 → b ≡ false
not_before true none = absurd (omega arith)
not_before false none = refl

-- lists in order that have each name as often are equal
one_order : (xs ys : List (List ℕ)) → Ordered xs → Ordered ys → ((f : List ℕ → ℕ) → sum_by f xs ≡ sum_by f ys) → xs ≡ ys
one_order [] [] first second same = refl
one_order [] (y ∷ ys) first second same = absurd (omega (arith, same (λ _. 1), sum_by-cons (λ _. 1) y ys))
one_order (x ∷ xs) [] first second same = absurd (omega (arith, same (λ _. 1), sum_by-cons (λ _. 1) x xs))
one_order (x ∷ xs) (y ∷ ys) first second same =
    let own : before x x ≡ 0 = ap point (never_before x) in
    let other : before y y ≡ 0 = ap point (never_before y) in
    let low : before x y ≡ 0 = omega (arith, same (before x), none_before x xs first.0, sum_by-cons (before x) x xs, sum_by-cons (before x) y ys) in
    let high : before y x ≡ 0 = omega (arith, same (before y), none_before y ys second.0, sum_by-cons (before y) x xs, sum_by-cons (before y) y ys) in
    let head : x ≡ y = tied x y (not_before (is_lt (bytes_cmp x y)) high) (not_before (is_lt (bytes_cmp y x)) low) in
    let tail : xs ≡ ys = one_order xs ys first.1 second.1 (λ f. let at : f x ≡ f y = ap f head in omega (arith, same f, sum_by-cons f x xs, sum_by-cons f y ys)) in
    (λ i. head i ∷ tail i)

in_one_order : (names a b : List (List ℕ)) → IsInOrder names a → IsInOrder names b → a ≡ b
in_one_order names a b x y =
    one_order a b (is_ordered a x.order) (is_ordered b y.order) (λ f. sum_by-IsPermutation f names a x.same ∙ sym (sum_by-IsPermutation f names b y.same))

one_new_host : (arch : Arch) (scope : Scope) (hierarchies : Chosen) (a b : Host) → IsNewHost arch scope hierarchies a → IsNewHost arch scope hierarchies b → a ≡ b
one_new_host arch scope hierarchies a b x y =
    let arch_is = x.arch_is ∙ sym y.arch_is in
    let scope_is = x.scope_is ∙ sym y.scope_is in
    let root = x.root ∙ sym y.root in
    let lower = x.lower ∙ sym y.lower in
    let sysext = x.sysext ∙ sym y.sysext in
    let confext = x.confext ∙ sym y.confext in
    let attached = x.attached ∙ sym y.attached in
    let kept = x.kept ∙ sym y.kept in
    let sysext_hier = in_one_order _ a.sysext_hier b.sysext_hier x.sysext_hier y.sysext_hier in
    let confext_hier = in_one_order _ a.confext_hier b.confext_hier x.confext_hier y.confext_hier in
    let past = x.past ∙ sym y.past in
    (λ i. record {
      arch = arch_is i;
      scope = scope_is i;
      root = root i;
      lower = lower i;
      sysext = sysext i;
      confext = confext i;
      attached = attached i;
      kept = kept i;
      sysext_hier = sysext_hier i;
      confext_hier = confext_hier i;
      past = past i;
    })

pub init_once : (arch : Arch) (scope : Scope) (hierarchies : Chosen) (a b : Intent) → InitWants arch scope hierarchies a → InitWants arch scope hierarchies b → a ≡ b
init_once arch scope hierarchies a b (x, new, is) (y, other, also) = is ∙ ap (λ host. Changes host answers.Done) (one_new_host arch scope hierarchies x y new other) ∙ sym also
