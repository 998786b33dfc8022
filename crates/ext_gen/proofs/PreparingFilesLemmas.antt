-- The files of a host and the generations in which they are kept.
use Rattle.std.proofs.Common.{◌≡◌, ◌⊎◌, ℕ, zero, suc, ◌+◌, ◌<◌, Bool, true, false, cond, ◌||◌, List, [], ◌∷◌, length, Option, Some, None, IfSome, refl, ap, ◌∙◌, subst, inl, inr, arith}
use Rattle.std.specs.Prelude.{slice_get, slice_index_or, ◌==◌}
use Rattle.std.specs.List.{AllByRecursion, Contains, list_any}
use Rattle.std.specs.Option.{is_some}
use Rattle.std.specs.Ordering.{eq_by_cmp}
use Rattle.std.proofs.lemmas.Bool.{false≢true, or_cases, or_left, or_right, eqb-true, eq-eqb}
use Rattle.std.proofs.lemmas.List.Elements.{All-contains, All-from_recursion}
use Rattle.ext_attributes.specs.Attributes.{OfFile}
use Rattle.ext_text.specs.Order.{paths_total}
use Rattle.ext_text.specs.Path.{path_cmp}
use Rattle.ext_tree.specs.Tree.{Entries, IsTree, lookup}
use Rattle.ext_tree.specs.declared.entry.Entry.{Entry}
use Rattle.ext_tree.specs.declared.entry.Entry.TheVariants.{Dir, Opaque, File, Link, Hide}
use Rattle.ext_tree.proofs.ForCallers.{find_there}
use Rattle.ext_host.specs.Drawn.{IsFileOf, trees_of}
use Rattle.ext_host.specs.Held.{HeldFile}
use Rattle.ext_host.specs.Host.{past_tree}
use Rattle.ext_host.specs.declared.body.Body.{Body}
use Rattle.ext_host.specs.declared.body.Body.TheVariants.{Here, Kept, Depot}
use Rattle.ext_host.specs.declared.home.Home.{Home}
use Rattle.ext_host.specs.declared.host.Host.{Host}
use Rattle.ext_host.specs.declared.past.Past.{Past}
use Rattle.ext_index.specs.ValidIndex.{IsHomeUpTo, IsKeptUpTo, IsWellFormed, IsWellFormedTree}
use Rattle.ext_homes.specs.Giving.{AreHomesBefore, trees_before}
use Rattle.ext_gen.specs.Opened.{Generation, IsOpened}
use Rattle.ext_gen.specs.Preparing.{coming_number, has_file_in, host_before, is_file_in, is_kept_in, is_needed, trees_of_pasts}
use Rattle.ext_gen.proofs.OpenedLemmas.{opened_is_valid_for, opened_is_well_formed}
use Rattle.ext_gen.proofs.PreparingPathsLemmas.{not_true}

-- what holds of each holds of one that is among them
pub one_of : {X : Type 0} (P : X → Type 0) (xs : List X) (x : X) → AllByRecursion P xs → Contains xs x → P x
one_of P xs x all among = All-contains P xs x (All-from_recursion P xs all) among

any_contains : {X : Type 0} (f : X → Bool) (xs : List X) (x : X) → Contains xs x → f x ≡ true → list_any f xs ≡ true
any_contains f [] x (k, lt, is) passes = absurd (omega (arith, lt))
any_contains f (y ∷ xs) x (zero, lt, is) passes = or_left _ _ (ap f is ∙ passes)
any_contains f (y ∷ xs) x (suc k, lt, is) passes = or_right (f y) _ (any_contains f xs x (k, omega (arith, lt), is) passes)

contains_any : {X : Type 0} (f : X → Bool) (xs : List X) → list_any f xs ≡ true → (x : X) × Contains xs x × (f x ≡ true)
contains_any f [] any = absurd (false≢true any)
contains_any f (y ∷ xs) any = one (or_cases (f y) (list_any f xs) any) (contains_any f xs)
  where
    one : (f y ≡ true) ⊎ (list_any f xs ≡ true) → (list_any f xs ≡ true → (x : _) × Contains xs x × (f x ≡ true)) → (x : _) × Contains (y ∷ xs) x × (f x ≡ true)
    one (inl here) rest = (y, (zero, omega arith, refl), here)
    one (inr more) rest = let found = rest more in (found.0, (suc found.1.0, omega (arith, found.1.1), found.1.2), found.2)

pub get_at : {X : Type 0} (xs : List X) (k : ℕ) (x : X) → k < length xs → slice_index_or xs k x ≡ x → slice_get xs k ≡ Some x
get_at [] k x lt is = absurd (omega (arith, lt))
get_at (y ∷ xs) zero x lt is = ap Some is
get_at (y ∷ xs) (suc k) x lt is = get_at xs k x (omega (arith, lt)) is

some_is : {X : Type 0} (x y : X) → Some x ≡ Some y → x ≡ y
some_is x y same = cc

none_is : {X : Type 0} (x : X) → None ≡ Some x → ⊥
none_is x same = false≢true (ap is_some same)

-- an entry that is found is in the list
pub lookup_any : {C : Type 0} (f : Entry C → Bool) (es : Entries C) (p : List (List ℕ)) (e : Entry C) → lookup es p ≡ Some e → f e ≡ true → list_any (λ x. f x.1) es ≡ true
lookup_any f [] p e is passes = absurd (none_is e is)
lookup_any f (x ∷ es) p e is passes =
    elim (eq_by_cmp path_cmp p x.0) as (λ b. cond b (Some x.1) (lookup es p) ≡ Some e → (f x.1 || list_any (λ y. f y.1) es) ≡ true) [
      | true ↦ λ h. or_left _ _ (ap f (some_is x.1 e h) ∙ passes)
      | false ↦ λ h. or_right (f x.1) _ (lookup_any f es p e h passes)
    ] is

-- and one of the list is found, in a tree
listed_found : {C : Type 0} (es : Entries C) (x : List (List ℕ) × Entry C) → IsTree es → Contains es x → lookup es x.0 ≡ Some x.1
listed_found es x tree among = find_there path_cmp paths_total es among.0 x tree.sorted (get_at es among.0 x among.1 among.2)

pasts_are_trees : (pasts : List Past) → AllByRecursion (λ past. IsWellFormedTree (past_tree past)) pasts → AllByRecursion IsTree (trees_of_pasts pasts)
pasts_are_trees [] all = tt
pasts_are_trees (past ∷ pasts) all = (all.0.root, (all.0.lower, pasts_are_trees pasts all.1))

-- each of a host's trees is one
pub tree_among : (host : Host) → IsWellFormed host → (es : Entries HeldFile) → Contains (trees_of host) es → IsTree es
tree_among host formed es among = one_of IsTree (trees_of host) es (formed.now.root, (formed.now.lower, pasts_are_trees host.past formed.past)) among

-- a generation in which a file is kept is needed
pub file_needed : (g : Generation) (held : HeldFile) (home : Home) → IsFileOf (trees_of g.host) held → held.body ≡ Kept home → is_needed (Some g) home.generation ≡ true
file_needed g held home is body =
    or_right (g.number == home.generation) _
    (any_contains (has_file_in home.generation) (trees_of g.host) is.tree is.among
    (lookup_any (is_file_in home.generation) is.tree is.file.path (File is.file.attributes held) is.file.stands
    (ap (is_kept_in home.generation) body ∙ eq-eqb home.generation home.generation refl)))

-- and so is that of the generation before
pub before_needed : (g : Generation) → is_needed (Some g) g.number ≡ true
before_needed g = or_left _ _ (eq-eqb g.number g.number refl)

kept_there : (n : ℕ) (body : Body) → is_kept_in n body ≡ true → (home : Home) × (body ≡ Kept home) × (home.generation ≡ n)
kept_there n (Here bytes) is = absurd (false≢true is)
kept_there n (Kept home) is = (home, refl, eqb-true home.generation n is)
kept_there n (Depot path) is = absurd (false≢true is)

file_there : (n : ℕ) (e : Entry HeldFile) → is_file_in n e ≡ true → (attributes : OfFile) × (held : HeldFile) × (home : Home) × (e ≡ File attributes held) × (held.body ≡ Kept home) × (home.generation ≡ n)
file_there n (Dir attributes) is = absurd (false≢true is)
file_there n (Opaque attributes) is = absurd (false≢true is)
file_there n (File attributes held) is = let kept = kept_there n held.body is in (attributes, held, kept.0, refl, kept.1, kept.2)
file_there n (Link owner target) is = absurd (false≢true is)
file_there n Hide is = absurd (false≢true is)

-- some file is kept in a generation that files need
needed_file : (n : ℕ) (host : Host) → IsWellFormed host → list_any (has_file_in n) (trees_of host) ≡ true
    → (held : HeldFile) × (home : Home) × IsFileOf (trees_of host) held × (held.body ≡ Kept home) × (home.generation ≡ n)
needed_file n host formed any =
    let tree = contains_any (has_file_in n) (trees_of host) any in
    let entry = contains_any (λ (x : List (List ℕ) × Entry HeldFile). is_file_in n x.1) tree.0 tree.2 in
    let kept = file_there n entry.0.1 entry.2 in
    let found : lookup tree.0 entry.0.0 ≡ Some (File kept.0 kept.1) = listed_found tree.0 entry.0 (tree_among host formed tree.0 tree.1) entry.1 ∙ ap Some kept.3 in
    (kept.1, kept.2, record { tree = tree.0; among = tree.1; file = record { path = entry.0.0; attributes = kept.0; stands = found } }, kept.4, kept.5)

-- each file is kept in its generation, or in one before that
pub opened_home : (g : Generation) → IsOpened g → (held : HeldFile) (home : Home) → IsFileOf (trees_of g.host) held → held.body ≡ Kept home → IsHomeUpTo g.number home
opened_home g opened held home file body = subst (IsKeptUpTo g.number) body ((opened_is_valid_for g opened).kept held file)

later_not_needed : (g : Generation) (n : ℕ) → IsOpened g → g.number < n → is_needed (Some g) n ≡ false
later_not_needed g n opened later = not_true (is_needed (Some g) n) (λ needed. one (or_cases (g.number == n) (list_any (has_file_in n) (trees_of g.host)) needed))
  where
    one : ((g.number == n) ≡ true) ⊎ (list_any (has_file_in n) (trees_of g.host) ≡ true) → ⊥
    one (inl same) = absurd (omega (arith, eqb-true g.number n same, later))
    one (inr any) =
        let file = needed_file n g.host (opened_is_well_formed g opened) any in
        let home = opened_home g opened file.0 file.1 file.2 file.3 in
        absurd (omega (arith, home.last, file.4, later))

-- the coming generation is not needed
pub coming_not_needed : (from : Option Generation) → IfSome from IsOpened → is_needed from (coming_number from) ≡ false
coming_not_needed None opened = refl
coming_not_needed (Some g) opened = later_not_needed g (g.number + 1) opened (omega arith)

pub no_file_of_none : (held : HeldFile) → IsFileOf [] held → ⊥
no_file_of_none held is = absurd (omega (arith, is.among.1))

-- homes of the host before are in earlier generations
pub homes_before : (from : Option Generation) → IfSome from IsOpened → AreHomesBefore (coming_number from) (trees_before (host_before from))
homes_before None opened = λ stamp home listed. absurd (no_file_of_none _ listed)
homes_before (Some g) opened =
    λ stamp home listed.
    let within = opened_home g opened (record { stamp = stamp; body = Kept home }) home listed refl in
    (omega (arith, within.last), omega (arith, within.file))
