-- Lists of marks: what stays of them, and in which order.
use Rattle.std.proofs.Common.{◌≡◌, ℕ, zero, suc, ◌<◌, Bool, true, false, cond, List, [], ◌∷◌, ◌++◌, map, reverse, drop, refl, sym, ap, ◌∙◌, subst, arith}
use Rattle.std.proofs.lemmas.Bool.Decides.{nat_tests}
use Rattle.std.proofs.lemmas.Cmp.{ranked}
use Rattle.std.proofs.lemmas.List.{drop-map, map-append, reverse-append}
use Rattle.std.proofs.lemmas.List.Elements.{All-contains, All-contains_itself, All-drop, All-filter, All-from_recursion, recursion_from_All}
use Rattle.std.specs.List.{AllByRecursion, Contains, filter}
use Rattle.std.specs.Ordering.{MatchOrdering, nat_cmp}
use Rattle.std.specs.declared.cmp.Ordering.{Ordering}
use Rattle.std.specs.declared.cmp.Ordering.TheVariants.{Less}
use Rattle.ext_host.proofs.ForCallers.{ascending_push}
use Rattle.ext_host.specs.Valid.{AreAscending}
use Rattle.ext_host.specs.declared.past.Past.{Past}
use Rattle.ext_history.specs.Marks.{AreBefore}

-- the generations of marks
abbrev pub generations : List Past → List ℕ
generations marks = map (λ mark. mark.generation) marks

-- a number that is less comes before, and the other way round
pub less_cmp : (a b : ℕ) → a < b → nat_cmp a b ≡ Less
less_cmp a b lt = grind (arith, nat_tests)

pub cmp_less : (a b : ℕ) → nat_cmp a b ≡ Less → a < b
cmp_less a b is = subst (λ o. MatchOrdering o (a < b) (a ≡ b) (b < a)) is (ranked a b (nat_cmp a b) refl)

module _ {X : Type 0} where
  -- what is among the last elements, or among those that pass a test, is among all
  pub contains_drop : (n : ℕ) (xs : List X) (x : X) → Contains (drop n xs) x → Contains xs x
  contains_drop n xs x has = All-contains (Contains xs) (drop n xs) x (All-drop (Contains xs) n xs (All-contains_itself xs)) has

  pub contains_filter : (f : X → Bool) (xs : List X) (x : X) → Contains (filter f xs) x → Contains xs x
  contains_filter f xs x has = All-contains (Contains xs) (filter f xs) x (All-filter f (Contains xs) xs (All-contains_itself xs)) has

  -- what is among some and passes is among those that pass
  pub filter_contains : (f : X → Bool) (xs : List X) (x : X) → f x ≡ true → Contains xs x → Contains (filter f xs) x
  filter_contains f [] x passes has = has
  filter_contains f (y ∷ ys) x passes (zero, lt, is) =
      subst (λ b. Contains (cond b (y ∷ filter f ys) (filter f ys)) x) (sym (ap f is ∙ passes)) (zero, omega arith, is)
  filter_contains f (y ∷ ys) x passes (suc k, lt, is) =
      let rest = filter_contains f ys x passes (k, omega arith, is) in
      elim (f y) as (λ b. Contains (cond b (y ∷ filter f ys) (filter f ys)) x) [
        | true ↦ (suc rest.0, omega arith, rest.2)
        | false ↦ rest
      ]

  -- what holds of each holds of the last ones, and of those that pass a test
  pub all_drop : (P : X → Type 0) (n : ℕ) (xs : List X) → AllByRecursion P xs → AllByRecursion P (drop n xs)
  all_drop P n xs all = recursion_from_All P (drop n xs) (All-drop P n xs (All-from_recursion P xs all))

  pub all_filter : (P : X → Type 0) (f : X → Bool) (xs : List X) → AllByRecursion P xs → AllByRecursion P (filter f xs)
  all_filter P f xs all = recursion_from_All P (filter f xs) (All-filter f P xs (All-from_recursion P xs all))

  -- what holds of each holds of one that is among them
  pub one_of : (P : X → Type 0) (xs : List X) (x : X) → AllByRecursion P xs → Contains xs x → P x
  one_of P xs x all has = All-contains P xs x (All-from_recursion P xs all) has

  pub ascending_drop : (R : X → X → Ordering) (n : ℕ) (xs : List X) → AreAscending R xs → AreAscending R (drop n xs)
  ascending_drop R zero xs up = up
  ascending_drop R (suc n) [] up = tt
  ascending_drop R (suc n) (x ∷ xs) up = ascending_drop R n xs up.1

-- the values of elements in the other order
pub map_reverse : {X Y : Type 0} (f : X → Y) (xs : List X) → map f (reverse xs) ≡ reverse (map f xs)
map_reverse f [] = refl
map_reverse f (x ∷ xs) =
    ap (map f) (reverse-append (x ∷ []) xs)
    ∙ map-append f (reverse xs) (x ∷ [])
    ∙ ap (λ ys. ys ++ f x ∷ []) (map_reverse f xs)
    ∙ sym (reverse-append (f x ∷ []) (map f xs))

-- what holds of the value of each holds of the values of those that pass a test
all_values : {X Y : Type 0} (g : X → Y) (P : Y → Type 0) (f : X → Bool) (xs : List X) → AllByRecursion P (map g xs) → AllByRecursion P (map g (filter f xs))
all_values g P f [] all = tt
all_values g P f (x ∷ xs) all =
    let rest = all_values g P f xs all.1 in
    elim (f x) as (λ b. AllByRecursion P (map g (cond b (x ∷ filter f xs) (filter f xs)))) [ true ↦ (all.0, rest) | false ↦ rest ]

-- those that pass a test still ascend
pub ascending_filter : {X Y : Type 0} (R : Y → Y → Ordering) (g : X → Y) (f : X → Bool) (xs : List X) → AreAscending R (map g xs) → AreAscending R (map g (filter f xs))
ascending_filter R g f [] up = tt
ascending_filter R g f (x ∷ xs) up =
    let rest = ascending_filter R g f xs up.1 in
    elim (f x) as (λ b. AreAscending R (map g (cond b (x ∷ filter f xs) (filter f xs)))) [
      | true ↦ (all_values g (λ y. R (g x) y ≡ Less) f xs up.0, rest)
      | false ↦ rest
    ]

-- the last marks still ascend
pub ascending_last : (n : ℕ) (marks : List Past) → AreAscending nat_cmp (generations marks) → AreAscending nat_cmp (generations (drop n marks))
ascending_last n marks up = subst (AreAscending nat_cmp) (drop-map (λ (mark : Past). mark.generation) n marks) (ascending_drop nat_cmp n (generations marks) up)

below_all : (generation : ℕ) (marks : List Past) → AreBefore generation marks → AllByRecursion (λ g. nat_cmp g generation ≡ Less) (generations marks)
below_all generation [] before = tt
below_all generation (mark ∷ marks) before = (less_cmp mark.generation generation before.0, below_all generation marks before.1)

-- marks with one more that comes after each ascend
pub ascending_more : (marks : List Past) (mark : Past) → AreBefore mark.generation marks → AreAscending nat_cmp (generations marks) → AreAscending nat_cmp (generations (marks ++ mark ∷ []))
ascending_more marks mark before up =
    subst (AreAscending nat_cmp) (sym (map-append (λ (m : Past). m.generation) marks (mark ∷ [])))
    (ascending_push nat_cmp (generations marks) mark.generation up (below_all mark.generation marks before))

-- one of marks is before the generation that all are before
pub one_before : (generation : ℕ) (marks : List Past) (mark : Past) → AreBefore generation marks → Contains marks mark → mark.generation < generation
one_before generation marks mark before has = one_of (λ m. m.generation < generation) marks mark before has

-- a mark is before each of those after it
pub above_each : (a : Past) (marks : List Past) (b : Past) → AllByRecursion (λ g. nat_cmp a.generation g ≡ Less) (generations marks) → Contains marks b → a.generation < b.generation
above_each a [] b all (k, lt, is) = absurd (omega arith)
above_each a (m ∷ marks) b all (zero, lt, is) = subst (λ (x : Past). a.generation < x.generation) is (cmp_less a.generation m.generation all.0)
above_each a (m ∷ marks) b all (suc k, lt, is) = above_each a marks b all.1 (k, omega arith, is)

-- ascending marks have one of each generation
pub one_mark : (marks : List Past) (a b : Past) → AreAscending nat_cmp (generations marks) → Contains marks a → Contains marks b → a.generation ≡ b.generation → a ≡ b
one_mark [] a b up (k, lt, is) other same = absurd (omega arith)
one_mark (m ∷ marks) a b up (zero, lt, is) (zero, gt, at) same = sym is ∙ at
one_mark (m ∷ marks) a b up (zero, lt, is) (suc j, gt, at) same =
    let less : m.generation < b.generation = above_each m marks b up.0 (j, omega arith, at) in
    let tie : m.generation ≡ a.generation = ap (λ (x : Past). x.generation) is in
    absurd (omega arith)
one_mark (m ∷ marks) a b up (suc i, lt, is) (zero, gt, at) same =
    let less : m.generation < a.generation = above_each m marks a up.0 (i, omega arith, is) in
    let tie : m.generation ≡ b.generation = ap (λ (x : Past). x.generation) at in
    absurd (omega arith)
one_mark (m ∷ marks) a b up (suc i, lt, is) (suc j, gt, at) same = one_mark marks a b up.1 (i, omega arith, is) (j, omega arith, at) same
