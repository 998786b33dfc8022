-- What is among paths, and what a search from the start finds in a list in path order.
use Rattle.std.proofs.Common.{◌≡◌, ◌≢◌, ℕ, zero, suc, Bool, true, false, cond, ◌||◌, List, [], ◌∷◌, Some, None, refl, sym, ap, ◌∙◌, subst, arith}
use Rattle.std.specs.Prelude.{Contains}
use mathlib.Core.Logic.{inl, inr}
use Rattle.std.specs.Cmp.{tied_itself}
use Rattle.std.specs.List.{AllByRecursion, find, list_any}
use Rattle.std.specs.List.Sorted.{IsStrictlySortedBy}
use Rattle.std.specs.FinMap.{is_sorted}
use Rattle.std.specs.FinMap.Entries.{below_all}
use Rattle.std.specs.Ordering.{eq_by_cmp, is_lt}
use Rattle.std.specs.declared.cmp.Ordering.TheVariants.{Less}
use Rattle.std.proofs.lemmas.Bool.{and_parts, false≢true}
use Rattle.std.proofs.lemmas.Option.{none-some, same_Some}
use Rattle.ext_text.specs.Order.{paths_total}
use Rattle.ext_text.specs.Path.{path_cmp}
use Rattle.ext_text.specs.SortedPaths.{is_among}
use Rattle.ext_text.proofs.ForCallers.{is_less, same_path, tied_path}
use Rattle.ext_tree.specs.Tree.{Entries, lookup}
use Rattle.ext_tree.specs.declared.entry.Entry.{Entry}
use Rattle.ext_host.specs.Held.{HeldFile}
use Rattle.ext_installed.proofs.ForCallers.{contains_cases, none_contained}

-- an element of a list with one more
pub here : {X : Type 0} (x : X) (xs : List X) → Contains (x ∷ xs) x
here x xs = (zero, omega arith, refl)

pub later : {X : Type 0} (x y : X) (xs : List X) → Contains xs y → Contains (x ∷ xs) y
later x y xs among = (suc among.0, omega (arith, among.1), among.2)

-- a test that some element passes is passed, and the other way round
pub passed : {X : Type 0} (test : X → Bool) (xs : List X) (x : X) → Contains xs x → test x ≡ true → list_any test xs ≡ true
passed test [] x among passes = absurd (none_contained x among)
passed test (y ∷ ys) x among passes = elim (contains_cases y x ys among) [
  | inl same ↦ ap (λ b. b || list_any test ys) (ap test same ∙ passes)
  | inr more ↦ either (test y) (passed test ys x more passes)
]
  where
    either : (b : Bool) → list_any test ys ≡ true → (b || list_any test ys) ≡ true
    either true rest = refl
    either false rest = rest

-- some element passes a test that is passed
pub passer : {X : Type 0} (test : X → Bool) (xs : List X) → list_any test xs ≡ true → (x : X) × Contains xs x × (test x ≡ true)
passer test [] passes = absurd (false≢true passes)
passer test (y ∷ ys) passes = elim (test y) as (λ b. test y ≡ b → (b || list_any test ys) ≡ true → (x : _) × Contains (y ∷ ys) x × (test x ≡ true)) [
  | true ↦ λ is _. (y, here y ys, is)
  | false ↦ λ _ rest. let found = passer test ys rest in (found.0, later y found.0 ys found.1, found.2)
] refl passes

-- a path among paths is contained in them, and the other way round
pub among_contained : (paths : List (List (List ℕ))) (path : List (List ℕ)) → is_among paths path ≡ true → Contains paths path
among_contained paths path among =
    let found = passer (eq_by_cmp path_cmp path) paths among in
    subst (Contains paths) (sym (same_path path found.0 found.2)) found.1

pub contained_among : (paths : List (List (List ℕ))) (path : List (List ℕ)) → Contains paths path → is_among paths path ≡ true
contained_among paths path at = passed (eq_by_cmp path_cmp path) paths path at (tied_path path path refl)

-- an order is never both ways
pub not_both : (a b : List (List ℕ)) → path_cmp a b ≡ Less → path_cmp b a ≡ Less → ⊥
not_both a b less back =
    let round : path_cmp a a ≡ Less = paths_total.trans a b a less back in
    cc (round, tied_itself paths_total a)

pub not_less_itself : (a : List (List ℕ)) → path_cmp a a ≡ Less → ⊥
not_less_itself a less = cc (less, tied_itself paths_total a)

-- the first element that passes a test
pub find_none : {X : Type 0} (test : X → Bool) (xs : List X) (x : X) → find test xs ≡ None → Contains xs x → test x ≡ false
find_none test [] x none among = absurd (none_contained x among)
find_none {X} test (y ∷ ys) x none among = elim (test y) as (λ b. test y ≡ b → cond b (Some y) (find test ys) ≡ None → test x ≡ false) [
  | true ↦ λ _ some. absurd (none-some y (sym some))
  | false ↦ λ is rest. elim (contains_cases y x ys among) [
    | inl same ↦ subst (λ (z : X). test z ≡ false) same is
    | inr more ↦ find_none test ys x rest more
  ]
] refl none

pub find_some : {X : Type 0} (test : X → Bool) (xs : List X) (x : X) → find test xs ≡ Some x → Contains xs x × (test x ≡ true)
find_some test [] x some = absurd (none-some x some)
find_some {X} test (y ∷ ys) x some = elim (test y) as (λ b. test y ≡ b → cond b (Some y) (find test ys) ≡ Some x → Contains (y ∷ ys) x × (test x ≡ true)) [
  | true ↦ λ is got. let same = same_Some y x got in (subst (Contains (y ∷ ys)) same (here y ys), subst (λ (z : X). test z ≡ true) same is)
  | false ↦ λ _ rest. let found = find_some test ys x rest in (later y x ys found.0, found.1)
] refl some

-- each key comes before all those after it
abbrev pub Ascend : {X : Type 0} → (X → List (List ℕ)) → List X → Type 0
Ascend key [] = Unit {0}
Ascend key (x ∷ xs) = AllByRecursion (λ y. path_cmp (key x) (key y) ≡ Less) xs × Ascend key xs

pub all_contained : {X : Type 0} (P : X → Type 0) (xs : List X) (x : X) → AllByRecursion P xs → Contains xs x → P x
all_contained P [] x all among = absurd (none_contained x among)
all_contained P (y ∷ ys) x all among = elim (contains_cases y x ys among) [
  | inl same ↦ subst P same all.0
  | inr more ↦ all_contained P ys x all.1 more
]

-- in a list in path order it is the least that passes
pub find_least : {X : Type 0} (key : X → List (List ℕ)) (test : X → Bool) (xs : List X) (x : X) → Ascend key xs → find test xs ≡ Some x
    → (y : X) → Contains xs y → test y ≡ true → path_cmp (key y) (key x) ≢ Less
find_least key test [] x up some y among passes = absurd (none_contained y among)
find_least {X} key test (z ∷ zs) x up some y among passes =
    elim (test z) as (λ b. test z ≡ b → cond b (Some z) (find test zs) ≡ Some x → path_cmp (key y) (key x) ≢ Less) [
      | true ↦ λ _ got. subst (λ (w : X). path_cmp (key y) (key w) ≢ Less) (same_Some z x got) (elim (contains_cases z y zs among) [
        | inl same ↦ subst (λ (w : X). path_cmp (key w) (key z) ≢ Less) same (not_less_itself (key z))
        | inr more ↦ λ less. not_both (key z) (key y) (all_contained (λ w. path_cmp (key z) (key w) ≡ Less) zs y up.0 more) less
      ])
      | false ↦ λ fails rest. elim (contains_cases z y zs among) [
        | inl same ↦ absurd (false≢true (sym fails ∙ ap test same ∙ passes))
        | inr more ↦ find_least key test zs x up.1 rest y more passes
      ]
    ] refl some

-- paths in strict order ascend, and so do the entries of a tree
pub paths_ascend : (paths : List (List (List ℕ))) → IsStrictlySortedBy path_cmp paths → Ascend (λ path. path) paths
unfolding IsStrictlySortedBy
paths_ascend [] sorted = tt
paths_ascend (path ∷ paths) sorted = (sorted.0, paths_ascend paths sorted.1)

abbrev pub path_of : List (List ℕ) × Entry HeldFile → List (List ℕ)
path_of pair = pair.0

all_below : (path : List (List ℕ)) (es : Entries HeldFile) → below_all path_cmp path es ≡ true → AllByRecursion (λ y. path_cmp path (path_of y) ≡ Less) es
all_below path [] below = tt
all_below path (e ∷ es) below =
    let parts = and_parts (is_lt (path_cmp path e.0)) (below_all path_cmp path es) below in
    (is_less (path_cmp path e.0) parts.0, all_below path es parts.1)

pub entries_ascend : (es : Entries HeldFile) → is_sorted path_cmp es ≡ true → Ascend path_of es
entries_ascend [] sorted = tt
entries_ascend (e ∷ es) sorted =
    let parts = and_parts (below_all path_cmp e.0 es) (is_sorted path_cmp es) sorted in
    (all_below e.0 es parts.0, entries_ascend es parts.1)

-- what is found at a path is contained, and what is contained is found
pub found_contained : (es : Entries HeldFile) (path : List (List ℕ)) (e : Entry HeldFile) → lookup es path ≡ Some e → Contains es (path, e)
found_contained [] path e found = absurd (none-some e found)
found_contained (x ∷ es) path e found = elim (eq_by_cmp path_cmp path x.0) as (λ b. eq_by_cmp path_cmp path x.0 ≡ b → cond b (Some x.1) (lookup es path) ≡ Some e → Contains (x ∷ es) (path, e)) [
  | true ↦ λ tied got.
      let p = same_path path x.0 tied in
      let q = same_Some x.1 e got in
      (zero, omega arith, λ i. (sym p i, q i))
  | false ↦ λ _ rest. later x (path, e) es (found_contained es path e rest)
] refl found

pub contained_found : (es : Entries HeldFile) (path : List (List ℕ)) (e : Entry HeldFile) → Ascend path_of es → Contains es (path, e) → lookup es path ≡ Some e
contained_found [] path e up among = absurd (none_contained (path, e) among)
contained_found (x ∷ es) path e up among = elim (contains_cases x (path, e) es among) [
  | inl same ↦
      let tied = tied_path path x.0 (ap path_of (sym same)) in
      ap (λ b. cond b (Some x.1) (lookup es path)) tied ∙ ap (λ (y : List (List ℕ) × Entry HeldFile). Some y.1) same
  | inr more ↦
      let less = all_contained (λ y. path_cmp x.0 (path_of y) ≡ Less) es (path, e) up.0 more in
      ap (λ b. cond b (Some x.1) (lookup es path)) (apart path x.0 less) ∙ contained_found es path e up.1 more
]
  where
    is_false : (b : Bool) → (b ≡ true → ⊥) → b ≡ false
    is_false true not = absurd (not refl)
    is_false false not = refl

    apart : (a b : List (List ℕ)) → path_cmp b a ≡ Less → eq_by_cmp path_cmp a b ≡ false
    apart a b less = is_false (eq_by_cmp path_cmp a b) (λ tied. not_less_itself b (subst (λ c. path_cmp b c ≡ Less) (same_path a b tied) less))
