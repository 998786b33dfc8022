-- What passes a test among the elements of a list, one after the other.
use Rattle.std.proofs.Common.{◌≡◌, ℕ, ◌+◌, ◌<◌, ◌≤◌, Bool, true, false, cond, List, [], ◌∷◌, ◌++◌, drop, length, map, get_or, refl, sym, ap, ◌∙◌, subst}
use Rattle.std.specs.Prelude.{◌↔◌}
use Rattle.std.specs.List.{AllByRecursion, filter}
use Rattle.std.proofs.lemmas.List.{append_assoc, append-nil, drop_all, drop_more}
use Rattle.ext_tree.specs.Grafting.{IsLongPath}
use Rattle.ext_tree.specs.declared.tree.TreeErr.{TreeErr}
use Rattle.ext_tree.specs.declared.tree.TreeErr.TheVariants as errors

-- what passes begins with the first element, where that passes
map_first : {X Y : Type 0} (t : X → Bool) (f : X → Y) (x : X) (xs : List X) → map f (filter t (x ∷ xs)) ≡ map f (filter t (x ∷ [])) ++ map f (filter t xs)
map_first t f x xs = elim (t x) as (λ b. map f (cond b (x ∷ filter t xs) (filter t xs)) ≡ map f (cond b (x ∷ []) []) ++ map f (filter t xs)) [ true ↦ refl | false ↦ refl ]

all_first : {X : Type 0} (t : X → Bool) (P : X → Type 0) (x : X) (xs : List X) → AllByRecursion P (filter t (x ∷ xs)) → AllByRecursion P (filter t (x ∷ [])) × AllByRecursion P (filter t xs)
all_first t P x xs = elim (t x) as (λ b. AllByRecursion P (cond b (x ∷ filter t xs) (filter t xs)) → AllByRecursion P (cond b (x ∷ []) []) × AllByRecursion P (filter t xs)) [
  | true ↦ λ all. ((all.0, tt), all.1)
  | false ↦ λ all. (tt, all)
]

all_joined : {X : Type 0} (t : X → Bool) (P : X → Type 0) (x : X) (xs : List X) → AllByRecursion P (filter t (x ∷ [])) → AllByRecursion P (filter t xs) → AllByRecursion P (filter t (x ∷ xs))
all_joined t P x xs = elim (t x) as (λ b. AllByRecursion P (cond b (x ∷ []) []) → AllByRecursion P (filter t xs) → AllByRecursion P (cond b (x ∷ filter t xs) (filter t xs))) [
  | true ↦ λ one rest. (one.0, rest)
  | false ↦ λ one rest. rest
]

-- the elements from an index on, by the one that is there
pub parted : {X : Type 0} (xs : List X) (i : ℕ) (x : X) → i < length xs → x ≡ get_or xs i x → drop i xs ≡ x ∷ drop (i + 1) xs
parted xs i x within is = drop_more xs i x within ∙ ap (λ y. y ∷ drop (i + 1) xs) (sym is)

module _ {X Y : Type 0} (t : X → Bool) (f : X → Y) (whole : List X) (i : ℕ) where
  -- those so far and those of the rest are all, also after one more
  pub next_appended : (x : X) (done more all : List Y) → drop i whole ≡ x ∷ drop (i + 1) whole → done ++ map f (filter t (drop i whole)) ≡ all → more ≡ done ++ map f (filter t (x ∷ []))
      → more ++ map f (filter t (drop (i + 1) whole)) ≡ all
  next_appended x done more all parts so_far is =
      ap (λ zs. zs ++ map f (filter t (drop (i + 1) whole))) is
      ∙ append_assoc done (map f (filter t (x ∷ []))) (map f (filter t (drop (i + 1) whole)))
      ∙ ap (λ zs. done ++ zs) (sym (map_first t f x (drop (i + 1) whole)))
      ∙ ap (λ xs. done ++ map f (filter t xs)) (sym parts)
      ∙ so_far

  -- after the last one they are all
  pub all_appended : (done all : List Y) → length whole ≤ i → done ++ map f (filter t (drop i whole)) ≡ all → done ≡ all
  all_appended done all past so_far = sym (append-nil done) ∙ ap (λ xs. done ++ map f (filter t xs)) (sym (drop_all i whole past)) ∙ so_far

module _ {X : Type 0} (t : X → Bool) (P : X → Type 0) (whole : List X) (i : ℕ) where
  -- what holds of those of the rest, and of all, exactly where of the other
  abbrev pub AreAlike : Type 0
  AreAlike = AllByRecursion P (filter t (drop i whole)) ↔ AllByRecursion P (filter t whole)

  pub next_alike : (x : X) → drop i whole ≡ x ∷ drop (i + 1) whole → AllByRecursion P (filter t (x ∷ [])) → AreAlike → AllByRecursion P (filter t (drop (i + 1) whole)) ↔ AllByRecursion P (filter t whole)
  next_alike x parts one alike = (
    λ rest. alike.0 (subst (λ xs. AllByRecursion P (filter t xs)) (sym parts) (all_joined t P x (drop (i + 1) whole) one rest)),
    λ all. (all_first t P x (drop (i + 1) whole) (subst (λ xs. AllByRecursion P (filter t xs)) parts (alike.1 all))).1,
  )

  pub all_alike : length whole ≤ i → AreAlike → AllByRecursion P (filter t whole)
  all_alike past alike = alike.0 (subst (λ xs. AllByRecursion P (filter t xs)) (sym (drop_all i whole past)) tt)

  -- where one is too long not all fit
  pub one_long : (x : X) (e : TreeErr) → drop i whole ≡ x ∷ drop (i + 1) whole → AreAlike → IsLongPath (¬ AllByRecursion P (filter t (x ∷ []))) e → IsLongPath (¬ AllByRecursion P (filter t whole)) e
  one_long x errors.OutOfMemory parts alike long = tt
  one_long x errors.Exists parts alike long = long
  one_long x errors.NotDirectory parts alike long = long
  one_long x errors.Path parts alike long = λ all. long (all_first t P x (drop (i + 1) whole) (subst (λ xs. AllByRecursion P (filter t xs)) parts (alike.1 all))).0
  one_long x errors.Limit parts alike long = long
