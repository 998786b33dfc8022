-- Names in one directory are unrelated paths.
use Rattle.std.proofs.Common.{◌≡◌, ◌≢◌, ℕ, ◌+◌, ◌<◌, ◌≤◌, Bool, true, false, cond, ◌||◌, ◌&&◌, List, [], ◌∷◌, ◌++◌, map, refl, sym, ap, ◌∙◌, subst, arith, inl, inr, zero-add}
use Rattle.std.specs.List.{AllByRecursion, count_by, filter}
use Rattle.std.specs.List.Sorted.{IsStrictlySortedBy}
use Rattle.std.specs.Ordering.{eq_by_cmp}
use Rattle.std.specs.declared.cmp.Ordering.TheVariants.{Less}
use Rattle.std.proofs.lemmas.Bool.{false≢true, false_from_ne_true, or_cases}
use Rattle.std.proofs.lemmas.List.{append_cancel_right}
use Rattle.std.proofs.lemmas.List.Sums.{sum_by-cons}
use Rattle.std.specs.Prelude.{codes}
use Rattle.ext_lines.specs.ByteOrder.{bytes_cmp}
use Rattle.ext_text.specs.Path.{are_related, path_cmp}
use Rattle.ext_text.specs.SortedPaths.{is_among}
use Rattle.ext_text.proofs.ForCallers.{all_append, names_tied, same_name, same_path}
use Rattle.ext_updated.specs.Clash.{MeetsAnother}
use Rattle.ext_updated.proofs.ForCallers.{all_among, related_back}
use Rattle.ext_units.specs.Units.{has_unit_suffix, names_of}
use Rattle.ext_units.specs.declared.unit_file.UnitFile.{UnitFile}
use Rattle.ext_added.specs.Destination.{destination, drop_in_name, image_directory}
use Rattle.ext_added.proofs.NameLemmas.{unit_apart}

-- how many paths are related to one
abbrev rank : List (List ℕ) → List (List ℕ) → ℕ
rank p q = cond (are_related p q) 1 0

count_cons : (p q : List (List ℕ)) (ps : List (List (List ℕ))) → count_by (are_related p) (q ∷ ps) ≡ rank p q + count_by (are_related p) ps
count_cons p q ps = sum_by-cons (rank p) q ps

count_none : (p : List (List ℕ)) (ps : List (List (List ℕ))) → AllByRecursion (λ r. are_related p r ≡ false) ps → count_by (are_related p) ps ≡ 0
count_none p [] none = refl
count_none p (q ∷ ps) none = count_cons p q ps ∙ (λ i. cond (none.0 i) 1 0 + count_none p ps none.1 i)

rank_one : (b : Bool) → cond b 1 0 ≤ 1
rank_one true = omega arith
rank_one false = omega arith

-- none of the paths is related to a later one
abbrev pub AreUnrelated : List (List (List ℕ)) → Type 0
AreUnrelated [] = Unit {0}
AreUnrelated (p ∷ ps) = AllByRecursion (λ r. are_related p r ≡ false) ps × AreUnrelated ps

-- then none of them meets another one
pub unrelated_apart : (ps : List (List (List ℕ))) (p : List (List ℕ)) → AreUnrelated ps → ¬ MeetsAnother ps p
unrelated_apart [] p apart met = false≢true met.among
unrelated_apart (q ∷ ps) p apart met = elim (or_cases (eq_by_cmp path_cmp p q) (is_among ps p) met.among) [
  | inl here ↦
      let same = same_path p q here in
      let none = count_none q ps apart.0 in
      let another : 1 < count_by (are_related q) (q ∷ ps) = subst (λ r. 1 < count_by (are_related r) (q ∷ ps)) same met.another in
      let one = rank_one (are_related q q) in
      omega (arith, count_cons q q ps, none, another, one)
  | inr later ↦
      let out : are_related p q ≡ false = related_back p q ∙ all_among (λ r. are_related q r ≡ false) ps p apart.0 later in
      let count : count_by (are_related p) (q ∷ ps) ≡ count_by (are_related p) ps =
      count_cons p q ps ∙ ap (λ b. cond b 1 0 + count_by (are_related p) ps) out ∙ zero-add (count_by (are_related p) ps) in
      unrelated_apart ps p apart.1 (record { among = later; another = subst (λ n. 1 < n) count met.another })
]

-- no name comes twice
abbrev pub AreDistinct : List (List ℕ) → Type 0
AreDistinct [] = Unit {0}
AreDistinct (n ∷ ns) = AllByRecursion (λ m. n ≢ m) ns × AreDistinct ns

-- paths of names in a directory, and what lies in another one
abbrev pub in_directory : List (List ℕ) → List (List ℕ) → List (List (List ℕ))
in_directory d ns = map (λ n. d ++ n ∷ []) ns

two_false : (a b : Bool) → a ≡ false → b ≡ false → ((a && true) || (b && true)) ≡ false
two_false true b x y = absurd (false≢true (sym x))
two_false false true x y = absurd (false≢true (sym y))
two_false false false x y = refl

not_tied : (n m : List ℕ) → n ≢ m → eq_by_cmp bytes_cmp n m ≡ false
not_tied n m apart = false_from_ne_true (eq_by_cmp bytes_cmp n m) (λ tied. apart (same_name n m tied))

names_unrelated : (runtime : Bool) (n m : List ℕ) → n ≢ m → are_related (destination runtime ++ n ∷ []) (destination runtime ++ m ∷ []) ≡ false
names_unrelated true n m apart = two_false _ _ (not_tied n m apart) (not_tied m n (λ same. apart (sym same)))
names_unrelated false n m apart = two_false _ _ (not_tied n m apart) (not_tied m n (λ same. apart (sym same)))

image_unrelated : (runtime : Bool) (n m : List ℕ) → are_related (destination runtime ++ n ∷ []) (image_directory runtime ++ m ∷ []) ≡ false
image_unrelated true n m = refl
image_unrelated false n m = refl

below_each : (runtime : Bool) (n : List ℕ) (ns : List (List ℕ)) → AllByRecursion (λ m. n ≢ m) ns → AllByRecursion (λ r. are_related (destination runtime ++ n ∷ []) r ≡ false) (in_directory (destination runtime) ns)
below_each runtime n [] apart = tt
below_each runtime n (m ∷ ns) apart = (names_unrelated runtime n m apart.0, below_each runtime n ns apart.1)

-- units in their directory, and images in theirs
pub names_apart : (runtime : Bool) (ns : List (List ℕ)) (images : List (List ℕ)) → AreDistinct ns → AreDistinct images
    → AllByRecursion (λ m. (n : List ℕ) → are_related (destination runtime ++ n ∷ []) (image_directory runtime ++ m ∷ []) ≡ false) images
    → AreUnrelated (in_directory (image_directory runtime) images) → AreUnrelated (in_directory (destination runtime) ns ++ in_directory (image_directory runtime) images)
names_apart runtime [] images distinct others apart unrelated = unrelated
names_apart runtime (n ∷ ns) images distinct others apart unrelated = (
  all_append (λ r. are_related (destination runtime ++ n ∷ []) r ≡ false) (in_directory (destination runtime) ns) (in_directory (image_directory runtime) images)
      (below_each runtime n ns distinct.0) (far images apart),
  names_apart runtime ns images distinct.1 others apart unrelated,
)
  where
    far : (ms : List (List ℕ)) → AllByRecursion (λ m. (n : List ℕ) → are_related (destination runtime ++ n ∷ []) (image_directory runtime ++ m ∷ []) ≡ false) ms
        → AllByRecursion (λ r. are_related (destination runtime ++ n ∷ []) r ≡ false) (in_directory (image_directory runtime) ms)
    far [] all = tt
    far (m ∷ ms) all = (all.0 n, far ms all.1)

-- one image or none
pub image_apart : (runtime : Bool) (m : List ℕ) (b : Bool) → AreUnrelated (in_directory (image_directory runtime) (cond b (m ∷ []) []))
image_apart runtime m true = (tt, tt)
image_apart runtime m false = tt

pub image_far : (runtime : Bool) (m : List ℕ) (b : Bool)
    → AllByRecursion (λ x. (n : List ℕ) → are_related (destination runtime ++ n ∷ []) (image_directory runtime ++ x ∷ []) ≡ false) (cond b (m ∷ []) [])
image_far runtime m true = ((λ n. image_unrelated runtime n m), tt)
image_far runtime m false = tt

pub one_distinct : (m : List ℕ) (b : Bool) → AreDistinct (cond b (m ∷ []) [])
one_distinct m true = (tt, tt)
one_distinct m false = tt

-- which names an attachment makes in the directory of units

-- names in strict order are distinct
less_apart : (n : List ℕ) (ns : List (List ℕ)) → AllByRecursion (λ m. bytes_cmp n m ≡ Less) ns → AllByRecursion (λ m. n ≢ m) ns
less_apart n [] less = tt
less_apart n (m ∷ ns) less = ((λ same. cc (names_tied n, subst (λ k. bytes_cmp n k ≡ Less) (sym same) less.0)), less_apart n ns less.1)

sorted_distinct : (ns : List (List ℕ)) → IsStrictlySortedBy bytes_cmp ns → AreDistinct ns
unfolding IsStrictlySortedBy
sorted_distinct [] sorted = tt
sorted_distinct (n ∷ ns) sorted = (less_apart n ns sorted.0, sorted_distinct ns sorted.1)

distinct_append : (ns ms : List (List ℕ)) → AreDistinct ns → AreDistinct ms → AllByRecursion (λ n. AllByRecursion (λ m. n ≢ m) ms) ns → AreDistinct (ns ++ ms)
distinct_append [] ms first second apart = second
distinct_append (n ∷ ns) ms first second apart =
    (all_append (λ m. n ≢ m) ns ms first.0 apart.0, distinct_append ns ms first.1 second apart.1)

abbrev drop_ins_named : List UnitFile → List (List ℕ)
drop_ins_named units = map (λ (u : UnitFile). drop_in_name u.name) units

drop_in_other : (u : UnitFile) (units : List UnitFile) → AllByRecursion (λ m. u.name ≢ m) (names_of units) → AllByRecursion (λ m. drop_in_name u.name ≢ m) (drop_ins_named units)
drop_in_other u [] apart = tt
drop_in_other u (v ∷ units) apart = ((λ same. apart.0 (append_cancel_right u.name v.name (codes ".d") same)), drop_in_other u units apart.1)

pub drop_ins_distinct : (units : List UnitFile) → AreDistinct (names_of units) → AreDistinct (drop_ins_named units)
drop_ins_distinct [] distinct = tt
drop_ins_distinct (u ∷ units) distinct = (drop_in_other u units distinct.0, drop_ins_distinct units distinct.1)

-- of some of the units
some_other : (f : UnitFile → Bool) (n : List ℕ) (units : List UnitFile) → AllByRecursion (λ m. n ≢ m) (names_of units) → AllByRecursion (λ m. n ≢ m) (names_of (filter f units))
some_other f n [] apart = tt
some_other f n (u ∷ units) apart = elim (f u) as (λ b. AllByRecursion (λ m. n ≢ m) (names_of (cond b (u ∷ filter f units) (filter f units)))) [
  | true ↦ (apart.0, some_other f n units apart.1)
  | false ↦ some_other f n units apart.1
]

some_distinct : (f : UnitFile → Bool) (units : List UnitFile) → AreDistinct (names_of units) → AreDistinct (names_of (filter f units))
some_distinct f [] distinct = tt
some_distinct f (u ∷ units) distinct = elim (f u) as (λ b. AreDistinct (names_of (cond b (u ∷ filter f units) (filter f units)))) [
  | true ↦ (some_other f u.name units distinct.0, some_distinct f units distinct.1)
  | false ↦ some_distinct f units distinct.1
]

units_other : (u : UnitFile) (units : List UnitFile) → has_unit_suffix u.name ≡ true → AllByRecursion (λ m. u.name ≢ m) (drop_ins_named units)
units_other u [] unit = tt
units_other u (v ∷ units) unit = (unit_apart u.name v.name unit, units_other u units unit)

all_other : (us vs : List UnitFile) → AllByRecursion (λ (u : UnitFile). has_unit_suffix u.name ≡ true) us → AllByRecursion (λ n. AllByRecursion (λ m. n ≢ m) (drop_ins_named vs)) (names_of us)
all_other [] vs all = tt
all_other (u ∷ us) vs all = (units_other u vs all.0, all_other us vs all.1)

-- the names of units, and of the directories of the drop-ins of some of them
pub made_distinct : (f : UnitFile → Bool) (units : List UnitFile) → IsStrictlySortedBy bytes_cmp (names_of units)
    → AllByRecursion (λ (u : UnitFile). has_unit_suffix u.name ≡ true) units → AreDistinct (names_of units ++ drop_ins_named (filter f units))
made_distinct f units sorted unit =
    let distinct = sorted_distinct (names_of units) sorted in
    distinct_append (names_of units) (drop_ins_named (filter f units)) distinct (drop_ins_distinct (filter f units) (some_distinct f units distinct)) (all_other units (filter f units) unit)
