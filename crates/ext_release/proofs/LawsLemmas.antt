-- A file has a release or a first faulty line, and one of them.
use Rattle.std.proofs.Common.{◌≡◌, ◌⊎◌, inl, inr, ℕ, zero, suc, ◌-◌, ◌<◌, Bool, true, false, cond, eqb, List, [], ◌∷◌, length, get_or, refl, sym, ap, ◌∙◌, arith}
use Rattle.std.specs.Prelude.{Option, Some, None}
use Rattle.std.specs.FinMap.{FinMap, get, get-empty, get-insert, get-remove, same_map}
use Rattle.std.specs.FinMap as map
use Rattle.std.specs.List.{AllByRecursion}
use Rattle.std.specs.Option.{option_or}
use Rattle.std.specs.Ordering.{eq_by_cmp}
use Rattle.std.specs.Str.{bytes_eq}
use Rattle.std.proofs.lemmas.Bool.{both_ways, cases_Bool, cases_lt}
use Rattle.std.proofs.lemmas.Cmp.{eq_by_cmp_equiv}
use Rattle.std.proofs.lemmas.List.Elements.{All-from_recursion}
use Rattle.std.proofs.lemmas.Map.Text.{is_eq-slice_cmp}
use Rattle.ext_lines.specs.Lines.{lines_of}
use Rattle.ext_lines.specs.ByteOrder.{bytes_cmp, bytes_exact, bytes_total}
use Rattle.ext_release.specs.Laws.{NoFaultInRelease, OneFault, OneRelease, ReleaseOrFault}
use Rattle.ext_release.specs.Line.{ReleaseLine, Faulty, Skipped, Sets, is_faulty, line_of}
use Rattle.ext_release.specs.Release.{assigned, last_assigned, leaves, some_value}

abbrev followed : FinMap bytes_cmp (List ℕ) → ReleaseLine → FinMap bytes_cmp (List ℕ)
followed m Faulty = m
followed m Skipped = m
followed m (Sets key value) = cond (eqb (length value) 0) (map.remove m key) (map.insert m key value)

abbrev all_followed : FinMap bytes_cmp (List ℕ) → List (List ℕ) → FinMap bytes_cmp (List ℕ)
all_followed m [] = m
all_followed m (l ∷ ls) = all_followed (followed m (line_of l)) ls

same_key : (q key : List ℕ) → eq_by_cmp bytes_cmp q key ≡ bytes_eq key q
same_key q key = (eq_by_cmp_equiv bytes_total).symm q key ∙ is_eq-slice_cmp key q

unset : (here : Bool) (value : List ℕ) (old : Option (List ℕ)) → eqb (length value) 0 ≡ true → cond here None old ≡ leaves (cond here (Some value) None) old
unset true value old empty = sym (ap (λ t. cond t None (Some value)) empty)
unset false value old empty = refl

put : (here : Bool) (value : List ℕ) (old : Option (List ℕ)) → eqb (length value) 0 ≡ false → cond here (Some value) old ≡ leaves (cond here (Some value) None) old
put true value old some = sym (ap (λ t. cond t None (Some value)) some)
put false value old some = refl

get-followed : (m : FinMap bytes_cmp (List ℕ)) (line : ReleaseLine) (q : List ℕ) → get (followed m line) q ≡ leaves (assigned line q) (get m q)
get-followed m Faulty q = refl
get-followed m Skipped q = refl
get-followed m (Sets key value) q =
    elim (cases_Bool (eqb (length value) 0)) [
      | inl empty ↦ ap (λ t. get (cond t (map.remove m key) (map.insert m key value)) q) empty ∙ get-remove bytes_total m key q
          ∙ ap (λ t. cond t None (get m q)) (same_key q key) ∙ unset (bytes_eq key q) value (get m q) empty
      | inr some ↦ ap (λ t. get (cond t (map.remove m key) (map.insert m key value)) q) some ∙ get-insert bytes_total m key value q
          ∙ ap (λ t. cond t (Some value) (get m q)) (same_key q key) ∙ put (bytes_eq key q) value (get m q) some
    ]

twice : (late early old : Option (List ℕ)) → leaves late (leaves early old) ≡ leaves (option_or late early) old
twice None early old = refl
twice (Some value) early old = refl

get-all_followed : (ls : List (List ℕ)) (m : FinMap bytes_cmp (List ℕ)) (q : List ℕ) → get (all_followed m ls) q ≡ leaves (last_assigned ls q) (get m q)
get-all_followed [] m q = refl
get-all_followed (l ∷ ls) m q =
    get-all_followed ls (followed m (line_of l)) q ∙ ap (leaves (last_assigned ls q)) (get-followed m (line_of l) q)
    ∙ twice (last_assigned ls q) (assigned (line_of l) q) (get m q)

from_nothing : (o : Option (List ℕ)) → leaves o None ≡ some_value o
from_nothing None = refl
from_nothing (Some value) = refl

abbrev Sound : List ℕ → Type 0
Sound l = is_faulty (line_of l) ≡ false

-- so many lines are sound, and the next is faulty
record FaultAfter (ls : List (List ℕ)) (k : ℕ) : Type 0 where
  within : k < length ls
  faulty : is_faulty (line_of (get_or ls k [])) ≡ true
  before : (j : ℕ) → j < k → Sound (get_or ls j [])

sooner : (l : List ℕ) (ls : List (List ℕ)) (k : ℕ) → Sound l → FaultAfter ls k → (j : ℕ) → j < suc k → Sound (get_or (l ∷ ls) j [])
sooner l ls k sound is zero lt = sound
sooner l ls k sound is (suc j) lt = is.before j (omega arith)

sound_or_faulty : (ls : List (List ℕ)) → AllByRecursion Sound ls ⊎ ((k : ℕ) × FaultAfter ls k)
sound_or_faulty [] = inl tt
sound_or_faulty (l ∷ ls) =
    elim (cases_Bool (is_faulty (line_of l))) [
      | inl faulty ↦ inr (0, record { within = omega arith; faulty = faulty; before = λ j lt. absurd (omega arith) })
      | inr sound ↦ elim (sound_or_faulty ls) [
        | inl all ↦ inl (sound, all)
        | inr fault ↦ let is = fault.1 in inr (suc fault.0, record { within = omega (arith, is.within); faulty = is.faulty; before = sooner l ls fault.0 sound is })
      ]
    ]

pub release_or_fault : ReleaseOrFault
release_or_fault bytes =
    elim (sound_or_faulty (lines_of bytes)) [
      | inl sound ↦ inl (
        all_followed map.empty (lines_of bytes),
        record {
          sound = sound;
          values = λ key. get-all_followed (lines_of bytes) map.empty key ∙ ap (leaves (last_assigned (lines_of bytes) key)) (get-empty bytes_cmp key) ∙ from_nothing (last_assigned (lines_of bytes) key);
        },
      )
      | inr fault ↦
          let is = fault.1 in
          let at : suc fault.0 - 1 ≡ fault.0 = omega arith in
          inr (
            suc fault.0,
            record {
              counted = omega arith;
              within = omega (arith, is.within);
              faulty = rw at is.faulty;
              first = λ k lt. is.before k (omega arith);
            },
          )
    ]

pub no_fault_in_release : NoFaultInRelease
no_fault_in_release bytes release line is fault =
    let within = fault.within in
    let counted = fault.counted in
    both_ways _ (All-from_recursion Sound (lines_of bytes) is.sound (line - 1) [] (omega arith)) fault.faulty

pub one_fault : OneFault
one_fault bytes a b first second =
    let one = first.counted in
    let two = second.counted in
    elim (cases_lt (a - 1) (b - 1)) [
      | inl lt ↦ absurd (both_ways _ (second.first (a - 1) lt) first.faulty)
      | inr le ↦ elim (cases_lt (b - 1) (a - 1)) [
        | inl lt ↦ absurd (both_ways _ (first.first (b - 1) lt) second.faulty)
        | inr ge ↦ omega arith
      ]
    ]

pub one_release : OneRelease
one_release bytes a b first second = same_map bytes_total bytes_exact a b (λ key. first.values key ∙ sym (second.values key))
