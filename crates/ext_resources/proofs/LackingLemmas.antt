-- Which transfers have an instance of a version, and which lack one.
use Rattle.std.proofs.Common.{◌≡◌, ◌≢◌, inl, inr, ℕ, zero, suc, ◌+◌, ◌<◌, Bool, true, false, cond, not, ◌||◌, ◌==◌, List, [], ◌∷◌, ◌++◌, length, map, take, get_or, set, replicate, refl, sym, ap, subst, ◌∙◌, arith}
use Rattle.std.specs.List.{All, Contains, filter, range_with_len}
use Rattle.std.specs.List.Sorted.{IsStrictlyIncreasing}
use Rattle.std.specs.Str.{bytes_eq}
use Rattle.std.proofs.lemmas.Bool.{and_from, and_left, and_right, eq-eqb, eqb-true, false≢true, or_right}
use Rattle.std.proofs.lemmas.Grind.{get_or-set_at}
use Rattle.std.proofs.lemmas.List.{get_or-set_other, length-set, map-id}
use Rattle.std.proofs.lemmas.List.Elements.{All-contains, All-filter, Contains-append_right, filter-append, filter_passes}
use Rattle.std.proofs.lemmas.List.Folds.{list_any_more}
use Rattle.std.proofs.lemmas.List.Kept.{IsStrictlyIncreasing-filter}
use Rattle.std.proofs.lemmas.List.FromFn.{fill_by_all, get_or-map-range_with_len, get_or-range_with_len, length-map-range_with_len, length-range_with_len, map-range_with_len_more}
use Rattle.ext_installed.specs.declared.instance.Instance.{Instance}
use Rattle.ext_installed.proofs.ForCallers.{contains_cases, none_contained}
use Rattle.ext_resources.specs.Steps.{marked, with_unmarked}
use Rattle.ext_resources.specs.Wanted.{has_instance, is_instance, lacking_places}

-- of each of so many transfers, whether it has an instance
abbrev pub marks : List Instance → List ℕ → ℕ → List Bool
marks items version count = map (has_instance items version) (range_with_len 0 count)

no_marks_from : (version : List ℕ) (from count : ℕ) → replicate count false ≡ map (has_instance [] version) (range_with_len from count)
no_marks_from version from zero = refl
no_marks_from version from (suc count) = ap (λ bs. false ∷ bs) (no_marks_from version (from + 1) count)

-- of no instances there are no marks
pub no_marks : (version : List ℕ) (count : ℕ) → replicate count false ≡ marks [] version count
no_marks version count = no_marks_from version 0 count

or_false : (b : Bool) → (b || false) ≡ b
or_false true = refl
or_false false = refl

module _ (version : List ℕ) (items : List Instance) (i count : ℕ) (item : Instance) (within : i < length items) (at : item ≡ get_or items i item) where
  one_more : (place : ℕ) → has_instance (take (i + 1) items) version place ≡ (has_instance (take i items) version place || is_instance version place item)
  one_more place =
      list_any_more (is_instance version place) items i item within
      ∙ ap (λ (x : Instance). has_instance (take i items) version place || is_instance version place x) (sym at)

  none_more : (place : ℕ) → is_instance version place item ≡ false → has_instance (take i items) version place ≡ has_instance (take (i + 1) items) version place
  none_more place other =
      sym (one_more place ∙ ap (λ b. has_instance (take i items) version place || b) other ∙ or_false (has_instance (take i items) version place))

  -- an instance of another version marks nothing
  marked_other : (have : List Bool) → bytes_eq item.version version ≡ false → have ≡ marks (take i items) version count → have ≡ marks (take (i + 1) items) version count
  marked_other have other is =
      let same = λ (place : ℕ). none_more place (and_right (item.transfer == place) (bytes_eq item.version version) other) in
      is ∙ (λ j. map (λ place. same place j) (range_with_len 0 count))

  -- an instance of the version marks its transfer
  marked_same : (have : List Bool) → bytes_eq item.version version ≡ true → have ≡ marks (take i items) version count → set have item.transfer true ≡ marks (take (i + 1) items) version count
  marked_same have same is =
      fill_by_all (has_instance (take (i + 1) items) version) (set have item.transfer true) count false
      (length-set have item.transfer true ∙ counted) each
    where
      counted : length have ≡ count
      counted = ap length is ∙ length-map-range_with_len (has_instance (take i items) version) 0 count

      before : (place : ℕ) → place < count → get_or have place false ≡ has_instance (take i items) version place
      before place low =
          ap (λ bs. get_or bs place false) is
          ∙ get_or-map-range_with_len (has_instance (take i items) version) 0 count place place false low (omega arith)

      each : (place : ℕ) → place < count → get_or (set have item.transfer true) place false ≡ has_instance (take (i + 1) items) version place
      each place low = elim (item.transfer == place) as (λ b. (item.transfer == place) ≡ b → get_or (set have item.transfer true) place false ≡ has_instance (take (i + 1) items) version place) [
        | true ↦ λ here.
            let equal : item.transfer ≡ place = eqb-true item.transfer place here in
            get_or-set_at have item.transfer place true false (sym equal) (omega (arith, counted, equal, low))
            ∙ sym (one_more place ∙ or_right (has_instance (take i items) version place) (is_instance version place item) (and_from (item.transfer == place) (bytes_eq item.version version) here same))
        | false ↦ λ there.
            let apart : place ≢ item.transfer = λ equal. absurd (cc (sym there ∙ eq-eqb item.transfer place (sym equal))) in
            get_or-set_other have item.transfer place true false apart
            ∙ before place low ∙ none_more place (and_left (item.transfer == place) (bytes_eq item.version version) there)
      ] refl

  -- the marks of one instance more
  pub marked_more : (have : List Bool) → have ≡ marks (take i items) version count → marked version have item ≡ marks (take (i + 1) items) version count
  marked_more have is = elim (bytes_eq item.version version) as (λ b. bytes_eq item.version version ≡ b → cond b (set have item.transfer true) have ≡ marks (take (i + 1) items) version count) [
    | true ↦ λ same. marked_same have same is
    | false ↦ λ other. marked_other have other is
  ] refl

range_more : (place : ℕ) → range_with_len 0 (place + 1) ≡ range_with_len 0 place ++ place ∷ []
range_more place =
    sym (map-id (range_with_len 0 (place + 1))) ∙ map-range_with_len_more (λ (n : ℕ). n) 0 place place (omega arith)
    ∙ ap (λ (ns : List ℕ). ns ++ place ∷ []) (map-id (range_with_len 0 place))

unmarked : (b : Bool) (place : ℕ) → cond (not b) (place ∷ []) [] ≡ cond b [] (place ∷ [])
unmarked true place = refl
unmarked false place = refl

-- one transfer more lacks the version or not
pub lacking_more : (items : List Instance) (version : List ℕ) (place : ℕ) → lacking_places items version (place + 1) ≡ with_unmarked (lacking_places items version place) place (has_instance items version place)
lacking_more items version place =
    let test : ℕ → Bool = λ n. not (has_instance items version n) in
    ap (filter test) (range_more place) ∙ filter-append test (range_with_len 0 place) (place ∷ [])
    ∙ ap (λ (ns : List ℕ). lacking_places items version place ++ ns) (unmarked (has_instance items version place) place)

-- the mark at a place tells whether it lacks the version, and so the places so far
pub next_lacking : (items : List Instance) (version : List ℕ) (count place : ℕ) (have : List Bool) (mark : Bool) (places next : List ℕ)
    → have ≡ marks items version count → place < count → mark ≡ get_or have place mark → places ≡ lacking_places items version place
    → next ≡ with_unmarked places place mark → next ≡ lacking_places items version (place + 1)
next_lacking items version count place have mark places next is low at so_far added =
    let has : mark ≡ has_instance items version place =
    at ∙ ap (λ (bs : List Bool). get_or bs place mark) is ∙ get_or-map-range_with_len (has_instance items version) 0 count place place mark low (omega arith) in
    added ∙ ap (λ (ns : List ℕ). with_unmarked ns place mark) so_far ∙ ap (with_unmarked (lacking_places items version place) place) has
    ∙ sym (lacking_more items version place)

range_below : (count : ℕ) → All (λ n. n < count) (range_with_len 0 count)
range_below count k d low =
    let within : k < count = omega (arith, low, length-range_with_len 0 count) in
    omega (arith, within, get_or-range_with_len 0 count k d within)

-- each place is one of the transfers
pub lacking_below : (items : List Instance) (version : List ℕ) (count : ℕ) (places : List ℕ) (k : ℕ) → places ≡ lacking_places items version count → k < length places
    → get_or places k 0 < count
lacking_below items version count places k is within =
    let all = All-filter (λ place. not (has_instance items version place)) (λ n. n < count) (range_with_len 0 count) (range_below count) in
    let P : List ℕ → Type 0 = λ ns. get_or ns k 0 < count in
    subst P (sym is) (all k 0 (omega (arith, within, ap length is)))

-- how many marks there are
pub length-marks : (items : List Instance) (version : List ℕ) (count : ℕ) → length (marks items version count) ≡ count
length-marks items version count = length-map-range_with_len (has_instance items version) 0 count

-- what a filter keeps of a list is there and passes, and what is there and passes is kept
filter_has : (test : ℕ → Bool) (ns : List ℕ) (n : ℕ) → Contains ns n → test n ≡ true → Contains (filter test ns) n
filter_has test [] n at pass = absurd (none_contained n at)
filter_has test (m ∷ ns) n at pass =
    elim (test m) as (λ b. test m ≡ b → Contains (cond b (m ∷ filter test ns) (filter test ns)) n) [
      | true ↦ λ _. elim (contains_cases m n ns at) [
        | inl same ↦ subst (Contains (m ∷ filter test ns)) same (0, omega arith, refl)
        | inr later ↦ Contains-append_right (m ∷ []) (filter test ns) n (filter_has test ns n later pass)
      ]
      | false ↦ λ fails. elim (contains_cases m n ns at) [
        | inl same ↦ absurd (false≢true (sym fails ∙ ap test same ∙ pass))
        | inr later ↦ filter_has test ns n later pass
      ]
    ] refl

range_has : (count place : ℕ) → place < count → Contains (range_with_len 0 count) place
range_has count place low = (place, omega (arith, low, length-range_with_len 0 count), get_or-range_with_len 0 count place place low ∙ omega arith)

-- a transfer without an instance lacks the version
pub lacks : (items : List Instance) (version : List ℕ) (count place : ℕ) → place < count → has_instance items version place ≡ false
    → Contains (lacking_places items version count) place
lacks items version count place low none =
    filter_has (λ n. not (has_instance items version n)) (range_with_len 0 count) place (range_has count place low) (ap not none)

-- and one with an instance doesn't
pub lacks_not : (items : List Instance) (version : List ℕ) (count place : ℕ) → has_instance items version place ≡ true
    → ¬ Contains (lacking_places items version count) place
lacks_not items version count place has at =
    let test : ℕ → Bool = λ n. not (has_instance items version n) in
    let passes = All-contains (λ n. test n ≡ true) (lacking_places items version count) place (filter_passes test (range_with_len 0 count)) at in
    false≢true (sym (ap not has) ∙ passes)

-- the places ascend
pub lacking_ascends : (items : List Instance) (version : List ℕ) (count : ℕ) → IsStrictlyIncreasing (lacking_places items version count)
lacking_ascends items version count =
    IsStrictlyIncreasing-filter (λ n. not (has_instance items version n)) (range_with_len 0 count)
    (λ k low.
    let next : k + 1 < count = omega (arith, low, length-range_with_len 0 count) in
    let this : k < count = omega arith in
    omega (arith, get_or-range_with_len 0 count k 0 this, get_or-range_with_len 0 count (k + 1) 0 next))
