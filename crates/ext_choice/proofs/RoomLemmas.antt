-- Which versions go: what is protected and what is coming stays, and the oldest go first.
use Rattle.std.proofs.Common.{◌≡◌, ℕ, zero, suc, ◌+◌, ◌-◌, ◌<◌, ◌≤◌, Bool, true, false, not, ◌&&◌, List, [], ◌∷◌, length, take, Option, refl, sym, ap, ◌∙◌, subst, arith, length-take-le}
use Rattle.std.specs.Prelude.{Err}
use mathlib.Core.Logic.{inl, inr}
use Rattle.std.specs.Cmp.{tied_itself}
use Rattle.std.specs.List.{filter}
use Rattle.std.specs.List.Sorted.{IsStrictlySortedBy}
use Rattle.std.specs.Ordering.{is_lt}
use Rattle.std.specs.Str.{bytes_eq}
use Rattle.std.specs.declared.cmp.Ordering.TheVariants.{Less}
use Rattle.std.proofs.lemmas.Bool.{and_from, and_parts, false≢true, false_from_ne_true, or_cases, or_left, or_right}
use Rattle.std.proofs.lemmas.List.Elements.{filter_agree}
use Rattle.std.proofs.lemmas.List.Filters.{length-filter_both}
use Rattle.std.proofs.lemmas.List.Kept.{IsStrictlySortedBy-filter}
use Rattle.std.proofs.lemmas.Map.Views.{any-filter_same}
use Rattle.ext_vers.specs.Order.{orders_total}
use Rattle.ext_vers.specs.Version.{order_of}
use Rattle.ext_transfer.specs.declared.transfer.Transfer.{Transfer}
use Rattle.ext_versions.specs.Versions.{AreVersions, has_version}
use Rattle.ext_versions.proofs.ForCallers.{among_above, one_list, same_version}
use Rattle.ext_installed.specs.declared.instance.Instance.{Instance}
use Rattle.ext_choice.specs.declared.room_err.RoomErr.{RoomErr}
use Rattle.ext_choice.specs.declared.room_err.RoomErr.TheVariants.{OutOfMemory, NoRoom}
use Rattle.ext_choice.specs.Steps.{IsNoRoom}
use Rattle.ext_choice.specs.Room.{HasRoom, LacksRoom, MakesRoom, free_of, is_coming, most_beside, protected_of, versions_beside}

-- a version is among those that pass a test where it passes it and is one of all
pub among_passing : (test : List ℕ → Bool) (ws : List (List ℕ)) (v : List ℕ) → has_version (filter test ws) v ≡ test v && has_version ws v
among_passing test ws v = any-filter_same (bytes_eq v) test (test v) (λ w e. ap test (sym (same_version v w e))) ws

-- what is among the first versions is one of all
among_first : (count : ℕ) (ws : List (List ℕ)) (v : List ℕ) → has_version (take count ws) v ≡ true → has_version ws v ≡ true
among_first zero ws v has = absurd (false≢true has)
among_first (suc count) [] v has = absurd (false≢true has)
among_first (suc count) (w ∷ ws) v has = elim (or_cases (bytes_eq v w) (has_version (take count ws) v) has) [
  | inl here ↦ or_left (bytes_eq v w) (has_version ws v) here
  | inr later ↦ or_right (bytes_eq v w) (has_version ws v) (among_first count ws v later)
]

not_less_than_itself : (v : List ℕ) → order_of v v ≡ Less → ⊥
not_less_than_itself v less = absurd (false≢true (sym (ap is_lt (tied_itself orders_total v)) ∙ ap is_lt less))

-- of ascending versions what comes before one of the first is one of the first
older_first : (count : ℕ) (ws : List (List ℕ)) (older v : List ℕ) → IsStrictlySortedBy order_of ws → has_version (take count ws) v ≡ true
    → order_of older v ≡ Less → has_version ws older ≡ true → has_version (take count ws) older ≡ true
unfolding IsStrictlySortedBy
older_first zero ws older v sorted has less one = absurd (false≢true has)
older_first (suc count) [] older v sorted has less one = absurd (false≢true has)
older_first (suc count) (w ∷ ws) older v sorted has less one = elim (or_cases (bytes_eq older w) (has_version ws older) one) [
  | inl here ↦ or_left (bytes_eq older w) (has_version (take count ws) older) here
  | inr later ↦ elim (or_cases (bytes_eq v w) (has_version (take count ws) v) has) [
    | inl first ↦ absurd
        (not_less_than_itself w
        (orders_total.trans w older w (among_above w ws older sorted.0 later)
        (subst (λ (x : List ℕ). order_of older x ≡ Less) (same_version v w first) less)))
    | inr after ↦ or_right (bytes_eq older w) (has_version (take count ws) older) (older_first count ws older v sorted.1 after less later)
  ]
]

module _ (transfer : Transfer) (coming : Option (List ℕ)) (items : List Instance) where
  -- the versions that are looked at are one list
  one_of_all : (a b : List (List ℕ)) → AreVersions (versions_beside coming items) a → AreVersions (versions_beside coming items) b → a ≡ b
  one_of_all a b first second = one_list a b first.order second.order (λ v. first.same v ∙ sym (second.same v))

  -- protected versions and the others are all
  pub both_counted : (versions : List (List ℕ))
      → length (protected_of transfer versions) + length (free_of transfer versions) ≡ length versions
  both_counted versions = length-filter_both (has_version transfer.protect) (λ v. not (has_version transfer.protect v)) (λ _. refl) versions

  -- what is free by an equal list of protected versions is free
  pub free_same : (protect versions : List (List ℕ)) → AreVersions transfer.protect protect
      → filter (λ v. not (has_version protect v)) versions ≡ free_of transfer versions
  free_same protect versions same =
      filter_agree (λ v. not (has_version protect v)) (λ v. not (has_version transfer.protect v)) (λ v. ap not (same.same v)) versions

  -- what goes is free
  gone_free : (gone : List (List ℕ)) (room : HasRoom transfer coming items gone) (v : List ℕ) → has_version gone v ≡ true
      → has_version (free_of transfer room.versions) v ≡ true
  gone_free gone room v has =
      among_first (length room.versions - most_beside transfer coming) (free_of transfer room.versions) v
      (subst (λ (ws : List (List ℕ)). has_version ws v ≡ true) room.oldest has)

  -- so it isn't protected, and it is one of all
  gone_parts : (gone : List (List ℕ)) (room : HasRoom transfer coming items gone) (v : List ℕ) → has_version gone v ≡ true
      → (not (has_version transfer.protect v) ≡ true) × (has_version room.versions v ≡ true)
  gone_parts gone room v has =
      and_parts _ _ (sym (among_passing (λ w. not (has_version transfer.protect w)) room.versions v) ∙ gone_free gone room v has)

  -- a protected version stays
  pub protected_stays : (gone : List (List ℕ)) (v : List ℕ) → HasRoom transfer coming items gone → has_version transfer.protect v ≡ true
      → has_version gone v ≡ false
  protected_stays gone v room protected =
      false_from_ne_true _ (λ has. false≢true (ap not (sym protected) ∙ (gone_parts gone room v has).0))

  -- what goes had an instance, and it is not the coming version
  pub gone_beside : (gone : List (List ℕ)) (v : List ℕ) → HasRoom transfer coming items gone → has_version gone v ≡ true
      → has_version (versions_beside coming items) v ≡ true
  gone_beside gone v room has = sym (room.all.same v) ∙ (gone_parts gone room v has).1

  -- the coming version stays
  pub coming_stays : (gone : List (List ℕ)) (v : List ℕ) → HasRoom transfer coming items gone → is_coming coming v ≡ true
      → has_version gone v ≡ false
  coming_stays gone v room coming_one =
      false_from_ne_true _
      (λ has.
      let beside = sym (among_passing (λ w. not (is_coming coming w)) _ v) ∙ gone_beside gone v room has in
      false≢true (ap not (sym coming_one) ∙ (and_parts _ _ beside).0))

  -- the oldest go first
  pub oldest_first : (gone : List (List ℕ)) (older v : List ℕ) → HasRoom transfer coming items gone → has_version gone v ≡ true
      → order_of older v ≡ Less → has_version (versions_beside coming items) older ≡ true → has_version transfer.protect older ≡ false
      → has_version gone older ≡ true
  oldest_first gone older v room has less beside free =
      let sorted = IsStrictlySortedBy-filter order_of (λ w. not (has_version transfer.protect w)) room.versions room.all.order in
      let one = among_passing (λ w. not (has_version transfer.protect w)) room.versions older ∙ and_from _ _ (ap not free)
      (room.all.same older ∙ beside) in
      subst (λ (ws : List (List ℕ)). has_version ws older ≡ true) (sym room.oldest)
      (older_first (length room.versions - most_beside transfer coming) (free_of transfer room.versions) older v sorted
      (subst (λ (ws : List (List ℕ)). has_version ws v ≡ true) room.oldest has) less one)

  -- as many go as are too many
  pub no_more : (gone : List (List ℕ)) (room : HasRoom transfer coming items gone)
      → length gone ≡ length room.versions - most_beside transfer coming
  no_more gone room =
      ap length room.oldest
      ∙ length-take-le (length room.versions - most_beside transfer coming) (free_of transfer room.versions)
      (omega (arith, both_counted room.versions, room.room))

  -- there is one list of what goes
  pub one_room : (a b : List (List ℕ)) → HasRoom transfer coming items a → HasRoom transfer coming items b → a ≡ b
  one_room a b first second =
      first.oldest
      ∙ ap (λ (ws : List (List ℕ)). take (length ws - most_beside transfer coming) (free_of transfer ws))
      (one_of_all first.versions second.versions first.all second.all)
      ∙ sym second.oldest

  -- where there is room, none is lacking
  pub no_lack : (gone : List (List ℕ)) (count : ℕ) → HasRoom transfer coming items gone → LacksRoom transfer coming items count → ⊥
  no_lack gone count first second =
      let same = ap (λ (ws : List (List ℕ)). length (protected_of transfer ws))
      (one_of_all first.versions second.versions first.all second.all) in
      absurd (omega (arith, same, first.room, second.counted, second.full))

  -- and a lack is counted once
  pub one_lack : (a b : ℕ) → LacksRoom transfer coming items a → LacksRoom transfer coming items b → a ≡ b
  one_lack a b first second =
      first.counted
      ∙ ap (λ (ws : List (List ℕ)). length (protected_of transfer ws)) (one_of_all first.versions second.versions first.all second.all)
      ∙ sym second.counted

  -- the free versions are no more than all
  pub free_within : (protect versions free : List (List ℕ)) → AreVersions transfer.protect protect
      → free ≡ filter (λ v. not (has_version protect v)) versions → length free ≤ length versions
  free_within protect versions free same free_is =
      omega (arith, ap length free_is, ap length (free_same protect versions same), both_counted versions)

  module _ (protect versions free : List (List ℕ)) (count freed most : ℕ) (same : AreVersions transfer.protect protect)
      (all : AreVersions (versions_beside coming items) versions)
      (free_is : free ≡ filter (λ v. not (has_version protect v)) versions) (count_is : count ≡ length versions)
      (freed_is : freed ≡ length free) (most_is : most ≡ most_beside transfer coming) where
    counted : count - freed ≡ length (protected_of transfer versions)
    counted = omega (arith, count_is, freed_is, ap length free_is, ap length (free_same protect versions same), both_counted versions)

    -- there is room
    pub has_room : (too_many : ℕ) (gone : List (List ℕ)) → count - freed ≤ most → too_many ≡ count - most → gone ≡ take too_many free
        → HasRoom transfer coming items gone
    has_room too_many gone within too_is gone_is = record {
      versions = versions;
      all = all;
      room = omega (arith, counted, within, most_is);
      oldest =
          gone_is
          ∙ ap (λ n. take n free) (too_is ∙ ap (λ n. n - most) count_is ∙ ap (λ n. length versions - n) most_is)
          ∙ ap (take (length versions - most_beside transfer coming)) (free_is ∙ free_same protect versions same);
    }

    -- there is none
    pub lacks_room : (e : RoomErr) → most < count - freed → IsNoRoom transfer.file (count - freed) e
        → MakesRoom transfer coming items (Err e)
    lacks_room OutOfMemory full told = tt
    lacks_room (NoRoom file protected) full told = (
      told.0,
      record {
        versions = versions;
        all = all;
        counted = told.1 ∙ counted;
        full = omega (arith, most_is, full, told.1);
      },
    )
