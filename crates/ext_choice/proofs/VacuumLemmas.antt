-- Going through transfers: what goes of those that were looked at.
use Rattle.std.proofs.Common.{◌≡◌, ℕ, zero, suc, ◌+◌, ◌<◌, ◌≤◌, Bool, true, false, cond, not, ◌==◌, List, [], ◌∷◌, ◌++◌, length, map, get_or, take, drop, Some, refl, sym, ap, ◌∙◌, subst, arith}
use Rattle.std.specs.Prelude.{◌↔◌, nat_le, slice_get, Option, Err}
use mathlib.Core.Logic.{inl, inr}
use Rattle.std.specs.List.{AllByRecursion, Contains, filter, list_any}
use Rattle.std.specs.List.Sorted.{IsPartitionedBy, IsPartitionPoint, IsStrictlySortedBy}
use Rattle.std.specs.Cmp.{nat_cmp_is}
use Rattle.std.specs.Ordering.{eq_by_cmp, nat_cmp, ordering_then}
use Rattle.std.specs.declared.cmp.Ordering.{Ordering}
use Rattle.std.specs.declared.cmp.Ordering.TheVariants.{Less, Greater}
use Rattle.std.proofs.lemmas.Bool.{and_from, cases_lt, eqb-true, eq-eqb, leb-false, leb-true, le-leb, false≢true, false_from_ne_true}
use Rattle.std.proofs.lemmas.List.Elements.{Contains-append_cases, Contains-append_left, Contains-append_right}
use Rattle.std.proofs.lemmas.List.Folds.{Any-from_list_any, list_any-from_Any}
use Rattle.std.proofs.lemmas.Option.{same_Some, slice_get_within}
use Rattle.ext_text.specs.Order.{paths_total}
use Rattle.ext_text.specs.Path.{path_cmp}
use Rattle.ext_text.proofs.ForCallers.{same_path, tied_path}
use Rattle.ext_transfer.specs.declared.transfer.Transfer.{Transfer}
use Rattle.ext_vers.specs.Version.{order_of}
use Rattle.ext_versions.specs.Versions.{has_version}
use Rattle.ext_versions.proofs.ForCallers.{has_contained}
use Rattle.ext_installed.specs.Installed.{instance_cmp}
use Rattle.ext_installed.specs.declared.instance.Instance.{Instance}
use Rattle.ext_installed.proofs.ForCallers.{none_contained, same_contained}
use Rattle.ext_choice.specs.declared.room_err.RoomErr.{RoomErr}
use Rattle.ext_choice.specs.declared.room_err.RoomErr.TheVariants.{OutOfMemory, NoRoom}
use Rattle.ext_choice.specs.Room.{HasRoom, LacksRoom, MakesRoom, is_coming, versions_beside}
use Rattle.ext_choice.specs.Steps.{after_transfer, gone_paths}
use Rattle.ext_choice.specs.Vacuum.{AreByTransfer, Goes, HaveRoom, IsGone, IsVacuum, LacksFirst, Vacuums, of_transfer}
use Rattle.ext_choice.proofs.ListLemmas.{filter_has, filter_parts, filter_within, map_has, map_parts, split_at_point}
use Rattle.ext_choice.proofs.RoomLemmas.{among_passing, coming_stays, oldest_first, one_room, protected_stays}

-- an instance of the transfer at a place or of an earlier one
abbrev pub is_up_to : ℕ → Instance → Bool
is_up_to place item = nat_le item.transfer place

-- each instance has the first one's transfer or a later one
from_first : (from : ℕ) (items : List Instance) (k : ℕ) (d : Instance) → AreByTransfer from items → k < length items
    → from ≤ (get_or items k d).transfer
from_first from [] k d ordered within = absurd (omega (arith, within))
from_first from (x ∷ xs) zero d ordered within = ordered.0
from_first from (x ∷ xs) (suc k) d ordered within = omega (arith, ordered.0, from_first x.transfer xs k d ordered.1 (omega (arith, within)))

-- the instances up to a place come first
pub up_to_splits : (place from : ℕ) (items : List Instance) → AreByTransfer from items → IsPartitionedBy (is_up_to place) items
up_to_splits place from [] ordered i j d le lt pass = absurd (omega (arith, lt))
up_to_splits place from (x ∷ xs) ordered zero zero d le lt pass = pass
up_to_splits place from (x ∷ xs) ordered (suc i) zero d le lt pass = absurd (omega (arith, le))
up_to_splits place from (x ∷ xs) ordered zero (suc j) d le lt pass =
    le-leb x.transfer place
    (omega (arith, from_first x.transfer xs j d ordered.1 (omega (arith, lt)), leb-true (get_or xs j d).transfer place pass))
up_to_splits place from (x ∷ xs) ordered (suc i) (suc j) d le lt pass =
    up_to_splits place x.transfer xs ordered.1 i j d (omega (arith, le)) (omega (arith, lt)) pass

same_tests : (place n : ℕ) → place ≤ n → nat_le n place ≡ (n == place)
same_tests place n low = elim (nat_le n place) as (λ b. nat_le n place ≡ b → b ≡ (n == place)) [
  | true ↦ λ within. sym (eq-eqb n place (omega (arith, low, leb-true n place within)))
  | false ↦ λ above. sym (false_from_ne_true _ (λ same. absurd (omega (arith, eqb-true n place same, leb-false n place above))))
] refl

-- where none is of an earlier transfer, those up to a place are those of its transfer
here_same : (place from : ℕ) (items : List Instance) → place ≤ from → AreByTransfer from items
    → filter (is_up_to place) items ≡ of_transfer place items
here_same place from [] low ordered = refl
here_same place from (x ∷ xs) low ordered =
    ap (λ b. cond b (x ∷ filter (is_up_to place) xs) (filter (is_up_to place) xs))
    (same_tests place x.transfer (omega (arith, low, ordered.0)))
    ∙ ap (λ (ys : List Instance). cond (x.transfer == place) (x ∷ ys) ys)
    (here_same place x.transfer xs (omega (arith, low, ordered.0)) ordered.1)

-- the instances of a transfer, and the later ones
pub split_here : (place : ℕ) (items : List Instance) (i : ℕ) → AreByTransfer place items → i ≤ length items
    → IsPartitionPoint (λ item. is_up_to place item ≡ true) (λ item. is_up_to place item ≡ false) items i
    → take i items ≡ of_transfer place items
split_here place items i ordered within at =
    (split_at_point (is_up_to place) items i within at).0 ∙ here_same place place items (omega arith) ordered

pub split_later : (place : ℕ) (items : List Instance) (i : ℕ) → i ≤ length items
    → IsPartitionPoint (λ item. is_up_to place item ≡ true) (λ item. is_up_to place item ≡ false) items i
    → drop i items ≡ after_transfer place items
split_later place items i within at = (split_at_point (is_up_to place) items i within at).1

-- later instances are those of later transfers
later_same : (place k : ℕ) (items : List Instance) → place < k → of_transfer k (after_transfer place items) ≡ of_transfer k items
later_same place k items later =
    filter_within (λ (item : Instance). item.transfer == k) (λ (item : Instance). not (is_up_to place item))
    (λ item same. ap not
    (false_from_ne_true (is_up_to place item)
    (λ up_to. absurd (omega (arith, later, eqb-true item.transfer k same, leb-true item.transfer place up_to)))))
    items

lower : (low from : ℕ) (items : List Instance) → low ≤ from → AreByTransfer from items → AreByTransfer low items
lower low from [] le ordered = tt
lower low from (x ∷ xs) le ordered = (omega (arith, le, ordered.0), ordered.1)

filter_order : (test : Instance → Bool) (from : ℕ) (items : List Instance) → AreByTransfer from items
    → AreByTransfer from (filter test items)
filter_order test from [] ordered = tt
filter_order test from (x ∷ xs) ordered = elim (test x) as (λ b. AreByTransfer from (cond b (x ∷ filter test xs) (filter test xs))) [
  | true ↦ (ordered.0, filter_order test x.transfer xs ordered.1)
  | false ↦ lower from x.transfer (filter test xs) ordered.0 (filter_order test x.transfer xs ordered.1)
]

-- they are in the order of their transfers too
after_order : (place from : ℕ) (items : List Instance) → AreByTransfer from items → AreByTransfer (place + 1) (after_transfer place items)
after_order place from [] ordered = tt
after_order place from (x ∷ xs) ordered =
    elim (is_up_to place x) as
    (λ b. is_up_to place x ≡ b → AreByTransfer (place + 1) (cond (not b) (x ∷ after_transfer place xs) (after_transfer place xs))) [
      | true ↦ λ _. after_order place x.transfer xs ordered.1
      | false ↦ λ above. (
        omega (arith, leb-false x.transfer place above),
        filter_order
            (λ (item : Instance). not (is_up_to place item)) x.transfer xs ordered.1,
      )
    ] refl

not_after : (a b : ℕ) (r : Ordering) → ordering_then (nat_cmp a b) r ≡ Less → a ≤ b
not_after a b r less = elim (cases_lt b a) [
  | inl after ↦ absurd (cc (sym less ∙ ap (λ o. ordering_then o r) (sym (nat_cmp_is a b Greater after))))
  | inr not_before ↦ not_before
]

all_after : (x : Instance) (xs : List Instance) → AllByRecursion (λ y. instance_cmp x y ≡ Less) xs → AreByTransfer 0 xs
    → AreByTransfer x.transfer xs
all_after x [] above ordered = tt
all_after x (y ∷ ys) above ordered = (not_after x.transfer y.transfer (path_cmp x.path y.path) above.0, ordered.1)

-- instances in strict order are in the order of their transfers
pub by_transfer : (items : List Instance) → IsStrictlySortedBy instance_cmp items → AreByTransfer 0 items
unfolding IsStrictlySortedBy
by_transfer [] sorted = tt
by_transfer (x ∷ xs) sorted = (omega arith, all_after x xs sorted.0 (by_transfer xs sorted.1))

-- the paths of instances whose version goes
gone_parts : (gone : List (List ℕ)) (items : List Instance) (path : List (List ℕ)) → Contains (gone_paths gone items) path
    → (item : Instance) × Contains items item × (has_version gone item.version ≡ true) × (item.path ≡ path)
gone_parts gone items path at =
    let image = map_parts (λ (item : Instance). item.path) (filter (λ (item : Instance). has_version gone item.version) items) path at in
    let kept = filter_parts (λ (item : Instance). has_version gone item.version) items image.0 image.1 in
    (image.0, kept.0, kept.1, image.2)

gone_has : (gone : List (List ℕ)) (items : List Instance) (item : Instance) → Contains items item → has_version gone item.version ≡ true
    → Contains (gone_paths gone items) item.path
gone_has gone items item at has =
    map_has (λ (item : Instance). item.path) (filter (λ (item : Instance). has_version gone item.version) items) item
    (filter_has (λ (item : Instance). has_version gone item.version) items item at has)

-- the same tests find the same paths
same_found : (a b : List (List (List ℕ))) → ((test : List (List ℕ) → Bool) → list_any test a ≡ list_any test b) → (path : List (List ℕ))
    → Contains a path → Contains b path
same_found a b same path at =
    let found = Any-from_list_any (eq_by_cmp path_cmp path) b
    (sym (same (eq_by_cmp path_cmp path)) ∙ list_any-from_Any (eq_by_cmp path_cmp path) a
    (at.0, path, at.1, at.2, tied_path path path refl)) in
    subst (Contains b) (sym (same_path path found.1 found.4)) (found.0, found.2, found.3)

module _ (transfers : List Transfer) (coming : Option (List ℕ)) (items : List Instance) where
  -- the path of an instance that goes, of a transfer before a place
  pub record IsGoneBefore (place : ℕ) (path : List (List ℕ)) : Type 0 where
    pub gone : IsGone transfers coming items path
    pub before : gone.item.transfer < place

  -- so many transfers were looked at, each has room, the instances of the others are left, and these paths go
  pub record Going (place : ℕ) (rest : List Instance) (paths : List (List (List ℕ))) : Type 0 where
    pub rooms : HaveRoom transfers coming items place
    pub order : AreByTransfer place rest
    pub later : (k : ℕ) → place ≤ k → of_transfer k rest ≡ of_transfer k items
    pub gone : (path : List (List ℕ)) → Contains paths path ↔ IsGoneBefore place path

  -- none was looked at
  pub going_starts : AreByTransfer 0 items → Going 0 items []
  going_starts ordered = record {
    rooms = λ place transfer before there. absurd (omega (arith, before));
    order = ordered;
    later = λ k low. refl;
    gone = λ path. ((λ at. absurd (none_contained path at)), (λ gone. absurd (omega (arith, gone.before))));
  }

  module _ (place : ℕ) (rest : List Instance) (paths : List (List (List ℕ))) (going : Going place rest paths) (transfer : Transfer)
      (there : slice_get transfers place ≡ Some transfer) where
    here : of_transfer place rest ≡ of_transfer place items
    here = going.later place (omega arith)

    one_transfer : (other : Transfer) → slice_get transfers place ≡ Some other → transfer ≡ other
    one_transfer other got = same_Some transfer other (sym there ∙ got)

    -- the transfer at the place lacks room
    pub lacks_first : (file : List ℕ) (count : ℕ) → file ≡ transfer.file → LacksRoom transfer coming (of_transfer place rest) count
        → LacksFirst transfers coming items file count
    lacks_first file count named lacks = record {
      place = place;
      transfer = transfer;
      there = there;
      before = going.rooms;
      named = named;
      lacks = subst (λ (is : List Instance). LacksRoom transfer coming is count) here lacks;
    }

    module _ (gone : List (List ℕ)) (room : HasRoom transfer coming (of_transfer place rest) gone) where
      room_here : HasRoom transfer coming (of_transfer place items) gone
      room_here = subst (λ (is : List Instance). HasRoom transfer coming is gone) here room

      rooms_on : HaveRoom transfers coming items (place + 1)
      rooms_on k other before got = elim (cases_lt k place) [
        | inl earlier ↦ going.rooms k other earlier got
        | inr late ↦
            let at : k ≡ place = omega (arith, before, late) in
            let same = one_transfer other (subst (λ n. slice_get transfers n ≡ Some other) at got) in (
              gone,
              subst (λ n. HasRoom other coming (of_transfer n items) gone) (sym at)
                  (subst (λ (t : Transfer). HasRoom t coming (of_transfer place items) gone) same room_here),
            )
      ]

      pub goes_here : (item : Instance) → item.transfer ≡ place → has_version gone item.version ≡ true → Goes transfers coming items item
      goes_here item at has = record {
        transfer = transfer;
        gone = gone;
        there = subst (λ n. slice_get transfers n ≡ Some transfer) (sym at) there;
        room = subst (λ n. HasRoom transfer coming (of_transfer n items) gone) (sym at) room_here;
        among = has;
      }

      there_on : (path : List (List ℕ)) → Contains (paths ++ gone_paths gone (of_transfer place rest)) path → IsGoneBefore (place + 1) path
      there_on path at = elim (Contains-append_cases paths (gone_paths gone (of_transfer place rest)) path at) [
        | inl earlier ↦ let one = (going.gone path).0 earlier in record { gone = one.gone; before = omega (arith, one.before) }
        | inr now ↦
            let one = gone_parts gone (of_transfer place rest) path now in
            let parts = filter_parts (λ (item : Instance). item.transfer == place) items one.0
            (subst (λ (is : List Instance). Contains is one.0) here one.1) in
            let same = eqb-true one.0.transfer place parts.1 in
            record {
              gone = record { item = one.0; among = parts.0; at = one.3; goes = goes_here one.0 same one.2 };
              before = omega
                  (arith, same);
            }
      ]

      pub goes_now : (item : Instance) → item.transfer ≡ place → Goes transfers coming items item → has_version gone item.version ≡ true
      goes_now item at goes =
          let same = one_transfer goes.transfer (subst (λ n. slice_get transfers n ≡ Some goes.transfer) at goes.there) in
          let theirs = subst (λ (t : Transfer). HasRoom t coming (of_transfer place items) goes.gone) (sym same)
          (subst (λ n. HasRoom goes.transfer coming (of_transfer n items) goes.gone) at goes.room) in
          subst (λ (ws : List (List ℕ)). has_version ws item.version ≡ true)
          (one_room transfer coming (of_transfer place items) goes.gone gone theirs room_here) goes.among

      back_on : (path : List (List ℕ)) → IsGoneBefore (place + 1) path → Contains (paths ++ gone_paths gone (of_transfer place rest)) path
      back_on path one = elim (cases_lt one.gone.item.transfer place) [
        | inl earlier ↦ Contains-append_left paths (gone_paths gone (of_transfer place rest)) path
            ((going.gone path).1 (record { gone = one.gone; before = earlier }))
        | inr late ↦
            let item = one.gone.item in
            let at : item.transfer ≡ place = omega (arith, one.before, late) in
            let in_items = filter_has (λ (i : Instance). i.transfer == place) items item one.gone.among (eq-eqb item.transfer place at) in
            let in_rest = subst (λ (is : List Instance). Contains is item) (sym here) in_items in
            Contains-append_right paths (gone_paths gone (of_transfer place rest)) path
            (subst (λ p. Contains (gone_paths gone (of_transfer place rest)) p) one.gone.at
            (gone_has gone (of_transfer place rest) item in_rest (goes_now item at one.gone.goes)))
      ]

      -- the transfer at the place has room: what goes of it goes too
      pub going_on : Going (place + 1) (after_transfer place rest) (paths ++ gone_paths gone (of_transfer place rest))
      going_on = record {
        rooms = rooms_on;
        order = after_order place place rest going.order;
        later = λ k low. later_same place k rest (omega (arith, low)) ∙ going.later k (omega (arith, low));
        gone = λ path. (there_on path, back_on path);
      }

    -- what becomes of the transfer at the place where it is refused
    pub refused_first : (here_items : List Instance) (e : RoomErr) → here_items ≡ of_transfer place rest
        → MakesRoom transfer coming here_items (Err e) → Vacuums transfers coming items (Err e)
    refused_first here_items OutOfMemory here_is refused = tt
    refused_first here_items (NoRoom file count) here_is refused =
        lacks_first file count refused.0 (subst (λ (is : List Instance). LacksRoom transfer coming is count) here_is refused.1)

    -- and where it isn't
    pub going_next : (here_items after : List Instance) (gone : List (List ℕ)) (more : List (List (List ℕ)))
        → here_items ≡ of_transfer place rest → after ≡ after_transfer place rest → HasRoom transfer coming here_items gone
        → more ≡ paths ++ gone_paths gone here_items → Going (place + 1) after more
    going_next here_items after gone more here_is after_is room more_is =
        let next = going_on gone (subst (λ (is : List Instance). HasRoom transfer coming is gone) here_is room) in
        subst (λ (ps : List (List (List ℕ))). Going (place + 1) after ps)
        (sym (more_is ∙ ap (λ (is : List Instance). paths ++ gone_paths gone is) here_is))
        (subst (λ (is : List Instance). Going (place + 1) is (paths ++ gone_paths gone (of_transfer place rest))) (sym after_is) next)

  -- all were looked at
  pub all_gone : (place : ℕ) (rest : List Instance) (paths sorted : List (List (List ℕ))) → Going place rest paths
      → length transfers ≤ place → IsStrictlySortedBy path_cmp sorted
      → ((test : List (List ℕ) → Bool) → list_any test sorted ≡ list_any test paths) → IsVacuum transfers coming items sorted
  all_gone place rest paths sorted going whole ordered same = record {
    rooms =
        λ count k transfer before there. going.rooms k transfer (omega (arith, whole, slice_get_within transfers k transfer there)) there;
    order = ordered;
    gone = λ path. (
      (λ at. ((going.gone path).0 (same_found sorted paths same path at)).gone),
      (λ gone. same_found paths sorted (λ test. sym (same test)) path
          ((going.gone path).1
          (record {
            gone = gone;
            before = omega
                (arith, whole, slice_get_within transfers gone.item.transfer gone.goes.transfer gone.goes.there);
          }))),
    );
  }

  -- an instance whose version is protected stays
  pub protected_instance_stays : (item : Instance) (transfer : Transfer) → slice_get transfers item.transfer ≡ Some transfer
      → has_version transfer.protect item.version ≡ true → Goes transfers coming items item → ⊥
  protected_instance_stays item transfer there protected goes =
      let same = same_Some goes.transfer transfer (sym goes.there ∙ there) in
      let by_theirs = subst (λ (t : Transfer). has_version t.protect item.version ≡ true) (sym same) protected in
      absurd (false≢true (sym
      (protected_stays goes.transfer coming (of_transfer item.transfer items) goes.gone item.version goes.room by_theirs) ∙ goes.among))

  -- an instance of the coming version stays
  pub coming_instance_stays : (item : Instance) → is_coming coming item.version ≡ true → Goes transfers coming items item → ⊥
  coming_instance_stays item coming_one goes =
      absurd (false≢true (sym
      (coming_stays goes.transfer coming (of_transfer item.transfer items) goes.gone item.version goes.room coming_one) ∙ goes.among))

  -- where an instance goes, each other one of its transfer goes too whose version is older and neither protected nor coming
  pub older_goes : (item older : Instance) (transfer : Transfer) → Goes transfers coming items item
      → slice_get transfers item.transfer ≡ Some transfer → Contains items older → older.transfer ≡ item.transfer
      → order_of older.version item.version ≡ Less → has_version transfer.protect older.version ≡ false
      → is_coming coming older.version ≡ false → Goes transfers coming items older
  older_goes item older transfer goes there at same less free not_coming = record {
    transfer = goes.transfer;
    gone = goes.gone;
    there = subst (λ n. slice_get transfers n ≡ Some goes.transfer) (sym same) goes.there;
    room = subst (λ n. HasRoom goes.transfer coming (of_transfer n items) goes.gone) (sym same) goes.room;
    among =
        oldest_first goes.transfer coming
        (of_transfer item.transfer items) goes.gone older.version item.version goes.room goes.among less beside
        (subst (λ (t : Transfer). has_version t.protect older.version ≡ false)
        (sym (same_Some goes.transfer transfer (sym goes.there ∙ there))) free);
  }
    where
      here : Contains (of_transfer item.transfer items) older
      here = filter_has (λ (i : Instance). i.transfer == item.transfer) items older at (eq-eqb older.transfer item.transfer same)

      one : has_version (map (λ (i : Instance). i.version) (of_transfer item.transfer items)) older.version ≡ true
      one =
          has_contained (map (λ (i : Instance). i.version) (of_transfer item.transfer items)) older.version
          (map_has (λ (i : Instance). i.version) (of_transfer item.transfer items) older here)

      beside : has_version (versions_beside coming (of_transfer item.transfer items)) older.version ≡ true
      beside =
          among_passing (λ v. not (is_coming coming v)) (map (λ (i : Instance). i.version) (of_transfer item.transfer items)) older.version
          ∙ and_from (not (is_coming coming older.version))
          (has_version (map (λ (i : Instance). i.version) (of_transfer item.transfer items)) older.version) (ap not not_coming) one

  -- there is one list of the paths that go
  pub one_vacuum : (a b : List (List (List ℕ))) → IsVacuum transfers coming items a → IsVacuum transfers coming items b → a ≡ b
  one_vacuum a b first second =
      same_contained path_cmp paths_total a b first.order second.order
      (λ path at. (second.gone path).1 ((first.gone path).0 at))
      (λ path at. (first.gone path).1 ((second.gone path).0 at))
