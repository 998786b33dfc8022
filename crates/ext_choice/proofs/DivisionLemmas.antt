-- Going through transfers: what stays of those that were looked at.
use Rattle.std.proofs.Common.{◌≡◌, ℕ, zero, suc, ◌+◌, ◌<◌, ◌≤◌, Bool, true, false, not, ◌==◌, List, [], ◌∷◌, ◌++◌, length, map, Some, refl, sym, ap, ◌∙◌, subst, arith}
use Rattle.std.specs.Prelude.{◌↔◌, slice_get, Option, Err}
use mathlib.Core.Logic.{inl, inr}
use Rattle.std.specs.List.{Contains, filter, list_any}
use Rattle.std.specs.List.Sorted.{IsStrictlySortedBy}
use Rattle.std.proofs.lemmas.Bool.{cases_lt, eqb-true, eq-eqb, false≢true, false_from_ne_true}
use Rattle.std.proofs.lemmas.List.Elements.{Contains-append_cases, Contains-append_left, Contains-append_right}
use Rattle.std.proofs.lemmas.Option.{slice_get_within}
use Rattle.ext_text.specs.Path.{path_cmp}
use Rattle.ext_transfer.specs.declared.transfer.Transfer.{Transfer}
use Rattle.ext_versions.specs.Versions.{has_version}
use Rattle.ext_installed.specs.declared.instance.Instance.{Instance}
use Rattle.ext_installed.proofs.ForCallers.{contains_cases, none_contained}
use Rattle.ext_choice.specs.declared.division.Division.{Division}
use Rattle.ext_choice.specs.declared.room_err.RoomErr.{RoomErr}
use Rattle.ext_choice.specs.declared.room_err.RoomErr.TheVariants.{OutOfMemory, NoRoom}
use Rattle.ext_choice.specs.Room.{HasRoom, LacksRoom, MakesRoom}
use Rattle.ext_choice.specs.Steps.{after_transfer, gone_paths, left_paths}
use Rattle.ext_choice.specs.Vacuum.{AreByTransfer, Divides, Goes, IsDivision, Stays, of_transfer}
use Rattle.ext_choice.proofs.ListLemmas.{filter_has, filter_parts, map_has, map_parts}
use Rattle.ext_choice.proofs.VacuumLemmas.{Going, all_gone, goes_here, goes_now, going_next, going_starts, refused_first}

-- the instances in the order of their transfers are of the first one's transfer or of later ones
from_on : (from : ℕ) (items : List Instance) (item : Instance) → AreByTransfer from items → Contains items item → from ≤ item.transfer
from_on from [] item ordered at = absurd (none_contained item at)
from_on from (x ∷ xs) item ordered at = elim (contains_cases x item xs at) [
  | inl same ↦ subst (λ (i : Instance). from ≤ i.transfer) same ordered.0
  | inr later ↦ omega (arith, ordered.0, from_on x.transfer xs item ordered.1 later)
]

-- the paths of instances whose version stays
left_parts : (gone : List (List ℕ)) (items : List Instance) (path : List (List ℕ)) → Contains (left_paths gone items) path
    → (item : Instance) × Contains items item × (has_version gone item.version ≡ false) × (item.path ≡ path)
left_parts gone items path at =
    let image = map_parts (λ (item : Instance). item.path) (filter (λ (item : Instance). not (has_version gone item.version)) items) path at in
    let kept = filter_parts (λ (item : Instance). not (has_version gone item.version)) items image.0 image.1 in
    (image.0, kept.0, not_true (has_version gone image.0.version) kept.1, image.2)
  where
    not_true : (b : Bool) → not b ≡ true → b ≡ false
    not_true true same = absurd (false≢true same)
    not_true false same = refl

left_has : (gone : List (List ℕ)) (items : List Instance) (item : Instance) → Contains items item → has_version gone item.version ≡ false
    → Contains (left_paths gone items) item.path
left_has gone items item at lacks =
    map_has (λ (item : Instance). item.path) (filter (λ (item : Instance). not (has_version gone item.version)) items) item
    (filter_has (λ (item : Instance). not (has_version gone item.version)) items item at (ap not lacks))

module _ (transfers : List Transfer) (coming : Option (List ℕ)) (items : List Instance) where
  -- the path of an instance that stays, of a transfer before a place
  pub record StaysBefore (place : ℕ) (path : List (List ℕ)) : Type 0 where
    pub left : Stays transfers coming items path
    pub before : left.item.transfer < place

  -- so many transfers were looked at, and these paths go and these stay
  pub record Dividing (place : ℕ) (rest : List Instance) (removed staying : List (List (List ℕ))) : Type 0 where
    pub going : Going transfers coming items place rest removed
    pub left : (path : List (List ℕ)) → Contains staying path ↔ StaysBefore place path

  -- none was looked at
  pub dividing_starts : AreByTransfer 0 items → Dividing 0 items [] []
  dividing_starts ordered = record {
    going = going_starts transfers coming items ordered;
    left = λ path. ((λ at. absurd (none_contained path at)), (λ one. absurd (omega (arith, one.before))));
  }

  module _ (place : ℕ) (rest : List Instance) (removed staying : List (List (List ℕ))) (dividing : Dividing place rest removed staying)
    where
      -- an instance that is left is one of all
      of_all : (item : Instance) → Contains rest item → Contains items item
      of_all item at =
          let same = dividing.going.later item.transfer (from_on place rest item dividing.going.order at) in
          (filter_parts (λ (i : Instance). i.transfer == item.transfer) items item
          (subst (λ (is : List Instance). Contains is item) same
          (filter_has (λ (i : Instance). i.transfer == item.transfer) rest item at (eq-eqb item.transfer item.transfer refl)))).0

      -- and one of a later transfer is left
      of_rest : (item : Instance) → Contains items item → place ≤ item.transfer → Contains rest item
      of_rest item at low =
          let same = dividing.going.later item.transfer low in
          (filter_parts (λ (i : Instance). i.transfer == item.transfer) rest item
          (subst (λ (is : List Instance). Contains is item) (sym same)
          (filter_has (λ (i : Instance). i.transfer == item.transfer) items item at (eq-eqb item.transfer item.transfer refl)))).0

      module _ (transfer : Transfer) (there : slice_get transfers place ≡ Some transfer) where
        -- what becomes of the transfer at the place where it is refused
        pub refused_here : (here_items : List Instance) (e : RoomErr) → here_items ≡ of_transfer place rest
            → MakesRoom transfer coming here_items (Err e) → Divides transfers coming items (Err e)
        refused_here here_items OutOfMemory here_is refused = tt
        refused_here here_items (NoRoom file count) here_is refused =
            refused_first transfers coming items place rest removed dividing.going transfer there here_items (NoRoom file count) here_is
            refused

        module _ (gone : List (List ℕ)) (room : HasRoom transfer coming (of_transfer place rest) gone) where
          left_on : (path : List (List ℕ)) → Contains (staying ++ left_paths gone (of_transfer place rest)) path → StaysBefore (place + 1) path
          left_on path at = elim (Contains-append_cases staying (left_paths gone (of_transfer place rest)) path at) [
            | inl earlier ↦ let one = (dividing.left path).0 earlier in record { left = one.left; before = omega (arith, one.before) }
            | inr now ↦
                let one = left_parts gone (of_transfer place rest) path now in
                let parts = filter_parts (λ (item : Instance). item.transfer == place) rest one.0 one.1 in
                let same = eqb-true one.0.transfer place parts.1 in
                record {
                  left = record {
                    item = one.0;
                    among = of_all one.0 parts.0;
                    at = one.3;
                    stays = λ goes. absurd (false≢true (sym one.2
                        ∙ goes_now transfers coming items place rest removed dividing.going transfer there gone room one.0 same goes));
                  };
                  before = omega (arith, same);
                }
          ]

          back_left : (path : List (List ℕ)) → StaysBefore (place + 1) path → Contains (staying ++ left_paths gone (of_transfer place rest)) path
          back_left path one = elim (cases_lt one.left.item.transfer place) [
            | inl earlier ↦ Contains-append_left staying (left_paths gone (of_transfer place rest)) path
                ((dividing.left path).1 (record { left = one.left; before = earlier }))
            | inr late ↦
                let item = one.left.item in
                let at : item.transfer ≡ place = omega (arith, one.before, late) in
                let in_rest = filter_has (λ (i : Instance). i.transfer == place) rest item (of_rest item one.left.among late)
                (eq-eqb item.transfer place at) in
                Contains-append_right staying (left_paths gone (of_transfer place rest)) path
                (subst (λ p. Contains (left_paths gone (of_transfer place rest)) p) one.left.at
                (left_has gone (of_transfer place rest) item in_rest
                (false_from_ne_true (has_version gone item.version)
                (λ has. one.left.stays (goes_here transfers coming items place rest removed dividing.going transfer there gone room item at has)))))
          ]

        -- and where it has room
        pub dividing_next : (here_items after : List Instance) (gone : List (List ℕ)) (more others : List (List (List ℕ)))
            → here_items ≡ of_transfer place rest → after ≡ after_transfer place rest → HasRoom transfer coming here_items gone
            → more ≡ removed ++ gone_paths gone here_items → others ≡ staying ++ left_paths gone here_items
            → Dividing (place + 1) after more others
        dividing_next here_items after gone more others here_is after_is room more_is others_are =
            let here = subst (λ (is : List Instance). HasRoom transfer coming is gone) here_is room in
            let all = others_are ∙ ap (λ (is : List Instance). staying ++ left_paths gone is) here_is in record {
              going =
                  going_next transfers coming items place rest removed dividing.going transfer there here_items after gone more here_is
                  after_is room more_is;
              left = λ path. (
                (λ at. left_on gone here path (subst (λ (ps : List (List (List ℕ))). Contains ps path) all at)),
                (λ one. subst (λ (ps : List (List (List ℕ))). Contains ps path) (sym all) (back_left gone here path one)),
              );
            }

      -- all were looked at: the instances that are left stay
      pub all_divided : length transfers ≤ place → (sorted others : List (List (List ℕ))) → IsStrictlySortedBy path_cmp sorted
          → ((test : List (List ℕ) → Bool) → list_any test sorted ≡ list_any test removed)
          → others ≡ staying ++ map (λ (item : Instance). item.path) rest
          → IsDivision transfers coming items (record { removed = sorted; staying = others })
      all_divided whole sorted others ordered same others_are = record {
        vacuum = all_gone transfers coming items place rest removed sorted dividing.going whole ordered same;
        others = λ path. (
          (λ at. stays_of path (subst (λ (ps : List (List (List ℕ))). Contains ps path) others_are at)),
          (λ one. subst (λ (ps : List (List (List ℕ))). Contains ps path) (sym others_are) (of_stays path one)),
        );
      }
        where
          stays_of : (path : List (List ℕ)) → Contains (staying ++ map (λ (item : Instance). item.path) rest) path
              → Stays transfers coming items path
          stays_of path at = elim (Contains-append_cases staying (map (λ (item : Instance). item.path) rest) path at) [
            | inl earlier ↦ ((dividing.left path).0 earlier).left
            | inr later ↦
                let one = map_parts (λ (item : Instance). item.path) rest path later in
                record {
                  item = one.0;
                  among = of_all one.0 one.1;
                  at = one.2;
                  stays = λ goes. absurd (omega (
                    arith,
                    whole,
                    from_on place rest one.0 dividing.going.order one.1,
                    slice_get_within transfers one.0.transfer goes.transfer goes.there,
                  ));
                }
          ]

          of_stays : (path : List (List ℕ)) → Stays transfers coming items path
              → Contains (staying ++ map (λ (item : Instance). item.path) rest) path
          of_stays path one = elim (cases_lt one.item.transfer place) [
            | inl earlier ↦ Contains-append_left staying (map (λ (item : Instance). item.path) rest) path
                ((dividing.left path).1 (record { left = one; before = earlier }))
            | inr late ↦ Contains-append_right staying (map (λ (item : Instance). item.path) rest) path
                (subst (λ p. Contains (map (λ (item : Instance). item.path) rest) p) one.at
                (map_has (λ (item : Instance). item.path) rest one.item (of_rest one.item one.among late)))
          ]
