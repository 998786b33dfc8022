-- Going through transfers: what was found of those that were looked at.
use Rattle.std.proofs.Common.{◌≡◌, ℕ, ◌+◌, ◌<◌, ◌≤◌, true, ◌&&◌, List, [], ◌∷◌, ◌++◌, length, length-append, get_or, map, take, Some, refl, sym, ap, ◌∙◌, subst, arith}
use Rattle.std.specs.Prelude.{slice_get}
use mathlib.Core.Logic.{inl, inr}
use Rattle.std.specs.List.{AllByRecursion, Contains}
use Rattle.std.specs.List.Sorted.{IsStrictlySortedBy}
use Rattle.std.specs.Option.{unwrap_or}
use Rattle.std.specs.Str.{bytes_eq}
use Rattle.std.proofs.lemmas.Bool.{and_from, and_parts, cases_lt, false≢true, or_cases, or_left, or_right}
use Rattle.std.proofs.lemmas.List.{take_all, take_more}
use Rattle.std.proofs.lemmas.List.Elements.{Contains-append_cases, Contains-append_left, Contains-append_right}
use Rattle.std.proofs.lemmas.List.Folds.{list_all-append}
use Rattle.std.proofs.lemmas.Option.{slice_get-get_or, slice_get_within}
use Rattle.ext_text.proofs.ForCallers.{all_append, all_back, all_prefix}
use Rattle.ext_tree.specs.Tree.{Entries}
use Rattle.ext_transfer.specs.declared.transfer.Transfer.{Transfer}
use Rattle.ext_vers.specs.Version.{IsVersion}
use Rattle.ext_versions.specs.Versions.{AreCommon, AreVersions, each_has_version, has_version}
use Rattle.ext_versions.proofs.ForCallers.{same_version, version_itself}
use Rattle.ext_installed.specs.declared.instance.Instance.{Instance}
use Rattle.ext_installed.specs.Instance.{HasInstance, IsInstance, IsItem}
use Rattle.ext_installed.specs.Installed.{AreInstalled, instance_cmp}
use Rattle.ext_installed.specs.Resource.{AreItemsOf}
use Rattle.ext_installed.proofs.OrderLemmas.{before_by_transfer, contains_cases, none_contained, sorted_both, sorted_none}

-- the versions of items
abbrev pub versions_in : List Instance → List (List ℕ)
versions_in items = map (λ (item : Instance). item.version) items

-- each of them is the version of an item
item_of_version : (items : List Instance) (v : List ℕ) → has_version (versions_in items) v ≡ true → (item : Instance) × Contains items item × (item.version ≡ v)
item_of_version [] v has = absurd (false≢true has)
item_of_version (x ∷ items) v has = elim (or_cases (bytes_eq v x.version) (has_version (versions_in items) v) has) [
  | inl same ↦ (x, (0, omega arith, refl), sym (same_version v x.version same))
  | inr later ↦ let rest = item_of_version items v later in (rest.0, Contains-append_right (x ∷ []) items rest.0 rest.1, rest.2)
]

-- and each item's version is one of them
version_of_item : (items : List Instance) (item : Instance) → Contains items item → has_version (versions_in items) item.version ≡ true
version_of_item [] item at = absurd (none_contained item at)
version_of_item (x ∷ items) item at = elim (contains_cases x item items at) [
  | inl same ↦ subst (λ (y : Instance). has_version (versions_in (x ∷ items)) y.version ≡ true) same (or_left (bytes_eq x.version x.version) (has_version (versions_in items) x.version) (version_itself x.version))
  | inr later ↦ or_right (bytes_eq item.version x.version) (has_version (versions_in items) item.version) (version_of_item items item later)
]

module _ {C : Type 0} (es : Entries C) where
  -- the versions of all instances of a transfer are those of which it has an instance
  has_instance : (place : ℕ) (transfer : Transfer) (items : List Instance) (versions : List (List ℕ)) → AreItemsOf es place transfer items → AreVersions (versions_in items) versions → (v : List ℕ) → has_version versions v ≡ true → HasInstance es v transfer
  has_instance place transfer items versions are same v has =
      let item = item_of_version items v (sym (same.same v) ∙ has) in
      (item.0.path, subst (λ (w : List ℕ). IsInstance es transfer w item.0.path) item.2 (are.each item.0 item.1).1)

  instance_has : (place : ℕ) (transfer : Transfer) (items : List Instance) (versions : List (List ℕ)) → AreItemsOf es place transfer items → AreVersions (versions_in items) versions → (v : List ℕ) → HasInstance es v transfer → has_version versions v ≡ true
  instance_has place transfer items versions are same v one =
      let item : Instance = record { transfer = place; version = v; path = one.0 } in
      same.same v ∙ version_of_item items item (are.whole item (refl, one.1))

  module _ (transfers : List Transfer) where
    -- the instances of the first transfers, and of each the versions
    pub record IsListed (place : ℕ) (items : List Instance) (lists : List (List (List ℕ))) : Type 0 where
      pub count : length lists ≡ place
      pub order : IsStrictlySortedBy instance_cmp items
      pub each : (item : Instance) → Contains items item → (item.transfer < place) × IsItem es transfers item
      pub whole : (item : Instance) → item.transfer < place → IsItem es transfers item → Contains items item
      pub sound : (item : Instance) → Contains items item → IsVersion item.version
      pub there : (v : List ℕ) → each_has_version lists v ≡ true → AllByRecursion (HasInstance es v) (take place transfers)
      pub back : (v : List ℕ) → AllByRecursion (HasInstance es v) (take place transfers) → each_has_version lists v ≡ true

    -- at the start nothing was looked at
    pub listed_start : IsListed 0 [] []
    listed_start = record {
      count = refl;
      order = sorted_none instance_cmp;
      each = λ item at. absurd (none_contained item at);
      whole = λ item low. absurd (omega (arith, low));
      sound = λ item at. absurd (none_contained item at);
      there = λ v has. tt;
      back = λ v all. refl;
    }

    -- at the end all were
    pub listed_end : (place : ℕ) (items : List Instance) (lists : List (List (List ℕ))) (versions : List (List ℕ)) → IsListed place items lists → length transfers ≤ place → AreCommon lists versions → AreInstalled es transfers (record { transfers = length transfers; items = items; versions = versions })
    listed_end place items lists versions listed past common = record {
      count = refl;
      order = listed.order;
      each = λ item at. (listed.each item at).1;
      whole = λ item one. listed.whole item (omega (arith, past, slice_get_within transfers item.transfer one.0 one.1)) one;
      sound = listed.sound;
      ascending = common.order;
      versions = λ v. (
        λ has. subst (AllByRecursion (HasInstance es v)) (take_all place transfers past) (listed.there v (sym (common.same v) ∙ has)),
        λ all. common.same v ∙ listed.back v (subst (AllByRecursion (HasInstance es v)) (sym (take_all place transfers past)) all),
      );
    }

    -- after one more
    pub listed_next : (place : ℕ) (transfer : Transfer) (items found : List Instance) (lists : List (List (List ℕ))) (versions : List (List ℕ)) → place < length transfers → transfer ≡ get_or transfers place transfer → AreItemsOf es place transfer found → AreVersions (versions_in found) versions → IsListed place items lists → IsListed (place + 1) (items ++ found) (lists ++ versions ∷ [])
    listed_next place transfer items found lists versions low is are same listed = record {
      count = omega (arith, length-append lists (versions ∷ []), listed.count);
      order = sorted_both instance_cmp items found listed.order are.order (λ a b old new. before_by_transfer a b (omega (arith, (listed.each a old).0, (are.each b new).0)));
      each = λ item at. elim (Contains-append_cases items found item at) [
        | inl old ↦ let one = listed.each item old in (omega (arith, one.0), one.1)
        | inr new ↦ let one = are.each item new in (omega (arith, one.0), (transfer, ap (slice_get transfers) one.0 ∙ at_place, one.1))
      ];
      whole = λ item below one. elim (cases_lt item.transfer place) [
        | inl earlier ↦ Contains-append_left items found item (listed.whole item earlier one)
        | inr last ↦ Contains-append_right items found item (item_here item one (omega (arith, below, last)))
      ];
      sound = λ item at. elim (Contains-append_cases items found item at) [ inl old ↦ listed.sound item old | inr new ↦ are.sound item new ];
      there = λ v has.
          let parts = and_parts (each_has_version lists v) (has_version versions v && true) (sym (list_all-append (λ (vs : List (List ℕ)). has_version vs v) lists (versions ∷ [])) ∙ has) in
          subst (AllByRecursion (HasInstance es v)) (sym taken)
          (all_append (HasInstance es v) (take place transfers) (transfer ∷ []) (listed.there v parts.0) (has_instance place transfer found versions are same v (and_parts (has_version versions v) true parts.1).0, tt));
      back = λ v all.
          let both = subst (AllByRecursion (HasInstance es v)) taken all in
          list_all-append (λ (vs : List (List ℕ)). has_version vs v) lists (versions ∷ [])
          ∙ and_from (each_has_version lists v) (has_version versions v && true) (listed.back v (all_prefix (HasInstance es v) (take place transfers) (transfer ∷ []) both))
          (and_from (has_version versions v) true (instance_has place transfer found versions are same v (all_back (HasInstance es v) (take place transfers) (transfer ∷ []) both).0) refl);
    }
      where
        at_place : slice_get transfers place ≡ Some transfer
        at_place = slice_get-get_or transfers place transfer low ∙ ap Some (sym is)

        taken : take (place + 1) transfers ≡ take place transfers ++ transfer ∷ []
        taken = take_more transfers place transfer low ∙ ap (λ (t : Transfer). take place transfers ++ t ∷ []) (sym is)

        item_here : (item : Instance) → IsItem es transfers item → item.transfer ≡ place → Contains found item
        item_here item one here =
            let own : one.0 ≡ transfer = ap (λ o. unwrap_or o transfer) (sym one.1 ∙ ap (slice_get transfers) here ∙ at_place) in
            are.whole item (here, subst (λ (t : Transfer). IsInstance es t item.version item.path) own one.2)

    -- the same, by what is known of the lists after it
    pub listed_step : (place : ℕ) (transfer : Transfer) (items found more : List Instance) (lists others : List (List (List ℕ))) (slice : List Instance) (versions : List (List ℕ)) → place < length transfers → transfer ≡ get_or transfers place transfer → AreItemsOf es place transfer found → slice ≡ found → AreVersions (versions_in slice) versions → more ≡ items ++ found → others ≡ lists ++ versions ∷ [] → IsListed place items lists → IsListed (place + 1) more others
    listed_step place transfer items found more lists others slice versions low is are sliced same appended pushed listed =
        let next = listed_next place transfer items found lists versions low is are (subst (λ (xs : List Instance). AreVersions (versions_in xs) versions) sliced same) listed in
        subst (λ (xs : List (List (List ℕ))). IsListed (place + 1) more xs) (sym pushed) (subst (λ (xs : List Instance). IsListed (place + 1) xs (lists ++ versions ∷ [])) (sym appended) next)
