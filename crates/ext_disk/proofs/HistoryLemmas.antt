-- The map of a disk in memory says what its deeds came to.
use Rattle.std.proofs.Common.{◌≡◌, ◌≢◌, ℕ, Bool, true, false, cond, ◌&&◌, List, [], ◌∷◌, ◌++◌, Option, Some, None, refl, sym, ap, ◌∙◌, subst, inl, inr}
use Rattle.std.proofs.lemmas.Bool.{false≢true}
use Rattle.std.specs.BTreeMap.{is_at}
use Rattle.std.specs.Map.{lookup}
use Rattle.std.specs.Option.{is_some}
use Rattle.std.specs.Ordering.{eq_by_cmp}
use Rattle.ext_text.specs.Name.{bytes_cmp}
use Rattle.ext_text.specs.Path.{path_cmp}
use Rattle.ext_text.proofs.ForCallers.{same_name}
use Rattle.ext_disk.specs.Disk.{Place, Places, Swing, is_file, is_durable}
use Rattle.ext_disk.specs.Calls.{remove, Allows, put, child_name, is_child, without_renames_in, with_unsynced_name, left_place, reached_place, renamed, after}
use Rattle.ext_disk.specs.DiskEntries.{DiskEntries, place_at, found_place, IsGrown, IsReached}
use Rattle.ext_disk.specs.Deeds.{IsWhole, call_of, replay, replay_from, given_from, empty_places}
use Rattle.ext_disk.specs.declared.deed.Deed.{Deed}
use Rattle.ext_disk.specs.declared.disk_entry.Content.{Content}
use Rattle.ext_disk.proofs.Growth.{path_or, put_other, put_same, remove_below, call_grows, none_none, some_same, tied_or}

pub places_same : (disk_entries : DiskEntries) (given : List (List (List ℕ) × Content)) (deeds : List Deed) → IsWhole disk_entries given deeds → replay given deeds ≡ place_at disk_entries
places_same disk_entries given deeds whole = λ i q. sym (whole.agrees q) i

pub replay_push : (d : Places) (deeds : List Deed) (deed : Deed) → replay_from d (deeds ++ deed ∷ []) ≡ after (call_of deed) (replay_from d deeds)
replay_push d [] deed = refl
replay_push d (x ∷ deeds) deed = replay_push (after (call_of x) d) deeds deed

pub whole_add : (old new : DiskEntries) (given : List (List (List ℕ) × Content)) (deeds more : List Deed) (deed : Deed) → IsWhole old given deeds → Allows (call_of deed) (replay given deeds)
    → ((q : List (List ℕ)) → place_at new q ≡ after (call_of deed) (place_at old) q) → more ≡ deeds ++ deed ∷ [] → IsWhole new given more
whole_add old new given deeds more deed whole allowed applied is =
    let same : replay given more ≡ after (call_of deed) (replay given deeds) = ap (replay given) is ∙ replay_push (given_from empty_places given) deeds deed in
    record {
      agrees = λ q. applied q ∙ ap (λ d. after (call_of deed) d q) (sym (places_same old given deeds whole)) ∙ ap (λ f. f q) (sym same);
      grown = subst IsGrown (sym same) (call_grows (call_of deed) (replay given deeds) whole.grown allowed);
    }

nothing_at : (disk_entries : DiskEntries) (p : List (List ℕ)) → disk_entries.entries ≡ [] → place_at disk_entries p ≡ empty_places p
nothing_at disk_entries [] empty = refl
nothing_at disk_entries (n ∷ p) empty = ap (λ es. found_place (lookup (is_at (path_cmp (n ∷ p))) es)) empty

empty_none : (p : List (List ℕ)) (n : List ℕ) → is_some (empty_places (p ++ n ∷ [])).node ≡ false
empty_none [] n = refl
empty_none (k ∷ p) n = refl

empty_without_renames : (p : List (List ℕ)) → (empty_places p).unsynced_rename ≡ None
empty_without_renames [] = refl
empty_without_renames (k ∷ p) = refl

empty_grows : IsGrown empty_places
empty_grows = record {
  root = refl;
  parents = λ p n there. absurd (false≢true (sym (empty_none p n) ∙ there));
  swings = λ p w is. none_none w (sym (empty_without_renames p) ∙ is);
}

pub whole_new : (disk_entries : DiskEntries) (given : List (List (List ℕ) × Content)) (deeds : List Deed) → disk_entries.entries ≡ [] → given ≡ [] → deeds ≡ [] → IsWhole disk_entries given deeds
whole_new disk_entries given deeds empty none still =
    let same : replay given deeds ≡ empty_places = ap (λ g. replay g deeds) none ∙ ap (replay []) still in
    record {
      agrees = λ p. nothing_at disk_entries p empty ∙ ap (λ f. f p) (sym same);
      grown = subst IsGrown (sym same) empty_grows;
    }

pub child_is : (p q : List (List ℕ)) (n : List ℕ) → child_name p q ≡ Some n → q ≡ p ++ n ∷ []
child_is [] [] n is = none_none n is
child_is [] (m ∷ []) n is = let same = some_same m n is in λ i. same i ∷ []
child_is [] (m ∷ k ∷ q) n is = none_none n is
child_is (k ∷ p) [] n is = none_none n is
child_is (k ∷ p) (m ∷ q) n is = elim (tied_or (eq_by_cmp bytes_cmp k m)) [
  | inl tied ↦
      let head = same_name k m tied in
      let rest = child_is p q n (ap (λ b. cond b (child_name p q) None) (sym tied) ∙ is) in
      λ i. sym head i ∷ rest i
  | inr apart ↦ none_none n (ap (λ b. cond b (child_name p q) None) (sym apart) ∙ is)
]

some_child : (o : Option (List ℕ)) → is_some o ≡ true → (n : List ℕ) × (o ≡ Some n)
some_child None is = absurd (false≢true is)
some_child (Some n) is = (n, refl)

none_without_renames : (x : Place) (swing : Option Swing) → x.unsynced_rename ≡ swing → ((w : Swing) → x.unsynced_rename ≡ Some w → IsReached w x.node) → x.node ≡ None → x.unsynced_rename ≡ None
none_without_renames x None is swings none = is
none_without_renames x (Some w) is swings none =
    let reached = swings w is in
    absurd (false≢true (ap is_file (sym none ∙ reached.stands) ∙ reached.after))

without_renames_is : (x : Place) → x.unsynced_rename ≡ None → record x { unsynced_rename = None } ≡ x
without_renames_is x none = λ i. record x { unsynced_rename = sym none i }

without_renames_either : (b : Bool) (x : Place) → (b ≡ true → x.unsynced_rename ≡ None) → cond b (record x { unsynced_rename = None }) x ≡ x
without_renames_either true x none = without_renames_is x (none refl)
without_renames_either false x none = refl

pub without_renames_same : (d : Places) (p : List (List ℕ)) → IsGrown d → ((n : List ℕ) → (d (p ++ n ∷ [])).node ≡ None) → without_renames_in p d ≡ d
without_renames_same d p grown below = λ i q. without_renames_either (is_child p q) (d q)
    (λ is.
    let child = some_child (child_name p q) is in
    none_without_renames (d q) (d q).unsynced_rename refl (λ w same. grown.swings q w same) (ap (λ r. (d r).node) (child_is p q child.0 child.1) ∙ below child.0)) i

pub removed_here : (d : Places) (p : List (List ℕ)) → IsGrown d → Allows (remove p) d → put p (with_unsynced_name None false) d ≡ after (remove p) d
removed_here d p grown allowed = ap (put p (with_unsynced_name None false)) (sym (without_renames_same d p grown (remove_below p d grown allowed).1))

pub renamed_in_turn : (d reserved left reached : Places) (from to : List (List ℕ)) (durable : Bool) → from ≢ to → durable ≡ (is_durable d from && is_durable d to)
    → ((q : List (List ℕ)) → reserved q ≡ d q) → ((q : List (List ℕ)) → left q ≡ put from (left_place true (reserved from)) reserved q)
    → ((q : List (List ℕ)) → reached q ≡ put to (reached_place true durable (d from) (left to)) left q)
    → (q : List (List ℕ)) → reached q ≡ renamed from to true d q
renamed_in_turn d reserved left reached from to durable two durable_is reserves leaves reaches q =
    let x = reached_place true (is_durable d from && is_durable d to) (d from) (d to) in
    elim (path_or to q) [
      | inl here ↦ elim (path_or from q) [
        | inl same ↦ absurd (two (same ∙ sym here))
        | inr apart ↦
            let left_to : left to ≡ d to = leaves to ∙ put_other from (left_place true (reserved from)) reserved to (ap (eq_by_cmp path_cmp from) here ∙ apart) ∙ reserves to in
            reaches q ∙ put_same to (reached_place true durable (d from) (left to)) left q here
            ∙ ap (λ y. reached_place true durable (d from) y) left_to ∙ ap (λ b. reached_place true b (d from) (d to)) durable_is
            ∙ sym (put_same to x d q here) ∙ sym (put_other from (left_place true (d from)) (put to x d) q apart)
      ]
      | inr other ↦ elim (path_or from q) [
        | inl same ↦
            reaches q ∙ put_other to (reached_place true durable (d from) (left to)) left q other ∙ leaves q ∙ put_same from (left_place true (reserved from)) reserved q same ∙ ap (left_place true) (reserves from)
            ∙ sym (put_same from (left_place true (d from)) (put to x d) q same)
        | inr apart ↦
            reaches q ∙ put_other to (reached_place true durable (d from) (left to)) left q other ∙ leaves q ∙ put_other from (left_place true (reserved from)) reserved q apart ∙ reserves q
            ∙ sym (put_other to x d q other) ∙ sym (put_other from (left_place true (d from)) (put to x d) q apart)
      ]
    ]
