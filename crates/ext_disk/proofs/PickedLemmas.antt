-- The tree after a stop is one that a stop may leave, and a tree.
use Rattle.std.proofs.Common.{◌≡◌, ◌⊎◌, ℕ, zero, suc, ◌+◌, ◌<◌, Bool, true, false, not, cond, ◌||◌, List, [], ◌∷◌, ◌++◌, length, take, Option, Some, None, refl, sym, ap, ◌∙◌, subst, inl, inr, arith}
use Rattle.std.proofs.lemmas.Bool.{false≢true, cases_lt, and_parts, and_from}
use Rattle.std.specs.Option.{is_some}
use Rattle.ext_disk.specs.Disk.{Node, folder, Place, Places, Swing, MayLeave, is_file, is_synced, is_durable, at_prefixes, at_proper_prefixes, absent, root_place}
use Rattle.ext_disk.specs.DiskEntries.{IsGrown, IsReached}
use Rattle.ext_disk.specs.Picked.{is_shown, is_kept, junked, outcome, synced_node, chosen, picked, picked_place}
use Rattle.ext_disk.specs.declared.pick.Pick.{Pick}
use Rattle.ext_disk.specs.declared.pick.Pick.TheVariants.{Old, New, Junk}
use Rattle.ext_disk.proofs.Paths.{contrapose, proper_from_all, last_from_all}
use Rattle.ext_disk.proofs.Growth.{none_none}

pub proper_weaker : (f g : List (List ℕ) → Bool) (p : List (List ℕ)) → ((q : List (List ℕ)) → f q ≡ true → g q ≡ true) → at_proper_prefixes f p ≡ true → at_proper_prefixes g p ≡ true
proper_weaker f g [] gives all = refl
proper_weaker f g (n ∷ p) gives all =
    let parts = and_parts (f []) _ all in
    and_from _ _ (gives [] parts.0) (proper_weaker (λ q. f (n ∷ q)) (λ q. g (n ∷ q)) p (λ q. gives (n ∷ q)) parts.1)

-- the proper prefixes of a longer path are all prefixes of the path
pub proper_longer : (f : List (List ℕ) → Bool) (p : List (List ℕ)) (n : List ℕ) → at_proper_prefixes f (p ++ n ∷ []) ≡ true → at_prefixes f p ≡ true
proper_longer f [] n all = (and_parts (f []) _ all).0
proper_longer f (k ∷ p) n all =
    let parts = and_parts (f []) _ all in
    and_from _ _ parts.0 (proper_longer (λ q. f (k ∷ q)) p n parts.1)

pub proper_passes : (f : List (List ℕ) → Bool) (p : List (List ℕ)) (k : ℕ) → k < length p → at_proper_prefixes f p ≡ true → f (take k p) ≡ true
proper_passes f [] k within all = absurd (omega arith)
proper_passes f (n ∷ p) zero within all = (and_parts (f []) _ all).0
proper_passes f (n ∷ p) (suc k) within all = proper_passes (λ q. f (n ∷ q)) p k (omega arith) (and_parts (f []) _ all).1

pub all_proper_pass : (f : List (List ℕ) → Bool) (p : List (List ℕ)) → ((k : ℕ) → k < length p → f (take k p) ≡ true) → at_proper_prefixes f p ≡ true
all_proper_pass f [] each = refl
all_proper_pass f (n ∷ p) each = and_from _ _ (each 0 (omega arith)) (all_proper_pass (λ q. f (n ∷ q)) p (λ k within. each (suc k) (omega arith)))

pub one_proper_fails : (f : List (List ℕ) → Bool) (p : List (List ℕ)) (k : ℕ) → k < length p → f (take k p) ≡ false → false ≡ at_proper_prefixes f p
one_proper_fails f p k within out = sym (contrapose _ _ (proper_passes f p k within) out)

pub each_below_more : (f : List (List ℕ) → Bool) (p : List (List ℕ)) (i : ℕ) → ((k : ℕ) → k < i → f (take k p) ≡ true) → f (take i p) ≡ true → (k : ℕ) → k < i + 1 → f (take k p) ≡ true
each_below_more f p i each last k within = elim (cases_lt k i) [
  | inl less ↦ each k less
  | inr not_less ↦ let same : i ≡ k = omega arith in subst (λ j. f (take j p) ≡ true) same last
]

not_true : (b : Bool) → not b ≡ true → b ≡ false
not_true true is = absurd (false≢true is)
not_true false is = refl

or_second : (a b : Bool) → b ≡ true → (a || b) ≡ true
or_second true b is = refl
or_second false b is = is

without_renames_if : (swing : Option Swing) → not (is_some swing) ≡ true → swing ≡ None
without_renames_if None is = refl
without_renames_if (Some w) is = absurd (false≢true is)

no_unsynced_name : (place : Place) → is_synced place ≡ true → not place.unsynced_name ≡ true
no_unsynced_name place synced = (and_parts (not place.unsynced_name) _ synced).0

no_swing : (place : Place) → is_synced place ≡ true → place.unsynced_rename ≡ None
no_swing place synced = without_renames_if place.unsynced_rename (and_parts (not place.unsynced_name) _ synced).1

kept_synced : (pick : Pick) (shown : Bool) (place : Place) → shown ≡ true → (is_some place.unsynced_rename || not place.unsynced_name) ≡ true → is_kept pick shown place ≡ true
kept_synced Old shown place is stays = and_from _ _ is stays
kept_synced New shown place is stays = refl
kept_synced Junk shown place is stays = refl

synced_hard : (pick : Pick) (place : Place) → place.unsynced_bytes ≡ false → synced_node pick place ≡ place.node
synced_hard Old place hard = refl
synced_hard New place hard = refl
synced_hard Junk place hard = ap (λ b. cond b (junked place.node) place.node) hard

kept_is : (pick : Pick) (d : Places) (p : List (List ℕ)) → is_kept pick (is_shown d p) (d p) ≡ true → picked pick d p ≡ chosen pick (d p) (d p).unsynced_rename
kept_is pick d p kept = ap (λ b. cond b (chosen pick (d p) (d p).unsynced_rename) None) kept

outcome_either : (pick : Pick) (w : Swing) → (outcome pick w ≡ w.before) ⊎ (outcome pick w ≡ w.after)
outcome_either Old w = inl refl
outcome_either New w = inr refl
outcome_either Junk w = inr refl

durable_picked : (pick : Pick) (d : Places) (p : List (List ℕ)) → is_durable d p ≡ true → picked pick d p ≡ (d p).node
durable_picked pick d p durable =
    let parts = and_parts (at_prefixes (λ q. is_synced (d q)) p) (not (d p).unsynced_bytes) durable in
    let here = last_from_all (λ q. is_synced (d q)) p parts.0 in
    let shown = proper_weaker (λ q. is_synced (d q)) (λ q. not (d q).unsynced_name) p (λ q. no_unsynced_name (d q)) (proper_from_all (λ q. is_synced (d q)) p parts.0) in
    kept_is pick d p (kept_synced pick (is_shown d p) (d p) shown (or_second _ _ (no_unsynced_name (d p) here)))
    ∙ ap (chosen pick (d p)) (no_swing (d p) here) ∙ synced_hard pick (d p) (not_true (d p).unsynced_bytes parts.1)

rename_picked : (pick : Pick) (d : Places) (p : List (List ℕ)) (w : Swing) → (d p).unsynced_rename ≡ Some w → at_proper_prefixes (λ q. is_synced (d q)) p ≡ true
    → (picked pick d p ≡ w.before) ⊎ (picked pick d p ≡ w.after)
rename_picked pick d p w is above =
    let shown = proper_weaker (λ q. is_synced (d q)) (λ q. not (d q).unsynced_name) p (λ q. no_unsynced_name (d q)) above in
    let same : picked pick d p ≡ outcome pick w =
    kept_is pick d p (kept_synced pick (is_shown d p) (d p) shown (ap (λ o. is_some o || not (d p).unsynced_name) is)) ∙ ap (chosen pick (d p)) is in
    subst (λ t. (t ≡ w.before) ⊎ (t ≡ w.after)) (sym same) (outcome_either pick w)

pub picked_may_be_left : (pick : Pick) (d : Places) → MayLeave d (picked pick d)
picked_may_be_left pick d = record { durable = durable_picked pick d; unsynced_rename = rename_picked pick d }

some_kept : (kept : Bool) (o : Option Node) → is_some (cond kept o None) ≡ true → kept ≡ true
some_kept true o there = refl
some_kept false o there = absurd (false≢true there)

some_junked : (o : Option Node) → is_some (junked o) ≡ true → is_some o ≡ true
some_junked None there = there
some_junked (Some n) there = refl

some_unsynced_bytes : (unsynced_bytes : Bool) (o : Option Node) → is_some (cond unsynced_bytes (junked o) o) ≡ true → is_some o ≡ true
some_unsynced_bytes true o there = some_junked o there
some_unsynced_bytes false o there = there

some_synced : (pick : Pick) (place : Place) → is_some (synced_node pick place) ≡ true → is_some place.node ≡ true
some_synced Old place there = there
some_synced New place there = there
some_synced Junk place there = some_unsynced_bytes place.unsynced_bytes place.node there

file_some : (o : Option Node) → is_file o ≡ true → is_some o ≡ true
file_some None is = is
file_some (Some n) is = refl

some_chosen : (pick : Pick) (place : Place) (kept : Bool) (swing : Option Swing) → place.unsynced_rename ≡ swing → ((w : Swing) → swing ≡ Some w → IsReached w place.node)
    → is_some (cond kept (chosen pick place swing) None) ≡ true → is_some place.node ≡ true
some_chosen pick place false swing is reached there = absurd (false≢true there)
some_chosen pick place true None is reached there = some_synced pick place there
some_chosen pick place true (Some w) is reached there = let r = reached w refl in file_some place.node (ap is_file r.stands ∙ r.after)

folder_has_unsynced_bytes : (unsynced_bytes : Bool) (o : Option Node) → o ≡ Some folder → cond unsynced_bytes (junked o) o ≡ Some folder
folder_has_unsynced_bytes true o is = ap junked is
folder_has_unsynced_bytes false o is = is

folder_synced : (pick : Pick) (place : Place) → place.node ≡ Some folder → synced_node pick place ≡ Some folder
folder_synced Old place is = is
folder_synced New place is = is
folder_synced Junk place is = folder_has_unsynced_bytes place.unsynced_bytes place.node is

folder_either : (pick : Pick) (place : Place) (swing : Option Swing) → place.unsynced_rename ≡ swing → ((w : Swing) → swing ≡ Some w → IsReached w place.node) → place.node ≡ Some folder → chosen pick place swing ≡ Some folder
folder_either pick place None same reached is = folder_synced pick place is
folder_either pick place (Some w) same reached is = let r = reached w refl in absurd (false≢true (ap is_file (sym is ∙ r.stands) ∙ r.after))

-- something is taken only where something stands
some_picked : (pick : Pick) (d : Places) (p : List (List ℕ)) → IsGrown d → is_some (picked pick d p) ≡ true → is_some (d p).node ≡ true
some_picked pick d p grown there = some_chosen pick (d p) (is_kept pick (is_shown d p) (d p)) (d p).unsynced_rename refl (λ w is. grown.swings p w is) there

-- a folder that is kept is taken as it is
folder_chosen : (pick : Pick) (d : Places) (p : List (List ℕ)) → IsGrown d → (d p).node ≡ Some folder → chosen pick (d p) (d p).unsynced_rename ≡ Some folder
folder_chosen pick d p grown is = folder_either pick (d p) (d p).unsynced_rename refl (λ w same. grown.swings p w same) is

kept_above : (pick : Pick) (d : Places) (p : List (List ℕ)) (n : List ℕ) → is_kept pick (is_shown d (p ++ n ∷ [])) (d (p ++ n ∷ [])) ≡ true → is_kept pick (is_shown d p) (d p) ≡ true
kept_above Old d p n kept =
    let all = proper_longer (λ q. not (d q).unsynced_name) p n (and_parts (is_shown d (p ++ n ∷ [])) _ kept).0 in
    and_from _ _ (proper_from_all (λ q. not (d q).unsynced_name) p all) (or_second _ _ (last_from_all (λ q. not (d q).unsynced_name) p all))
kept_above New d p n kept = refl
kept_above Junk d p n kept = refl

abbrev root_left : Pick → Place → Place
root_left pick x = record absent { node = cond (is_kept pick true x) (chosen pick x x.unsynced_rename) None }

root_stays : (pick : Pick) → root_left pick root_place ≡ root_place
root_stays Old = refl
root_stays New = refl
root_stays Junk = refl

root_picked : (pick : Pick) (d : Places) → d [] ≡ root_place → picked_place pick d [] ≡ root_place
root_picked pick d root = ap (root_left pick) root ∙ root_stays pick

pub picked_grows : (pick : Pick) (d : Places) → IsGrown d → IsGrown (picked_place pick d)
picked_grows pick d grown = record {
  root = root_picked pick d grown.root;
  parents = λ p n there.
      let is = grown.parents p n (some_picked pick d (p ++ n ∷ []) grown there) in
      kept_is pick d p (kept_above pick d p n (some_kept (is_kept pick (is_shown d (p ++ n ∷ [])) (d (p ++ n ∷ []))) (chosen pick (d (p ++ n ∷ [])) (d (p ++ n ∷ [])).unsynced_rename) there))
      ∙ folder_chosen pick d p grown is;
  swings = λ p w is. none_none w is;
}
