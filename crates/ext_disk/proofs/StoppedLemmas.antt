-- What is given to a new disk after a stop, entry by entry.
use Rattle.std.proofs.Common.{◌≡◌, ◌≢◌, ℕ, ◌+◌, ◌<◌, Bool, true, false, cond, List, [], ◌∷◌, ◌++◌, length, take, get_or, All, Option, Some, None, refl, sym, ap, ◌∙◌, subst, inl, inr, eqb, arith}
use Rattle.std.proofs.lemmas.Bool.{true≢false, eqb-true}
use Rattle.std.proofs.lemmas.List.{take_more}
use Rattle.std.proofs.lemmas.Map.Keys.{sorted_head, sorted_tail}
use Rattle.std.specs.BTreeMap.{is_at, get}
use Rattle.std.specs.Map.{lookup, keys_of}
use Rattle.std.specs.List.Sorted.{IsStrictlySortedBy}
use Rattle.std.specs.Option.{is_some}
use Rattle.std.specs.Ordering.{eq_by_cmp}
use Rattle.ext_text.specs.Path.{path_cmp}
use Rattle.ext_text.proofs.ForCallers.{same_path, tied_path}
use Rattle.ext_disk.specs.Disk.{Node, Place, Places, MayLeave, now, absent, root_place}
use Rattle.ext_disk.specs.Calls.{put}
use Rattle.ext_disk.specs.DiskEntries.{DiskEntries, place_at, found_place, IsGrown}
use Rattle.ext_disk.specs.Deeds.{IsWhole, empty_places, durable_place, given_from, replay}
use Rattle.ext_disk.specs.Picked.{is_shown, is_kept, chosen, picked_place}
use Rattle.ext_disk.specs.declared.pick.Pick.{Pick}
use Rattle.ext_disk.specs.declared.pick.Pick.TheVariants.{Old, New, Junk}
use Rattle.ext_disk.specs.declared.deed.Deed.{Deed}
use Rattle.ext_disk.specs.declared.disk_entry.DiskEntry.{DiskEntry}
use Rattle.ext_disk.specs.declared.disk_entry.Content.{Content}
use Rattle.ext_disk.proofs.ListingLemmas.{Entries, none_later}
use Rattle.ext_disk.proofs.Growth.{path_or, tied_or, put_other, put_same}
use Rattle.ext_disk.proofs.PickedLemmas.{picked_grows, picked_may_be_left}

abbrev pub Given : Type 0
Given = List (List (List ℕ) × Content)

-- one more is put at its path
pub given_push : (d : Places) (given : Given) (e : List (List ℕ) × Content) → given_from d (given ++ e ∷ []) ≡ put e.0 (durable_place e.1) (given_from d given)
given_push d [] e = refl
given_push d (x ∷ given) e = given_push (put x.0 (durable_place x.1) d) given e

-- what was given so far, where these entries are left: each other path has what the stop left there, and theirs have nothing
pub record IsGivenSoFar (want : Places) (given : Given) (left : Entries) : Type 0 where
  pub sorted : IsStrictlySortedBy path_cmp (keys_of left)
  pub done : (n : List ℕ) (q : List (List ℕ)) → given_from empty_places given (n ∷ q)
      ≡ cond (is_some (lookup (is_at (path_cmp (n ∷ q))) left)) absent (want (n ∷ q))
  pub root : given_from empty_places given [] ≡ root_place

-- what ties with neither of two equal paths
not_tied : (path key q : List (List ℕ)) → path ≡ key → eq_by_cmp path_cmp path q ≡ false → eq_by_cmp path_cmp q key ≡ false
not_tied path key q same apart = elim (tied_or (eq_by_cmp path_cmp q key)) [
  | inl tied ↦ absurd (true≢false (sym (tied_path path q (same ∙ sym (same_path q key tied))) ∙ apart))
  | inr other ↦ other
]

-- the first entry that is left is given
pub given_next : (want : Places) (given more : Given) (e : List (List ℕ) × DiskEntry) (es : Entries) (path : List (List ℕ)) (content : Content) → IsGivenSoFar want given (e ∷ es)
    → path ≡ e.0 → path ≢ [] → durable_place content ≡ want path → more ≡ given ++ (path, content) ∷ [] → IsGivenSoFar want more es
given_next want given more e es path content so_far same some is more_is =
    let pushed : given_from empty_places more ≡ put path (durable_place content) (given_from empty_places given) = ap (given_from empty_places) more_is ∙ given_push empty_places given (path, content) in
    record {
      sorted = sorted_tail path_cmp e.0 (keys_of es) so_far.sorted;
      done = λ n q. ap (λ f. f (n ∷ q)) pushed ∙ elim (path_or path (n ∷ q)) [
        | inl here ↦
            let gone : lookup (is_at (path_cmp (n ∷ q))) es ≡ None =
            ap (λ k. lookup (is_at (path_cmp k)) es) (sym here ∙ same) ∙ none_later e.0 es (sorted_head path_cmp e.0 (keys_of es) so_far.sorted) in
            put_same path (durable_place content) (given_from empty_places given) (n ∷ q) here ∙ is ∙ ap want here
            ∙ ap (λ o. cond (is_some o) absent (want (n ∷ q))) (sym gone)
        | inr apart ↦
            put_other path (durable_place content) (given_from empty_places given) (n ∷ q) apart ∙ so_far.done n q
            ∙ ap (λ b. cond (is_some (cond b (Some e.1) (lookup (is_at (path_cmp (n ∷ q))) es))) absent (want (n ∷ q))) (not_tied path e.0 (n ∷ q) same apart)
      ];
      root = ap (λ f. f []) pushed ∙ elim (path_or path []) [
        | inl here ↦ absurd (some here)
        | inr apart ↦ put_other path (durable_place content) (given_from empty_places given) [] apart ∙ so_far.root
      ];
    }

-- the root's own entry, if the map had one, is passed over
pub given_passed : (want : Places) (given : Given) (e : List (List ℕ) × DiskEntry) (es : Entries) → IsGivenSoFar want given (e ∷ es) → e.0 ≡ [] → IsGivenSoFar want given es
given_passed want given e es so_far root = record {
  sorted = sorted_tail path_cmp e.0 (keys_of es) so_far.sorted;
  done = λ n q. so_far.done n q ∙ ap (λ k. cond (is_some (cond (eq_by_cmp path_cmp (n ∷ q) k) (Some e.1) (lookup (is_at (path_cmp (n ∷ q))) es))) absent (want (n ∷ q))) root;
  root = so_far.root;
}

abbrev node_after : Pick → Bool → Place → Place
node_after pick shown x = record absent { node = cond (is_kept pick shown x) (chosen pick x x.unsynced_rename) None }

-- where the disk has nothing, a stop leaves nothing
absent_stays : (pick : Pick) (shown : Bool) → node_after pick shown absent ≡ absent
absent_stays Old true = refl
absent_stays Old false = refl
absent_stays New shown = refl
absent_stays Junk shown = refl

nothing_left : (pick : Pick) (disk_entries : DiskEntries) (n : List ℕ) (q : List (List ℕ)) (o : Option DiskEntry) → get path_cmp disk_entries (n ∷ q) ≡ o
    → absent ≡ cond (is_some (lookup (is_at (path_cmp (n ∷ q))) disk_entries.entries)) absent (picked_place pick (place_at disk_entries) (n ∷ q))
nothing_left pick disk_entries n q None is =
    sym (ap (λ o. cond (is_some o) absent (picked_place pick (place_at disk_entries) (n ∷ q))) is
    ∙ ap (λ o. node_after pick (is_shown (place_at disk_entries) (n ∷ q)) (found_place o)) is ∙ absent_stays pick (is_shown (place_at disk_entries) (n ∷ q)))
nothing_left pick disk_entries n q (Some disk_entry) is = sym (ap (λ o. cond (is_some o) absent (picked_place pick (place_at disk_entries) (n ∷ q))) is)

-- at the beginning every entry is left; a path without one has nothing
pub given_none : (pick : Pick) (disk_entries : DiskEntries) (given : Given) → given ≡ [] → IsStrictlySortedBy path_cmp (keys_of disk_entries.entries) → IsGivenSoFar (picked_place pick (place_at disk_entries)) given disk_entries.entries
given_none pick disk_entries given none sorted = record {
  sorted = sorted;
  done = λ n q. ap (λ g. given_from empty_places g (n ∷ q)) none ∙ nothing_left pick disk_entries n q (get path_cmp disk_entries (n ∷ q)) refl;
  root = ap (λ g. given_from empty_places g []) none;
}

-- at the end no entry is left
pub given_all : (want : Places) (given : Given) (left : Entries) → IsGivenSoFar want given left → left ≡ [] → want [] ≡ root_place → (q : List (List ℕ)) → given_from empty_places given q ≡ want q
given_all want given left so_far none root [] = so_far.root ∙ sym root
given_all want given left so_far none root (n ∷ q) = so_far.done n q ∙ ap (λ l. cond (is_some (lookup (is_at (path_cmp (n ∷ q))) l)) absent (want (n ∷ q))) none

none_within : (k : ℕ) → k < 0 → ⊥
none_within k within = omega arith

abbrev pub node_place : Option Node → Place
node_place node = record absent { node = node }

pub none_given : (given : Given) → given ≡ [] → All (λ e. e.0 ≢ []) given
none_given given none = subst (All (λ e. e.0 ≢ [])) (sym none) (λ k d within root. absurd (none_within k within))

pub same_node : {m n : Option Node} → m ≡ n → node_place m ≡ node_place n
same_node same = ap node_place same

pub disk_entries_next : (old new : DiskEntries) (given : Given) (i : ℕ) (path : List (List ℕ)) (content : Content) (place : Place) → ((q : List (List ℕ)) → place_at old q ≡ given_from empty_places (take i given) q)
    → i < length given → (path, content) ≡ get_or given i (path, content) → place ≡ durable_place content → ((q : List (List ℕ)) → place_at new q ≡ put path place (place_at old) q)
    → (q : List (List ℕ)) → place_at new q ≡ given_from empty_places (take (i + 1) given) q
disk_entries_next old new given i path content place so_far within at is puts q =
    puts q ∙ ap (λ x. put path x (place_at old) q) is
    ∙ ap (λ d. put path (durable_place content) d q) (λ j r. so_far r j)
    ∙ sym (ap (λ f. f q) (ap (given_from empty_places) (take_more given i (path, content) within ∙ ap (λ e. take i given ++ e ∷ []) (sym at)) ∙ given_push empty_places (take i given) (path, content)))

pub whole_given : (disk_entries : DiskEntries) (given : Given) (deeds : List Deed) → ((q : List (List ℕ)) → place_at disk_entries q ≡ given_from empty_places given q) → deeds ≡ [] → IsGrown (given_from empty_places given) → IsWhole disk_entries given deeds
whole_given disk_entries given deeds places none grown =
    let same : replay given deeds ≡ given_from empty_places given = ap (replay given) none in
    record { agrees = λ q. places q ∙ ap (λ f. f q) (sym same); grown = subst IsGrown (sym same) grown }

pub given_grows : (pick : Pick) (d : Places) (given : Given) → IsGrown d → ((q : List (List ℕ)) → given_from empty_places given q ≡ picked_place pick d q) → IsGrown (given_from empty_places given)
given_grows pick d given grown is = subst IsGrown (λ i q. sym (is q) i) (picked_grows pick d grown)

-- what a stop left, of what the disk came to
pub left_places : (pick : Pick) (old d : Places) (given : Given) → ((q : List (List ℕ)) → d q ≡ old q) → ((q : List (List ℕ)) → given_from empty_places given q ≡ picked_place pick d q)
    → given_from empty_places given ≡ picked_place pick old
left_places pick old d given same is =
    let left : given_from empty_places given ≡ picked_place pick d = λ i q. is q i in
    let old_is : d ≡ old = λ i q. same q i in
    left ∙ ap (picked_place pick) old_is

pub stopped_tree : (pick : Pick) (old new : Places) → new ≡ picked_place pick old → MayLeave old (now new)
stopped_tree pick old new is = subst (λ d. MayLeave old (now d)) (sym is) (picked_may_be_left pick old)
