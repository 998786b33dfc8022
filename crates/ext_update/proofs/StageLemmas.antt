-- What the stages of a plan want, by what the code finds out.
use Rattle.std.proofs.Common.{◌≡◌, ◌≢◌, ℕ, ◌-◌, Bool, true, false, not, List, [], ◌∷◌, ◌++◌, map, length, Option, Some, None, refl, sym, ap, ◌∙◌, subst, arith}
use Rattle.std.specs.Prelude.{Contains}
use mathlib.Core.Logic.{inl, inr}
use Rattle.std.specs.List.{AllByRecursion, find}
use Rattle.std.specs.List.Sorted.{IsStrictlySortedBy}
use Rattle.std.specs.Option.{option_map}
use Rattle.std.specs.Ordering.{eq_by_cmp}
use Rattle.std.proofs.lemmas.Bool.{and_from, and_parts, false≢true}
use Rattle.std.proofs.lemmas.List.{map-append}
use Rattle.std.proofs.lemmas.Option.{none-some, same_Some}
use Rattle.ext_text.specs.Path.{is_prefix, is_proper_prefix, parent, path_cmp}
use Rattle.ext_text.specs.SortedPaths.{has_below, is_among}
use Rattle.ext_text.proofs.ForCallers.{all_append, length-parent, parent_prefix, prefix_short, prefix_take, prefix_trans, proper_first, some_name}
use Rattle.ext_tree.specs.Graft.{is_non_directory_at}
use Rattle.ext_tree.specs.Tree.{IsTree, is_directory, lookup}
use Rattle.ext_tree.specs.declared.entry.Entry.{Entry}
use Rattle.ext_tree.proofs.ForCallers.{parent_child}
use Rattle.ext_host.specs.Held.{HeldFile}
use Rattle.ext_host.specs.ReadOnly.{is_read_only}
use Rattle.ext_host.specs.declared.host.Host.{Host}
use Rattle.ext_installed.proofs.ForCallers.{contains_cases, none_contained}
use Rattle.ext_updated.specs.Pieces.{paths_of}
use Rattle.ext_updated.specs.declared.items.Items.{Items}
use Rattle.ext_updated.specs.declared.piece.Piece.{Piece}
use Rattle.ext_update.specs.Drafts.{IsSet, Touches, arrival_piece, arrives_at, current_piece, directories_of, is_blocking, least_blocking}
use Rattle.ext_update.specs.Stages.{IsBlocking, IsLeastFor, IsLocked, Writes, items_of, written_pieces, touched_by}
use Rattle.ext_update.specs.Steps.{IsSoundDraft, draft_writes}
use Rattle.ext_update.specs.declared.draft.Arrival.{Arrival}
use Rattle.ext_update.specs.declared.draft.CurrentLink.{CurrentLink}
use Rattle.ext_update.specs.declared.draft.Draft.{Draft}
use Rattle.ext_update.proofs.DraftLemmas.{arrival_paths, link_paths}
use Rattle.ext_update.proofs.FindLemmas.{all_contained, among_contained, contained_among, contained_found, entries_ascend, find_least, find_none, find_some, found_contained, here, later, passed, passer, path_of, paths_ascend}

module _ (host : Host) (writes : Writes) (items : Items) (same : items ≡ items_of writes) (touched : List (List (List ℕ))) (touches : Touches items touched) where
  -- a path is touched where it is among the touched ones
  there : (path : List (List ℕ)) → is_among touched path ≡ is_among (touched_by (items_of writes)) path
  there path = touches (eq_by_cmp path_cmp path) ∙ ap (λ (i : Items). is_among (touched_by i) path) same

  -- where the search finds none, none is locked
  pub none_locked : find (is_read_only host) touched ≡ None → (path : List (List ℕ)) → IsLocked host writes path → ⊥
  none_locked none path locked =
      let among = among_contained touched path (there path ∙ locked.touched) in
      false≢true (sym (find_none (is_read_only host) touched path none among) ∙ locked.locked)

  -- what it finds is the least
  pub least_locked : IsStrictlySortedBy path_cmp touched → (path : List (List ℕ)) → find (is_read_only host) touched ≡ Some path
      → IsLeastFor (IsLocked host writes) path
  least_locked sorted path found =
      let at = find_some (is_read_only host) touched path found in
      record {
        holds = record { touched = sym (there path) ∙ contained_among touched path at.0; locked = at.1 };
        least = λ other locked.
            find_least (λ p. p) (is_read_only host) touched path (paths_ascend touched sorted) found other
            (among_contained touched other (there other ∙ locked.touched)) locked.locked;
      }

-- a proper prefix of a path is a prefix of its directory, and the other way round
above_parent : (at path : List (List ℕ)) → is_proper_prefix at path ≡ true → is_prefix at (parent path) ≡ true
above_parent at path proper =
    let first = (proper_first at path).0 proper in
    prefix_take (length path - 1) at path (and_parts (is_prefix at path) (not (is_prefix path at)) proper).0 (omega (arith, first.1))

parent_above : (at path : List (List ℕ)) → path ≢ [] → is_prefix at (parent path) ≡ true → is_proper_prefix at path ≡ true
parent_above at path below above =
    let whole = prefix_trans at (parent path) path above (parent_prefix path) in
    let long = length-parent path (some_name path below) in
    let short = prefix_short at (parent path) above in
    and_from (is_prefix at path) (not (is_prefix path at)) whole (ap not (is_false (is_prefix path at) (λ back. absurd (omega (arith, prefix_short path at back, long, short)))))
  where
    is_false : (b : Bool) → (b ≡ true → ⊥) → b ≡ false
    is_false true never = absurd (never refl)
    is_false false never = refl

-- the directories of paths
abbrev pub parents : List (List (List ℕ)) → List (List (List ℕ))
parents paths = map parent paths

parent_among : (paths : List (List (List ℕ))) (path : List (List ℕ)) → Contains paths path → Contains (parents paths) (parent path)
parent_among [] path among = absurd (none_contained path among)
parent_among (p ∷ paths) path among = elim (contains_cases p path paths among) [
  | inl one ↦ subst (λ q. Contains (parents (p ∷ paths)) (parent q)) one (here (parent p) (parents paths))
  | inr more ↦ later (parent p) (parent path) (parents paths) (parent_among paths path more)
]

among_parent : (paths : List (List (List ℕ))) (at : List (List ℕ)) → Contains (parents paths) at → (path : List (List ℕ)) × Contains paths path × (parent path ≡ at)
among_parent [] at among = absurd (none_contained at among)
among_parent (p ∷ paths) at among = elim (contains_cases (parent p) at (parents paths) among) [
  | inl one ↦ (p, here p paths, one)
  | inr more ↦ let found = among_parent paths at more in (found.0, later p found.0 paths found.1, found.2)
]

targets_are : (arrivals : List Arrival) → map (λ (arrival : Arrival). arrival.target) arrivals ≡ parents (map arrives_at arrivals)
targets_are [] = refl
targets_are (arrival ∷ arrivals) = λ i. sym (parent_child arrival.target arrival.name) i ∷ targets_are arrivals i

link_parents : (links : List CurrentLink) → map (λ (link : CurrentLink). parent link.path) links ≡ parents (map (λ (link : CurrentLink). link.path) links)
link_parents [] = refl
link_parents (link ∷ links) = ap (λ (ps : List (List (List ℕ))). parent link.path ∷ ps) (link_parents links)

-- the paths of what is written
abbrev pub written_paths : Draft → List (List (List ℕ))
written_paths draft = map arrives_at draft.arrivals.items ++ map (λ (link : CurrentLink). link.path) draft.links.items

pub written_are : (draft : Draft) (items : Items) → paths_of (written_pieces (draft_writes draft items)) ≡ written_paths draft
written_are draft items =
    map-append (λ (piece : Piece HeldFile). piece.path) (map arrival_piece draft.arrivals.items) (map current_piece draft.links.items)
    ∙ (λ i. arrival_paths draft.arrivals.items i ++ link_paths draft.links.items i)

directories_are : (draft : Draft) → directories_of draft ≡ parents (written_paths draft)
directories_are draft =
    (λ i. targets_are draft.arrivals.items i ++ link_parents draft.links.items i)
    ∙ sym (map-append parent (map arrives_at draft.arrivals.items) (map (λ (link : CurrentLink). link.path) draft.links.items))

-- a resource is written below the root
child_below : (target : List (List ℕ)) (name : List ℕ) → target ++ name ∷ [] ≢ []
child_below [] name = λ is. cc is
child_below (n ∷ target) name = λ is. cc is

pub arrivals_below : (arrivals : List Arrival) → AllByRecursion (λ path. path ≢ []) (map arrives_at arrivals)
arrivals_below [] = tt
arrivals_below (arrival ∷ arrivals) = (child_below arrival.target arrival.name, arrivals_below arrivals)

links_below : (links : List CurrentLink) → AllByRecursion IsSet links → AllByRecursion (λ path. path ≢ []) (map (λ (link : CurrentLink). link.path) links)
links_below [] all = tt
links_below (link ∷ links) all = (all.0.path, links_below links all.1)

pub written_below : (draft : Draft) → IsSoundDraft draft → AllByRecursion (λ path. path ≢ []) (written_paths draft)
written_below draft sound =
    all_append (λ path. path ≢ []) (map arrives_at draft.arrivals.items) (map (λ (link : CurrentLink). link.path) draft.links.items)
    (arrivals_below draft.arrivals.items) (links_below draft.links.items sound.set)

some_entry : (o : Option (Entry HeldFile)) → is_non_directory_at o ≡ true → (e : Entry HeldFile) × (o ≡ Some e) × (not (is_directory e) ≡ true)
some_entry None non = absurd (false≢true non)
some_entry (Some e) non = (e, refl, non)

module _ (host : Host) (draft : Draft) (items : Items) (sound : IsSoundDraft draft) (tree : IsTree host.root) where
  -- an entry that is no directory and stands above what is written is found
  blocks : (at : List (List ℕ)) → IsBlocking host (draft_writes draft items) at
      → (e : Entry HeldFile) × Contains host.root (at, e) × (is_blocking (directories_of draft) (at, e) ≡ true)
  blocks at blocking =
      let entry = some_entry (lookup host.root at) blocking.stands in
      let among = among_contained (written_paths draft) blocking.path (ap (λ ps. is_among ps blocking.path) (sym (written_are draft items)) ∙ blocking.written) in
      let directory = subst (λ ds. Contains ds (parent blocking.path)) (sym (directories_are draft)) (parent_among (written_paths draft) blocking.path among) in
      let below = passed (is_prefix at) (directories_of draft) (parent blocking.path) directory (above_parent at blocking.path blocking.above) in
      (entry.0, found_contained host.root at entry.0 entry.1, and_from (not (is_directory entry.0)) (has_below (directories_of draft) at) entry.2 below)

  -- and what is found is such an entry
  found_blocks : (pair : List (List ℕ) × Entry HeldFile) → Contains host.root pair → is_blocking (directories_of draft) pair ≡ true
      → IsBlocking host (draft_writes draft items) pair.0
  found_blocks pair among is =
      let parts = and_parts (not (is_directory pair.1)) (has_below (directories_of draft) pair.0) is in
      let directory = passer (is_prefix pair.0) (directories_of draft) parts.1 in
      let path = among_parent (written_paths draft) directory.0 (subst (λ ds. Contains ds directory.0) (directories_are draft) directory.1) in
      let stands = contained_found host.root pair.0 pair.1 (entries_ascend host.root tree.sorted) among in
      record {
        path = path.0;
        written = ap (λ ps. is_among ps path.0) (written_are draft items) ∙ contained_among (written_paths draft) path.0 path.1;
        above = parent_above pair.0 path.0 (all_contained (λ p. p ≢ []) (written_paths draft) path.0 (written_below draft sound) path.1)
            (ap (is_prefix pair.0) path.2 ∙ directory.2);
        stands = ap is_non_directory_at stands ∙ parts.0;
      }

  no_pair : (found : Option (List (List ℕ) × Entry HeldFile)) → option_map path_of found ≡ None → found ≡ None
  no_pair None none = refl
  no_pair (Some pair) none = absurd (none-some pair.0 (sym none))

  some_pair : (found : Option (List (List ℕ) × Entry HeldFile)) (at : List (List ℕ)) → option_map path_of found ≡ Some at
      → (e : Entry HeldFile) × (found ≡ Some (at, e))
  some_pair None at some = absurd (none-some at some)
  some_pair (Some pair) at some = (pair.1, ap (λ p. Some (p, pair.1)) (same_Some pair.0 at some))

  pub none_blocking : least_blocking host.root (directories_of draft) ≡ None → (at : List (List ℕ)) → IsBlocking host (draft_writes draft items) at → ⊥
  none_blocking none at blocking =
      let one = blocks at blocking in
      let gone = no_pair (find (is_blocking (directories_of draft)) host.root) none in
      false≢true (sym (find_none (is_blocking (directories_of draft)) host.root (at, one.0) gone one.1) ∙ one.2)

  pub least_blocks : (at : List (List ℕ)) → least_blocking host.root (directories_of draft) ≡ Some at → IsLeastFor (IsBlocking host (draft_writes draft items)) at
  least_blocks at some =
      let pair = some_pair (find (is_blocking (directories_of draft)) host.root) at some in
      let is = find_some (is_blocking (directories_of draft)) host.root (at, pair.0) pair.1 in
      record {
        holds = found_blocks (at, pair.0) is.0 is.1;
        least = λ other blocking.
            let one = blocks other blocking in
            find_least path_of (is_blocking (directories_of draft)) host.root (at, pair.0) (entries_ascend host.root tree.sorted) pair.1 (other, one.0) one.1 one.2;
      }
