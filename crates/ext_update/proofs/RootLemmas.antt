-- The entries of the tree that is to be seen: their ranges, and where their files come from.
use Rattle.std.proofs.Common.{◌≡◌, ℕ, ◌+◌, ◌≤◌, Bool, true, false, if◌then◌else◌, List, [], ◌∷◌, ◌++◌, drop, length, Option, Some, None, refl, sym, ap, ◌∙◌, subst, arith}
use Rattle.std.specs.Prelude.{Contains}
use mathlib.Core.Logic.{inl, inr}
use Rattle.std.specs.List.{AllByRecursion, flat_map}
use Rattle.std.proofs.lemmas.Bool.{cases_lt}
use Rattle.std.proofs.lemmas.Option.{none-some, same_Some}
use Rattle.ext_attributes.specs.Attributes.{OfFile}
use Rattle.ext_attributes.proofs.ForCallers.{mode_in_range}
use Rattle.ext_text.specs.Path.{is_prefix}
use Rattle.ext_text.specs.SortedPaths.{covers}
use Rattle.ext_tree.specs.EntryLine.{IsWritable}
use Rattle.ext_tree.specs.Graft.{made, or_made}
use Rattle.ext_tree.specs.Tree.{Entries, lookup, most_entries}
use Rattle.ext_tree.specs.declared.entry.Entry.{Entry}
use Rattle.ext_tree.specs.declared.entry.Entry.TheVariants.{Dir, Opaque, File, Link, Hide}
use Rattle.ext_tree.proofs.ForCallers.{prefix_split}
use Rattle.ext_host.specs.Drawn.{AreDrawnFrom, HasFile, IsDrawnFrom, trees_of}
use Rattle.ext_host.specs.Held.{HeldFile}
use Rattle.ext_host.specs.Limits.{passed_limit}
use Rattle.ext_host.specs.Valid.{AreInRange, all_bytes, held_form, most_bytes}
use Rattle.ext_host.specs.declared.body.Body.TheVariants.{Kept}
use Rattle.ext_host.specs.declared.home.Home.{Home}
use Rattle.ext_host.specs.declared.host.Host.{Host}
use Rattle.ext_host.specs.declared.manifest.Manifest.{Manifest}
use Rattle.ext_host.specs.declared.past.Past.{Past}
use Rattle.ext_host.proofs.ForCallers.{drawn_one_by_one, too_large, too_many, trees_are_drawn}
use Rattle.ext_installed.proofs.ForCallers.{contains_cases, none_contained}
use Rattle.ext_updated.specs.Pieces.{is_above, left_at, paths_of, piece_at}
use Rattle.ext_updated.specs.Updated.{IsUpdated}
use Rattle.ext_updated.specs.declared.piece.Piece.{Piece}
use Rattle.ext_update.specs.Drafts.{IsNewEntry, IsNewPiece, NotKept}
use Rattle.ext_update.proofs.FindLemmas.{all_contained, contained_found, entries_ascend, found_contained, here, later, passer}
use Rattle.ext_update.proofs.NextLemmas.{each_contained}

-- the piece of a path
piece_of : (pieces : List (Piece HeldFile)) (p : List (List ℕ)) → Contains (paths_of pieces) p → (piece : Piece HeldFile) × Contains pieces piece × (piece.path ≡ p)
piece_of [] p at = absurd (none_contained p at)
piece_of (x ∷ xs) p at = elim (contains_cases x.path p (paths_of xs) at) [
  | inl same ↦ (x, here x xs, same)
  | inr more ↦ let found = piece_of xs p more in (found.0, later x found.0 xs found.1, found.2)
]

module _ (P : Entry HeldFile → Type 0) (old new : Entries HeldFile) (removed : List (List (List ℕ))) (pieces : List (Piece HeldFile))
    (updated : IsUpdated old removed pieces new) (makes : P made)
    (had : (q : List (List ℕ)) (e : Entry HeldFile) → lookup old q ≡ Some e → P e)
    (puts : (piece : Piece HeldFile) → Contains pieces piece → P piece.top × ((q : List (List ℕ)) (e : Entry HeldFile) → lookup piece.part q ≡ Some e → P e)) where
  left_had : (q : List (List ℕ)) (e : Entry HeldFile) (b : Bool) → (if b then None else lookup old q) ≡ Some e → P e
  left_had q e true found = absurd (none-some e found)
  left_had q e false found = had q e found

  made_had : (q : List (List ℕ)) (e : Entry HeldFile) (found : Option (Entry HeldFile)) → ((f : Entry HeldFile) → found ≡ Some f → P f) → or_made found ≡ Some e → P e
  made_had q e None holds is = subst P (same_Some made e is) makes
  made_had q e (Some f) holds is = holds e is

  piece_had : (piece : Piece HeldFile) (rest : List (List ℕ)) (e : Entry HeldFile) → Contains pieces piece → piece_at piece rest ≡ Some e → P e
  piece_had piece [] e at is = subst P (same_Some piece.top e is) (puts piece at).0
  piece_had piece (n ∷ rest) e at is = (puts piece at).1 (n ∷ rest) e is

  -- what holds of a made directory, of each entry that stood, and of each that is put holds of each entry that is to be seen
  pub entry_holds : (q : List (List ℕ)) (e : Entry HeldFile) → lookup new q ≡ Some e → P e
  entry_holds q e found = elim (covers (paths_of pieces) q) as (λ b. covers (paths_of pieces) q ≡ b → P e) [
    | true ↦ λ covered.
        let p = passer (λ r. is_prefix r q) (paths_of pieces) covered in
        let piece = piece_of pieces p.0 p.1 in
        let split : q ≡ piece.0.path ++ drop (length p.0) q = prefix_split p.0 q p.2 ∙ ap (λ r. r ++ drop (length p.0) q) (sym piece.2) in
        piece_had piece.0 (drop (length p.0) q) e piece.1
        (sym (updated.put piece.0 (drop (length p.0) q) piece.1) ∙ ap (λ r. lookup new r) (sym split) ∙ found)
    | false ↦ λ outside. elim (is_above pieces q) as (λ b. is_above pieces q ≡ b → P e) [
      | true ↦ λ above. made_had q e (left_at old removed q) (λ f is. left_had q f (covers removed q) is) (sym (updated.above q outside above) ∙ found)
      | false ↦ λ aside. left_had q e (covers removed q) (sym (updated.elsewhere q outside aside) ∙ found)
    ] refl
  ] refl

module _ (host : Host) (root : Entries HeldFile) (removed : List (List (List ℕ))) (pieces : List (Piece HeldFile))
    (updated : IsUpdated host.root removed pieces root) (new : AllByRecursion IsNewPiece pieces) where
  -- the tree is in the ranges of a host
  pub root_in_range : AreInRange host.root → AreInRange root
  root_in_range range =
      each_contained (λ x. IsWritable held_form x.1) root (λ x at.
      entry_holds (IsWritable held_form) host.root root removed pieces updated (mode_in_range 493 (omega arith))
      (λ q e found. all_contained (λ y. IsWritable held_form y.1) host.root (q, e) range (found_contained host.root q e found))
      (λ piece among.
      let is = all_contained IsNewPiece pieces piece new among in (
        is.top.range,
        λ q e found. (all_contained (λ (y : List (List ℕ) × Entry HeldFile). IsNewEntry y.1) piece.part (q, e) is.part (found_contained piece.part q e found)).range,
      ))
      x.0 x.1 (contained_found root x.0 x.1 (entries_ascend root updated.tree.sorted) at))

  -- a file that a store keeps is one of the host's
  abbrev FromHost : Entry HeldFile → Type 0
  FromHost e = (attributes : OfFile) (held : HeldFile) (home : Home) → e ≡ File attributes held → held.body ≡ Kept home → HasFile host.root held

  not_from : (e : Entry HeldFile) → NotKept e → FromHost e
  not_from (Dir m) not attributes held home is kept = cc is
  not_from (Opaque m) not attributes held home is kept = cc is
  not_from (File m h) not attributes held home is kept =
      let same : h ≡ held = cc is in
      absurd (not home (ap (λ (x : HeldFile). x.body) same ∙ kept))
  not_from (Link owner t) not attributes held home is kept = cc is
  not_from Hide not attributes held home is kept = cc is

  from_host : (q : List (List ℕ)) (e : Entry HeldFile) → lookup root q ≡ Some e → FromHost e
  from_host q e found =
      entry_holds FromHost host.root root removed pieces updated (not_from made tt)
      (λ r f stands attributes held home is kept. record { path = r; attributes = attributes; stands = stands ∙ ap (λ (x : Entry HeldFile). Some x) is })
      (λ piece among.
      let is = all_contained IsNewPiece pieces piece new among in (
        not_from piece.top is.top.new,
        λ r f stands. not_from f (all_contained (λ (y : List (List ℕ) × Entry HeldFile). IsNewEntry y.1) piece.part (r, f) is.part (found_contained piece.part r f stands)).new,
      ))
      q e found

  only_tree : (es tree : Entries HeldFile) → Contains (es ∷ []) tree → tree ≡ es
  only_tree es tree at = elim (contains_cases es tree [] at) [ inl same ↦ sym same | inr more ↦ absurd (none_contained tree more) ]

  root_drawn : AreDrawnFrom (trees_of host) (root ∷ [])
  root_drawn held home kept file =
      let f = subst (λ tree. HasFile tree held) (only_tree root file.tree file.among) file.file in
      record { tree = host.root; among = here host.root (host.lower ∷ flat_map (λ (p : Past). p.root ∷ p.lower ∷ []) host.past); file = from_host f.path (File f.attributes held) f.stands f.attributes held home refl kept }

  -- the host with the tree is drawn from the host
  pub next_is_drawn : (kept : List Manifest) → IsDrawnFrom host (record host { root = root; kept = kept })
  next_is_drawn kept =
      let past : List (Entries HeldFile) = flat_map (λ (p : Past). p.root ∷ p.lower ∷ []) host.past in
      drawn_one_by_one (trees_of host) (root ∷ host.lower ∷ past) (
        root_drawn,
        each_contained (λ es. AreDrawnFrom (trees_of host) (es ∷ [])) (host.lower ∷ past)
            (λ es at. trees_are_drawn (trees_of host) (es ∷ []) (later host.root es (host.lower ∷ past) at, tt)),
      )

-- trees that pass no limit are within both
pub within_limits : (root lower : Entries HeldFile) → passed_limit root lower ≡ None → (length root + length lower ≤ most_entries) × (all_bytes root + all_bytes lower ≤ most_bytes)
within_limits root lower none = elim (cases_lt most_entries (length root + length lower)) [
  | inl over ↦ absurd (none-some _ (sym none ∙ sym (too_many root lower over)))
  | inr few ↦ elim (cases_lt most_bytes (all_bytes root + all_bytes lower)) [
    | inl over ↦ absurd (none-some _ (sym none ∙ sym (too_large root lower few over)))
    | inr small ↦ (few, small)
  ]
]
