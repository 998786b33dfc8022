-- The host with an image attached is valid, and its files are those of the host from which it was attached.
use Rattle.std.proofs.Common.{◌≡◌, ℕ, ◌+◌, ◌≤◌, Bool, true, false, not, ◌||◌, ◌&&◌, if◌then◌else◌, List, [], ◌∷◌, drop, length, Option, Some, None, inl, inr, refl, sym, ap, ◌∙◌, subst, arith}
use Rattle.std.specs.Prelude.{Contains, nat_lt}
use Rattle.std.specs.List.{AllByRecursion, flat_map, list_any}
use Rattle.std.specs.List.Sorted.{IsStrictlySortedBy}
use Rattle.std.specs.Ordering.{eq_by_cmp}
use Rattle.std.proofs.lemmas.Bool.{ltb-false, or_parts}
use Rattle.std.proofs.lemmas.Option.{none-some, same_Some}
use Rattle.ext_attributes.specs.Attributes.{IsOfFile, IsOwner, OfFile, of_mode}
use Rattle.ext_attributes.proofs.ForCallers.{mode_in_range, plain_in_range, root_in_range}
use Rattle.ext_text.specs.Path.{are_related, is_prefix, is_proper_prefix, path_cmp}
use Rattle.ext_text.specs.SortedPaths.{covers, is_among, meets}
use Rattle.ext_text.specs.declared.which.Which.TheVariants as limits
use Rattle.ext_tree.specs.EntryLine.{IsWritable}
use Rattle.ext_tree.specs.Fields.{IsStamp}
use Rattle.ext_tree.specs.Graft.{made as made_directory, or_made}
use Rattle.ext_tree.specs.Refusals.{is_root}
use Rattle.ext_tree.specs.Tree.{Entries, lookup, most_entries}
use Rattle.ext_tree.specs.declared.entry.Entry.{Entry}
use Rattle.ext_tree.specs.declared.entry.Entry.TheVariants.{Dir, Opaque, File, Link, Hide}
use Rattle.ext_host.specs.Drawn.{AreDrawnFrom, HasFile, trees_of}
use Rattle.ext_host.specs.Held.{HeldFile}
use Rattle.ext_host.specs.Planning.{IsPlannedHost}
use Rattle.ext_host.specs.Touch.{untouched_all}
use Rattle.ext_host.specs.Valid.{AreInRange, IsValidHost, all_bytes, held_form, most_bytes}
use Rattle.ext_host.specs.declared.body.Body.TheVariants.{Kept}
use Rattle.ext_host.specs.declared.home.Home.{Home}
use Rattle.ext_host.specs.declared.host.Host.{Host}
use Rattle.ext_host.specs.declared.past.Past.{Past}
use Rattle.ext_updated.specs.Pieces.{is_above, paths_of, piece_at}
use Rattle.ext_updated.specs.Updated.{IsUpdated}
use Rattle.ext_updated.specs.declared.piece.Piece.{Piece}
use Rattle.ext_updated.proofs.ForCallers.{covering}
use Rattle.ext_attached.proofs.ForCallers.{SameOutside, changed_is_drawn, changed_is_valid, unmet_uncovered}
use Rattle.ext_added.specs.Added.{is_service, made_attributes, pieces_of}
use Rattle.ext_added.specs.Entries.{IsAddedEntry, IsAddedPiece, IsMadeEntry}
use Rattle.ext_added.specs.Tops.{FitsAttaching, tops_of}
use Rattle.ext_added.specs.declared.ask.Ask.{Ask}
use Rattle.ext_added.specs.declared.attaching.Attaching.{Attaching}
use Rattle.ext_added.proofs.ForCallers.{pieces_added, tops_fit}
use Rattle.ext_port.specs.Given.{HasPaths, IsHostFile, IsSoundMade}
use Rattle.ext_port.specs.Limits.{first_limit, most_file, new_bytes}
use Rattle.ext_port.specs.NextHost.{attached_host, attachment_of, with_attachment}
use Rattle.ext_port.proofs.AttachmentLemmas.{none_root, paths_ascend, with_one_more}
use Rattle.ext_port.proofs.ContainLemmas.{all_contained, all_hold, contains_cases, found_holds, here, later, none_contained}

-- what holds of a made directory, of each entry that stood, and of each that is put holds of each entry that is to be seen
module _ (P : Entry HeldFile → Type 0) (old new : Entries HeldFile) (pieces : List (Piece HeldFile)) (updated : IsUpdated old [] pieces new) (makes : P made_directory)
    (had : (q : List (List ℕ)) (e : Entry HeldFile) → lookup old q ≡ Some e → P e)
    (puts : (piece : Piece HeldFile) → Contains pieces piece → P piece.top × ((q : List (List ℕ)) (e : Entry HeldFile) → lookup piece.part q ≡ Some e → P e)) where
  made_had : (q : List (List ℕ)) (e : Entry HeldFile) (found : Option (Entry HeldFile)) → ((f : Entry HeldFile) → found ≡ Some f → P f) → or_made found ≡ Some e → P e
  made_had q e None holds is = subst P (same_Some made_directory e is) makes
  made_had q e (Some f) holds is = holds e is

  piece_had : (piece : Piece HeldFile) (rest : List (List ℕ)) (e : Entry HeldFile) → Contains pieces piece → piece_at piece rest ≡ Some e → P e
  piece_had piece [] e at is = subst P (same_Some piece.top e is) (puts piece at).0
  piece_had piece (n ∷ rest) e at is = (puts piece at).1 (n ∷ rest) e is

  pub entry_holds : (q : List (List ℕ)) (e : Entry HeldFile) → lookup new q ≡ Some e → P e
  entry_holds q e found = elim (covers (paths_of pieces) q) as (λ b. covers (paths_of pieces) q ≡ b → P e) [
    | true ↦ λ covered.
        let at = covering pieces q covered in
        piece_had at.0 (drop (length at.0.path) q) e at.1 (sym (updated.put at.0 (drop (length at.0.path) q) at.1) ∙ ap (lookup new) (sym at.2) ∙ found)
    | false ↦ λ outside. elim (is_above pieces q) as (λ b. is_above pieces q ≡ b → P e) [
      | true ↦ λ above. made_had q e (lookup old q) (λ f is. had q f is) (sym (updated.above q outside above) ∙ found)
      | false ↦ λ aside. had q e (sym (updated.elsewhere q outside aside) ∙ found)
    ] refl
  ] refl

-- where no limit is passed
pub record IsWithinAll (size : ℕ) (root lower : Entries HeldFile) : Type 0 where
  pub entries : length root + length lower ≤ most_entries
  pub file : size ≤ most_file
  pub bytes : all_bytes root + all_bytes lower ≤ most_bytes

pub none_passed : (size : ℕ) (root lower : Entries HeldFile) → first_limit size root lower ≡ None → IsWithinAll size root lower
none_passed size root lower none =
    elim (nat_lt most_entries (length root + length lower)) as (λ b. nat_lt most_entries (length root + length lower) ≡ b
    → (if b then Some limits.Entries else if nat_lt most_file size then Some limits.File else if nat_lt most_bytes (all_bytes root + all_bytes lower) then Some limits.Bytes else None) ≡ None → IsWithinAll size root lower) [
      | true ↦ λ _ some. absurd (none-some limits.Entries (sym some))
      | false ↦ λ few. elim (nat_lt most_file size) as (λ b. nat_lt most_file size ≡ b
          → (if b then Some limits.File else if nat_lt most_bytes (all_bytes root + all_bytes lower) then Some limits.Bytes else None) ≡ None → IsWithinAll size root lower) [
            | true ↦ λ _ some. absurd (none-some limits.File (sym some))
            | false ↦ λ small. elim (nat_lt most_bytes (all_bytes root + all_bytes lower)) as (λ b. nat_lt most_bytes (all_bytes root + all_bytes lower) ≡ b
                → (if b then Some limits.Bytes else None) ≡ None → IsWithinAll size root lower) [
                  | true ↦ λ _ some. absurd (none-some limits.Bytes (sym some))
                  | false ↦ λ less _. record { entries = ltb-false _ _ few; file = ltb-false _ _ small; bytes = ltb-false _ _ less }
                ] refl
          ] refl
    ] refl none

module _ (start : Host) (ask : Ask) (made : Attaching) (image tree root : Entries HeldFile) (tops : List (List (List ℕ)))
    (valid : IsValidHost start) (sound : IsSoundMade start made image tree) (fits : FitsAttaching made)
    (updated : IsUpdated start.root [] (pieces_of made image tree) root) (has : HasPaths (tops_of made) tops) where
  -- the pieces are put at the tops
  paths_are : paths_of (pieces_of made image tree) ≡ tops_of made
  paths_are = tops_fit made image tree fits

  meets_tops : (q : List (List ℕ)) → meets tops q ≡ meets (tops_of made) q
  meets_tops q = has (λ p. are_related p q)

  unrelated_above : (ps : List (List (List ℕ))) (q : List (List ℕ)) → meets ps q ≡ false → list_any (λ p. is_proper_prefix q p) ps ≡ false
  unrelated_above [] q out = refl
  unrelated_above (p ∷ ps) q out =
      let parts = or_parts (are_related p q) (meets ps q) out in
      let own = or_parts (is_prefix p q) (is_prefix q p) parts.0 in
      (λ i. (own.1 i && not (is_prefix p q)) || unrelated_above ps q parts.1 i)

  -- what is related to no top stays
  pub same_outside : SameOutside tops start.root root
  same_outside q out =
      let apart = sym (meets_tops q) ∙ out in
      updated.elsewhere q (ap (λ ps. covers ps q) paths_are ∙ unmet_uncovered (tops_of made) q apart)
      (ap (λ ps. not (is_root q) && list_any (λ p. is_proper_prefix q p) ps) paths_are
      ∙ ap (λ b. not (is_root q) && b) (unrelated_above (tops_of made) q apart)
      ∙ and_none (not (is_root q)))
    where
      and_none : (b : Bool) → (b && false) ≡ false
      and_none true = refl
      and_none false = refl

  files_added : AllByRecursion (IsAddedPiece made image tree) (pieces_of made image tree)
  files_added = pieces_added made image tree sound.well sound.unit_files fits

  module _ (size : IsWithinAll (new_bytes made) root start.lower) where
    -- stamps of what is added are in range
    stamp_of_host : (held : HeldFile) → IsHostFile start held → IsStamp held.stamp
    stamp_of_host held (inl seen) = (found_holds (IsWritable held_form) start.root seen.path (File seen.attributes held) valid.present.limits.root seen.stands).1
    stamp_of_host held (inr under) = (found_holds (IsWritable held_form) start.lower under.path (File under.attributes held) valid.present.limits.lower under.stands).1

    own_stamp : list_any is_service made.units ≡ true → IsStamp made.own.stamp
    own_stamp some = record { size = subst (λ b. (if b then made.own.stamp.size else 0) ≤ most_file) some size.file; digest = sound.digest }

    attributes_in_range : (attributes : OfFile) → attributes ≡ made_attributes → IsOfFile attributes
    attributes_in_range attributes is = subst IsOfFile (sym is) (plain_in_range (of_mode 420) (mode_in_range 420 (omega arith)))

    made_range : (e : Entry HeldFile) → IsMadeEntry made image tree e → IsWritable held_form e
    made_range (Dir attributes) is = is
    made_range (Opaque attributes) is = absurd is
    made_range (File attributes held) (made_is, inl own) = (attributes_in_range attributes made_is, subst (λ (h : HeldFile). IsStamp h.stamp) (sym own.0) (own_stamp own.1))
    made_range (File attributes held) (made_is, inr (inl profile)) =
        (attributes_in_range attributes made_is, subst (λ (h : HeldFile). IsStamp h.stamp) (sym profile) (stamp_of_host made.profile.file sound.profile))
    made_range (File attributes held) (made_is, inr (inr file)) = (attributes_in_range attributes made_is, stamp_of_host held (sound.tree_files held file))
    made_range (Link owner target) is = (subst IsOwner (sym is.0) root_in_range, is.1)
    made_range Hide is = absurd is

    added_range : (e : Entry HeldFile) → IsAddedEntry made image tree e → IsWritable held_form e
    added_range e (inl is) = made_range e is
    added_range e (inr of_image) = sound.image_range of_image.0 e of_image.1

    root_range : AreInRange root
    root_range =
        all_hold (IsWritable held_form) root updated.tree.sorted
        (entry_holds (IsWritable held_form) start.root root (pieces_of made image tree) updated (mode_in_range 493 (omega arith))
        (λ q e found. found_holds (IsWritable held_form) start.root q e valid.present.limits.root found)
        (λ piece at.
        let is = all_contained (IsAddedPiece made image tree) (pieces_of made image tree) piece files_added at in
        (added_range piece.top is.top, λ q e found. added_range e (is.part q e found))))

    -- a file that a store keeps is one of the host's
    abbrev FromHost : Entry HeldFile → Type 0
    FromHost e = (attributes : OfFile) (held : HeldFile) (home : Home) → e ≡ File attributes held → held.body ≡ Kept home → IsHostFile start held

    file_from : (attributes : OfFile) (held : HeldFile) → ((home : Home) → held.body ≡ Kept home → IsHostFile start held) → FromHost (File attributes held)
    file_from attributes held from m h home is kept =
        let same : held ≡ h = cc is in
        subst (IsHostFile start) same (from home (ap (λ (x : HeldFile). x.body) same ∙ kept))

    own_not : (held : HeldFile) (home : Home) → held ≡ made.own → held.body ≡ Kept home → ⊥
    own_not held home own kept = let body = sound.own.body in cc (ap (λ (x : HeldFile). x.body) own, kept, body)

    made_from : (e : Entry HeldFile) → IsMadeEntry made image tree e → FromHost e
    made_from (Dir m) is = λ attributes held home same kept. cc same
    made_from (Opaque m) is = absurd is
    made_from (File m h) (made_is, inl own) = file_from m h (λ home kept. absurd (own_not h home own.0 kept))
    made_from (File m h) (made_is, inr (inl profile)) = file_from m h (λ home kept. subst (IsHostFile start) (sym profile) sound.profile)
    made_from (File m h) (made_is, inr (inr file)) = file_from m h (λ home kept. sound.tree_files h file)
    made_from (Link owner t) is = λ attributes held home same kept. cc same
    made_from Hide is = absurd is

    added_from : (e : Entry HeldFile) → IsAddedEntry made image tree e → FromHost e
    added_from e (inl is) = made_from e is
    added_from e (inr of_image) = λ attributes held home is kept.
        sound.image_files held (record { path = of_image.0; attributes = attributes; stands = of_image.1 ∙ ap (λ (x : Entry HeldFile). Some x) is })

    root_from : (q : List (List ℕ)) (e : Entry HeldFile) → lookup root q ≡ Some e → FromHost e
    root_from =
        entry_holds FromHost start.root root (pieces_of made image tree) updated (λ attributes held home is kept. cc is)
        (λ q e found attributes held home is kept. inl (record { path = q; attributes = attributes; stands = found ∙ ap (λ (x : Entry HeldFile). Some x) is }))
        (λ piece at.
        let is = all_contained (IsAddedPiece made image tree) (pieces_of made image tree) piece files_added at in
        (added_from piece.top is.top, λ q e found. added_from e (is.part q e found)))

    only_tree : (es other : Entries HeldFile) → Contains (es ∷ []) other → other ≡ es
    only_tree es other at = elim (contains_cases es other [] at) [ inl same ↦ sym same | inr more ↦ absurd (none_contained other more) ]

    root_drawn : AreDrawnFrom (trees_of start) (root ∷ [])
    root_drawn held home kept file =
        let f = subst (λ t. HasFile t held) (only_tree root file.tree file.among) file.file in
        elim (root_from f.path (File f.attributes held) f.stands f.attributes held home refl kept) [
          | inl seen ↦ record { tree = start.root; among = here start.root (start.lower ∷ flat_map (λ (p : Past). p.root ∷ p.lower ∷ []) start.past); file = seen }
          | inr under ↦ record {
            tree = start.lower;
            among = later start.root start.lower (start.lower ∷ flat_map (λ (p : Past). p.root ∷ p.lower ∷ []) start.past) (here start.lower (flat_map (λ (p : Past). p.root ∷ p.lower ∷ []) start.past));
            file = under;
          }
        ]

    -- the host with the attachment
    pub next_is_planned : IsStrictlySortedBy path_cmp tops → is_among (tops_of made) [] ≡ false → IsPlannedHost start (attached_host start tops root (attachment_of ask made.place tops))
    next_is_planned order below_root =
        let attachment = attachment_of ask made.place tops in
        let attached = with_attachment attachment start.attached in
        record {
          valid = changed_is_valid start tops root attached same_outside valid
              (record { range = root_range; entries = size.entries; bytes = size.bytes })
              (with_one_more attachment start.attached
              (record { place = sound.place; added = none_root tops (has (λ p. eq_by_cmp path_cmp [] p) ∙ below_root); order = paths_ascend tops order })
              valid.present.attached);
          drawn = changed_is_drawn start root attached (untouched_all tops start.kept) root_drawn;
        }
