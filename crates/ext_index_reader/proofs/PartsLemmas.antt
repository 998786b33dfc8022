-- The parts of a host, or of a past tree, read and printed.
use Rattle.std.proofs.Common.{◌≡◌, ℕ, ◌+◌, ◌≤◌, true, false, cond, List, [], ◌∷◌, ◌++◌, length, Option, Some, None, IfSome, IsTrue, is_some, refl, sym, ap, ◌∙◌, subst, arith, codes, append_assoc}
use Rattle.std.specs.Prelude.{◌||◌, map}
use Rattle.std.proofs.lemmas.Bool.{false≢true}
use Rattle.std.specs.List.{AllByRecursion}
use Rattle.std.specs.Ordering.{eq_by_cmp}
use Rattle.ext_text.specs.Digest.{IsDigest}
use Rattle.ext_text.specs.Path.{IsPath, path_cmp}
use Rattle.ext_text.proofs.ForCallers.{all_weaker, same_path}
use Rattle.ext_tree.specs.EntryLine.{IsWritable}
use Rattle.ext_tree.specs.Tree.{Entries, IsTree, is_plain_entry, lookup}
use Rattle.ext_tree.specs.declared.entry.Entry.{Entry}
use Rattle.ext_tree.specs.declared.entry.Entry.TheVariants.{Dir, Opaque, File, Link, Hide}
use Rattle.ext_text.specs.Order.{paths_total}
use Rattle.ext_tree.proofs.ForCallers.{each_found, empty_tree}
use Rattle.ext_host.specs.Held.{HeldFile}
use Rattle.ext_host.specs.Host.{HostTree, is_in, merged_hierarchies}
use Rattle.ext_host.specs.Valid.{AreApart, AreAscending, AreAttachments, AreInRange, AreMerged, IsManifest, all_bytes, held_form}
use Rattle.ext_host.specs.declared.attachment.Attachment.{Attachment}
use Rattle.ext_host.specs.declared.manifest.Item.{Item}
use Rattle.ext_host.specs.declared.manifest.Manifest.{Manifest}
use Rattle.ext_index_lines.specs.Homed.{HasHomedLine, homed_form}
use Rattle.ext_index_lines.specs.Homes.{kept_entry}
use Rattle.ext_index_lines.specs.Lines.{may_tell, tells_owners}
use Rattle.ext_index_lines.specs.declared.homed.Homed.{Homed}
use Rattle.ext_index_lines.specs.declared.text_number.TextNumber.{TextNumber}
use Rattle.ext_index_reader.specs.Index.{merged_lines, section_lines, listed_tree_lines}
use Rattle.ext_index_reader.specs.Listed.{AreTold, IsListedTree, IsToldTree, IsWellFormedManifest, IsWellFormedTree}
use Rattle.ext_index_reader.specs.State.{after_parts, at_part, hierarchies_so_far, no_parts, row_of}
use Rattle.ext_index_reader.specs.Step.{most_count}
use Rattle.ext_index_reader.specs.declared.state.PartStage.TheVariants as parts
use Rattle.ext_index_reader.specs.declared.state.Parts.{Parts}
use Rattle.ext_index_reader.specs.declared.state.SoFar.{SoFar}
use Rattle.ext_index_reader.proofs.AttachmentLemmas.{attached_read, attached_run, counted_attachments, line_path}
use Rattle.ext_index_reader.proofs.FollowLemmas.{path_of}
use Rattle.ext_index_reader.proofs.ManifestLemmas.{IsListedItem, IsListedManifest, counted_manifests, kept_read, kept_run}
use Rattle.ext_index_reader.proofs.MergedLemmas.{confext_read, confext_run, sysext_read, sysext_run, with_parts}
use Rattle.ext_index_reader.proofs.RowLemmas.{AllAgree, LowerFacts, RootFacts, Row, lower_read, lower_run, noted_all, root_read, root_run, rows_of, with_roots}
use Rattle.ext_index_reader.proofs.SectionLemmas.{ToEnd}

-- what holds of each entry holds of what is found
pub all_found : (P : List (List ℕ) → Entry HeldFile → Type 0) (es : Entries HeldFile) (path : List (List ℕ)) (e : Entry HeldFile) → AllByRecursion (λ x. P x.0 x.1) es → lookup es path ≡ Some e → P path e
all_found P [] path e all found = absurd (let wrong : None ≡ Some e = found in cc)
all_found P (x ∷ es) path e all found =
    elim (eq_by_cmp path_cmp path x.0) as (λ b. eq_by_cmp path_cmp path x.0 ≡ b → cond b (Some x.1) (lookup es path) ≡ Some e → P path e) [
      | true ↦ λ tied here. let same : x.1 ≡ e = cc in subst (λ (p : List (List ℕ)). P p e) (sym (same_path path x.0 tied)) (subst (P x.0) same all.0)
      | false ↦ λ _ there. all_found P es path e all.1 there
    ] refl found

some_found : (P : List (List ℕ) → Type 0) (es : Entries HeldFile) (path : List (List ℕ)) → AllByRecursion (λ x. P x.0) es → IsTrue (is_some (lookup es path)) → P path
some_found P es path all some =
    elim (lookup es path) as (λ o. lookup es path ≡ o → IsTrue (is_some o) → P path) [
      | None ↦ λ _ h. absurd (false≢true h)
      | Some e ↦ λ found _. all_found (λ p _. P p) es path e all found
    ] refl some

-- a fact of mapped items as one of the list that is mapped to
pub all_map : {X Y : Type 0} (P : Y → Type 0) (f : X → Y) (xs : List X) → AllByRecursion (λ x. P (f x)) xs → AllByRecursion P (map f xs)
all_map P f [] all = tt
all_map P f (x ∷ xs) all = (all.0, all_map P f xs all.1)

-- and back
pub all_unmap : {X Y : Type 0} (P : Y → Type 0) (f : X → Y) (xs : List X) → AllByRecursion P (map f xs) → AllByRecursion (λ x. P (f x)) xs
all_unmap P f [] all = tt
all_unmap P f (x ∷ xs) all = (all.0, all_unmap P f xs all.1)

-- an entry that has a line is in range
in_range : (e : Entry Homed) → IsWritable homed_form e → IsWritable held_form (kept_entry e)
in_range (Dir attributes) is = is
in_range (Opaque attributes) is = is
in_range (File attributes file) is = (is.0, is.1.stamp)
in_range (Link owner target) is = is
in_range Hide is = tt

rows_in_range : (xs : List Row) → AllByRecursion HasHomedLine xs → AreInRange (rows_of xs)
rows_in_range xs lines = all_map (λ e. IsWritable held_form e.1) row_of xs (all_weaker HasHomedLine (λ (x : Row). IsWritable held_form (kept_entry x.1)) (λ x has. in_range x.1 has.writable) xs lines)

-- as the host has it, an entry tells what its line tells
plain_kept : (e : Entry Homed) → is_plain_entry (kept_entry e) ≡ is_plain_entry e
plain_kept (Dir attributes) = refl
plain_kept (Opaque attributes) = refl
plain_kept (File attributes file) = refl
plain_kept (Link owner target) = refl
plain_kept Hide = refl

told_kept : (text : TextNumber) (e : Entry Homed) → may_tell text (kept_entry e) ≡ may_tell text e
told_kept text e = ap (λ b. b || tells_owners text) (plain_kept e)

rows_told : (text : TextNumber) (xs : List Row) → AllByRecursion (λ (x : Row). IsTrue (may_tell text x.1)) xs → AreTold text (rows_of xs)
rows_told text [] told = tt
rows_told text (x ∷ xs) told = (told_kept text x.1 ∙ told.0, rows_told text xs told.1)

told_rows : (text : TextNumber) (xs : List Row) → AreTold text (rows_of xs) → AllByRecursion (λ (x : Row). IsTrue (may_tell text x.1)) xs
told_rows text [] told = tt
told_rows text (x ∷ xs) told = (sym (told_kept text x.1) ∙ told.0, told_rows text xs told.1)

regrouped : (a b c d f h rest : List (List ℕ)) → a ++ (b ++ (c ++ (d ++ (f ++ (h ++ rest))))) ≡ (a ++ (b ++ ((c ++ d) ++ (f ++ h)))) ++ rest
regrouped a b c d f h rest = sym (simp append_assoc)

-- a tree with these entries
abbrev pub tree_with : HostTree → List Row → List Row → HostTree
tree_with tree roots lowers = record tree { root = rows_of roots; lower = rows_of lowers }

-- what has been read after the parts
abbrev pub so_far_after : SoFar → HostTree → List Row → List Row → SoFar
so_far_after s tree roots lowers = record s {
  homes = noted_all (noted_all s.homes roots) lowers;
  parts = record {
    sysext = tree.sysext;
    confext = tree.confext;
    attached = tree.attached;
    kept = tree.kept;
    root = rows_of roots;
    lower = rows_of lowers;
    bytes = (0 + all_bytes (rows_of roots)) + all_bytes (rows_of lowers);
  };
}

-- what holds of a tree with these entries whose lines may stand
pub record IsPartsOf (g : ℕ) (s : SoFar) (tree : HostTree) (roots lowers : List Row) : Type 0 where
  pub formed : IsWellFormedTree (tree_with tree roots lowers)
  pub listed : IsListedTree (hierarchies_so_far s) (tree_with tree roots lowers)
  pub root_lines : AllByRecursion HasHomedLine roots
  pub lower_lines : AllByRecursion HasHomedLine lowers
  pub root_agree : AllAgree g s.homes roots
  pub lower_agree : AllAgree g (noted_all s.homes roots) lowers
  pub told : IsToldTree s.text (tree_with tree roots lowers)

pub record PartsRead (g : ℕ) (e s : SoFar) (lines : List (List ℕ)) : Type 0 where
  pub tree : HostTree
  pub roots : List Row
  pub lowers : List Row
  pub rest : List (List ℕ)
  pub text : lines ≡ section_lines g (tree_with tree roots lowers) ++ rest
  pub run : ToEnd g e (after_parts (so_far_after s tree roots lowers) s.whose) rest
  pub are : IsPartsOf g s tree roots lowers

-- the tree of merged names, attachments and manifests, with no entries
abbrev tree_of_records : Option (List (List ℕ)) → Option (List (List ℕ)) → List Attachment → List Manifest → HostTree
tree_of_records sysext confext attached kept = record { root = []; lower = []; sysext = sysext; confext = confext; attached = attached; kept = kept }

abbrev parts_of_records : HostTree → Parts
parts_of_records tree = record { sysext = tree.sysext; confext = tree.confext; attached = tree.attached; kept = tree.kept; root = []; lower = []; bytes = 0 }

-- the facts of both trees
listed_of : (g : ℕ) (e s : SoFar) (tree : HostTree) (roots lowers : List Row) → IfSome tree.sysext AreMerged → IfSome tree.confext AreMerged → AreAttachments tree.attached → AllByRecursion IsManifest tree.kept
    → AllByRecursion (λ (m : Manifest). AllByRecursion (λ (i : Item). i.path ≡ [] → ⊥) m.items) tree.kept → AreAscending path_cmp (map path_of tree.kept) → AreApart tree.kept
    → RootFacts g e (with_parts s (parts_of_records tree)) roots → LowerFacts g e (with_roots g e (with_parts s (parts_of_records tree)) roots) lowers → IsListedTree (hierarchies_so_far s) (tree_with tree roots lowers)
listed_of g e s tree roots lowers sysext confext attached manifests items order apart root lower = record {
  lower = λ path some. some_found (λ p. IsTrue (is_in (merged_hierarchies (hierarchies_so_far s) tree) p)) (rows_of lowers) path (all_map (λ x. IsTrue (is_in (merged_hierarchies (hierarchies_so_far s) tree) x.0)) row_of lowers lower.within) some;
  limits = record {
    root = rows_in_range roots root.lines;
    lower = rows_in_range lowers lower.lines;
    entries = let entries = lower.entries in omega arith;
    bytes = let bytes = lower.bytes in omega arith;
  };
  sysext = sysext;
  confext = confext;
  attached = attached;
  manifests = manifests;
  items = items;
  order = order;
  apart = apart;
}

pub parts_read : (g : ℕ) (e s : SoFar) (lines : List (List ℕ)) → ToEnd g e (at_part (with_parts s no_parts) parts.Sysext) lines → PartsRead g e s lines
parts_read g e s lines run =
    let one = sysext_read g e s lines run in
    let two = confext_read g e s one.names one.rest one.run in
    let three = attached_read g e s (record no_parts { sysext = one.names; confext = two.names }) two.rest two.run in
    let four = kept_read g e s (record no_parts { sysext = one.names; confext = two.names; attached = three.items }) three.rest three.run in
    let tree = tree_of_records one.names two.names three.items four.items in
    let s4 = with_parts s (parts_of_records tree) in
    let five = root_read g e s4 four.rest empty_tree (omega arith) (omega arith) four.run in
    let room = five.facts.entries in
    let six = lower_read g e (with_roots g e s4 five.items) five.rest empty_tree (omega arith) five.facts.bytes five.run in
    record {
      tree = tree;
      roots = five.items;
      lowers = six.items;
      rest = six.rest;
      text = text_of lines one.rest two.rest three.rest four.rest five.rest six.rest tree five.items six.items one.text two.text three.text four.text five.text six.text;
      run = six.run;
      are = record {
        formed = record { root = five.facts.tree; lower = six.facts.tree; sysext = one.formed; confext = two.formed; attached = three.formed; kept = four.formed };
        listed = listed_of g e s tree five.items six.items one.merged two.merged three.valid four.valid four.below four.order four.apart five.facts six.facts;
        root_lines = five.facts.lines;
        lower_lines = six.facts.lines;
        root_agree = five.facts.agree;
        lower_agree = six.facts.agree;
        told = record { root = rows_told s.text five.items five.facts.told; lower = rows_told s.text six.items six.facts.told };
      };
    }
  where
    text_of : (lines r1 r2 r3 r4 r5 rest : List (List ℕ)) (tree : HostTree) (roots lowers : List Row)
        → lines ≡ merged_lines (codes "sysext") tree.sysext ++ r1 → r1 ≡ merged_lines (codes "confext") tree.confext ++ r2 → r2 ≡ counted_attachments g e s no_parts tree.attached ++ r3 → r3 ≡ counted_manifests g e s no_parts tree.kept ++ r4
        → r4 ≡ listed_tree_lines (codes "root") g (rows_of roots) ++ r5 → r5 ≡ listed_tree_lines (codes "lower") g (rows_of lowers) ++ rest → lines ≡ section_lines g (tree_with tree roots lowers) ++ rest
    text_of lines r1 r2 r3 r4 r5 rest tree roots lowers t1 t2 t3 t4 t5 t6 =
        t1
        ∙ ap (λ r. merged_lines (codes "sysext") tree.sysext ++ r) (t2
        ∙ ap (λ r. merged_lines (codes "confext") tree.confext ++ r) (t3
        ∙ ap (λ r. counted_attachments g e s no_parts tree.attached ++ r) (t4
        ∙ ap (λ r. counted_manifests g e s no_parts tree.kept ++ r) (t5 ∙ ap (λ r. listed_tree_lines (codes "root") g (rows_of roots) ++ r) t6))))
        ∙ regrouped (merged_lines (codes "sysext") tree.sysext) (merged_lines (codes "confext") tree.confext) (counted_attachments g e s no_parts tree.attached) (counted_manifests g e s no_parts tree.kept) (listed_tree_lines (codes "root") g (rows_of roots)) (listed_tree_lines (codes "lower") g (rows_of lowers)) rest

-- counts that a line may tell
pub record AreFew (tree : HostTree) : Type 0 where
  pub sysext : IfSome tree.sysext (λ ns. length ns ≤ most_count)
  pub confext : IfSome tree.confext (λ ns. length ns ≤ most_count)
  pub attached : length tree.attached ≤ most_count
  pub added : AllByRecursion (λ (a : Attachment). length a.added ≤ most_count) tree.attached
  pub kept : length tree.kept ≤ most_count
  pub items : AllByRecursion (λ (m : Manifest). length m.items ≤ most_count) tree.kept

listed_items : (items : List Item) → AllByRecursion (λ (i : Item). IsPath i.path × IsDigest i.digest.0) items → AllByRecursion (λ (i : Item). i.path ≡ [] → ⊥) items → AllByRecursion IsListedItem items
listed_items [] formed some = tt
listed_items (i ∷ items) formed some = (record { path = line_path i.path formed.0.0 some.0; digest = formed.0.1 }, listed_items items formed.1 some.1)

listed_manifests : (kept : List Manifest) → AllByRecursion IsManifest kept → AllByRecursion IsWellFormedManifest kept → AllByRecursion (λ (m : Manifest). AllByRecursion (λ (i : Item). i.path ≡ [] → ⊥) m.items) kept → AllByRecursion (λ (m : Manifest). length m.items ≤ most_count) kept → AllByRecursion IsListedManifest kept
listed_manifests [] valid formed some few = tt
listed_manifests (m ∷ kept) valid formed some few =
    (record { valid = valid.0; formed = formed.0; items = listed_items m.items formed.0.items some.0; few = few.0 }, listed_manifests kept valid.1 formed.1 some.1 few.1)

-- the lines of parts that may stand lead on to what is read after them
pub parts_run : (g : ℕ) (e s : SoFar) (tree : HostTree) (roots lowers : List Row) (rest : List (List ℕ)) → IsPartsOf g s tree roots lowers → AreFew tree → ToEnd g e (after_parts (so_far_after s tree roots lowers) s.whose) rest
    → ToEnd g e (at_part (with_parts s no_parts) parts.Sysext) (section_lines g (tree_with tree roots lowers) ++ rest)
parts_run g e s tree roots lowers rest are few run =
    let listed = are.listed in
    let formed = are.formed in
    let s4 = with_parts s (parts_of_records tree) in
    let limits = listed.limits in
    let entries = limits.entries in
    let bytes = limits.bytes in
    let root_facts : RootFacts g e s4 roots = record { tree = formed.root; entries = omega arith; bytes = omega arith; lines = are.root_lines; agree = are.root_agree; told = told_rows s.text roots are.told.root } in
    let lower_facts : LowerFacts g e (with_roots g e s4 roots) lowers = record {
      tree = formed.lower;
      entries = omega arith;
      bytes = omega arith;
      lines = are.lower_lines;
      agree = are.lower_agree;
      told = told_rows s.text lowers are.told.lower;
      within = all_unmap (λ x. IsTrue (is_in (merged_hierarchies (hierarchies_so_far s) tree) x.0)) row_of lowers (each_there (rows_of lowers) formed.lower listed.lower);
    } in
    let six = lower_run g e (with_roots g e s4 roots) lowers rest lower_facts run in
    let five = root_run g e s4 roots _ root_facts six in
    let four = kept_run g e s (record no_parts { sysext = tree.sysext; confext = tree.confext; attached = tree.attached }) tree.kept _ listed.order listed.apart (listed_manifests tree.kept listed.manifests formed.kept listed.items few.items) few.kept five in
    let three = attached_run g e s (record no_parts { sysext = tree.sysext; confext = tree.confext }) tree.attached _ listed.attached formed.attached few.attached few.added four in
    let two = confext_run g e s tree.sysext tree.confext _ listed.confext formed.confext few.confext three in
    let one = sysext_run g e s tree.sysext _ listed.sysext formed.sysext few.sysext two in
    subst (ToEnd g e (at_part (with_parts s no_parts) parts.Sysext))
    (regrouped (merged_lines (codes "sysext") tree.sysext) (merged_lines (codes "confext") tree.confext) (counted_attachments g e s no_parts tree.attached) (counted_manifests g e s no_parts tree.kept) (listed_tree_lines (codes "root") g (rows_of roots)) (listed_tree_lines (codes "lower") g (rows_of lowers)) rest)
    one
  where
    each_there : (es : Entries HeldFile) → IsTree es → ((path : List (List ℕ)) → IsTrue (is_some (lookup es path)) → IsTrue (is_in (merged_hierarchies (hierarchies_so_far s) tree) path)) → AllByRecursion (λ x. IsTrue (is_in (merged_hierarchies (hierarchies_so_far s) tree) x.0)) es
    each_there es is within = each_found path_cmp paths_total (λ path. IsTrue (is_in (merged_hierarchies (hierarchies_so_far s) tree) path)) es within
