-- The entry of a line, and the tree that it goes into.
use Rattle.std.proofs.Common.{◌≡◌, ◌↔◌, ℕ, ◌+◌, Bool, true, false, List, [], ◌∷◌, ◌++◌, Some, length, IsTrue, sym, ap, ◌∙◌, subst, arith, length-append}
use Rattle.ext_tree.specs.Tree.{Entries, IsTree, IsTreeWithin}
use Rattle.ext_tree.specs.declared.entry.Entry.{Entry}
use Rattle.ext_host.specs.Held.{HeldFile}
use Rattle.ext_host.specs.Host.{is_in}
use Rattle.ext_index_lines.specs.Homes.{kept_entry}
use Rattle.ext_index_reader.specs.State.{merged_so_far}
use Rattle.ext_index_reader.specs.Step.{AddsLower, AddsRoot, EntersLine}
use Rattle.ext_index_reader.specs.declared.state.SoFar.{SoFar}
use Rattle.ext_index_reader.proofs.LineLemmas.{fails}
use Rattle.ext_index_reader.proofs.OnceLemmas.{entry_once}

-- entries, and one more of them
abbrev pub rows_with : Entries HeldFile → List (List ℕ) → Entry HeldFile → Entries HeldFile
rows_with rows path e = rows ++ (path, e) ∷ []

length-rows_with : (rows : Entries HeldFile) (path : List (List ℕ)) (e : Entry HeldFile) → length (rows_with rows path e) ≡ length rows + 1
length-rows_with rows path e = length-append rows ((path, e) ∷ [])

module _ (g : ℕ) (s : SoFar) (line : List ℕ) (next : SoFar) (path : List (List ℕ)) (held : Entry HeldFile) (enters : EntersLine g s next line (Some (path, held))) where
  -- there is room for it in either tree
  pub root_fits : IsTree (rows_with next.parts.root path held) → IsTreeWithin (rows_with next.parts.root path held)
  root_fits tree = record {
    tree = tree;
    count =
        let room = enters.2.room.entries in
        let same : length next.parts.root ≡ length s.parts.root = ap (λ (z : SoFar). length z.parts.root) enters.4 in
        omega (arith, length-rows_with next.parts.root path held);
  }

  pub lower_fits : IsTree (rows_with next.parts.lower path held) → IsTreeWithin (rows_with next.parts.lower path held)
  lower_fits tree = record {
    tree = tree;
    count =
        let room = enters.2.room.entries in
        let same : length next.parts.lower ≡ length s.parts.lower = ap (λ (z : SoFar). length z.parts.lower) enters.4 in
        omega (arith, length-rows_with next.parts.lower path held);
  }

  -- what was read with it, where it is seen
  pub added_root : (u : SoFar) → IsTree (rows_with next.parts.root path held) → u ≡ record next { parts = record next.parts { root = rows_with next.parts.root path held } } → AddsRoot g s u line true
  added_root u tree is =
      let same = enters.4 in
      let kept = enters.5 in (
        (path, enters.0),
        enters.1,
        record { enters = enters.2; tree = subst (λ (es : Entries HeldFile). IsTree es) (λ i. rows_with (same i).parts.root path (kept i)) tree },
        enters.3,
        is ∙ (λ i. record (same i) { parts = record (same i).parts { root = rows_with (same i).parts.root path (kept i) } }),
      )

  -- and where it lies under the view
  pub added_lower : (u : SoFar) → IsTree (rows_with next.parts.lower path held) → IsTrue (is_in (merged_so_far next) path) → u ≡ record next { parts = record next.parts { lower = rows_with next.parts.lower path held } }
      → AddsLower g s u line true
  added_lower u tree inside is =
      let same = enters.4 in
      let kept = enters.5 in (
        (path, enters.0),
        enters.1,
        record {
          enters = enters.2;
          tree = subst (λ (es : Entries HeldFile). IsTree es) (λ i. rows_with (same i).parts.lower path (kept i)) tree;
          inside = subst (λ (z : SoFar). IsTrue (is_in (merged_so_far z) path)) same inside;
        },
        enters.3,
        is ∙ (λ i. record (same i) { parts = record (same i).parts { lower = rows_with (same i).parts.lower path (kept i) } }),
      )

  -- it may not follow what is seen
  pub not_root : (u : SoFar) (test : Bool) → ((e : Entry HeldFile) → IsTrue test ↔ IsTree (rows_with next.parts.root path e)) → test ≡ false → AddsRoot g s u line false
  not_root u test tells out x has is may =
      let one = entry_once x (path, enters.0) has enters.1 (sym is ∙ enters.3) in
      let back = sym enters.4 in
      fails _ test (tells (kept_entry enters.0)) out (subst (λ (es : Entries HeldFile). IsTree es) (λ i. rows_with (back i).parts.root (one i).0 (kept_entry (one i).1)) may.tree)

  -- nor what lies under the view
  pub not_lower : (u : SoFar) (test : Bool) → ((e : Entry HeldFile) → IsTrue test ↔ (IsTree (rows_with next.parts.lower path e) × IsTrue (is_in (merged_so_far next) path))) → test ≡ false → AddsLower g s u line false
  not_lower u test tells out x has is may =
      let one = entry_once x (path, enters.0) has enters.1 (sym is ∙ enters.3) in
      let back = sym enters.4 in
      fails _ test (tells (kept_entry enters.0)) out (
        subst (λ (es : Entries HeldFile). IsTree es) (λ i. rows_with (back i).parts.lower (one i).0 (kept_entry (one i).1)) may.tree,
        subst (λ (z : Bool). IsTrue z) (λ i. is_in (merged_so_far (back i)) (one i).0) may.inside,
      )
