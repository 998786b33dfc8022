-- The tree after an update: what it has at each path, and that it is a tree.
use Rattle.std.proofs.Common.{◌≡◌, ℕ, ◌+◌, ◌≤◌, true, false, cond, not, ◌&&◌, List, [], ◌∷◌, ◌++◌, length, drop, Option, Some, None, is_some, refl, sym, ap, subst, ◌∙◌, arith}
use Rattle.std.specs.Prelude.{IfOk, Result, Ok, Err}
use Rattle.std.specs.FinMap.{is_sorted}
use Rattle.std.specs.List.{AllByRecursion, Contains, list_any}
use Rattle.std.specs.List.Sorted.{IsSortedByKey}
use Rattle.std.specs.Ordering.{eq_by_cmp}
use Rattle.std.proofs.lemmas.Bool.{and_from, and_parts, and_right, false≢true, false_from_ne_true, not-false, true_from_ne_false, true≢false}
use Rattle.std.proofs.lemmas.List.{append-nil}
use Rattle.ext_text.specs.Order.{paths_total}
use Rattle.ext_text.specs.Path.{IsPath, is_prefix, is_proper_prefix, parent, path_cmp}
use Rattle.ext_text.specs.SortedPaths.{covers, is_among}
use Rattle.ext_text.proofs.ForCallers.{all_weaker, length-parent, parent_prefix, prefix_first, prefix_path, prefix_short, prefix_trans, proper_first, same_path}
use Rattle.ext_tree.specs.Graft.{Fits, is_non_directory_at, made, or_made}
use Rattle.ext_tree.specs.Grafting.{AnswersLimit, IsLongPath}
use Rattle.ext_tree.specs.Joining.{put_all}
use Rattle.ext_tree.specs.Refusals.{is_root}
use Rattle.ext_tree.specs.Tree.{Entries, IsTree, IsTreeWithin, is_directory, is_directory_at, is_directory_or_root, lookup, most_entries}
use Rattle.ext_tree.specs.declared.entry.Entry.{Entry}
use Rattle.ext_tree.specs.declared.tree.TreeErr.{TreeErr}
use Rattle.ext_tree.specs.declared.tree.TreeErr.TheVariants.{OutOfMemory, Exists, NotDirectory, Limit, Path}
use Rattle.ext_tree.proofs.ForCallers.{dir_directory, each_found, each_is_found, first_found, lookup_put_all, parent_append, prefix_append, sorted_put_all}
use Rattle.ext_updated.specs.Pieces.{IsPiece, MayBePut, is_above, left_at, paths_of, piece_at}
use Rattle.ext_updated.specs.Putting.{IsCutFor, IsReady, SomePiecePasses, entries_of}
use Rattle.ext_updated.specs.Updated.{AnswersUpdated, IsUpdated, PieceFits}
use Rattle.ext_updated.specs.declared.piece.Piece.{Piece}
use Rattle.ext_updated.proofs.PathsLemmas.{AreUnrelated, above_uncovered, among_any, any_among, apart_unrelated}
use Rattle.ext_updated.proofs.PiecesLemmas.{all_contained, among_of, are_later, covering, found_of, none_found, one_found, path_of, piece_found, piece_of, sorted_of, sorted_pieces}

-- a parent is a proper prefix
parent_proper : (n : List ℕ) (p : List (List ℕ)) → is_proper_prefix (parent (n ∷ p)) (n ∷ p) ≡ true
parent_proper n p =
    let len : length (parent (n ∷ p)) + 1 ≡ length (n ∷ p) = length-parent (n ∷ p) (omega arith) in
    and_from _ _ (parent_prefix (n ∷ p)) (ap not (false_from_ne_true (is_prefix (n ∷ p) (parent (n ∷ p))) (λ back. omega (arith, prefix_short (n ∷ p) (parent (n ∷ p)) back))))

-- a proper prefix's parent is one
proper_parent : (q p : List (List ℕ)) → is_proper_prefix q p ≡ true → is_proper_prefix (parent q) p ≡ true
proper_parent [] p proper = proper
proper_parent (n ∷ q) p proper =
    let first = (proper_first (n ∷ q) p).0 proper in
    let len : length (parent (n ∷ q)) + 1 ≡ length (n ∷ q) = length-parent (n ∷ q) (omega arith) in
    let shorter = first.1 in
    let whole : is_prefix (n ∷ q) p ≡ true = (and_parts (is_prefix (n ∷ q) p) (not (is_prefix p (n ∷ q))) proper).0 in
    (proper_first (parent (n ∷ q)) p).1 ((prefix_first (parent (n ∷ q)) p).0 (prefix_trans (parent (n ∷ q)) (n ∷ q) p (parent_prefix (n ∷ q)) whole), omega arith)

module _ {C : Type 0} where
  open_directory : (o : Option (Entry C)) → is_non_directory_at o ≡ false → is_directory_at (or_made o) ≡ true
  open_directory None opens = refl
  open_directory (Some e) opens = not-false (is_directory e) opens

  made_kept : (o : Option (Entry C)) → is_directory_at o ≡ true → is_directory_at (or_made o) ≡ true
  made_kept None directory = refl
  made_kept (Some e) directory = directory

  or_missing : (o : Option (Entry C)) → first_found (first_found o (cond (true && not (is_some o)) (Some made) None)) None ≡ or_made o
  or_missing None = refl
  or_missing (Some e) = refl

  nothing_more : (o : Option (Entry C)) → first_found (first_found o None) None ≡ o
  nothing_more None = refl
  nothing_more (Some e) = refl

  -- a part that has something stands below a directory
  full_directory : (piece : Piece C) (q : List (List ℕ)) → IsPiece piece → is_some (lookup piece.part q) ≡ true → is_directory piece.top ≡ true
  full_directory piece q is there =
      true_from_ne_false (is_directory piece.top) (λ no. false≢true (sym (ap (λ es. is_some (lookup es q)) (is no)) ∙ there))

  -- each path of a part that may be put is within the limits
  pub fits_below : (piece : Piece C) → IsReady piece → Fits piece.path piece.part
  fits_below piece ready q there =
      found_all (λ q. IsPath (piece.path ++ q)) piece.part q ready.fits there
    where
      found_all : (P : List (List ℕ) → Type 0) (es : Entries C) (q : List (List ℕ)) → AllByRecursion (λ e. P e.0) es → is_some (lookup es q) ≡ true → P q
      found_all P [] q all there = absurd (false≢true there)
      found_all P (e ∷ es) q all there =
          elim (eq_by_cmp path_cmp q e.0) as (λ b. eq_by_cmp path_cmp q e.0 ≡ b → is_some (cond b (Some e.1) (lookup es q)) ≡ true → P q) [
            | true ↦ λ tied _. subst P (sym (same_path q e.0 tied)) all.0
            | false ↦ λ _ later. found_all P es q all.1 later
          ] refl there

-- what all that is joined for an update says of each path
pub record IsMade {C : Type 0} (root : Entries C) (removed : List (List (List ℕ))) (pieces : List (Piece C)) (kept directories new : Entries C) : Type 0 where
  pub tree : IsTree kept
  pub is_cut : IsCutFor root removed pieces kept
  pub ready : AllByRecursion IsReady pieces
  pub may : MayBePut root removed pieces
  pub apart : AreUnrelated (paths_of pieces)
  pub found : (q : List (List ℕ)) → lookup directories q ≡ cond (is_above pieces q && not (is_some (lookup kept q))) (Some made) None
  pub order : is_sorted path_cmp directories ≡ true
  pub entries : new ≡ entries_of pieces
  pub new_order : is_sorted path_cmp new ≡ true

module _ {C : Type 0} (root : Entries C) (removed : List (List (List ℕ))) (pieces : List (Piece C)) (kept directories new : Entries C) (is : IsMade root removed pieces kept directories new) where
  covered_low : (q : List (List ℕ)) → covers (paths_of pieces) q ≡ true → is_above pieces q ≡ false
  covered_low q covered =
      and_right (not (is_root q)) _ (false_from_ne_true (list_any (λ p. is_proper_prefix q p) (paths_of pieces)) (λ above.
      true≢false (sym covered ∙ above_uncovered (paths_of pieces) q is.apart above)))

  above_out : (q : List (List ℕ)) → is_above pieces q ≡ true → covers (paths_of pieces) q ≡ false
  above_out q above = above_uncovered (paths_of pieces) q is.apart (and_parts (not (is_root q)) _ above).1

  new_found : (q : List (List ℕ)) → lookup new q ≡ piece_found pieces q
  new_found q = ap (λ es. lookup es q) is.entries ∙ found_of pieces q is.apart

  new_none : (q : List (List ℕ)) → covers (paths_of pieces) q ≡ false → lookup new q ≡ None
  new_none q out = new_found q ∙ none_found pieces q out

  kept_left : (q : List (List ℕ)) → covers (paths_of pieces) q ≡ false → lookup kept q ≡ left_at root removed q
  kept_left q out = is.is_cut q ∙ ap (λ b. cond b None (left_at root removed q)) out

  kept_none : (q : List (List ℕ)) → covers (paths_of pieces) q ≡ true → lookup kept q ≡ None
  kept_none q covered = is.is_cut q ∙ ap (λ b. cond b None (left_at root removed q)) covered

  low_none : (q : List (List ℕ)) → is_above pieces q ≡ false → lookup directories q ≡ None
  low_none q low = is.found q ∙ ap (λ b. cond (b && not (is_some (lookup kept q))) (Some made) None) low

  -- what stands where, before the pieces are put

  -- no made directory stands where something is kept
  pub directories_apart : AllByRecursion (λ e. lookup directories e.0 ≡ None) kept
  directories_apart =
      all_weaker (λ (e : List (List ℕ) × Entry C). is_some (lookup kept e.0) ≡ true) (λ e. lookup directories e.0 ≡ None)
      (λ e there. is.found e.0 ∙ ap (λ b. cond b (Some made) None) (and_right (is_above pieces e.0) _ (ap not there))) kept (each_is_found kept)

  old_out : (q : List (List ℕ)) → is_some (lookup (put_all kept directories) q) ≡ true → lookup new q ≡ None
  old_out q there =
      new_none q (false_from_ne_true (covers (paths_of pieces) q) (λ covered.
      let none = lookup_put_all kept directories q ∙ (λ i. first_found (kept_none q covered i) (low_none q (covered_low q covered) i)) in
      false≢true (sym (ap is_some none) ∙ there)))

  -- no piece has an entry where something stands
  pub new_apart : AllByRecursion (λ e. lookup new e.0 ≡ None) (put_all kept directories)
  new_apart = each_found path_cmp paths_total (λ q. lookup new q ≡ None) (put_all kept directories) old_out

  pub old_sorted : is_sorted path_cmp (put_all kept directories) ≡ true
  old_sorted = sorted_put_all kept directories is.order

  -- and after

  abbrev pub all_of : Entries C
  all_of = put_all (put_all kept directories) new

  all_found : (q : List (List ℕ)) → lookup all_of q ≡ first_found (first_found (lookup kept q) (lookup directories q)) (lookup new q)
  all_found q = lookup_put_all (put_all kept directories) new q ∙ ap (λ o. first_found o (lookup new q)) (lookup_put_all kept directories q)

  covered_found : (q : List (List ℕ)) → covers (paths_of pieces) q ≡ true → lookup all_of q ≡ piece_found pieces q
  covered_found q covered =
      all_found q ∙ (λ i. first_found (first_found (kept_none q covered i) (low_none q (covered_low q covered) i)) (new_found q i))

  put_found : (piece : Piece C) (rest : List (List ℕ)) → Contains pieces piece → lookup all_of (piece.path ++ rest) ≡ piece_at piece rest
  put_found piece rest at =
      covered_found (piece.path ++ rest) (among_any (λ p. is_prefix p (piece.path ++ rest)) (paths_of pieces) piece.path (among_of pieces piece at) (prefix_append piece.path rest))
      ∙ one_found pieces piece rest is.apart at

  above_found : (q : List (List ℕ)) → covers (paths_of pieces) q ≡ false → is_above pieces q ≡ true → lookup all_of q ≡ or_made (left_at root removed q)
  above_found q out above =
      all_found q ∙ (λ i. first_found (first_found (lookup kept q) ((is.found q ∙ ap (λ b. cond (b && not (is_some (lookup kept q))) (Some made) None) above) i)) (new_none q out i))
      ∙ or_missing (lookup kept q) ∙ ap or_made (kept_left q out)

  elsewhere_found : (q : List (List ℕ)) → covers (paths_of pieces) q ≡ false → is_above pieces q ≡ false → lookup all_of q ≡ left_at root removed q
  elsewhere_found q out low =
      all_found q ∙ (λ i. first_found (first_found (lookup kept q) (low_none q low i)) (new_none q out i))
      ∙ nothing_more (lookup kept q) ∙ kept_left q out

  -- it is a tree

  -- the root lies below no piece
  root_out : covers (paths_of pieces) [] ≡ false
  root_out = false_from_ne_true (covers (paths_of pieces) []) (λ covered.
      let a = any_among (λ p. is_prefix p []) (paths_of pieces) covered in
      true≢false (sym (top a.0 a.1 a.2) ∙ is.may.below_root))
    where
      top : (a : List (List ℕ)) → is_among (paths_of pieces) a ≡ true → is_prefix a [] ≡ true → is_among (paths_of pieces) [] ≡ true
      top [] among prefix = among
      top (n ∷ a) among prefix = absurd (false≢true prefix)

  root_none : lookup all_of [] ≡ None
  root_none = elsewhere_found [] root_out refl ∙ sym (kept_left [] root_out) ∙ is.tree.root

  -- above a path of a piece there are directories
  above_directory : (b q : List (List ℕ)) → is_among (paths_of pieces) b ≡ true → is_proper_prefix q b ≡ true → is_directory_or_root all_of q ≡ true
  above_directory b [] among proper = refl
  above_directory b (n ∷ q) among proper =
      let above : is_above pieces (n ∷ q) ≡ true = among_any (λ p. is_proper_prefix (n ∷ q) p) (paths_of pieces) b among proper in
      ap is_directory_at (above_found (n ∷ q) (above_out (n ∷ q) above) above) ∙ open_directory (left_at root removed (n ∷ q)) (is.may.opens b (n ∷ q) among proper)

  -- a directory of a piece is one
  piece_directory : (piece : Piece C) (n : List ℕ) (q s : List (List ℕ)) → Contains pieces piece → is_some (lookup piece.part (n ∷ q)) ≡ true → is_directory_or_root piece.part s ≡ true → is_directory_or_root all_of (piece.path ++ s) ≡ true
  piece_directory piece n q [] at there directory =
      dir_directory all_of (piece.path ++ []) (ap is_directory_at (put_found piece [] at) ∙ full_directory piece (n ∷ q) (all_contained IsPiece pieces piece is.may.each at) there)
  piece_directory piece n q (m ∷ s) at there directory =
      dir_directory all_of (piece.path ++ m ∷ s) (ap is_directory_at (put_found piece (m ∷ s) at) ∙ directory)

  -- what is kept stands in directories that are kept
  kept_directory : (q : List (List ℕ)) → is_directory_or_root kept q ≡ true → is_directory_or_root all_of q ≡ true
  kept_directory [] directory = refl
  kept_directory (n ∷ q) directory =
      elim (covers (paths_of pieces) (n ∷ q)) as (λ b. covers (paths_of pieces) (n ∷ q) ≡ b → is_directory_at (lookup all_of (n ∷ q)) ≡ true) [
        | true ↦ λ covered. absurd (false≢true (sym (ap is_directory_at (kept_none (n ∷ q) covered)) ∙ directory))
        | false ↦ λ out. elim (is_above pieces (n ∷ q)) as (λ b. is_above pieces (n ∷ q) ≡ b → is_directory_at (lookup all_of (n ∷ q)) ≡ true) [
          | true ↦ λ above. ap is_directory_at (above_found (n ∷ q) out above) ∙ made_kept (left_at root removed (n ∷ q)) (sym (ap is_directory_at (kept_left (n ∷ q) out)) ∙ directory)
          | false ↦ λ low. ap is_directory_at (elsewhere_found (n ∷ q) out low ∙ sym (kept_left (n ∷ q) out)) ∙ directory
        ] refl
      ] refl

  -- a path of a piece, and what is wanted of its parent

  piece_path : (piece : Piece C) (rest : List (List ℕ)) → Contains pieces piece → is_some (piece_at piece rest) ≡ true → IsPath (piece.path ++ rest)
  piece_path piece [] at there = subst IsPath (sym (append-nil piece.path)) (all_contained IsReady pieces piece is.ready at).path
  piece_path piece (n ∷ rest) at there = fits_below piece (all_contained IsReady pieces piece is.ready at) (n ∷ rest) there

  piece_parent : (piece : Piece C) (rest : List (List ℕ)) → Contains pieces piece → is_some (piece_at piece rest) ≡ true → is_directory_or_root all_of (parent (piece.path ++ rest)) ≡ true
  piece_parent piece [] at there = subst (λ r. is_directory_or_root all_of (parent r) ≡ true) (sym (append-nil piece.path)) (top_parent piece.path (among_of pieces piece at))
    where
      top_parent : (b : List (List ℕ)) → is_among (paths_of pieces) b ≡ true → is_directory_or_root all_of (parent b) ≡ true
      top_parent [] among = refl
      top_parent (n ∷ b) among = above_directory (n ∷ b) (parent (n ∷ b)) among (parent_proper n b)
  piece_parent piece (n ∷ rest) at there =
      subst (λ r. is_directory_or_root all_of r ≡ true) (sym (parent_append piece.path n rest))
      (piece_directory piece n rest (parent (n ∷ rest)) at there ((all_contained IsReady pieces piece is.ready at).part.parents (n ∷ rest) there))

  -- what is found is in a piece, above one, or kept
  at_each : (P : List (List ℕ) → Type 0)
      → ((piece : Piece C) (rest : List (List ℕ)) → Contains pieces piece → is_some (piece_at piece rest) ≡ true → P (piece.path ++ rest))
      → ((b q : List (List ℕ)) → is_among (paths_of pieces) b ≡ true → is_proper_prefix q b ≡ true → P q)
      → ((q : List (List ℕ)) → is_some (lookup kept q) ≡ true → P q)
      → (q : List (List ℕ)) → is_some (lookup all_of q) ≡ true → P q
  at_each P in_piece above in_kept q there =
      elim (covers (paths_of pieces) q) as (λ b. covers (paths_of pieces) q ≡ b → P q) [
        | true ↦ λ covered.
            let at = covering pieces q covered in
            let rest = drop (length at.0.path) q in
            subst P (sym at.2) (in_piece at.0 rest at.1 (sym (ap is_some (ap (lookup all_of) at.2 ∙ put_found at.0 rest at.1)) ∙ there))
        | false ↦ λ out. elim (is_above pieces q) as (λ b. is_above pieces q ≡ b → P q) [
          | true ↦ λ high.
              let b = any_among (λ p. is_proper_prefix q p) (paths_of pieces) (and_parts (not (is_root q)) _ high).1 in
              above b.0 q b.1 b.2
          | false ↦ λ low. in_kept q (sym (ap is_some (elsewhere_found q out low ∙ sym (kept_left q out))) ∙ there)
        ] refl
      ] refl

  above_path : (b q : List (List ℕ)) → is_among (paths_of pieces) b ≡ true → is_proper_prefix q b ≡ true → IsPath q
  above_path b q among proper =
      let piece = piece_of pieces b among in
      let path = subst IsPath (sym piece.2) (all_contained IsReady pieces piece.0 is.ready piece.1).path in
      subst IsPath (sym ((proper_first q b).0 proper).0) (prefix_path (length q) b path)

  pub all_tree : IsTree all_of
  all_tree = record {
    sorted = sorted_put_all (put_all kept directories) new is.new_order;
    root = root_none;
    paths = at_each IsPath piece_path above_path is.tree.paths;
    parents = at_each (λ q. is_directory_or_root all_of (parent q) ≡ true) piece_parent
        (λ b q among proper. above_directory b (parent q) among (proper_parent q b proper))
        (λ q there. kept_directory (parent q) (is.tree.parents q there));
  }

  -- what is joined is the tree after the update
  pub is_updated : IsUpdated root removed pieces all_of
  is_updated = record { tree = all_tree; put = put_found; above = above_found; elsewhere = elsewhere_found }

  -- every piece fits
  pub all_fit : AllByRecursion PieceFits pieces
  all_fit = all_weaker IsReady PieceFits fits_below pieces is.ready

  -- the tree of what is joined answers, where it is within the limit
  pub answers_put : (pairs : Entries C) (r : Result (Entries C) TreeErr) → pairs ≡ all_of → IfOk r (λ t. t ≡ pairs) → AnswersLimit (length pairs) r → AnswersUpdated root removed pieces r
  answers_put pairs (Ok t) whole same count =
      (all_fit, subst (λ es. IsUpdated root removed pieces es) (sym (same ∙ whole)) is_updated, subst (λ n. n ≤ most_entries) (ap length (sym same)) count)
  answers_put pairs (Err OutOfMemory) whole same count = tt
  answers_put pairs (Err Exists) whole same count = count
  answers_put pairs (Err NotDirectory) whole same count = count
  answers_put pairs (Err Path) whole same count = absurd count
  answers_put pairs (Err Limit) whole same count = (all_fit, (pairs, subst (λ es. IsUpdated root removed pieces es) (sym whole) is_updated, count))

module _ {C : Type 0} where
  -- what is joined for an update
  pub made_of : (root : Entries C) (removed : List (List (List ℕ))) (pieces : List (Piece C)) (left kept directories new : Entries C) → kept ≡ left → IsTreeWithin kept → IsCutFor root removed pieces left → AllByRecursion IsReady pieces
      → MayBePut root removed pieces → IsSortedByKey path_of path_cmp pieces → ((q : List (List ℕ)) → lookup directories q ≡ cond (is_above pieces q && not (is_some (lookup left q))) (Some made) None)
      → is_sorted path_cmp directories ≡ true → new ≡ entries_of pieces → IsMade root removed pieces kept directories new
  made_of root removed pieces left kept directories new same within is_cut ready may sorted found order entries =
      let apart = apart_unrelated (paths_of pieces) may.apart in
      record {
        tree = within.tree;
        is_cut = λ q. ap (λ es. lookup es q) same ∙ is_cut q;
        ready = ready;
        may = may;
        apart = apart;
        found = λ q. found q ∙ ap (λ es. cond (is_above pieces q && not (is_some (lookup es q))) (Some made) None) (sym same);
        order = order;
        entries = entries;
        new_order = ap (is_sorted path_cmp) entries ∙ sorted_of pieces (are_later (paths_of pieces) (sorted_pieces pieces sorted) apart) ready;
      }

  -- where a path grows too long
  pub long_answers : (root : Entries C) (removed : List (List (List ℕ))) (pieces : List (Piece C)) (e : TreeErr) → IsLongPath (SomePiecePasses pieces) e → AnswersUpdated root removed pieces (Err e)
  long_answers root removed pieces OutOfMemory long = tt
  long_answers root removed pieces Exists long = long
  long_answers root removed pieces NotDirectory long = long
  long_answers root removed pieces Limit long = absurd long
  long_answers root removed pieces Path long =
      let part = long.0.part in
      let entry = long.2 in
      (long.0, long.1, (entry.0.0, all_contained (λ (e : List (List ℕ) × Entry C). is_some (lookup part e.0) ≡ true) part entry.0 (each_is_found part) entry.1, entry.2))
