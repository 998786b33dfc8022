-- Pieces: their entries in path order, what is found among these, and that their order is of no matter.
use Rattle.std.proofs.Common.{◌≡◌, ◌⊎◌, inl, inr, ℕ, zero, suc, ◌<◌, ◌≤◌, true, false, cond, not, ◌&&◌, ◌||◌, List, [], ◌∷◌, ◌++◌, length, get_or, map, drop, Option, Some, None, is_some, refl, sym, ap, subst, ◌∙◌, arith, length-append}
use Rattle.std.specs.Prelude.{Result, Ok, Err}
use Rattle.std.specs.FinMap.{is_sorted}
use Rattle.std.specs.FinMap.Entries.{below_all}
use Rattle.std.specs.List.{AllByRecursion, Contains}
use Rattle.std.specs.List.Sorted.{IsPermutation, IsSortedByKey}
use Rattle.std.specs.Ordering.{eq_by_cmp, is_eq, is_gt, is_lt, ordering_reverse, ordering_then}
use Rattle.std.specs.declared.cmp.Ordering.TheVariants.{Less, Equal, Greater}
use Rattle.std.proofs.lemmas.Bool.{and_from, and_parts, false≢true, false_from_ne_true, or_left, or_parts, or_right, true≢false}
use Rattle.std.proofs.lemmas.List.{append-nil}
use Rattle.std.proofs.lemmas.List.Elements.{All-contains, All-from_recursion, Contains-append_cases, Contains-append_right, Contains-push_cases, recursion_from_All}
use Rattle.std.proofs.lemmas.List.Sorted.{All-permutation, Contains-permutation, IsPermutation-map, IsPermutation-sym, list_any-IsPermutation, ranks_by, sorted_far}
use Rattle.ext_lines.specs.ByteOrder.{bytes_cmp}
use Rattle.ext_text.specs.Order.{paths_exact, paths_total}
use Rattle.ext_text.specs.Path.{are_related, is_prefix, is_proper_prefix, path_cmp}
use Rattle.ext_text.specs.SortedPaths.{covers, is_among}
use Rattle.ext_text.proofs.ForCallers.{all_both, all_weaker, prefix_self, same_path, tied_path}
use Rattle.ext_tree.specs.Grafting.{hung}
use Rattle.ext_tree.specs.Refusals.{is_root}
use Rattle.ext_tree.specs.Tree.{Entries, IsTree, lookup}
use Rattle.ext_tree.specs.declared.entry.Entry.{Entry}
use Rattle.ext_tree.specs.declared.tree.TreeErr.{TreeErr}
use Rattle.ext_tree.specs.declared.tree.TreeErr.TheVariants.{OutOfMemory, Exists, NotDirectory, Limit, Path}
use Rattle.ext_tree.proofs.ForCallers.{cmp_prefix, drop_append, find-join, prefix_append, prefix_split}
use Rattle.ext_updated.specs.Pieces.{IsPiece, MayBePut, is_above, paths_of, piece_at}
use Rattle.ext_updated.specs.Putting.{IsReady, entries_at, entries_of}
use Rattle.ext_updated.specs.Updated.{AnswersUpdated, IsUpdated, PieceFits}
use Rattle.ext_updated.specs.declared.piece.Piece.{Piece}
use Rattle.ext_updated.proofs.ClashLemmas.{AreSorted, all_among, meets_permuted}
use Rattle.ext_updated.proofs.PathsLemmas.{AreUnrelated, any_among, others_uncovered, prefixes_related}

-- what lists contain

pub none_contained : {X : Type 0} (x : X) → Contains [] x → ⊥
none_contained x at = omega (arith, at.1)

pub contains_cases : {X : Type 0} (x y : X) (xs : List X) → Contains (x ∷ xs) y → (x ≡ y) ⊎ Contains xs y
contains_cases x y xs at = elim (Contains-append_cases (x ∷ []) xs y at) [
  | inl first ↦ elim (Contains-push_cases [] x y first) [ inl none ↦ absurd (none_contained y none) | inr same ↦ inl same ]
  | inr later ↦ inr later
]

pub all_contained : {X : Type 0} (P : X → Type 0) (xs : List X) (x : X) → AllByRecursion P xs → Contains xs x → P x
all_contained P xs x all at = All-contains P xs x (All-from_recursion P xs all) at

-- a longer path is another one
longer : (p : List (List ℕ)) (n : List ℕ) (q : List (List ℕ)) → eq_by_cmp path_cmp (p ++ n ∷ q) p ≡ false
longer p n q = false_from_ne_true (eq_by_cmp path_cmp (p ++ n ∷ q) p) (λ tied. omega (arith, length-append p (n ∷ q), ap length (same_path (p ++ n ∷ q) p tied)))

-- and comes later
past : (p x : List (List ℕ)) → eq_by_cmp path_cmp [] x ≡ false → is_lt (path_cmp p (p ++ x)) ≡ true
past p [] out = absurd (true≢false out)
past p (n ∷ x) out = ap is_lt (ap (λ r. path_cmp r (p ++ n ∷ x)) (sym (append-nil p)) ∙ cmp_prefix p [] (n ∷ x))

module _ {C : Type 0} where
  abbrev pub path_of : Piece C → List (List ℕ)
  path_of piece = piece.path

  -- pieces and their paths

  pub among_of : (pieces : List (Piece C)) (piece : Piece C) → Contains pieces piece → is_among (paths_of pieces) piece.path ≡ true
  among_of [] piece at = absurd (none_contained piece at)
  among_of (p ∷ ps) piece at = elim (contains_cases p piece ps at) [
    | inl same ↦ or_left _ _ (tied_path piece.path p.path (ap path_of (sym same)))
    | inr later ↦ or_right _ _ (among_of ps piece later)
  ]

  pub piece_of : (pieces : List (Piece C)) (a : List (List ℕ)) → is_among (paths_of pieces) a ≡ true → (piece : Piece C) × Contains pieces piece × (a ≡ piece.path)
  piece_of [] a among = absurd (false≢true among)
  piece_of (p ∷ ps) a among =
      elim (eq_by_cmp path_cmp a p.path) as (λ b. eq_by_cmp path_cmp a p.path ≡ b → (piece : Piece C) × Contains (p ∷ ps) piece × (a ≡ piece.path)) [
        | true ↦ λ here. (p, (0, omega arith, refl), same_path a p.path here)
        | false ↦ λ other.
            let rest = piece_of ps a (sym (ap (λ b. b || is_among (paths_of ps) a) other) ∙ among) in
            (rest.0, Contains-append_right (p ∷ []) ps rest.0 rest.1, rest.2)
      ] refl

  -- the piece at or below whose path something is
  pub covering : (pieces : List (Piece C)) (q : List (List ℕ)) → covers (paths_of pieces) q ≡ true → (piece : Piece C) × Contains pieces piece × (q ≡ piece.path ++ drop (length piece.path) q)
  covering pieces q covered =
      let a = any_among (λ p. is_prefix p q) (paths_of pieces) covered in
      let piece = piece_of pieces a.0 a.1 in
      (piece.0, piece.1, prefix_split piece.0.path q (subst (λ r. is_prefix r q ≡ true) piece.2 a.2))

  -- pieces in another order

  module _ (xs ys : List (Piece C)) (same : IsPermutation xs ys) where
    paths_same : IsPermutation (paths_of xs) (paths_of ys)
    paths_same = IsPermutation-map path_of xs ys same

    pub may_be_put : (root : Entries C) (removed : List (List (List ℕ))) → MayBePut root removed xs → MayBePut root removed ys
    may_be_put root removed may = record {
      each = recursion_from_All IsPiece ys (All-permutation IsPiece xs ys same (All-from_recursion IsPiece xs may.each));
      apart = λ p met. may.apart p (meets_permuted (paths_of ys) (paths_of xs) p (IsPermutation-sym (paths_of xs) (paths_of ys) paths_same) met);
      below_root = sym (list_any-IsPermutation (λ p. eq_by_cmp path_cmp [] p) (paths_of xs) (paths_of ys) paths_same) ∙ may.below_root;
      opens = λ p q among proper. may.opens p q (list_any-IsPermutation (λ r. eq_by_cmp path_cmp p r) (paths_of xs) (paths_of ys) paths_same ∙ among) proper;
    }

    pub updated_same : (root new : Entries C) (removed : List (List (List ℕ))) → IsUpdated root removed ys new → IsUpdated root removed xs new
    updated_same root new removed is = record {
      tree = is.tree;
      put = λ piece rest at. is.put piece rest (Contains-permutation xs ys piece same at);
      above = λ q out above. is.above q (covered q ∙ out) (overhead q ∙ above);
      elsewhere = λ q out above. is.elsewhere q (covered q ∙ out) (overhead q ∙ above);
    }
      where
        covered : (q : List (List ℕ)) → covers (paths_of ys) q ≡ covers (paths_of xs) q
        covered q = sym (list_any-IsPermutation (λ p. is_prefix p q) (paths_of xs) (paths_of ys) paths_same)

        overhead : (q : List (List ℕ)) → is_above ys q ≡ is_above xs q
        overhead q = ap (λ b. not (is_root q) && b) (sym (list_any-IsPermutation (λ p. is_proper_prefix q p) (paths_of xs) (paths_of ys) paths_same))

    fits_same : AllByRecursion PieceFits ys → AllByRecursion PieceFits xs
    fits_same all = recursion_from_All PieceFits xs (All-permutation PieceFits ys xs (IsPermutation-sym xs ys same) (All-from_recursion PieceFits ys all))

    pub answers_same : (root : Entries C) (removed : List (List (List ℕ))) (r : Result (Entries C) TreeErr) → AnswersUpdated root removed ys r → AnswersUpdated root removed xs r
    answers_same root removed (Ok new) answers = (fits_same answers.0, updated_same root new removed answers.1, answers.2)
    answers_same root removed (Err OutOfMemory) answers = tt
    answers_same root removed (Err Exists) answers = answers
    answers_same root removed (Err NotDirectory) answers = answers
    answers_same root removed (Err Path) answers = (answers.0, Contains-permutation ys xs answers.0 (IsPermutation-sym xs ys same) answers.1, answers.2)
    answers_same root removed (Err Limit) answers =
        (fits_same answers.0, (answers.1.0, updated_same root answers.1.0 removed answers.1.1, answers.1.2))

  -- what pieces have at a path

  abbrev pub piece_found : List (Piece C) → List (List ℕ) → Option (Entry C)
  piece_found [] q = None
  piece_found (p ∷ ps) q = cond (is_prefix p.path q) (piece_at p (drop (length p.path) q)) (piece_found ps q)

  pub none_found : (pieces : List (Piece C)) (q : List (List ℕ)) → covers (paths_of pieces) q ≡ false → piece_found pieces q ≡ None
  none_found [] q out = refl
  none_found (p ∷ ps) q out =
      let parts = or_parts (is_prefix p.path q) (covers (paths_of ps) q) out in
      ap (λ b. cond b (piece_at p (drop (length p.path) q)) (piece_found ps q)) parts.0 ∙ none_found ps q parts.1

  found_here : (p : Piece C) (ps : List (Piece C)) (rest : List (List ℕ)) → piece_found (p ∷ ps) (p.path ++ rest) ≡ piece_at p rest
  found_here p ps rest =
      ap (λ b. cond b (piece_at p (drop (length p.path) (p.path ++ rest))) (piece_found ps (p.path ++ rest))) (prefix_append p.path rest)
      ∙ ap (piece_at p) (drop_append p.path rest)

  pub one_found : (pieces : List (Piece C)) (piece : Piece C) (rest : List (List ℕ)) → AreUnrelated (paths_of pieces) → Contains pieces piece → piece_found pieces (piece.path ++ rest) ≡ piece_at piece rest
  one_found [] piece rest apart at = absurd (none_contained piece at)
  one_found (p ∷ ps) piece rest apart at = elim (contains_cases p piece ps at) [
    | inl same ↦ subst (λ (x : Piece C). piece_found (p ∷ ps) (x.path ++ rest) ≡ piece_at x rest) same (found_here p ps rest)
    | inr later ↦
        let out = false_from_ne_true (is_prefix p.path (piece.path ++ rest)) (λ below.
        true≢false (sym (prefixes_related p.path piece.path (piece.path ++ rest) below (prefix_append piece.path rest)) ∙ all_among (λ r. are_related p.path r ≡ false) (paths_of ps) piece.path apart.0 (among_of ps piece later))) in
        ap (λ b. cond b (piece_at p (drop (length p.path) (piece.path ++ rest))) (piece_found ps (piece.path ++ rest))) out ∙ one_found ps piece rest apart.1 later
  ]

  -- the entries of one piece

  found_hung : (p q : List (List ℕ)) (es : Entries C) → lookup (map (hung p) es) (p ++ q) ≡ lookup es q
  found_hung p q [] = refl
  found_hung p q (e ∷ es) = λ i. cond (is_eq (cmp_prefix p q e.0 i)) (Some e.1) (found_hung p q es i)

  none_hung : (p q : List (List ℕ)) (es : Entries C) → is_prefix p q ≡ false → lookup (map (hung p) es) q ≡ None
  none_hung p q [] out = refl
  none_hung p q (e ∷ es) out =
      let other = false_from_ne_true (eq_by_cmp path_cmp q (p ++ e.0)) (λ tied.
      true≢false (sym (subst (λ r. is_prefix p r ≡ true) (sym (same_path q (p ++ e.0) tied)) (prefix_append p e.0)) ∙ out)) in
      ap (λ b. cond b (Some e.1) (lookup (map (hung p) es) q)) other ∙ none_hung p q es out

  found_at : (piece : Piece C) (rest : List (List ℕ)) → lookup (entries_at piece) (piece.path ++ rest) ≡ piece_at piece rest
  found_at piece [] =
      ap (λ b. cond b (Some piece.top) (lookup (map (hung piece.path) piece.part) (piece.path ++ []))) (tied_path (piece.path ++ []) piece.path (append-nil piece.path))
  found_at piece (n ∷ rest) =
      ap (λ b. cond b (Some piece.top) (lookup (map (hung piece.path) piece.part) (piece.path ++ n ∷ rest))) (longer piece.path n rest) ∙ found_hung piece.path (n ∷ rest) piece.part

  found_below : (piece : Piece C) (q : List (List ℕ)) → is_prefix piece.path q ≡ true → lookup (entries_at piece) q ≡ piece_at piece (drop (length piece.path) q)
  found_below piece q below = ap (lookup (entries_at piece)) (prefix_split piece.path q below) ∙ found_at piece (drop (length piece.path) q)

  none_at : (piece : Piece C) (q : List (List ℕ)) → is_prefix piece.path q ≡ false → lookup (entries_at piece) q ≡ None
  none_at piece q out =
      let other = false_from_ne_true (eq_by_cmp path_cmp q piece.path) (λ tied.
      true≢false (sym (subst (λ r. is_prefix piece.path r ≡ true) (sym (same_path q piece.path tied)) (prefix_self piece.path)) ∙ out)) in
      ap (λ b. cond b (Some piece.top) (lookup (map (hung piece.path) piece.part) q)) other ∙ none_hung piece.path q piece.part out

  -- and of pieces

  itself : (o : Option (Entry C)) → cond (is_some o) o None ≡ o
  itself None = refl
  itself (Some e) = refl

  pub found_of : (pieces : List (Piece C)) (q : List (List ℕ)) → AreUnrelated (paths_of pieces) → lookup (entries_of pieces) q ≡ piece_found pieces q
  found_of [] q apart = refl
  found_of (p ∷ ps) q apart =
      find-join path_cmp q (entries_at p) (entries_of ps)
      ∙ elim (is_prefix p.path q) as (λ b. is_prefix p.path q ≡ b → cond (is_some (lookup (entries_at p) q)) (lookup (entries_at p) q) (lookup (entries_of ps) q) ≡ cond b (piece_at p (drop (length p.path) q)) (piece_found ps q)) [
        | true ↦ λ below.
            let here = found_below p q below in
            let rest = found_of ps q apart.1 ∙ none_found ps q (others_uncovered p.path (paths_of ps) q apart.0 below) in
            (λ i. cond (is_some (here i)) (here i) (rest i)) ∙ itself (piece_at p (drop (length p.path) q))
        | false ↦ λ out.
            let none = none_at p q out in
            (λ i. cond (is_some (none i)) (none i) (lookup (entries_of ps) q)) ∙ found_of ps q apart.1
      ] refl

  -- their order

  hung_below : (p x : List (List ℕ)) (es : Entries C) → below_all path_cmp x es ≡ true → below_all path_cmp (p ++ x) (map (hung p) es) ≡ true
  hung_below p x [] below = refl
  hung_below p x (e ∷ es) below =
      let parts = and_parts (is_lt (path_cmp x e.0)) (below_all path_cmp x es) below in
      and_from _ _ (ap is_lt (cmp_prefix p x e.0) ∙ parts.0) (hung_below p x es parts.1)

  sorted_hung : (p : List (List ℕ)) (es : Entries C) → is_sorted path_cmp es ≡ true → is_sorted path_cmp (map (hung p) es) ≡ true
  sorted_hung p [] sorted = refl
  sorted_hung p (e ∷ es) sorted =
      let parts = and_parts (below_all path_cmp e.0 es) (is_sorted path_cmp es) sorted in
      and_from _ _ (hung_below p e.0 es parts.0) (sorted_hung p es parts.1)

  top_below : (p : List (List ℕ)) (es : Entries C) → lookup es [] ≡ None → below_all path_cmp p (map (hung p) es) ≡ true
  top_below p [] none = refl
  top_below p (e ∷ es) none =
      elim (eq_by_cmp path_cmp [] e.0) as (λ b. eq_by_cmp path_cmp [] e.0 ≡ b → cond b (Some e.1) (lookup es []) ≡ None → below_all path_cmp p (map (hung p) (e ∷ es)) ≡ true) [
        | true ↦ λ _ some. absurd (true≢false (ap is_some some))
        | false ↦ λ out rest. and_from _ _ (past p e.0 out) (top_below p es rest)
      ] refl none

  sorted_at : (piece : Piece C) → IsTree piece.part → is_sorted path_cmp (entries_at piece) ≡ true
  sorted_at piece part = and_from _ _ (top_below piece.path piece.part part.root) (sorted_hung piece.path piece.part part.sorted)

  below_join : (x : List (List ℕ)) (es fs : Entries C) → below_all path_cmp x es ≡ true → below_all path_cmp x fs ≡ true → below_all path_cmp x (es ++ fs) ≡ true
  below_join x [] fs below others = others
  below_join x (e ∷ es) fs below others =
      let parts = and_parts (is_lt (path_cmp x e.0)) (below_all path_cmp x es) below in
      and_from _ _ parts.0 (below_join x es fs parts.1 others)

  sorted_join : (es fs : Entries C) → is_sorted path_cmp es ≡ true → is_sorted path_cmp fs ≡ true → AllByRecursion (λ e. below_all path_cmp e.0 fs ≡ true) es → is_sorted path_cmp (es ++ fs) ≡ true
  sorted_join [] fs sorted others below = others
  sorted_join (e ∷ es) fs sorted others below =
      let parts = and_parts (below_all path_cmp e.0 es) (is_sorted path_cmp es) sorted in
      and_from _ _ (below_join e.0 es fs parts.0 below.0) (sorted_join es fs parts.1 others below.1)

-- a path after another one, and not below it
abbrev IsLater : List (List ℕ) → List (List ℕ) → Type 0
IsLater p r = (path_cmp p r ≡ Less) × (is_prefix p r ≡ false)

-- what is below the first comes before what is below the second
apart_less : (p q x y : List (List ℕ)) → path_cmp p q ≡ Less → is_prefix p q ≡ false → path_cmp (p ++ x) (q ++ y) ≡ Less
apart_less [] q x y less out = absurd (true≢false out)
apart_less (n ∷ p) [] x y less out = absurd (true≢false (ap is_gt less))
apart_less (n ∷ p) (m ∷ q) x y less out =
    elim (bytes_cmp n m) as (λ o. bytes_cmp n m ≡ o → ordering_then o (path_cmp p q) ≡ Less → ordering_then o (path_cmp (p ++ x) (q ++ y)) ≡ Less) [
      | Less ↦ λ _ _. refl
      | Equal ↦ λ tied rest. apart_less p q x y rest (ap (λ b. b && is_prefix p q) (sym (ap is_eq tied)) ∙ out)
      | Greater ↦ λ _ greater. absurd (true≢false (ap is_gt greater))
    ] refl less

later_one : (p r : List (List ℕ)) → is_lt (path_cmp r p) ≡ false → are_related p r ≡ false → IsLater p r
later_one p r low apart =
    let out = (or_parts (is_prefix p r) (is_prefix r p) apart).0 in (
      elim (path_cmp p r) as (λ o. path_cmp p r ≡ o → o ≡ Less) [
        | Less ↦ λ _. refl
        | Equal ↦ λ tied. absurd (true≢false (sym (subst (λ x. is_prefix p x ≡ true) (paths_exact p r tied) (prefix_self p)) ∙ out))
        | Greater ↦ λ greater. absurd (true≢false (sym (ap is_lt (paths_total.antisymm r p ∙ ap ordering_reverse greater)) ∙ low))
      ] refl,
      out,
    )

-- each of them comes before all after it, and none of these is below it
abbrev AreLater : List (List (List ℕ)) → Type 0
AreLater [] = Unit {0}
AreLater (p ∷ ps) = AllByRecursion (IsLater p) ps × AreLater ps

pub are_later : (ps : List (List (List ℕ))) → AreSorted ps → AreUnrelated ps → AreLater ps
are_later [] sorted apart = tt
are_later (p ∷ ps) sorted apart = (
  all_weaker (λ (r : List (List ℕ)). (is_lt (path_cmp r p) ≡ false) × (are_related p r ≡ false)) (IsLater p) (λ r both. later_one p r both.0 both.1) ps
      (all_both (λ (r : List (List ℕ)). is_lt (path_cmp r p) ≡ false) (λ r. are_related p r ≡ false) ps sorted.0 apart.0),
  are_later ps sorted.1 apart.1,
)

module _ {C : Type 0} where
  hung_after : (p x r : List (List ℕ)) (es : Entries C) → IsLater p r → below_all path_cmp (p ++ x) (map (hung r) es) ≡ true
  hung_after p x r [] later = refl
  hung_after p x r (e ∷ es) later = and_from _ _ (ap is_lt (apart_less p r x e.0 later.0 later.1)) (hung_after p x r es later)

  all_after : (p x : List (List ℕ)) (pieces : List (Piece C)) → AllByRecursion (IsLater p) (paths_of pieces) → below_all path_cmp (p ++ x) (entries_of pieces) ≡ true
  all_after p x [] later = refl
  all_after p x (r ∷ ps) later =
      and_from _ _ (ap is_lt (ap (path_cmp (p ++ x)) (sym (append-nil r.path)) ∙ apart_less p r.path x [] later.0.0 later.0.1))
      (below_join (p ++ x) (map (hung r.path) r.part) (entries_of ps) (hung_after p x r.path r.part later.0) (all_after p x ps later.1))

  hung_before : (p : List (List ℕ)) (es : Entries C) (pieces : List (Piece C)) → AllByRecursion (IsLater p) (paths_of pieces) → AllByRecursion (λ e. below_all path_cmp e.0 (entries_of pieces) ≡ true) (map (hung p) es)
  hung_before p [] pieces later = tt
  hung_before p (e ∷ es) pieces later = (all_after p e.0 pieces later, hung_before p es pieces later)

  pub sorted_of : (pieces : List (Piece C)) → AreLater (paths_of pieces) → AllByRecursion IsReady pieces → is_sorted path_cmp (entries_of pieces) ≡ true
  sorted_of [] later ready = refl
  sorted_of (p ∷ ps) later ready =
      sorted_join (entries_at p) (entries_of ps) (sorted_at p ready.0.part) (sorted_of ps later.1 ready.1)
      (subst (λ r. below_all path_cmp r (entries_of ps) ≡ true) (append-nil p.path) (all_after p.path [] ps later.0), hung_before p.path p.part ps later.0)

  all_paths : (P : List (List ℕ) → Type 0) (pieces : List (Piece C)) → AllByRecursion (λ piece. P piece.path) pieces → AllByRecursion P (paths_of pieces)
  all_paths P [] all = tt
  all_paths P (p ∷ ps) all = (all.0, all_paths P ps all.1)

  sorted_paths : (pieces : List (Piece C)) → ((i j : ℕ) (d : Piece C) → i ≤ j → j < length pieces → is_lt (path_cmp (path_of (get_or pieces j d)) (path_of (get_or pieces i d))) ≡ false) → AreSorted (paths_of pieces)
  sorted_paths [] h = tt
  sorted_paths (p ∷ ps) h = (
    all_paths (λ q. is_lt (path_cmp q p.path) ≡ false) ps (recursion_from_All (λ (x : Piece C). is_lt (path_cmp x.path p.path) ≡ false) ps (λ k d below. h zero (suc k) d (omega arith) (omega arith))),
    sorted_paths ps (λ i j d le below. h (suc i) (suc j) d (omega arith) (omega arith)),
  )

  -- the paths of pieces that are sorted
  pub sorted_pieces : (pieces : List (Piece C)) → IsSortedByKey path_of path_cmp pieces → AreSorted (paths_of pieces)
  sorted_pieces pieces h = sorted_paths pieces (sorted_far (λ (x y : Piece C). is_lt (path_cmp x.path y.path)) (ranks_by paths_total path_of) pieces h)
