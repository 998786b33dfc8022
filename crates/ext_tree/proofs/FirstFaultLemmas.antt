-- Where no text goes on is the first faulty line, and there the bytes are no sequence of texts.
use Rattle.std.proofs.Common.{◌≡◌, ◌≢◌, ℕ, suc, ◌+◌, ◌-◌, not, eqb, List, [], ◌∷◌, ◌++◌, length, take, refl, sym, ap, ◌∙◌, subst, arith, append_assoc, length-append}
use Rattle.std.specs.Prelude.{◌⊎◌, codes, map}
use mathlib.Core.Logic.{inl, inr}
use Rattle.std.proofs.lemmas.List.{append-nil, append_cancel_left, take-append-le}
use Rattle.std.proofs.lemmas.List.Sums.{AllPass-from_list_all}
use Rattle.std.specs.List.{AllByRecursion, flat_map}
use Rattle.ext_lines.specs.Split.{Lacks, IsSplit}
use Rattle.ext_lines.proofs.ForCallers.{split_or_lacks, differs, lacks_append, lacks_cons, lacks_nil, whole_lines-text, whole_lines-split, whole_lines-lacks, lines_text-append}
use Rattle.ext_text.proofs.ForCallers.{all_append}
use Rattle.ext_tree.specs.declared.stamp.Stamp.{Stamp}
use Rattle.ext_tree.specs.Tree.{Entries}
use Rattle.ext_tree.specs.TreeText.{HasTreeLine, HasText, header, version_of, tree_line, tree_lines, tree_text}
use Rattle.ext_lines.specs.Lines.{lines_text, whole_lines}
use Rattle.ext_tree.specs.FirstFault.{Begins, EndsIdle, IsFirstFault}
use Rattle.ext_tree.proofs.IdleLemmas.{none_ends_idle}
use Rattle.ext_tree.proofs.SequenceLemmas.{loosely, loosely_each, loosely_lines, loosely_trees}
use Rattle.ext_tree.proofs.TreeLineLemmas.{line_lacks}
use Rattle.ext_tree.proofs.TreeTextLemmas.{lines_of}

pub header_lacks : (v : ℕ) → Lacks 10 (header v)
header_lacks v =
    lacks_append 10 (codes "hostext-tree ") ((48 + v) ∷ []) (AllPass-from_list_all (λ b. not (eqb b 10)) (codes "hostext-tree ") refl)
    (lacks_cons 10 (48 + v) [] (differs 10 (48 + v) (λ e. omega arith)) (lacks_nil 10))

pub entries_lack : (es : Entries Stamp) → AllByRecursion HasTreeLine es → AllByRecursion (Lacks 10) (map tree_line es)
entries_lack [] lines = tt
entries_lack (x ∷ es) lines = (line_lacks x lines.0, entries_lack es lines.1)

-- no line of a sequence holds a newline
pub tree_lacks : (es : Entries Stamp) → HasText es → AllByRecursion (Lacks 10) (tree_lines es)
tree_lacks es text = (header_lacks (version_of es), all_append (Lacks 10) (map tree_line es) (codes "end" ∷ []) (entries_lack es (lines_of es text)) (AllPass-from_list_all (λ b. not (eqb b 10)) (codes "end") refl, tt))

pub sequence_lacks : (trees : List (Entries Stamp)) → AllByRecursion HasText trees → AllByRecursion (Lacks 10) (flat_map tree_lines trees)
sequence_lacks [] each = tt
sequence_lacks (t ∷ trees) each = all_append (Lacks 10) (tree_lines t) (flat_map tree_lines trees) (tree_lacks t each.0) (sequence_lacks trees each.1)

-- the text of a sequence is that of its lines
pub sequence_text : (trees : List (Entries Stamp)) → flat_map tree_text trees ≡ lines_text (flat_map tree_lines trees)
sequence_text [] = refl
sequence_text (t ∷ trees) = ap (λ xs. tree_text t ++ xs) (sequence_text trees) ∙ sym (lines_text-append (tree_lines t) (flat_map tree_lines trees))

-- the lines of a whole sequence
pub sequence_lines : (bytes : List ℕ) (trees : List (Entries Stamp)) → AllByRecursion HasText trees → bytes ≡ flat_map tree_text trees → whole_lines bytes ≡ flat_map tree_lines trees
sequence_lines bytes trees each text =
    ap whole_lines (text ∙ sequence_text trees ∙ sym (append-nil (lines_text (flat_map tree_lines trees))))
    ∙ whole_lines-text (flat_map tree_lines trees) [] (sequence_lacks trees each)
    ∙ ap (λ xs. flat_map tree_lines trees ++ xs) (whole_lines-lacks [] (lacks_nil 10))
    ∙ append-nil (flat_map tree_lines trees)

-- the bytes are lines with which sequences begin, and a rest: where it has a first line, that is faulty; and the lines are
-- no sequence, unless something follows
pub record IsStuck (wanted : List (Entries Stamp) → Type 0) (bytes : List ℕ) (lines : List (List ℕ)) (rest : List ℕ) : Type 0 where
  pub text : bytes ≡ lines_text lines ++ rest
  pub lacks : AllByRecursion (Lacks 10) lines
  pub before : Begins wanted lines
  pub not_before : (k : ℕ) → EndsIdle (take k lines) → ⊥
  pub stop : (l more : List ℕ) → IsSplit 10 rest l more → EndsIdle (lines ++ l ∷ []) ⊎ (Begins wanted (lines ++ l ∷ []) → ⊥)
  pub unended : (trees : List (Entries Stamp)) → wanted trees → AllByRecursion HasText trees → lines ≡ flat_map tree_lines trees → rest ≢ []

take_lines : (lines : List (List ℕ)) (l : List ℕ) (more : List (List ℕ)) (n : ℕ) → n ≡ length lines → take n (lines ++ l ∷ more) ≡ lines
take_lines [] l more n same = ap (λ k. take k (l ∷ more)) same
take_lines (x ∷ lines) l more n same = ap (λ k. take k ((x ∷ lines) ++ l ∷ more)) same ∙ ap (λ xs. x ∷ xs) (take_lines lines l more (length lines) refl)

take_more : (lines : List (List ℕ)) (l : List ℕ) (more : List (List ℕ)) (n : ℕ) → n ≡ suc (length lines) → take n (lines ++ l ∷ more) ≡ lines ++ l ∷ []
take_more [] l more n same = ap (λ k. take k (l ∷ more)) same
take_more (x ∷ lines) l more n same = ap (λ k. take k ((x ∷ lines) ++ l ∷ more)) same ∙ ap (λ xs. x ∷ xs) (take_more lines l more (suc (length lines)) refl)

-- a sequence that is the bytes has lines like these
whole_sequence : (wanted : List (Entries Stamp) → Type 0) (bytes : List ℕ) (lines : List (List ℕ)) (rest : List ℕ) → IsStuck wanted bytes lines rest → (trees : List (Entries Stamp)) → AllByRecursion HasText trees → bytes ≡ flat_map tree_text trees → lines ++ whole_lines rest ≡ flat_map tree_lines trees
whole_sequence wanted bytes lines rest stuck trees each text = sym (ap whole_lines stuck.text ∙ whole_lines-text lines rest stuck.lacks) ∙ sequence_lines bytes trees each text

early_end : (wanted : List (Entries Stamp) → Type 0) (bytes : List ℕ) (lines : List (List ℕ)) (rest : List ℕ) → IsStuck wanted bytes lines rest → Lacks 10 rest → IsFirstFault wanted bytes (length lines + 1)
early_end wanted bytes lines rest stuck lacks =
    let no_more : lines ++ whole_lines rest ≡ lines = ap (λ xs. lines ++ xs) (whole_lines-lacks rest lacks) ∙ append-nil lines in
    let seen : whole_lines bytes ≡ lines = ap whole_lines stuck.text ∙ whole_lines-text lines rest stuck.lacks ∙ no_more in
    record {
      none = λ trees as_many is.
          let same : lines ≡ flat_map tree_lines trees = sym no_more ∙ whole_sequence wanted bytes lines rest stuck trees is.each is.text in
          stuck.unended trees as_many is.each same
          (append_cancel_left (lines_text lines) rest [] (sym stuck.text ∙ is.text ∙ sequence_text trees ∙ ap lines_text (sym same) ∙ sym (append-nil (lines_text lines))));
      stop = inr (record {
        after = ap (λ xs. length xs + 1) (sym seen);
        before = subst (Begins wanted) (sym seen) stuck.before;
        not_before = λ k _ idle. stuck.not_before k (subst EndsIdle (ap (take k) seen) idle);
      });
    }

faulty_line : (wanted : List (Entries Stamp) → Type 0) (bytes : List ℕ) (lines : List (List ℕ)) (rest l more : List ℕ) → IsStuck wanted bytes lines rest → IsSplit 10 rest l more → IsFirstFault wanted bytes (length lines + 1)
faulty_line wanted bytes lines rest l more stuck split =
    let after : lines ++ whole_lines rest ≡ lines ++ l ∷ whole_lines more = ap (λ xs. lines ++ xs) (whole_lines-split rest l more split) in
    let seen : whole_lines bytes ≡ lines ++ l ∷ whole_lines more = ap whole_lines stuck.text ∙ whole_lines-text lines rest stuck.lacks ∙ after in
    let one_more : take (length lines + 1) (whole_lines bytes) ≡ lines ++ l ∷ [] = ap (take (length lines + 1)) seen ∙ take_more lines l (whole_lines more) (length lines + 1) (omega arith) in
    record {
      none = λ trees as_many is.
          let whole : lines ++ l ∷ whole_lines more ≡ flat_map tree_lines trees = sym after ∙ whole_sequence wanted bytes lines rest stuck trees is.each is.text in
          elim (stuck.stop l more split) [
            | inl idle ↦ none_ends_idle trees [] is.each tt (length lines + 1) (subst EndsIdle (sym (ap (take (length lines + 1)) (append-nil (flat_map tree_lines trees) ∙ sym whole) ∙ take_more lines l (whole_lines more) (length lines + 1) (omega arith))) idle)
            | inr not_begun ↦ not_begun (record {
              texts = map loosely trees;
              more = whole_lines more;
              as_many = subst wanted (sym (loosely_trees trees)) as_many;
              each = loosely_each trees is.each;
              text = append_assoc lines (l ∷ []) (whole_lines more) ∙ whole ∙ sym (loosely_lines trees);
            })
          ];
      stop = inl (record {
        counted = omega arith;
        there = omega (arith, ap length seen, length-append lines (l ∷ whole_lines more));
        before = subst (Begins wanted) (sym (ap (take (length lines + 1 - 1)) seen ∙ take_lines lines l (whole_lines more) (length lines + 1 - 1) (omega arith))) stuck.before;
        not_before = λ k less idle. stuck.not_before k (subst EndsIdle (ap (take k) seen ∙ take-append-le k lines (l ∷ whole_lines more) (omega (arith, less))) idle);
        faulty = elim (stuck.stop l more split) [
          | inl idle ↦ inl (subst EndsIdle (sym one_more) idle)
          | inr not_begun ↦ inr (λ begins. not_begun (subst (Begins wanted) one_more begins))
        ];
      });
    }

pub stuck_fault : (wanted : List (Entries Stamp) → Type 0) (bytes : List ℕ) (lines : List (List ℕ)) (rest : List ℕ) (line : ℕ) → IsStuck wanted bytes lines rest → line ≡ length lines + 1 → IsFirstFault wanted bytes line
stuck_fault wanted bytes lines rest line stuck is =
    subst (IsFirstFault wanted bytes) (sym is) (elim (split_or_lacks 10 rest) [
      | inl lacks ↦ early_end wanted bytes lines rest stuck lacks
      | inr (l, more, split) ↦ faulty_line wanted bytes lines rest l more stuck split
    ])
