-- The laws of tree texts.
use Rattle.std.proofs.Common.{◌≡◌, ℕ, List, [], ◌∷◌, ◌++◌, sym, ap, ◌∙◌}
use Rattle.std.proofs.lemmas.List.{append-nil, append_cancel_left}
use Rattle.std.specs.List.{flat_map}
use Rattle.ext_tree.specs.declared.stamp.Stamp.{Stamp}
use Rattle.ext_tree.specs.Tree.{Entries}
use Rattle.ext_tree.specs.TreeText.{HasText, tree_lines, tree_text}
use Rattle.ext_lines.specs.Lines.{whole_lines}
use Rattle.ext_tree.specs.Laws.{OneTreeOfText, OneTextOfTree, NoPrefixOfText, OneListOfSequence}
use Rattle.ext_lines.proofs.ForCallers.{whole_lines-text}
use Rattle.ext_tree.proofs.SequenceLemmas.{one_tree, sequence_peeled}
use Rattle.ext_tree.proofs.FirstFaultLemmas.{tree_lacks, sequence_lines}

-- the lines after a tree's text
lines_after : (es : Entries Stamp) (rest : List ℕ) → HasText es → whole_lines (tree_text es ++ rest) ≡ tree_lines es ++ whole_lines rest
lines_after es rest text = whole_lines-text (tree_lines es) rest (tree_lacks es text)

pub prefix_law : NoPrefixOfText
prefix_law bytes more s t first second =
    let whole : tree_text s ++ more ≡ tree_text t ++ [] = ap (λ xs. xs ++ more) (sym first.text) ∙ second.text ∙ sym (append-nil (tree_text t)) in
    let lines : tree_lines s ++ whole_lines more ≡ tree_lines t ++ whole_lines [] = sym (lines_after s more first.tree) ∙ ap whole_lines whole ∙ lines_after t [] second.tree in
    let same : s ≡ t = (one_tree s t (whole_lines more) (whole_lines []) first.tree second.tree lines).0 in
    append_cancel_left (tree_text s) more [] (whole ∙ ap (λ es. tree_text es ++ []) (sym same))

pub tree_law : OneTreeOfText
tree_law bytes s t first second =
    let whole : tree_text s ++ [] ≡ tree_text t ++ [] = ap (λ xs. xs ++ []) (sym first.text ∙ second.text) in
    (one_tree s t (whole_lines []) (whole_lines []) first.tree second.tree (sym (lines_after s [] first.tree) ∙ ap whole_lines whole ∙ lines_after t [] second.tree)).0

pub text_law : OneTextOfTree
text_law t bytes other first second = first.text ∙ sym second.text

pub sequence_law : OneListOfSequence
sequence_law bytes ss ts first second =
    let lines : flat_map tree_lines ss ++ [] ≡ flat_map tree_lines ts = append-nil (flat_map tree_lines ss) ∙ sym (sequence_lines bytes ss first.each first.text) ∙ sequence_lines bytes ts second.each second.text in
    let peeled = sequence_peeled ss ts [] first.each second.each lines in
    whole peeled.0 peeled.2 peeled.1
  where
    whole : (more : List (Entries Stamp)) → [] ≡ flat_map tree_lines more → ts ≡ ss ++ more → ss ≡ ts
    whole [] none is = sym (is ∙ append-nil ss)
    whole (t ∷ more) none is = absurd (cc)
