-- The law of samples: what a tree has at each path tells the tree, and so its text.
use Rattle.std.proofs.Common.{◌≡◌, List, sym, ◌∙◌}
use Rattle.std.proofs.lemmas.Float.{T_from_true}
use Rattle.std.specs.FinMap.Entries.{same_entries}
use Rattle.ext_text.specs.Order.{paths_exact, paths_total}
use Rattle.ext_text.specs.Path.{path_cmp}
use Rattle.ext_tree.specs.Tree.{Entries}
use Rattle.ext_tree.specs.TreeText.{tree_text}
use Rattle.ext_tree.specs.declared.stamp.Stamp.{Stamp}
use Rattle.ext_sample.specs.Laws.{OneSampleDepot}
use Rattle.ext_sample.specs.Made.{IsTreeOf, MadeFile, made_bytes}
use Rattle.ext_sample.specs.Sample.{sample_files}

one_tree_of : (files : List MadeFile) (s t : Entries Stamp) → IsTreeOf files s → IsTreeOf files t → s ≡ t
one_tree_of files s t one other =
    same_entries path_cmp paths_total paths_exact s t (T_from_true _ one.text.within.tree.sorted) (T_from_true _ other.text.within.tree.sorted) (λ q. one.each q ∙ sym (other.each q))

pub one_sample_depot : OneSampleDepot
one_sample_depot n files others one other path =
    let hosts = one_tree_of _ one.host other.host one.host_tree other.host_tree in
    let images = one_tree_of _ one.images other.images one.images_tree other.images_tree in
    one.each path ∙ (λ i. made_bytes (sample_files n (tree_text (hosts i)) (tree_text (images i))) path) ∙ sym (other.each path)
