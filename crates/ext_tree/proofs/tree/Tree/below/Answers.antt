use Rattle.std.proofs.Common.{[], ◌∙◌}
use Rattle.std.proofs.lemmas.List.Elements.{filter_agree}
use Rattle.ext_text.specs.Path.{is_proper_prefix}
use Rattle.ext_tree.specs.Slices.{is_named}
use Rattle.ext_tree.proofs.SlicesLemmas.{at_path, named_below, sorted_where}
use Rattle.ext_tree.proofs.tree.Tree.below.Goals as goal

pub returns-clause-same : goal.returns-clause-same
returns-clause-same g c =
    rw c.pairs.ensures.same at c.named.ensures ∙ filter_agree (at_path (is_named c.args.directory.now [])) (at_path (is_proper_prefix c.args.directory.now)) (λ e. named_below c.args.directory.now e.0) c.args.self.now

pub returns-clause-sorted : goal.returns-clause-sorted
returns-clause-sorted g c = sorted_where (is_named c.args.directory.now []) c.args.self.now _ c.pairs.ensures.tree.tree.sorted (rw c.pairs.ensures.same at c.named.ensures)
