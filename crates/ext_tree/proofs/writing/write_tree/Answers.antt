use Rattle.std.proofs.Common.{sym, ap, ◌∙◌, arith}
use Rattle.ext_tree.specs.TreeText.{version_of, tree_text}
use Rattle.ext_tree.proofs.WritingLemmas.{all_printed}
use Rattle.ext_tree.proofs.writing.write_tree.Goals as goal

pub returns-clause-printed : goal.returns-clause-printed
returns-clause-printed c =
    c.from_vec.ensures ∙ c.in_ok-extend_from_slice.ensures.items
    ∙ all_printed c.pairs-path-items.result.now (version_of c.args.tree.now) c.loop-path.path-index c.loop-path.text.items (omega arith) (ap version_of (sym c.pairs-path-items.ensures.same)) c.loop-path.invariant
    ∙ ap tree_text c.pairs-path-items.ensures.same

pub returns-clause-text : goal.returns-clause-text
returns-clause-text c = λ writable. record {
  tree = record { within = c.pairs-path-items.ensures.tree; each = writable };
  text = returns-clause-printed c;
}
