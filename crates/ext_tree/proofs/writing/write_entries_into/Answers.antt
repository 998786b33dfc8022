use Rattle.std.proofs.Common.{[], ◌∷◌, ◌++◌, ◌∙◌, arith}
use Rattle.ext_tree.specs.Tree.{as_shown}
use Rattle.ext_tree.specs.TreeText.{header, tree_line}
use Rattle.ext_tree.proofs.WritingLemmas.{all_printed_borrowed, text_next, shown_known, shown_next, version_told}
use Rattle.ext_tree.proofs.writing.write_entries_into.Goals as goal

pub loop-entry-preserved : goal.loop-entry-preserved
loop-entry-preserved c = record {
  text = text_next (λ x. tree_line (x.now.0, as_shown x.now.1) ++ 10 ∷ []) c.args.entries.now c.loop-entry.entry-index c.entry-item.result (header 1 ++ 10 ∷ []) c.loop-entry.text.items _ c.loop-entry.invariant.text c.entry-item.is c.loop-entry-test.true c.in_ok-append_shown.ensures;
  version = shown_next c.args.entries.now c.loop-entry.entry-index c.entry-item.result c.loop-entry.version c.shown_version.result c.higher-version.result c.loop-entry.invariant.version c.entry-item.is c.loop-entry-test.true c.shown_version.ensures c.higher-version.ensures;
}

pub tell_version-requires-clause-version : goal.tell_version-requires-clause-version
tell_version-requires-clause-version c = shown_known c.args.entries.now c.loop-entry.entry-index c.loop-entry.version c.loop-entry.invariant.version

pub returns-clause-printed : goal.returns-clause-printed
returns-clause-printed c =
    let so_far = c.loop-entry.invariant in
    c.from_vec.ensures ∙ c.in_ok-extend_from_slice-2.ensures.items
    ∙ all_printed_borrowed c.args.entries.now c.loop-entry.version c.loop-entry.entry-index c.tell_version.new.text.items (omega arith)
    (version_told c.args.entries.now c.loop-entry.entry-index c.loop-entry.version (omega arith) so_far.version)
    (c.tell_version.ensures _ so_far.text)

pub returns-clause-text : goal.returns-clause-text
returns-clause-text c = λ has. record { tree = has; text = returns-clause-printed c }
