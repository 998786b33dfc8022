use Rattle.std.proofs.Common.{arith, ◌∙◌}
use mathlib.Core.Logic.{inr}
use Rattle.std.proofs.lemmas.Result.{err_from_is_err_and}
use Rattle.ext_tree.proofs.StopLemmas.{sequence_ends, nothing_after, sequence_err, texts_more, each_more, counted_more, text_room, some_bytes, grown_by}
use Rattle.ext_tree.proofs.reading.read_trees.Goals as goal

pub returns-in_err-text : goal.returns-in_err-text
returns-in_err-text c =
    let p = err_from_is_err_and c.from_residual.result c.from_residual.ensures.1 in
    let so_far = c.texts.invariant in
    rw (p.1, p.2) (sequence_err c.args.bytes.now c.texts.trees.items c.texts.rest.now c.texts.line c.in_err-text.field-0.0 so_far.each so_far.text so_far.counted so_far.unended c.in_err-text.ensures)

pub texts-preserved : goal.texts-preserved
texts-preserved c =
    let done = c.texts.trees.items in
    let longer = c.push.new.items.items in
    let tree = c.in_ok-text.text.entries.items in
    let rest = c.texts.rest.now in
    let after = c.in_ok-text.text.rest.now in
    let line = c.in_ok-text.text.line in
    let begins = c.in_ok-text.ensures in
    let so_far = c.texts.invariant in
    let grown = grown_by done longer c.from_pairs.result tree c.in_ok-push.ensures c.from_pairs.ensures in
    record {
      each = each_more done longer tree so_far.each begins.tree grown;
      text = texts_more c.args.bytes.now done longer tree rest c.texts.line after line so_far.text begins grown;
      counted = counted_more done longer tree rest c.texts.line after line so_far.counted begins grown;
      room = omega (arith, so_far.room, text_room rest c.texts.line tree after line begins);
      unended = inr (some_bytes after c.is_empty.result c.is_empty.ensures c.if-is_empty.false);
    }

pub returns-then-is_empty : goal.returns-then-is_empty
returns-then-is_empty c =
    let so_far = c.texts.invariant in
    let grown = c.from_vec.ensures ∙ grown_by c.texts.trees.items c.push.new.items.items c.from_pairs.result c.in_ok-text.text.entries.items c.in_ok-push.ensures c.from_pairs.ensures in
    sequence_ends c.args.bytes.now c.texts.trees.items c.from_vec.result c.in_ok-text.text.entries.items c.texts.rest.now c.texts.line c.in_ok-text.text.rest.now c.in_ok-text.text.line so_far.each so_far.text c.in_ok-text.ensures grown
    (nothing_after c.in_ok-text.text.rest.now c.is_empty.result c.is_empty.ensures c.if-is_empty.true)
