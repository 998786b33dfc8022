use Rattle.std.proofs.lemmas.Result.{err_from_is_err_and}
use Rattle.ext_tree.proofs.StopLemmas.{tree_err, tree_more, not_empty}
use Rattle.ext_tree.proofs.reading.read_tree.Goals as goal

pub returns-in_err-text : goal.returns-in_err-text
returns-in_err-text c =
    let p = err_from_is_err_and c.from_residual.result c.from_residual.ensures.1 in
    rw (p.1, p.2) (tree_err c.args.bytes.now c.in_err-text.field-0.0 c.in_err-text.ensures)

pub returns-else-is_empty : goal.returns-else-is_empty
returns-else-is_empty c =
    tree_more c.args.bytes.now c.in_ok-text.text.entries.items c.in_ok-text.text.rest.now c.in_ok-text.text.line c.in_ok-text.ensures
    (not_empty c.in_ok-text.text.rest.now c.is_empty.result c.is_empty.ensures c.if-is_empty.false)
