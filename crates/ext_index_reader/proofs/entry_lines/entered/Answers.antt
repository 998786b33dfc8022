use Rattle.ext_index_reader.proofs.LineLemmas.{entry_not_agrees, entry_not_come}
use Rattle.ext_index_reader.proofs.entry_lines.entered.Goals as goal

pub returns-then-not-may_come : goal.returns-then-not-may_come
returns-then-not-may_come c =
    let read = rw c.in-Some.is at c.in_ok-entry_of_line.ensures in
    entry_not_come c.args.generation c.args.so_far.now c.args.line.now _ c.may_come.result read.0 read.1 c.may_come.ensures c.if-not-may_come.true

pub returns-then-not-agrees : goal.returns-then-not-agrees
returns-then-not-agrees c =
    let read = rw c.in-Some.is at c.in_ok-entry_of_line.ensures in
    entry_not_agrees c.args.generation c.args.so_far.now c.args.line.now _ read.0 read.1 (rw c.if-not-agrees.true at c.in_ok-agrees-in-Some.ensures)
