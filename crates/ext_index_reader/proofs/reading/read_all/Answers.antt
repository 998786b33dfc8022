use Rattle.std.proofs.Common.{arith}
use Rattle.ext_index_reader.proofs.LoopLemmas.{read_end, read_more, read_start, split_short, stop_at}
use Rattle.ext_index_reader.proofs.reading.read_all.Goals as goal

pub lines-init : goal.lines-init
lines-init c = record { read = read_start c.args.generation c.args.bytes.now c.args.reading.now c.requires; room = omega arith }

pub returns-in-None : goal.returns-in-None
returns-in-None c = read_end c.args.generation c.args.bytes.now c.lines.rest.now c.lines.line c.lines.reading c.finished.result c.lines.invariant.read c.in-None.ensures c.finished.ensures

pub returns-then-not-branch : goal.returns-then-not-branch
returns-then-not-branch c =
    let none = rw c.if-not-branch.true at c.in_ok-read_line-in-Some.ensures in
    stop_at c.args.generation c.args.bytes.now c.lines.rest.now c.lines.line c.lines.reading c.in-Some.text.now c.in-Some.after.now c.lines.invariant.read c.in-Some.ensures none

pub lines-preserved : goal.lines-preserved
lines-preserved c =
    let found = rw c.if-not-branch.false at c.in_ok-read_line-in-Some.ensures in
    record {
      read = read_more c.args.generation c.args.bytes.now c.lines.rest.now c.lines.line c.lines.reading c.read_line.new.reading c.in-Some.text.now c.in-Some.after.now c.lines.invariant.read c.in-Some.ensures found;
      room = omega (arith, c.lines.invariant.room, split_short c.lines.rest.now c.in-Some.text.now c.in-Some.after.now c.in-Some.ensures);
    }
