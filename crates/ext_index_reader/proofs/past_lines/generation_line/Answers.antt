use Rattle.std.proofs.Common.{arith}
use Rattle.ext_index_reader.proofs.LineLemmas.{no_generation}
use Rattle.ext_index_reader.proofs.past_lines.generation_line.Goals as goal

pub returns-then-not-may_be_past : goal.returns-then-not-may_be_past
returns-then-not-may_be_past c =
    let found = c.in-Some.ensures in
    no_generation c.args.generation c.args.so_far.now c.args.more c.args.line.now c.in-Some.past c.may_be_past.result (omega arith) found.1 found.2 c.may_be_past.ensures c.if-not-may_be_past.true
