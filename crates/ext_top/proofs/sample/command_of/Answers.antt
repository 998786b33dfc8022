use Rattle.ext_lines.specs.Words.{words_of}
use Rattle.ext_cmd.specs.Line.{IsLineCommand}
use Rattle.ext_cmd.proofs.ForCallers.{no_fault}
use Rattle.ext_top.proofs.sample.command_of.Goals as goal

pub unreachable-requires-in-Err-Usage : goal.unreachable-requires-in-Err-Usage
unreachable-requires-in-Err-Usage c =
    no_fault IsLineCommand (words_of c.args.line.now) 1 c.in-Err-Usage.field-0-0 c.requires (rw c.in-Err-Usage.field-0-is at c.in-Err-Usage.ensures).1
