use Rattle.std.proofs.Common.{ℕ, List, sym, arith, subst, ◌∙◌}
use Rattle.ext_lines.specs.Words.{words_of}
use Rattle.ext_cmd.specs.Reading.{ReadsAfter}
use Rattle.ext_cmd.proofs.LineLemmas.{alone_word, read_begun, unknown_word}
use Rattle.ext_cmd.proofs.line.read_command.Goals as goal

pub returns-in-None : goal.returns-in-None
returns-in-None c = unknown_word c.args.word.now (words_of c.args.more.now) c.in-None.ensures

pub returns-then-not-may_begin_line : goal.returns-then-not-may_begin_line
returns-then-not-may_begin_line c =
    alone_word c.in-Some.keyword c.args.word.now (words_of c.args.more.now) _ (omega arith) c.in-Some.ensures (sym c.may_begin_line.ensures ∙ c.if-not-may_begin_line.true)

pub returns-else-not-may_begin_line : goal.returns-else-not-may_begin_line
returns-else-not-may_begin_line c =
    read_begun c.in-Some.keyword c.args.word.now (words_of c.args.more.now) c.read_after.result
    (sym c.may_begin_line.ensures ∙ c.if-not-may_begin_line.false) c.in-Some.ensures (subst (λ (ws : List (List ℕ)). ReadsAfter c.in-Some.keyword ws c.read_after.result) c.of_text.ensures c.read_after.ensures)
