use Rattle.std.proofs.Common.{refl, sym, subst, arith}
use Rattle.std.proofs.lemmas.Bool.{false≢true}
use Rattle.ext_lines.proofs.NumbersLemmas.{IsShort, decimal_read, decimal_short}
use Rattle.ext_lines.proofs.numbers.read_decimal.Goals as goal

pub returns-then-is_short : goal.returns-then-is_short
returns-then-is_short c = decimal_read c.args.text.now c.args.most c.value_of.result (omega arith) (c.if-is_short.ensures.0 refl) c.value_of.ensures

pub returns-else-is_short : goal.returns-else-is_short
returns-else-is_short c = λ n small e. false≢true (c.if-is_short.ensures.1 (subst IsShort (sym e) (decimal_short n (omega arith))))
