use Rattle.std.proofs.Common.{sym}
use Rattle.ext_transfer.proofs.NumberLemmas.{enough, no_number, too_few}
use Rattle.ext_transfer.proofs.numbers.instances_of.Goals as goal

pub returns-in-None : goal.returns-in-None
returns-in-None c = sym (no_number c.args.text.now c.in-None.ensures)

pub returns-then-number-ge2 : goal.returns-then-number-ge2
returns-then-number-ge2 c = sym (enough c.args.text.now c.in-Some.number c.in-Some.ensures.0 c.in-Some.ensures.1 c.if-number-ge2.true)

pub returns-else-number-ge2 : goal.returns-else-number-ge2
returns-else-number-ge2 c = sym (too_few c.args.text.now c.in-Some.number c.in-Some.ensures.0 c.in-Some.ensures.1 c.if-number-ge2.false)
