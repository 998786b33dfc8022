use Rattle.ext_release.proofs.ReadingLemmas.{finish, next}
use Rattle.ext_release.proofs.reading.read_release.Goals as goal

pub returns-in-None : goal.returns-in-None
returns-in-None c =
    finish c.args.bytes.now c.lines.rest.now c.next_line.result.0.now c.lines.number c.lines.release c.lines.invariant c.follow.new.release (rw c.in-None.is at c.next_line.ensures) (rw c.if-not-branch.false at c.in_ok-follow.ensures)

pub lines-preserved : goal.lines-preserved
lines-preserved c =
    next c.args.bytes.now c.lines.rest.now c.next_line.result.0.now c.lines.number c.lines.release c.lines.invariant c.in-Some.more.now c.follow.new.release (rw c.in-Some.is at c.next_line.ensures) (rw c.if-not-branch.false at c.in_ok-follow.ensures)
