use Rattle.std.proofs.Common.{None, Some, sym, ◌∙◌}
use Rattle.ext_attributes.proofs.MarksLemmas.{no_more, parted}
use Rattle.ext_attributes.proofs.marks.split_owner.Goals as goal

pub returns-in_err-first : goal.returns-in_err-first
returns-in_err-first c = rw c.from_residual.ensures (λ h o plain io e. c.in_err-first.ensures h o None plain io tt e)

pub returns-in-Some : goal.returns-in-Some
returns-in-Some c = λ h o plain io e.
    let found = rw c.in-Some.is at c.in_ok-first.ensures in
    no_more o c.in_ok-first.owner c.in-Some.field-0 io found.1 (sym (parted _ h c.in_ok-first.owner o (Some c.in-Some.field-0) None found.0 plain (sym found.3 ∙ e)).1)
