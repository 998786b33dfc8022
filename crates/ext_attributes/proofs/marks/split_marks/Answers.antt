use Rattle.ext_attributes.proofs.MarksLemmas.{parted_at}
use Rattle.ext_attributes.proofs.marks.split_marks.Goals as goal

pub returns-in_err-owner-in-Some : goal.returns-in_err-owner-in-Some
returns-in_err-owner-in-Some c =
    rw c.from_residual.ensures (λ h o k plain io ik e.
    c.in_err-owner-in-Some.ensures o k io ik (parted_at _ _ _ h o k c.in-Some.ensures.prefix_lacks plain c.in-Some.ensures.whole e).1)
