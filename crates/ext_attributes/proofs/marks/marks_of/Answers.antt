use Rattle.ext_attributes.proofs.MarksLemmas.{after_user, group_alone, group_parted, root_untold}
use Rattle.ext_attributes.proofs.marks.marks_of.Goals as goal

pub returns-in_err-group-in-None : goal.returns-in_err-group-in-None
returns-in_err-group-in-None c =
    rw c.from_residual-in_err-group-in-None.ensures (λ o k io ik e.
    let user = c.in_ok-user.ensures in
    c.in_err-group-in-None.ensures o.group io.group (group_alone _ o k c.in-None.ensures (after_user _ _ _ o k user.0 io user.1 e).1).1)

pub returns-then-is_root : goal.returns-then-is_root
returns-then-is_root c =
    let user = c.in_ok-user.ensures in
    let group = c.in_ok-group-in-None.ensures in
    root_untold _ _ _ _ c.is_root.result user.0 group.0 user.1 c.in-None.ensures group.1 c.is_root.ensures c.if-is_root.true

pub returns-in_err-group-in-Some : goal.returns-in_err-group-in-Some
returns-in_err-group-in-Some c =
    rw c.from_residual-in_err-group-in-Some.ensures (λ o k io ik e.
    let user = c.in_ok-user.ensures in
    let found = group_parted _ _ _ o k c.in-Some.ensures io ik (after_user _ _ _ o k user.0 io user.1 e).1 in
    c.in_err-group-in-Some.ensures o.group io.group found.2)

pub returns-in_err-capability-in-Some : goal.returns-in_err-capability-in-Some
returns-in_err-capability-in-Some c =
    rw c.from_residual-in_err-capability-in-Some.ensures (λ o k io ik e.
    let user = c.in_ok-user.ensures in
    let found = group_parted _ _ _ o k c.in-Some.ensures io ik (after_user _ _ _ o k user.0 io user.1 e).1 in
    c.in_err-capability-in-Some.ensures found.0 found.1 found.3)
