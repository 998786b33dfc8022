use Rattle.std.proofs.Common.{true, false}
use Rattle.std.proofs.lemmas.Result.{err_from_is_err_and}
use Rattle.ext_cmd.proofs.ChosenLemmas.{both_read, clash_refused, more_refused, others_refused}
use Rattle.ext_cmd.proofs.HierarchyLemmas.{apart_true, told_apart}
use Rattle.ext_cmd.proofs.hierarchies.read_others.Goals as goal

pub returns-in_err-confext-in-Some : goal.returns-in_err-confext-in-Some
returns-in_err-confext-in-Some c =
    let p = err_from_is_err_and c.from_residual.result c.from_residual.ensures.1 in
    rw (p.1, p.2) (others_refused c.args.sysext c.in-Some.word.now c.in-Some.more c.args.more.now _ c.requires c.in-Some.ensures c.in_err-confext-in-Some.ensures)

pub returns-then-not-are_apart : goal.returns-then-not-are_apart
returns-then-not-are_apart c =
    let others = c.in_ok-confext-in-Some.ensures in
    clash_refused c.args.sysext c.in_ok-confext-in-Some.confext c.in-Some.word.now c.in-Some.more c.args.more.now c.requires others.0 others.1
    (told_apart _ _ _ _ false c.as_slice.ensures c.as_slice-in-Some.ensures c.if-not-are_apart.ensures) c.in-Some.ensures

pub returns-in_err-no_more-in-Some : goal.returns-in_err-no_more-in-Some
returns-in_err-no_more-in-Some c =
    let p = err_from_is_err_and c.from_residual-in_err-no_more-in-Some.result c.from_residual-in_err-no_more-in-Some.ensures.1 in
    let others = c.in_ok-confext-in-Some.ensures in
    let confext = c.in_ok-confext-in-Some.confext in
    rw (p.1, p.2) (more_refused c.args.sysext confext c.in-Some.word.now c.in-Some.more c.args.more.now _ others.0
    (apart_true c.args.sysext confext (told_apart _ _ _ confext true c.as_slice.ensures c.as_slice-in-Some.ensures c.if-not-are_apart.ensures)) others.1 c.in-Some.ensures c.in_err-no_more-in-Some.ensures)

pub returns-in_ok-no_more-in-Some : goal.returns-in_ok-no_more-in-Some
returns-in_ok-no_more-in-Some c =
    let others = c.in_ok-confext-in-Some.ensures in
    let confext = c.in_ok-confext-in-Some.confext in
    both_read c.args.sysext confext c.in-Some.word.now c.in-Some.more c.args.more.now c.requires others.0
    (apart_true c.args.sysext confext (told_apart _ _ _ confext true c.as_slice.ensures c.as_slice-in-Some.ensures c.if-not-are_apart.ensures)) others.1 c.in-Some.ensures c.in_ok-no_more-in-Some.ensures.1
