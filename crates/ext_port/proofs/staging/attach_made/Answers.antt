use Rattle.std.proofs.Common.{◌++◌, None, Some, inl, inr, refl, subst}
use Rattle.ext_host.specs.ReadOnly.{is_read_only}
use Rattle.ext_attached.specs.Least.{FindsLeast}
use Rattle.ext_added.specs.Tops.{tops_of}
use Rattle.ext_port.specs.Wants.{LockedWants, StandingWants}
use Rattle.ext_port.proofs.StageLemmas.{least_of_same}
use Rattle.ext_port.proofs.WantsLemmas.{bar_more}
use Rattle.ext_port.proofs.staging.attach_made.Goals as goal

pub returns-in-Some-clause-gives : goal.returns-in-Some-clause-gives
returns-in-Some-clause-gives c =
    let start = c.args.staged.now.start.now in
    let locked = is_read_only start.host.now in
    let tops = c.in_ok-tops.tops in
    let least = subst (FindsLeast locked (start.cut ++ tops)) c.in-Some.is c.in_ok-path.ensures in
    inr (c.in-Some.path, least_of_same locked start.cut tops (tops_of c.args.staged.now.made.now) c.in_ok-tops.ensures.has (Some c.in-Some.path) least, refl)

pub returns-in-None-clause-gives : goal.returns-in-None-clause-gives
returns-in-None-clause-gives c =
    let start = c.args.staged.now.start.now in
    let made = c.args.staged.now.made.now in
    let locked = is_read_only start.host.now in
    let tops = c.in_ok-tops.tops in
    let least = subst (FindsLeast locked (start.cut ++ tops)) c.in-None.is c.in_ok-path.ensures in
    let none = least_of_same locked start.cut tops (tops_of made) c.in_ok-tops.ensures.has None least in
    bar_more (StandingWants start.host.now c.args.staged.now.ask.now c.args.staged.now.image.now c.args.staged.now.tree.now made)
    (LockedWants start.host.now c.args.staged.now.ask.now c.args.staged.now.image.now c.args.staged.now.tree.now made start.cut)
    (λ r wants. inl (none, wants)) c.attach_unlocked.result c.attach_unlocked.ensures.gives
