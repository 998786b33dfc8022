use Rattle.std.proofs.Common.{◌≡◌, ◌∙◌, ap, subst}
use Rattle.std.specs.List.{filter}
use Rattle.std.proofs.lemmas.Result.{err_from_is_err_and}
use Rattle.ext_store_files.specs.Comparing.{IsCompared}
use Rattle.ext_homes.specs.Giving.{home_told}
use Rattle.ext_homes.specs.KeptFiles.{has_stamp, stamp_key}
use Rattle.ext_homes.specs.Placed.{brought_told}
use Rattle.ext_homes.proofs.LeastLemmas.{found_least, found_none, item_listed, look_stops}
use Rattle.ext_homes.proofs.comparing.least_home.Goals as goal

pub is_same-requires-clause-number : goal.is_same-requires-clause-number
is_same-requires-clause-number g c =
    let all : c.of_stamp-file-items.result.now ≡ filter (has_stamp (stamp_key c.args.held.now.stamp)) c.args.kept.now = c.of_stamp-file-items.ensures.same ∙ ap (λ s. filter (has_stamp (stamp_key s)) c.args.kept.now) c.stamp.ensures.same in
    c.requires.numbers c.args.held.now.stamp c.home-home.result (item_listed c.args.held.now.stamp c.args.kept.now c.of_stamp-file-items.result.now c.loop-file.file-index _ c.home-home.result all c.loop-file-test.true c.home-home.ensures)

pub returns-in_err-is_same-clause-cause : goal.returns-in_err-is_same-clause-cause
returns-in_err-is_same-clause-cause g c =
    let all : c.of_stamp-file-items.result.now ≡ filter (has_stamp (stamp_key c.args.held.now.stamp)) c.args.kept.now = c.of_stamp-file-items.ensures.same ∙ ap (λ s. filter (has_stamp (stamp_key s)) c.args.kept.now) c.stamp.ensures.same in
    let p = err_from_is_err_and c.from_residual.result c.from_residual.ensures.1 in
    rw (p.1, p.2) (look_stops c.args.kept.now c.of_stamp-file-items.result.now c.args.held.now (g.D.Disk.state c.args.disk.now) (g.D.Disk.state c.loop-file.disk) (g.D.Disk.state c.is_same.new.disk)
    (g.P.Depot.state c.args.depot.now) (g.P.Depot.state c.loop-file.depot) (g.P.Depot.state c.is_same.new.depot) c.loop-file.file-index _ c.home-home.result _ all c.of_stamp-file-items.ensures.order
    c.loop-file.invariant c.loop-file-test.true c.home-home.ensures c.requires.brought c.in_err-is_same.ensures.cause)

pub returns-then-branch-clause-least : goal.returns-then-branch-clause-least
returns-then-branch-clause-least g c =
    let all : c.of_stamp-file-items.result.now ≡ filter (has_stamp (stamp_key c.args.held.now.stamp)) c.args.kept.now = c.of_stamp-file-items.ensures.same ∙ ap (λ s. filter (has_stamp (stamp_key s)) c.args.kept.now) c.stamp.ensures.same in
    found_least c.args.kept.now c.of_stamp-file-items.result.now c.args.held.now (g.D.Disk.state c.args.disk.now) (g.D.Disk.state c.loop-file.disk)
    (g.P.Depot.state c.args.depot.now) (g.P.Depot.state c.loop-file.depot) c.loop-file.file-index _ c.home-home.result all c.of_stamp-file-items.ensures.order
    c.loop-file.invariant c.loop-file-test.true c.home-home.ensures
    (subst (IsCompared (home_told (g.D.Disk.state c.loop-file.disk) c.home-home.result) (brought_told (g.P.Depot.state c.loop-file.depot) c.args.held.now.body) c.args.held.now.stamp) c.if-branch.true c.in_ok-is_same.ensures.compared)

pub returns-clause-least : goal.returns-clause-least
returns-clause-least g c =
    let all : c.of_stamp-file-items.result.now ≡ filter (has_stamp (stamp_key c.args.held.now.stamp)) c.args.kept.now = c.of_stamp-file-items.ensures.same ∙ ap (λ s. filter (has_stamp (stamp_key s)) c.args.kept.now) c.stamp.ensures.same in
    found_none c.args.kept.now c.of_stamp-file-items.result.now c.args.held.now (g.D.Disk.state c.args.disk.now) (g.D.Disk.state c.loop-file.disk)
    (g.P.Depot.state c.args.depot.now) (g.P.Depot.state c.loop-file.depot) c.loop-file.file-index all c.loop-file.invariant c.loop-file-test.false
