use Rattle.std.proofs.Common.{◌∙◌, sym}
use Rattle.std.proofs.lemmas.Bool.{not-true}
use Rattle.ext_disk.proofs.ForCallers.{rests_itself}
use Rattle.ext_homes.specs.Brought.{held_stamps, is_brought}
use Rattle.ext_homes.specs.Comparing.{stored_in}
use Rattle.ext_homes.specs.Placed.{IsFilePlaced}
use Rattle.ext_homes.proofs.PlacingLemmas.{kept_placed, placing_rests}
use Rattle.ext_homes.proofs.placing.place_held.Goals as goal

pub returns-then-is_kept-clause-placed : goal.returns-then-is_kept-clause-placed
returns-then-is_kept-clause-placed g c =
    let old = stored_in c.args.kept.now (g.D.Disk.state c.args.disk.now) in
    let depot = g.P.Depot.state c.args.depot.now in
    let held = c.args.held.now in
    placing_rests (λ written. IsFilePlaced old depot c.args.generation held c.args.files.now held written) c.args.generation c.args.files.now (held_stamps held)
    (g.D.Disk.state c.args.disk.now) (g.D.Disk.state c.args.disk.now) c.requires.homes (rests_itself (g.D.Disk.state c.args.disk.now))
    (kept_placed old depot c.args.generation held c.args.files.now (not-true (is_brought held.body) (sym c.is_kept.ensures ∙ c.if-is_kept.true)))
