use Rattle.std.proofs.Common.{◌∷◌, [], inl, refl, subst}
use Rattle.ext_homes.specs.Comparing.{IsLeastOrNone, stored_in}
use Rattle.ext_homes.specs.Placed.{TakesHome, brought_told}
use Rattle.ext_homes.proofs.PlacingLemmas.{placing_rests}
use Rattle.ext_homes.proofs.placing.place_brought.Goals as goal

pub returns-in-Some-clause-placed : goal.returns-in-Some-clause-placed
returns-in-Some-clause-placed g c =
    let old = stored_in c.args.kept.now (g.D.Disk.state c.args.disk.now) in
    let told = brought_told (g.P.Depot.state c.args.depot.now) c.args.held.now.body in
    placing_rests (λ written. TakesHome old c.args.generation c.args.held.now.stamp told c.args.files.now c.in-Some.home written) c.args.generation c.args.files.now (c.args.held.now.stamp ∷ [])
    (g.D.Disk.state c.args.disk.now) (g.D.Disk.state c.least_home.new.disk) c.requires.homes c.in_ok-home.ensures.rests
    (inl (subst (IsLeastOrNone old c.args.held.now.stamp told) c.in-Some.is c.in_ok-home.ensures.least, refl))
