use Rattle.std.proofs.Common.{[], refl, subst, sym}
use Rattle.ext_disk.proofs.ForCallers.{rests_itself}
use Rattle.ext_homes.specs.Brought.{brought_stamps}
use Rattle.ext_homes.specs.Comparing.{stored_in}
use Rattle.ext_homes.specs.Placed.{IsEntryPlaced}
use Rattle.ext_homes.proofs.PlacingLemmas.{placing_rests}
use Rattle.ext_homes.proofs.placing.place_entry.Goals as goal

pub returns-in-Dir-clause-placed : goal.returns-in-Dir-clause-placed
returns-in-Dir-clause-placed g c =
    let state = g.D.Disk.state c.args.disk.now in
    let old = stored_in c.args.kept.now state in
    let depot = g.P.Depot.state c.args.depot.now in
    let entry = c.args.entry.now in
    placing_rests (λ written. IsEntryPlaced old depot c.args.generation entry c.args.files.now entry written) c.args.generation c.args.files.now (brought_stamps entry)
    state state c.requires.homes (rests_itself state) (subst (λ e. IsEntryPlaced old depot c.args.generation e c.args.files.now e []) (sym c.in-Dir.is) (refl, refl))

pub returns-in-Opaque-clause-placed : goal.returns-in-Opaque-clause-placed
returns-in-Opaque-clause-placed g c =
    let state = g.D.Disk.state c.args.disk.now in
    let old = stored_in c.args.kept.now state in
    let depot = g.P.Depot.state c.args.depot.now in
    let entry = c.args.entry.now in
    placing_rests (λ written. IsEntryPlaced old depot c.args.generation entry c.args.files.now entry written) c.args.generation c.args.files.now (brought_stamps entry)
    state state c.requires.homes (rests_itself state) (subst (λ e. IsEntryPlaced old depot c.args.generation e c.args.files.now e []) (sym c.in-Opaque.is) (refl, refl))

pub returns-in-Link-clause-placed : goal.returns-in-Link-clause-placed
returns-in-Link-clause-placed g c =
    let state = g.D.Disk.state c.args.disk.now in
    let old = stored_in c.args.kept.now state in
    let depot = g.P.Depot.state c.args.depot.now in
    let entry = c.args.entry.now in
    placing_rests (λ written. IsEntryPlaced old depot c.args.generation entry c.args.files.now entry written) c.args.generation c.args.files.now (brought_stamps entry)
    state state c.requires.homes (rests_itself state) (subst (λ e. IsEntryPlaced old depot c.args.generation e c.args.files.now e []) (sym c.in-Link.is) (refl, refl))

pub returns-in-Hide-clause-placed : goal.returns-in-Hide-clause-placed
returns-in-Hide-clause-placed g c =
    let state = g.D.Disk.state c.args.disk.now in
    let old = stored_in c.args.kept.now state in
    let depot = g.P.Depot.state c.args.depot.now in
    let entry = c.args.entry.now in
    placing_rests (λ written. IsEntryPlaced old depot c.args.generation entry c.args.files.now entry written) c.args.generation c.args.files.now (brought_stamps entry)
    state state c.requires.homes (rests_itself state) (subst (λ e. IsEntryPlaced old depot c.args.generation e c.args.files.now e []) (sym c.in-Hide.is) (refl, refl))
