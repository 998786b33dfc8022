use Rattle.std.proofs.Common.{◌^◌, ◌<◌, arith}
use Rattle.std.proofs.lemmas.Result.{err_from_is_err_and}
use Rattle.ext_text.proofs.ForCallers.{all_back, all_prefix}
use Rattle.ext_host.specs.Valid.{bytes_of}
use Rattle.ext_store_files.proofs.ForCallers.{kept_then}
use Rattle.ext_homes.specs.Brought.{brought}
use Rattle.ext_homes.specs.Comparing.{stored_in}
use Rattle.ext_homes.specs.Placed.{ArePlaced}
use Rattle.ext_homes.proofs.PlacingLemmas.{both_placed, few_brought, few_files, lower_cause, lower_only, lower_works, root_only, root_works, so_far_homes, tree_so_far}
use Rattle.ext_homes.proofs.StoredLemmas.{cause_more}
use Rattle.ext_homes.proofs.placing.place_both.Goals as goal

pub place_tree-requires-clause-few : goal.place_tree-requires-clause-few
place_tree-requires-clause-few g c = omega arith

pub place_tree-requires-clause-sizes : goal.place_tree-requires-clause-sizes
place_tree-requires-clause-sizes g c = all_prefix (λ e. bytes_of e.1 < 2 ^ 63) c.args.root c.args.lower c.requires.sizes

pub returns-in_err-root-clause-works : goal.returns-in_err-root-clause-works
returns-in_err-root-clause-works g c = root_works c.args.generation c.args.root c.args.lower (g.D.Disk.state c.args.disk.now) (g.D.Disk.state c.place_tree.new.disk) c.in_err-root.ensures.works

pub returns-in_err-root-clause-only : goal.returns-in_err-root-clause-only
returns-in_err-root-clause-only g c = root_only c.args.generation c.args.root c.args.lower (g.D.Disk.state c.place_tree.new.disk) c.in_err-root.ensures.only

pub returns-in_err-root-clause-cause : goal.returns-in_err-root-clause-cause
returns-in_err-root-clause-cause g c =
    let kept = c.args.kept.now in
    let n = c.args.generation in
    let root = c.args.root in
    let lower = c.args.lower in
    let first = g.D.Disk.state c.args.disk.now in
    let mid = g.D.Disk.state c.place_tree.new.disk in
    let before = g.P.Depot.state c.args.depot.now in
    let amid = g.P.Depot.state c.place_tree.new.depot in
    let p = err_from_is_err_and c.from_residual.result c.from_residual.ensures.1 in
    rw (p.1, p.2) (cause_more first mid before amid (stored_in kept first) n root lower 0 _ c.in_err-root.ensures.cause)

pub place_tree-requires-2-clause-few : goal.place_tree-requires-2-clause-few
place_tree-requires-2-clause-few g c =
    let kept = c.args.kept.now in
    let n = c.args.generation in
    let root = c.args.root in
    let lower = c.args.lower in
    let first = g.D.Disk.state c.args.disk.now in
    let mid = g.D.Disk.state c.place_tree.new.disk in
    let before = g.P.Depot.state c.args.depot.now in
    let amid = g.P.Depot.state c.place_tree.new.depot in
    let few = few_files (λ written. ArePlaced (stored_in kept first) before n root 0 c.in_ok-root.root written) n c.place_tree.new.files root first mid c.in_ok-root.ensures.placed in
    let brings = few_brought root in
    let fits = c.requires.few in
    omega arith

pub place_tree-requires-2-clause-sizes : goal.place_tree-requires-2-clause-sizes
place_tree-requires-2-clause-sizes g c = all_back (λ e. bytes_of e.1 < 2 ^ 63) c.args.root c.args.lower c.requires.sizes

pub place_tree-requires-2-clause-homes : goal.place_tree-requires-2-clause-homes
place_tree-requires-2-clause-homes g c =
    let kept = c.args.kept.now in
    let n = c.args.generation in
    let root = c.args.root in
    let lower = c.args.lower in
    let first = g.D.Disk.state c.args.disk.now in
    let mid = g.D.Disk.state c.place_tree.new.disk in
    let before = g.P.Depot.state c.args.depot.now in
    let amid = g.P.Depot.state c.place_tree.new.depot in
    so_far_homes (λ written. ArePlaced (stored_in kept first) before n root 0 c.in_ok-root.root written) n 0 c.place_tree.new.files (brought root) first mid c.in_ok-root.ensures.placed

pub returns-in_err-lower-clause-works : goal.returns-in_err-lower-clause-works
returns-in_err-lower-clause-works g c =
    let kept = c.args.kept.now in
    let n = c.args.generation in
    let root = c.args.root in
    let lower = c.args.lower in
    let first = g.D.Disk.state c.args.disk.now in
    let mid = g.D.Disk.state c.place_tree.new.disk in
    let before = g.P.Depot.state c.args.depot.now in
    let amid = g.P.Depot.state c.place_tree.new.depot in
    let last = g.D.Disk.state c.place_tree-2.new.disk in
    let after = g.P.Depot.state c.place_tree-2.new.depot in
    lower_works n root lower first mid last c.in_ok-root.ensures.works c.in_err-lower.ensures.works

pub returns-in_err-lower-clause-only : goal.returns-in_err-lower-clause-only
returns-in_err-lower-clause-only g c =
    let kept = c.args.kept.now in
    let n = c.args.generation in
    let root = c.args.root in
    let lower = c.args.lower in
    let first = g.D.Disk.state c.args.disk.now in
    let mid = g.D.Disk.state c.place_tree.new.disk in
    let before = g.P.Depot.state c.args.depot.now in
    let amid = g.P.Depot.state c.place_tree.new.depot in
    let last = g.D.Disk.state c.place_tree-2.new.disk in
    let after = g.P.Depot.state c.place_tree-2.new.depot in
    lower_only n c.place_tree.new.files root lower last (few_files (λ written. ArePlaced (stored_in kept first) before n root 0 c.in_ok-root.root written) n c.place_tree.new.files root first mid c.in_ok-root.ensures.placed) c.in_err-lower.ensures.only

pub returns-in_err-lower-clause-kept : goal.returns-in_err-lower-clause-kept
returns-in_err-lower-clause-kept g c =
    let kept = c.args.kept.now in
    let n = c.args.generation in
    let root = c.args.root in
    let lower = c.args.lower in
    let first = g.D.Disk.state c.args.disk.now in
    let mid = g.D.Disk.state c.place_tree.new.disk in
    let before = g.P.Depot.state c.args.depot.now in
    let amid = g.P.Depot.state c.place_tree.new.depot in
    let last = g.D.Disk.state c.place_tree-2.new.disk in
    let after = g.P.Depot.state c.place_tree-2.new.depot in
    kept_then before amid after c.in_ok-root.ensures.kept c.in_err-lower.ensures.kept

pub returns-in_err-lower-clause-cause : goal.returns-in_err-lower-clause-cause
returns-in_err-lower-clause-cause g c =
    let kept = c.args.kept.now in
    let n = c.args.generation in
    let root = c.args.root in
    let lower = c.args.lower in
    let first = g.D.Disk.state c.args.disk.now in
    let mid = g.D.Disk.state c.place_tree.new.disk in
    let before = g.P.Depot.state c.args.depot.now in
    let amid = g.P.Depot.state c.place_tree.new.depot in
    let last = g.D.Disk.state c.place_tree-2.new.disk in
    let after = g.P.Depot.state c.place_tree-2.new.depot in
    let one = tree_so_far kept n 0 c.place_tree.new.files root c.in_ok-root.root first mid before amid c.in_ok-root.ensures.works c.in_ok-root.ensures.kept c.in_ok-root.ensures.placed in
    let p = err_from_is_err_and c.from_residual-in_err-lower.result c.from_residual-in_err-lower.ensures.1 in
    rw (p.1, p.2) (lower_cause kept n c.place_tree.new.files root lower c.in_ok-root.root _ first mid last before amid after c.ranges.generation.fits c.requires.before one c.in_err-lower.ensures.cause)

pub returns-clause-works : goal.returns-clause-works
returns-clause-works g c =
    let kept = c.args.kept.now in
    let n = c.args.generation in
    let root = c.args.root in
    let lower = c.args.lower in
    let first = g.D.Disk.state c.args.disk.now in
    let mid = g.D.Disk.state c.place_tree.new.disk in
    let before = g.P.Depot.state c.args.depot.now in
    let amid = g.P.Depot.state c.place_tree.new.depot in
    let last = g.D.Disk.state c.place_tree-2.new.disk in
    let after = g.P.Depot.state c.place_tree-2.new.depot in
    lower_works n root lower first mid last c.in_ok-root.ensures.works c.in_ok-lower.ensures.works

pub returns-clause-only : goal.returns-clause-only
returns-clause-only g c =
    let kept = c.args.kept.now in
    let n = c.args.generation in
    let root = c.args.root in
    let lower = c.args.lower in
    let first = g.D.Disk.state c.args.disk.now in
    let mid = g.D.Disk.state c.place_tree.new.disk in
    let before = g.P.Depot.state c.args.depot.now in
    let amid = g.P.Depot.state c.place_tree.new.depot in
    let last = g.D.Disk.state c.place_tree-2.new.disk in
    let after = g.P.Depot.state c.place_tree-2.new.depot in
    lower_only n c.place_tree.new.files root lower last (few_files (λ written. ArePlaced (stored_in kept first) before n root 0 c.in_ok-root.root written) n c.place_tree.new.files root first mid c.in_ok-root.ensures.placed) c.in_ok-lower.ensures.only

pub returns-clause-kept : goal.returns-clause-kept
returns-clause-kept g c =
    let kept = c.args.kept.now in
    let n = c.args.generation in
    let root = c.args.root in
    let lower = c.args.lower in
    let first = g.D.Disk.state c.args.disk.now in
    let mid = g.D.Disk.state c.place_tree.new.disk in
    let before = g.P.Depot.state c.args.depot.now in
    let amid = g.P.Depot.state c.place_tree.new.depot in
    let last = g.D.Disk.state c.place_tree-2.new.disk in
    let after = g.P.Depot.state c.place_tree-2.new.depot in
    kept_then before amid after c.in_ok-root.ensures.kept c.in_ok-lower.ensures.kept

pub returns-clause-placed : goal.returns-clause-placed
returns-clause-placed g c =
    let kept = c.args.kept.now in
    let n = c.args.generation in
    let root = c.args.root in
    let lower = c.args.lower in
    let first = g.D.Disk.state c.args.disk.now in
    let mid = g.D.Disk.state c.place_tree.new.disk in
    let before = g.P.Depot.state c.args.depot.now in
    let amid = g.P.Depot.state c.place_tree.new.depot in
    let last = g.D.Disk.state c.place_tree-2.new.disk in
    let after = g.P.Depot.state c.place_tree-2.new.depot in
    let one = tree_so_far kept n 0 c.place_tree.new.files root c.in_ok-root.root first mid before amid c.in_ok-root.ensures.works c.in_ok-root.ensures.kept c.in_ok-root.ensures.placed in
    let two = tree_so_far kept n c.place_tree.new.files c.place_tree-2.new.files lower c.in_ok-lower.lower mid last amid after c.in_ok-lower.ensures.works c.in_ok-lower.ensures.kept c.in_ok-lower.ensures.placed in
    both_placed kept n c.place_tree.new.files c.place_tree-2.new.files root lower c.in_ok-root.root c.in_ok-lower.lower first mid last before amid after c.ranges.generation.fits c.requires.before one two
