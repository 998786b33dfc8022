use Rattle.std.proofs.Common.{[], Some, None, sym, subst}
use Rattle.ext_text.specs.Path.{IsPath}
use Rattle.ext_tree.specs.Part.{part}
use Rattle.ext_tree.proofs.ForCallers.{tree_part}
use Rattle.ext_walk.specs.Walk.{Ends, ResolvesIn}
use Rattle.ext_walk.proofs.EndLemmas.{end_path, resolves_whole}
use Rattle.ext_walk.proofs.resolving.resolve.Goals as goal

pub of_names-requires : goal.of_names-requires
of_names-requires g c =
    let led = subst (ResolvesIn c.args.tree.now [] c.args.path.now) c.in-Some.is (rw (c.root.ensures, c.names.ensures.same) at c.in_ok-end_of_path.ensures) in
    subst IsPath (sym led.1) (end_path (part [] c.args.tree.now) c.args.path.now led.0 (tree_part [] c.args.tree.now c.pairs-entries.ensures.tree.tree) led.2)

pub returns-in-None : goal.returns-in-None
returns-in-None g c =
    resolves_whole c.args.tree.now c.args.path.now None c.pairs-entries.ensures.tree.tree (subst (ResolvesIn c.args.tree.now [] c.args.path.now) c.in-None.is (rw (c.root.ensures, c.names.ensures.same) at c.in_ok-end_of_path.ensures))

pub returns-in_ok-of_names-in-Some : goal.returns-in_ok-of_names-in-Some
returns-in_ok-of_names-in-Some g c =
    subst (Ends c.args.tree.now c.args.path.now) (sym c.in_ok-of_names-in-Some.ensures)
    (resolves_whole c.args.tree.now c.args.path.now (Some c.in-Some.end) c.pairs-entries.ensures.tree.tree (subst (ResolvesIn c.args.tree.now [] c.args.path.now) c.in-Some.is (rw (c.root.ensures, c.names.ensures.same) at c.in_ok-end_of_path.ensures)))
