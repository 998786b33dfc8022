use Rattle.std.proofs.Common.{[], Some, None, sym, ◌∙◌, subst}
use Rattle.ext_walk.specs.Walk.{ResolvesIn}
use Rattle.ext_walk.proofs.ForCallers.{resolves_whole}
use Rattle.ext_units.specs.Kept.{FileAt}
use Rattle.ext_units.proofs.EntryLemmas.{no_end, no_file}
use Rattle.ext_units.proofs.unit_entry.file_of.Goals as goal

pub returns-in-None : goal.returns-in-None
returns-in-None g c =
    no_end c.args.tree.now c.args.names.now (resolves_whole c.args.tree.now c.args.names.now None c.pairs-entries.ensures.tree.tree (subst (ResolvesIn c.args.tree.now [] c.args.names.now) c.in-None.is (rw c.root.ensures at c.in_ok-end_of_path.ensures)))

pub returns-in_ok-of_names-in-Some : goal.returns-in_ok-of_names-in-Some
returns-in_ok-of_names-in-Some g c =
    let ends = resolves_whole c.args.tree.now c.args.names.now (Some c.in-Some.end) c.pairs-entries.ensures.tree.tree (subst (ResolvesIn c.args.tree.now [] c.args.names.now) c.in-Some.is (rw c.root.ensures at c.in_ok-end_of_path.ensures)) in
    subst (λ file. FileAt c.args.tree.now c.args.names.now (Some file)) (sym c.in_ok-of_names-in-Some.ensures) (ends, sym c.is_file_at.ensures ∙ c.if-is_file_at.true)

pub returns-else-is_file_at : goal.returns-else-is_file_at
returns-else-is_file_at g c =
    let ends = resolves_whole c.args.tree.now c.args.names.now (Some c.in-Some.end) c.pairs-entries.ensures.tree.tree (subst (ResolvesIn c.args.tree.now [] c.args.names.now) c.in-Some.is (rw c.root.ensures at c.in_ok-end_of_path.ensures)) in
    no_file c.args.tree.now c.args.names.now c.in-Some.end ends (sym c.is_file_at.ensures ∙ c.if-is_file_at.false)
