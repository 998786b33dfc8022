use Rattle.std.proofs.Common.{Err, ap, ◌∙◌, arith}
use Rattle.std.proofs.lemmas.Result.{err_from_is_err_and, on_ok_weaker}
use Rattle.ext_text.specs.Path.{is_prefix}
use Rattle.ext_store_files.specs.LeftOvers.{is_left_path, has_generation, most_left_overs}
use Rattle.ext_store_files.specs.Names.{generation_path}
use Rattle.ext_store_files.specs.Writing.{is_at}
use Rattle.ext_gen.proofs.PreparingLeftLemmas.{cause_finished, cleans_failed, cleans_made, write_finished}
use Rattle.ext_gen.proofs.PreparingPathsLemmas.{at_generation, below_is_coming, changes_then, removal_changes, works_make}
use Rattle.ext_gen.proofs.PreparingStagesLemmas.{absent_after, opened_after}
use Rattle.ext_gen.proofs.preparing.clearing.open_generation.Goals as goal

pub returns-in_err-remove_left_overs-clause-changes : goal.returns-in_err-remove_left_overs-clause-changes
returns-in_err-remove_left_overs-clause-changes g c =
    removal_changes (has_generation c.args.needed.now) c.args.generation 0 0 most_left_overs c.remove_left_overs.result _ _ c.remove_left_overs.ensures.spares c.remove_left_overs.ensures.removes c.remove_left_overs.ensures.appended

pub returns-in_err-remove_left_overs-clause-cleans : goal.returns-in_err-remove_left_overs-clause-cleans
returns-in_err-remove_left_overs-clause-cleans g c =
    let p = err_from_is_err_and c.from_residual.result c.from_residual.ensures.1 in
    cleans_failed _ _ (is_left_path (has_generation c.args.needed.now)) c.in_err-remove_left_overs.field-0.0 (g.D.Disk.state c.args.disk.now) (g.D.Disk.state c.remove_left_overs.new.disk)
    c.remove_left_overs.result c.from_residual.result c.in_err-remove_left_overs.was (p.1 ∙ ap Err p.2) c.remove_left_overs.ensures.removes

pub make_generation-requires : goal.make_generation-requires
make_generation-requires g c =
    absent_after most_left_overs (has_generation c.args.needed.now) c.args.generation c.remove_left_overs.result _ c.in_ok-remove_left_overs.was c.requires.number c.requires.coming
    (g.D.Disk.state c.args.disk.now) (g.D.Disk.state c.remove_left_overs.new.disk) c.remove_left_overs.ensures.removes

pub returns-clause-changes : goal.returns-clause-changes
returns-clause-changes g c =
    changes_then (has_generation c.args.needed.now) c.args.generation 0 0 0 0 0 0 _ (g.D.Disk.state c.remove_left_overs.new.disk) _ c.requires.number c.requires.coming (omega arith) (omega arith) (omega arith)
    (removal_changes (has_generation c.args.needed.now) c.args.generation 0 0 most_left_overs c.remove_left_overs.result _ _ c.remove_left_overs.ensures.spares c.remove_left_overs.ensures.removes c.remove_left_overs.ensures.appended)
    (works_make (is_prefix (generation_path c.args.generation)) (is_at (generation_path c.args.generation)) c.args.generation 0 0 _ _ (below_is_coming c.args.generation)
    (at_generation c.args.generation 0) c.make_generation.ensures.works)

pub returns-clause-open : goal.returns-clause-open
returns-clause-open g c =
    on_ok_weaker c.make_generation.result
    (λ made. opened_after most_left_overs (has_generation c.args.needed.now) c.args.generation c.remove_left_overs.result _ c.in_ok-remove_left_overs.was (g.D.Disk.state c.args.disk.now) (g.D.Disk.state c.remove_left_overs.new.disk) _
    c.remove_left_overs.ensures.removes c.make_generation.ensures.works made)
    c.make_generation.ensures.made

pub returns-clause-cleans : goal.returns-clause-cleans
returns-clause-cleans g c =
    let r = g.D.Disk.state c.remove_left_overs.new.disk in
    let s = g.D.Disk.state c.make_generation.new.disk in
    cleans_made _ _ _ (is_left_path (has_generation c.args.needed.now)) _ (g.D.Disk.state c.args.disk.now) r s c.remove_left_overs.result c.make_generation.result c.in_ok-remove_left_overs.was
    (cause_finished _ _ c.make_generation.result (write_finished r.faults s.faults) c.make_generation.ensures.cause) c.remove_left_overs.ensures.removes c.make_generation.ensures.works.told
