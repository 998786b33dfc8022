use Rattle.std.proofs.Common.{◌≡◌, ◌∙◌, ◌-◌, ◌++◌, arith, subst, sym, take}
use Rattle.std.specs.Prelude.{IfErr}
use Rattle.std.proofs.lemmas.Result.{err_from_is_err_and}
use Rattle.std.specs.Result.{is_ok}
use Rattle.ext_text.specs.Path.{parent}
use Rattle.ext_store_files.specs.Writing.{nowhere}
use Rattle.ext_store_files.proofs.ForCallers.{told_itself, works_itself, sync_dir_call_works}
use Rattle.ext_publish.specs.Filling.{StaySynced}
use Rattle.ext_publish.specs.Stopping.{OutCause}
use Rattle.ext_publish.proofs.FoldersLemmas.{out_fault_since}
use Rattle.ext_publish.proofs.FilesLemmas.{err_map}
use Rattle.ext_publish.proofs.ParentsLemmas.{last_below, may_sync_parent, named_by_sync, stay_synced}
use Rattle.ext_publish.proofs.filling.sync_parent.Goals as goal

pub returns-in_err-path-clause-works : goal.returns-in_err-path-clause-works
returns-in_err-path-clause-works g c = works_itself nowhere nowhere (g.O.Disk.state c.args.out.now)

pub returns-in_err-path-clause-stays : goal.returns-in_err-path-clause-stays
returns-in_err-path-clause-stays g c = told_itself StaySynced (λ d p is. is) (g.O.Disk.state c.args.out.now).told

pub returns-in_err-parent-clause-works : goal.returns-in_err-parent-clause-works
returns-in_err-parent-clause-works g c = works_itself nowhere nowhere (g.O.Disk.state c.args.out.now)

pub returns-in_err-parent-clause-stays : goal.returns-in_err-parent-clause-stays
returns-in_err-parent-clause-stays g c = told_itself StaySynced (λ d p is. is) (g.O.Disk.state c.args.out.now).told

pub sync_at-requires : goal.sync_at-requires
sync_at-requires g c =
    let whole = c.args.resource.now ++ c.args.below.now in
    let dir : c.in_ok-parent.parent ≡ parent whole =
    c.in_ok-parent.ensures ∙ (λ i. take (c.depth.ensures i - 1) c.in_ok-path.path) ∙ (λ i. parent (c.in_ok-path.ensures.longer i)) in
    may_sync_parent whole c.in_ok-parent.parent (g.O.Disk.state c.args.out.now) (last_below c.args.resource.now c.args.below.now c.requires.some) dir c.requires.file (g.met.O.Disk.holds_a_tree c.args.out.now)

pub returns-clause-works : goal.returns-clause-works
returns-clause-works g c = sync_dir_call_works c.in_ok-parent.parent (is_ok c.sync_at.result) (g.O.Disk.state c.args.out.now) (g.O.Disk.state c.sync_at.new.out) c.sync_at.ensures.does

pub returns-clause-named : goal.returns-clause-named
returns-clause-named g c =
    let whole = c.args.resource.now ++ c.args.below.now in
    let dir : c.in_ok-parent.parent ≡ parent whole =
    c.in_ok-parent.ensures ∙ (λ i. take (c.depth.ensures i - 1) c.in_ok-path.path) ∙ (λ i. parent (c.in_ok-path.ensures.longer i)) in
    named_by_sync _ c.sync_at.result whole c.in_ok-parent.parent (g.O.Disk.state c.args.out.now) (g.O.Disk.state c.sync_at.new.out) (last_below c.args.resource.now c.args.below.now c.requires.some) dir c.sync_at.ensures.does

pub returns-clause-stays : goal.returns-clause-stays
returns-clause-stays g c =
    stay_synced (g.O.Disk.state c.args.out.now) (g.O.Disk.state c.sync_at.new.out)
    (sync_dir_call_works c.in_ok-parent.parent (is_ok c.sync_at.result) (g.O.Disk.state c.args.out.now) (g.O.Disk.state c.sync_at.new.out) c.sync_at.ensures.does)

pub returns-clause-cause : goal.returns-clause-cause
returns-clause-cause g c =
    let old = g.O.Disk.state c.args.out.now in
    let new = g.O.Disk.state c.sync_at.new.out in
    err_map _ c.sync_at.result _ (OutCause old new) (λ stop cause. out_fault_since old old new stop (omega arith) cause) c.sync_at.ensures.cause

pub returns-in_err-path-clause-cause : goal.returns-in_err-path-clause-cause
returns-in_err-path-clause-cause g c =
    let old = g.O.Disk.state c.args.out.now in
    let p = err_from_is_err_and c.from_residual.result c.from_residual.ensures.1 in
    subst (λ r. IfErr r (OutCause old old)) (sym p.1) (subst (OutCause old old) (sym (p.2 ∙ c.in_err-path.ensures.cause)) tt)
