use Rattle.std.proofs.Common.{◌∙◌, List, Ok, Err, subst}
use Rattle.std.specs.Prelude.{ℕ}
use Rattle.std.proofs.lemmas.Result.{err_from_is_err_and}
use Rattle.ext_port.specs.Given.{IsHostFile}
use Rattle.ext_port.specs.Starting.{start_host}
use Rattle.ext_port.specs.Wants.{AttachesBody, BarMemory}
use Rattle.ext_port.proofs.ForCallers.{tree_files}
use Rattle.ext_portext.specs.Steps.{GivesUnitTree}
use Rattle.ext_portext.proofs.UnitTreeLemmas.{files_hold}
use Rattle.ext_portext.proofs.WantsLemmas.{attached_wants, no_tree_wants}
use Rattle.ext_portext.proofs.attaching.attach_fitting.Goals as goal

pub attach_body-requires-clause-files : goal.attach_body-requires-clause-files
attach_body-requires-clause-files c =
    let start = start_host c.args.again c.args.ask.now.image c.args.host.now in
    let known = c.requires.body in
    let tree = subst (λ hierarchies. GivesUnitTree hierarchies c.args.body.now.tree c.args.extensions.now (Ok c.in_ok-tree.tree)) c.as_slice.ensures c.in_ok-tree.ensures in
    files_hold (IsHostFile start) c.args.host.now.sysext_hier c.args.body.now.tree c.args.extensions.now c.in_ok-tree.tree tree.0
    (tree_files start known.base known.is_base c.args.body.now.place c.args.body.now.tree known.body_in.is_tree) c.requires.files

pub returns-in_err-tree-clause-gives : goal.returns-in_err-tree-clause-gives
returns-in_err-tree-clause-gives c =
    let p = err_from_is_err_and c.from_residual.result c.from_residual.ensures.1 in
    rw (p.1, p.2)
    (no_tree_wants c.args.again c.args.host.now c.args.ask.now c.args.body.now c.args.extensions.now c.in_err-tree.field-0.0
    (subst (λ hierarchies. GivesUnitTree hierarchies c.args.body.now.tree c.args.extensions.now (Err c.in_err-tree.field-0.0)) c.as_slice.ensures c.in_err-tree.ensures))

pub returns-clause-gives : goal.returns-clause-gives
returns-clause-gives c =
    let host = c.args.host.now in
    let tree = subst (λ hierarchies. GivesUnitTree hierarchies c.args.body.now.tree c.args.extensions.now (Ok c.in_ok-tree.tree)) c.as_slice.ensures c.in_ok-tree.ensures in
    attached_wants c.args.again host c.args.ask.now c.args.body.now c.args.extensions.now c.in_ok-tree.tree tree.0 tree.1 (Ok c.in_ok-attach_body.field-0)
    (subst (λ (lines : List ℕ). BarMemory (AttachesBody c.args.again host c.args.ask.now c.args.body.now c.in_ok-tree.tree lines) (Ok c.in_ok-attach_body.field-0)) (c.as_slice-2.ensures.value ∙ c.in_ok-lines.ensures) c.in_ok-attach_body.ensures.gives)

pub returns-in_err-attach_body-clause-gives : goal.returns-in_err-attach_body-clause-gives
returns-in_err-attach_body-clause-gives c =
    let host = c.args.host.now in
    let tree = subst (λ hierarchies. GivesUnitTree hierarchies c.args.body.now.tree c.args.extensions.now (Ok c.in_ok-tree.tree)) c.as_slice.ensures c.in_ok-tree.ensures in
    let p = err_from_is_err_and c.from_residual-in_err-attach_body.result c.from_residual-in_err-attach_body.ensures.1 in
    rw (p.1, p.2)
    (attached_wants c.args.again host c.args.ask.now c.args.body.now c.args.extensions.now c.in_ok-tree.tree tree.0 tree.1 (Err c.in_err-attach_body.field-0.0)
    (subst (λ (lines : List ℕ). BarMemory (AttachesBody c.args.again host c.args.ask.now c.args.body.now c.in_ok-tree.tree lines) (Err c.in_err-attach_body.field-0.0)) (c.as_slice-2.ensures.value ∙ c.in_ok-lines.ensures) c.in_err-attach_body.ensures.gives))
