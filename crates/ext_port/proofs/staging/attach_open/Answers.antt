use Rattle.std.proofs.Common.{List, [], inr, refl, sym, subst}
use Rattle.ext_host.specs.Held.{HeldFile}
use Rattle.ext_updated.specs.Pieces.{MayBePut}
use Rattle.ext_updated.specs.declared.piece.Piece.{Piece}
use Rattle.ext_port.specs.Steps.{PutWants}
use Rattle.ext_port.specs.Wants.{FittingWants}
use Rattle.ext_port.proofs.StageLemmas.{bar_if_ok, fitting_wants, may_be_put, put_planned}
use Rattle.ext_port.proofs.WantsLemmas.{bar_more}
use Rattle.ext_port.proofs.staging.attach_open.Goals as goal

pub pieces_of-requires : goal.pieces_of-requires
pieces_of-requires c = c.requires.sound.unit_files

pub attach_pieces-requires : goal.attach_pieces-requires
attach_pieces-requires c =
    let start = c.args.staged.now.start.now in
    subst (λ (pieces : List (Piece HeldFile)). MayBePut start.host.now.root [] pieces) (sym c.in-Ok.ensures.ok)
    (may_be_put start.host.now c.args.staged.now.ask.now c.args.staged.now.made.now c.args.staged.now.image.now c.args.staged.now.tree.now c.requires.sound c.pairs-entries.ensures.tree.tree.root c.requires.open)

pub returns-in-Ok-clause-gives : goal.returns-in-Ok-clause-gives
returns-in-Ok-clause-gives c =
    let host = c.args.staged.now.start.now.host.now in
    bar_more (PutWants host c.args.staged.now.ask.now c.args.staged.now.made.now c.in-Ok.pieces.items c.args.tops) (FittingWants host c.args.staged.now.ask.now c.args.staged.now.image.now c.args.staged.now.tree.now c.args.staged.now.made.now)
    (λ r wants. fitting_wants host c.args.staged.now.ask.now c.args.staged.now.made.now c.args.staged.now.image.now c.args.staged.now.tree.now c.requires.sound c.in-Ok.ensures.fits c.args.tops c.requires.tops c.requires.order r
    (subst (λ (pieces : List (Piece HeldFile)). PutWants host c.args.staged.now.ask.now c.args.staged.now.made.now pieces c.args.tops r) c.in-Ok.ensures.ok wants))
    c.attach_pieces.result c.attach_pieces.ensures

pub returns-in-Ok-clause-next : goal.returns-in-Ok-clause-next
returns-in-Ok-clause-next c =
    let host = c.args.staged.now.start.now.host.now in
    bar_if_ok (PutWants host c.args.staged.now.ask.now c.args.staged.now.made.now c.in-Ok.pieces.items c.args.tops) _
    (λ r wants. put_planned host c.args.staged.now.ask.now c.args.staged.now.made.now c.args.staged.now.image.now c.args.staged.now.tree.now c.requires.sound c.in-Ok.ensures.fits c.args.tops c.requires.tops c.requires.order c.requires.start.valid r
    (subst (λ (pieces : List (Piece HeldFile)). PutWants host c.args.staged.now.ask.now c.args.staged.now.made.now pieces c.args.tops r) c.in-Ok.ensures.ok wants))
    c.attach_pieces.result c.attach_pieces.ensures

pub returns-in-Err-Path-clause-gives : goal.returns-in-Err-Path-clause-gives
returns-in-Err-Path-clause-gives c =
    let why = rw c.in-Err-Path.field-0-is at c.in-Err-Path.ensures.err in
    inr ((λ all. why all.made_fits), refl)
