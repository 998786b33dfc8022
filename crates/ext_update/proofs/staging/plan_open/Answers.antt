use Rattle.std.proofs.Common.{sym, subst}
use Rattle.std.specs.Prelude.{List}
use mathlib.Core.Logic.{inr}
use Rattle.std.specs.List.{AllByRecursion}
use Rattle.ext_host.specs.Held.{HeldFile}
use Rattle.ext_host.specs.Planning.{IsPlannedHost}
use Rattle.ext_updated.specs.Pieces.{MayBePut}
use Rattle.ext_updated.specs.declared.piece.Piece.{Piece}
use Rattle.ext_update.specs.Drafts.{IsNewPiece}
use Rattle.ext_update.specs.Stages.{FittingWants}
use Rattle.ext_update.specs.Steps.{IfNext, PiecesWant, draft_writes}
use Rattle.ext_update.proofs.PlanLemmas.{draft_fits, fitting_wants, if_ok, is_planned, may_be_put}
use Rattle.ext_update.proofs.staging.plan_open.Goals as goal

pub plan_pieces-requires : goal.plan_pieces-requires
plan_pieces-requires c =
    let gives = c.in-Ok.ensures.ok in
    subst (λ (pieces : List (Piece HeldFile)). MayBePut c.args.host.now.root c.args.items.now.removed pieces) (sym gives.0)
    (may_be_put c.args.host.now c.args.draft c.args.items.now c.requires.items c.requires.sound gives.1 c.requires.apart c.requires.open)

pub returns-in-Ok-clause-wants : goal.returns-in-Ok-clause-wants
returns-in-Ok-clause-wants c =
    let gives = c.in-Ok.ensures.ok in
    if_ok (PiecesWant c.args.host.now c.args.touched.now c.args.items.now c.in-Ok.pieces.items) (FittingWants c.args.host.now (draft_writes c.args.draft c.args.items.now)) c.plan_pieces.result
    (λ planned wants.
    fitting_wants c.args.host.now c.args.draft c.args.items.now c.requires.items c.requires.sound gives.1 c.args.touched.now c.requires.touched c.requires.valid c.requires.apart c.requires.unlocked planned
    (subst (λ (pieces : List (Piece HeldFile)). PiecesWant c.args.host.now c.args.touched.now c.args.items.now pieces planned) gives.0 wants))
    c.plan_pieces.ensures

pub returns-in-Ok-clause-planned : goal.returns-in-Ok-clause-planned
returns-in-Ok-clause-planned c =
    let gives = c.in-Ok.ensures.ok in
    if_ok (PiecesWant c.args.host.now c.args.touched.now c.args.items.now c.in-Ok.pieces.items) (IfNext (IsPlannedHost c.args.host.now)) c.plan_pieces.result
    (λ planned wants.
    is_planned c.args.host.now c.args.draft c.args.items.now c.requires.items c.requires.sound gives.1 c.args.touched.now c.requires.touched c.requires.valid c.requires.apart c.requires.unlocked
    (subst (AllByRecursion IsNewPiece) gives.0 c.in-Ok.ensures.new) planned
    (subst (λ (pieces : List (Piece HeldFile)). PiecesWant c.args.host.now c.args.touched.now c.args.items.now pieces planned) gives.0 wants))
    c.plan_pieces.ensures

pub returns-in-Err-Path : goal.returns-in-Err-Path
returns-in-Err-Path c =
    let why = rw c.in-Err-Path.field-0-is at c.in-Err-Path.ensures.err in
    record {
      wants = inr ((λ fit. why (draft_fits c.args.draft c.args.items.now fit)), c.limit.ensures);
      planned = subst (IfNext (IsPlannedHost c.args.host.now)) (sym c.limit.ensures) tt;
    }
