use Rattle.std.proofs.Common.{◌∙◌, ◌++◌, length, refl, sym, ap, arith}
use Rattle.ext_disk.specs.Pieces.{joined}
use Rattle.ext_disk.specs.declared.pieces.Part.{Part}
use Rattle.ext_disk.proofs.PiecesLemmas.{pieces_push, joined_push}
use Rattle.ext_disk.proofs.pieces.Pieces.append.Goals as goal

pub invariant_of-self-2 : goal.invariant_of-self-2
invariant_of-self-2 c =
    let parts = c.self.inside.parts.items in
    let part : Part = record { start = c.self.inside.size; piece = c.in_ok-share.field-0 } in
    let same = ap length (c.bytes.ensures ∙ sym c.in_ok-share.ensures) in
    let sum = c.in-Some.ensures in
    pieces_push parts c.push.new.self.items c.self.inside.size c.in-Some.size part c.self.invariant refl (omega (arith, same, sum.1)) c.in_ok-push.ensures.items

pub returns-clause-ok : goal.returns-clause-ok
returns-clause-ok c =
    let parts = c.self.inside.parts.items in
    let part : Part = record { start = c.self.inside.size; piece = c.in_ok-share.field-0 } in
    ap joined c.in_ok-push.ensures.items ∙ joined_push parts part ∙ ap (λ l. joined parts ++ l) c.in_ok-share.ensures ∙ ap (λ l. l ++ c.args.piece.now) c.self.view_is
