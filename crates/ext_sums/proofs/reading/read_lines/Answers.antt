use Rattle.std.proofs.Common.{◌≡◌, ◌∙◌, ◌++◌, ◌∷◌, [], ◌+◌, ap, cond, subst, sym}
use Rattle.std.specs.Prelude.{Some}
use Rattle.std.specs.Result.{is_ok}
use Rattle.ext_sums.specs.Reading.{IsSoFar}
use Rattle.ext_sums.proofs.ReadingLemmas.{one_more}
use Rattle.ext_sums.proofs.reading.read_lines.Goals as goal

pub lines-preserved : goal.lines-preserved
lines-preserved c =
    let old = c.lines.lines.items in
    let each = c.in_ok-numbered.field-0 in
    let pushed : c.push.new.self.items ≡ old ++ each ∷ [] = c.push.ensures.items ∙ ap (λ r. cond (is_ok r) (old ++ each ∷ []) old) c.in_ok-allocated.ensures in
    subst (IsSoFar c.args.bytes.now c.in-Some.after.now (c.lines.number + 1)) (sym pushed)
    (one_more c.args.bytes.now c.lines.rest.now c.in-Some.line.now c.in-Some.after.now c.lines.number old each c.lines.invariant c.in-Some.ensures (sym c.in-Some-entry_of.ensures ∙ ap Some (sym c.in_ok-numbered.ensures.0)) c.in_ok-numbered.ensures.1)
