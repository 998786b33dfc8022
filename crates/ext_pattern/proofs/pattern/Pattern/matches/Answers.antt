use Rattle.std.proofs.Common.{Some, None, refl, ap, subst, ◌∙◌}
use Rattle.ext_pattern.specs.Pattern.{IsPattern, PatternView}
use Rattle.ext_pattern.proofs.CaughtLemmas.{begins_with_first, caught_so, matches_with, matches_without, missed, once_in_pattern}
use Rattle.ext_pattern.proofs.pattern.Pattern.matches.Goals as goal

pub follow-requires-clause-once : goal.follow-requires-clause-once
follow-requires-clause-once c = once_in_pattern c.self.inside.parts c.as_slice.result.now c.as_slice.ensures c.self.invariant.parts

pub returns-in_err-caught : goal.returns-in_err-caught
returns-in_err-caught c =
    rw c.from_residual.ensures
    (λ version digest. missed c.args.self.now c.args.name.now version digest
    (caught_so c.args.self.now c.as_slice.result.now c.bytes-first.result.now c.args.name.now c.nothing.result None (c.as_slice.ensures ∙ ap (λ (p : PatternView). p.parts) c.self.view_is) (c.bytes-first.ensures ∙ ap (λ (p : PatternView). p.first) c.self.view_is) c.nothing.ensures c.in_err-caught.ensures.caught))

pub returns-in_err-caught-2 : goal.returns-in_err-caught-2
returns-in_err-caught-2 c =
    rw c.from_residual-in_err-caught-2.ensures
    (λ version digest. matches_without c.args.self.now c.args.name.now version digest c.in_ok-caught.caught (subst IsPattern c.self.view_is c.self.invariant).version c.in_err-caught-2.was
    (caught_so c.args.self.now c.as_slice.result.now c.bytes-first.result.now c.args.name.now c.nothing.result (Some c.in_ok-caught.caught) (c.as_slice.ensures ∙ ap (λ (p : PatternView). p.parts) c.self.view_is) (c.bytes-first.ensures ∙ ap (λ (p : PatternView). p.first) c.self.view_is) c.nothing.ensures c.in_ok-caught.ensures.caught))

pub returns : goal.returns
returns c =
    matches_with c.args.self.now c.args.name.now c.in_ok-caught.caught c.in_ok-caught-2.field-0 (begins_with_first c.args.self.now c.bytes-first.result.now c.args.name.now (c.bytes-first.ensures ∙ ap (λ (p : PatternView). p.first) c.self.view_is) (c.if-not-begins_with.ensures.0 refl)) c.in_ok-caught-2.was c.in_ok-caught.ensures.within
    (caught_so c.args.self.now c.as_slice.result.now c.bytes-first.result.now c.args.name.now c.nothing.result (Some c.in_ok-caught.caught) (c.as_slice.ensures ∙ ap (λ (p : PatternView). p.parts) c.self.view_is) (c.bytes-first.ensures ∙ ap (λ (p : PatternView). p.first) c.self.view_is) c.nothing.ensures c.in_ok-caught.ensures.caught)
