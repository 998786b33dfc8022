use Rattle.std.proofs.Common.{◌+◌, ◌∷◌, drop, sym, ap, ◌∙◌, subst, List}
use Rattle.std.proofs.lemmas.List.{drop_all, drop_more}
use Rattle.ext_pattern.specs.First.{IsFirstMatch}
use Rattle.ext_pattern.specs.Pattern.{PatternView}
use Rattle.ext_pattern.proofs.FirstLemmas.{alike_itself, alike_next, found_first, found_only}
use Rattle.ext_pattern.proofs.first.first_match.Goals as goal

pub loop-pattern-init : goal.loop-pattern-init
loop-pattern-init c = alike_itself c.args.patterns.now c.args.name.now

pub loop-pattern-preserved : goal.loop-pattern-preserved
loop-pattern-preserved c =
    let patterns = c.args.patterns.now in
    let i = c.loop-pattern.pattern-index in
    let p = c.pattern-item.result in
    alike_next p (drop i patterns) (drop (i + 1) patterns) patterns c.args.name.now (drop_more patterns i p c.loop-pattern-test.true ∙ ap (λ (q : PatternView). q ∷ drop (i + 1) patterns) (sym c.pattern-item.is)) c.loop-pattern.invariant c.in_default.ensures.caught

pub returns-in-Some-clause-first : goal.returns-in-Some-clause-first
returns-in-Some-clause-first c =
    let patterns = c.args.patterns.now in
    let i = c.loop-pattern.pattern-index in
    let p = c.pattern-item.result in
    found_first p (drop i patterns) (drop (i + 1) patterns) patterns c.args.name.now c.in-Some.caught (drop_more patterns i p c.loop-pattern-test.true ∙ ap (λ (q : PatternView). q ∷ drop (i + 1) patterns) (sym c.pattern-item.is)) c.loop-pattern.invariant c.in-Some.ensures.caught

pub returns-in-Some-clause-only : goal.returns-in-Some-clause-only
returns-in-Some-clause-only c =
    let patterns = c.args.patterns.now in
    let i = c.loop-pattern.pattern-index in
    let p = c.pattern-item.result in
    found_only p (drop i patterns) (drop (i + 1) patterns) patterns c.args.name.now c.in-Some.caught (drop_more patterns i p c.loop-pattern-test.true ∙ ap (λ (q : PatternView). q ∷ drop (i + 1) patterns) (sym c.pattern-item.is)) c.in-Some.ensures.pattern c.loop-pattern.invariant c.in-Some.ensures.caught

pub returns-clause-first : goal.returns-clause-first
returns-clause-first c =
    let patterns = c.args.patterns.now in
    let i = c.loop-pattern.pattern-index in
    λ version digest first. subst (λ (ps : List PatternView). IsFirstMatch ps c.args.name.now version digest) (drop_all i patterns c.loop-pattern-test.false) (c.loop-pattern.invariant.back version digest first)
