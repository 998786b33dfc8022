use Rattle.std.proofs.Common.{◌≡◌, ℕ, List, ◌++◌, Some, sym, ap, subst, ◌∙◌}
use Rattle.ext_transfer.specs.Meaning.{letter_meaning}
use Rattle.ext_transfer.specs.Specifiers.{expanded, with_text}
use Rattle.ext_transfer.proofs.ExpandLemmas.{ends, goes_on, stops, with_nothing}
use Rattle.ext_transfer.proofs.specifiers.expanded.Goals as goal

pub specifiers-init : goal.specifiers-init
specifiers-init c =
    let all = expanded (letter_meaning c.args.specifiers.now) c.args.text.now in
    subst (λ (t : List ℕ). all ≡ with_text t all) (sym c.new-made.ensures) (with_nothing all)

pub returns-in-None : goal.returns-in-None
returns-in-None c =
    ap Some c.in_ok-append-in-None.ensures.ok
    ∙ sym (ends (letter_meaning c.args.specifiers.now) c.args.text.now c.specifiers.made c.specifiers.rest.now c.specifiers.invariant c.in-None.ensures)

pub returns-in-None-next_specified : goal.returns-in-None-next_specified
returns-in-None-next_specified c =
    sym (stops (letter_meaning c.args.specifiers.now) c.args.text.now c.specifiers.made c.specifiers.rest.now c.in-Some.literal.now c.in-Some.after.now c.specifiers.invariant c.in-Some.ensures c.in-None-next_specified.ensures)

pub specifiers-preserved : goal.specifiers-preserved
specifiers-preserved c =
    let m = letter_meaning c.args.specifiers.now in
    let value = c.in-Some-next_specified.value.now in
    let later = c.in-Some-next_specified.later.now in
    let next = c.in-Some-next_specified.ensures in
    let made = (c.in_ok-append-in-Some-next_specified-2).ensures.ok ∙ ap (λ (t : List ℕ). t ++ value) (c.in_ok-append-in-Some-next_specified).ensures.ok in
    subst (λ (t : List ℕ). expanded m c.args.text.now ≡ with_text t (expanded m later)) (sym made)
    (goes_on m c.args.text.now c.specifiers.made c.specifiers.rest.now c.in-Some.literal.now c.in-Some.after.now next.0 later value c.specifiers.invariant c.in-Some.ensures next.1 next.2)
