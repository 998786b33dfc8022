use Rattle.std.proofs.Common.{◌∙◌, ap, rules, sym}
use Rattle.std.specs.String.{string_bytes}
use Rattle.ext_release.specs.Value.{closed, with_prefix}
use Rattle.ext_release.proofs.ValueLemmas.{at_backslash, at_quote, begins, no_mark, unclosed}
use Rattle.ext_release.proofs.value.read_double.Goals as goal

pub pieces-init : goal.pieces-init
pieces-init c = (c.utf8.text, begins c.args.text.now _ c.new-value.ensures.bytes)

pub returns-in-None : goal.returns-in-None
returns-in-None c = sym (ap closed (c.pieces.invariant.1 ∙ ap (with_prefix (string_bytes c.pieces.value)) (no_mark c.pieces.rest.now c.in-None.ensures)))

pub returns-then-mark-eq34 : goal.returns-then-mark-eq34
returns-then-mark-eq34 c =
    c.closed.ensures
    ∙ sym (ap closed (at_quote c.args.text.now c.pieces.rest.now (string_bytes c.pieces.value) _ _ _ _ c.pieces.invariant.1 c.in-Some.ensures c.in_ok-push_str-in-Some.ensures.bytes c.if-mark-eq34.true))

pub returns-then-is_empty : goal.returns-then-is_empty
returns-then-is_empty c =
    unclosed c.args.text.now _ _ (at_backslash c.args.text.now c.pieces.rest.now (string_bytes c.pieces.value) _ _ _ _ c.pieces.invariant.1 c.in-Some.ensures c.in_ok-push_str-in-Some.ensures.bytes c.if-mark-eq34.false) (sym c.is_empty.ensures ∙ c.if-is_empty.true)

pub pieces-preserved : goal.pieces-preserved
pieces-preserved c =
    (search rules, at_backslash c.args.text.now c.pieces.rest.now (string_bytes c.pieces.value) _ _ _ _ c.pieces.invariant.1 c.in-Some.ensures c.in_ok-push_str-in-Some.ensures.bytes c.if-mark-eq34.false ∙ sym c.in_ok-rest-in-Some.ensures.escaped)
