use Rattle.std.proofs.Common.{◌∙◌, sym, rules}
use Rattle.ext_release.proofs.ValueLemmas.{bare_backslash, bare_end}
use Rattle.ext_release.proofs.value.read_bare.Goals as goal

pub returns-in-None : goal.returns-in-None
returns-in-None c = bare_end c.args.text.now c.pieces.rest.now _ _ c.pieces.invariant.1 c.in-None.ensures.parts c.in_ok-push_str-in-None.ensures.bytes

pub pieces-preserved : goal.pieces-preserved
pieces-preserved c =
    (search rules, bare_backslash c.args.text.now c.pieces.rest.now _ _ _ _ c.pieces.invariant.1 c.in-Some.ensures.parts c.in_ok-push_str-in-Some.ensures.bytes ∙ sym c.in_ok-rest-in-Some.ensures.escaped)
