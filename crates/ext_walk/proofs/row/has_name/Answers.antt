use Rattle.std.proofs.Common.{◌∙◌, ap, drop, sym}
use Rattle.std.specs.Ordering.{is_eq}
use Rattle.ext_walk.specs.Row.{is_name}
use Rattle.ext_text.proofs.ForCallers.{get_drop, get_none}
use Rattle.ext_walk.proofs.row.has_name.Goals as goal

pub returns-in-None : goal.returns-in-None
returns-in-None g c =
    ap (is_name c.args.name.now)
    (sym (get_none c.args.depth c.args.entry.now.0 (ap (drop c.args.depth) (sym c.names.ensures.same) ∙ sym c.rest.ensures ∙ c.in-None.ensures)))

pub returns-in-Some : goal.returns-in-Some
returns-in-Some g c =
    c.is_eq.ensures ∙ ap is_eq c.cmp.ensures
    ∙ ap (is_name c.args.name.now)
    (sym (get_drop c.args.depth c.args.entry.now.0 c.in-Some.own.now c.in-Some._below (ap (drop c.args.depth) (sym c.names.ensures.same) ∙ sym c.rest.ensures ∙ c.in-Some.ensures.0)))
