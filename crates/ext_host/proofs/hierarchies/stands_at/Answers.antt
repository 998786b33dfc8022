use Rattle.std.proofs.Common.{◌∷◌, [], ◌∙◌, ap, sym}
use Rattle.std.specs.Ordering.{eq_by_cmp, is_eq}
use Rattle.std.proofs.Math.Bool.{and-true}
use Rattle.ext_lines.specs.ByteOrder.{bytes_cmp}
use Rattle.ext_text.specs.Path.{is_prefix}
use Rattle.ext_host.proofs.hierarchies.stands_at.Goals as goal

pub returns-in-None : goal.returns-in-None
returns-in-None c = ap (is_prefix (c.args.hierarchy.now ∷ [])) (sym c.in-None.ensures)

pub returns-in-Some : goal.returns-in-Some
returns-in-Some c =
    c.is_eq.ensures ∙ ap is_eq (rw c.bytes.ensures.same at c.cmp.ensures)
    ∙ sym (and-true (eq_by_cmp bytes_cmp c.args.hierarchy.now c.in-Some.first.now))
    ∙ ap (is_prefix (c.args.hierarchy.now ∷ [])) (sym c.in-Some.ensures.0)
