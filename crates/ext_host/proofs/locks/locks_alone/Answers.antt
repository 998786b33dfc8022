use Rattle.std.proofs.Common.{◌∷◌, [], ◌∙◌, ap, sym}
use Rattle.ext_text.specs.Path.{are_related}
use Rattle.ext_host.proofs.LocksLemmas.{related_name}
use Rattle.ext_host.proofs.locks.locks_alone.Goals as goal

pub returns-in-None : goal.returns-in-None
returns-in-None c = ap (are_related (c.args.name.now ∷ [])) (sym c.in-None.ensures ∙ c.names.ensures.same)

pub returns-in-Some : goal.returns-in-Some
returns-in-Some c =
    c.is_equal.ensures
    ∙ sym (related_name c.args.name.now c.in-Some.first.now c.in-Some._below)
    ∙ ap (are_related (c.args.name.now ∷ [])) (sym c.in-Some.ensures.0 ∙ c.names.ensures.same)
