use Rattle.std.proofs.Common.{ℕ, List, [], ◌∷◌, ◌++◌, sym, ap, ◌∙◌}
use Rattle.std.proofs.lemmas.List.{append_assoc}
use Rattle.ext_lines.proofs.ForCallers.{one_part}
use Rattle.ext_walk.specs.Upcoming.{upcoming}
use Rattle.ext_walk.specs.Walk.{parts}
use Rattle.ext_walk.proofs.PartsLemmas.{last_part, pushed}
use Rattle.ext_walk.proofs.parts.push_parts.Goals as goal

pub returns-in-None : goal.returns-in-None
returns-in-None c =
    ap upcoming c.in_ok-push-in-None.ensures.items ∙ pushed c.parts.left.items c.parts.rest
    ∙ ap (λ (ps : List (List ℕ)). ps ++ upcoming c.parts.left.items) (sym (one_part 47 c.parts.rest.now c.in-None.ensures)) ∙ sym c.parts.invariant

pub parts-preserved : goal.parts-preserved
parts-preserved c =
    c.parts.invariant
    ∙ ap (λ (ps : List (List ℕ)). ps ++ upcoming c.parts.left.items) (ap parts c.in-Some.ensures.0 ∙ last_part c.in-Some.before.now c.in-Some.part.now c.in-Some.ensures.1)
    ∙ append_assoc (parts c.in-Some.before.now) (c.in-Some.part.now ∷ []) (upcoming c.parts.left.items)
    ∙ ap (λ (ps : List (List ℕ)). parts c.in-Some.before.now ++ ps) (sym (ap upcoming c.in_ok-push-in-Some.ensures.items ∙ pushed c.parts.left.items c.in-Some.part))
