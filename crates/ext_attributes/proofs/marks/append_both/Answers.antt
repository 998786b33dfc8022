use Rattle.std.proofs.Common.{◌∷◌, ◌++◌, decimal, refl}
use Rattle.ext_attributes.specs.Attributes.{capability_text}
use Rattle.ext_attributes.proofs.AppendLemmas.{first_stops, second_stops}
use Rattle.ext_attributes.proofs.marks.append_both.Goals as goal

pub returns-in_err-append_id-clause-err : goal.returns-in_err-append_id-clause-err
returns-in_err-append_id-clause-err c =
    let o = c.args.owner in
    first_stops c.from_residual.result _ _ (58 ∷ decimal o.user) (58 ∷ (decimal o.group ++ 58 ∷ capability_text c.args.capability.now)) _ refl c.in_err-append_id.ensures.err

pub returns-in_err-append_id-2-clause-err : goal.returns-in_err-append_id-2-clause-err
returns-in_err-append_id-2-clause-err c =
    let o = c.args.owner in
    second_stops c.from_residual-in_err-append_id-2.result _ _ _ (58 ∷ decimal o.user) (58 ∷ (decimal o.group ++ 58 ∷ capability_text c.args.capability.now)) _ refl c.in_ok-append_id.ensures.ok
    (first_stops c.from_residual-in_err-append_id-2.result _ _ (58 ∷ decimal o.group) (58 ∷ capability_text c.args.capability.now) _ refl c.in_err-append_id-2.ensures.err)

pub returns-clause-err : goal.returns-clause-err
returns-clause-err c =
    let o = c.args.owner in
    second_stops c.append_capability.result _ _ _ (58 ∷ decimal o.user) (58 ∷ (decimal o.group ++ 58 ∷ capability_text c.args.capability.now)) _ refl c.in_ok-append_id.ensures.ok
    (second_stops c.append_capability.result _ _ _ (58 ∷ decimal o.group) (58 ∷ capability_text c.args.capability.now) _ refl c.in_ok-append_id-2.ensures.ok c.append_capability.ensures.err)
