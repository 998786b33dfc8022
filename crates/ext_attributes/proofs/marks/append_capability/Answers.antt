use Rattle.std.proofs.Common.{◌∷◌, ◌++◌, decimal, refl}
use Rattle.ext_attributes.specs.Attributes.{flag}
use Rattle.ext_attributes.proofs.AppendLemmas.{first_stops, second_stops}
use Rattle.ext_attributes.proofs.marks.append_capability.Goals as goal

pub returns-in_err-append_flag-clause-err : goal.returns-in_err-append_flag-clause-err
returns-in_err-append_flag-clause-err c =
    let k = c.args.capability.now in
    first_stops c.from_residual.result _ _ (58 ∷ decimal (flag k.effective)) (58 ∷ (decimal k.permitted ++ 58 ∷ (decimal k.inheritable ++ 58 ∷ decimal k.root))) _ refl c.in_err-append_flag.ensures.err

pub returns-in_err-append_number-clause-err : goal.returns-in_err-append_number-clause-err
returns-in_err-append_number-clause-err c =
    let k = c.args.capability.now in
    second_stops c.from_residual-in_err-append_number.result _ _ _ (58 ∷ decimal (flag k.effective)) (58 ∷ (decimal k.permitted ++ 58 ∷ (decimal k.inheritable ++ 58 ∷ decimal k.root))) _ refl c.in_ok-append_flag.ensures.ok
    (first_stops c.from_residual-in_err-append_number.result _ _ (58 ∷ decimal k.permitted) (58 ∷ (decimal k.inheritable ++ 58 ∷ decimal k.root)) _ refl c.in_err-append_number.ensures.err)

pub returns-in_err-append_number-2-clause-err : goal.returns-in_err-append_number-2-clause-err
returns-in_err-append_number-2-clause-err c =
    let k = c.args.capability.now in
    second_stops c.from_residual-in_err-append_number-2.result _ _ _ (58 ∷ decimal (flag k.effective)) (58 ∷ (decimal k.permitted ++ 58 ∷ (decimal k.inheritable ++ 58 ∷ decimal k.root))) _ refl c.in_ok-append_flag.ensures.ok
    (second_stops c.from_residual-in_err-append_number-2.result _ _ _ (58 ∷ decimal k.permitted) (58 ∷ (decimal k.inheritable ++ 58 ∷ decimal k.root)) _ refl c.in_ok-append_number.ensures.ok
    (first_stops c.from_residual-in_err-append_number-2.result _ _ (58 ∷ decimal k.inheritable) (58 ∷ decimal k.root) _ refl c.in_err-append_number-2.ensures.err))

pub returns-clause-err : goal.returns-clause-err
returns-clause-err c =
    let k = c.args.capability.now in
    second_stops c.append_id.result _ _ _ (58 ∷ decimal (flag k.effective)) (58 ∷ (decimal k.permitted ++ 58 ∷ (decimal k.inheritable ++ 58 ∷ decimal k.root))) _ refl c.in_ok-append_flag.ensures.ok
    (second_stops c.append_id.result _ _ _ (58 ∷ decimal k.permitted) (58 ∷ (decimal k.inheritable ++ 58 ∷ decimal k.root)) _ refl c.in_ok-append_number.ensures.ok
    (second_stops c.append_id.result _ _ _ (58 ∷ decimal k.inheritable) (58 ∷ decimal k.root) _ refl c.in_ok-append_number-2.ensures.ok c.append_id.ensures.err))
