use Rattle.std.proofs.Common.{[], ◌∷◌, refl}
use Rattle.ext_attributes.specs.Attributes.{owned_number}
use Rattle.ext_tree.proofs.AppendLemmas.{first_stops, second_stops}
use Rattle.ext_tree.proofs.fields.append_owned.Goals as goal

pub returns-in_err-append_owned_number-clause-err : goal.returns-in_err-append_owned_number-clause-err
returns-in_err-append_owned_number-clause-err c = first_stops c.from_residual.result _ _ (owned_number c.args.number c.args.owner) (32 ∷ []) _ refl c.in_err-append_owned_number.ensures.err

pub returns-clause-err : goal.returns-clause-err
returns-clause-err c = second_stops c.append_bytes.result _ _ _ (owned_number c.args.number c.args.owner) (32 ∷ []) _ refl c.in_ok-append_owned_number.ensures.ok c.append_bytes.ensures.err
