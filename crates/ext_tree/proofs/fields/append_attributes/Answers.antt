use Rattle.std.proofs.Common.{[], ◌∷◌, refl}
use Rattle.ext_attributes.specs.Attributes.{attributes_text}
use Rattle.ext_tree.proofs.AppendLemmas.{first_stops, second_stops}
use Rattle.ext_tree.proofs.fields.append_attributes.Goals as goal

pub returns-in_err-append_attributes-clause-err : goal.returns-in_err-append_attributes-clause-err
returns-in_err-append_attributes-clause-err c = first_stops c.from_residual.result _ _ (attributes_text c.args.attributes.now) (32 ∷ []) _ refl c.in_err-append_attributes.ensures.err

pub returns-clause-err : goal.returns-clause-err
returns-clause-err c = second_stops c.append_bytes.result _ _ _ (attributes_text c.args.attributes.now) (32 ∷ []) _ refl c.in_ok-append_attributes.ensures.ok c.append_bytes.ensures.err
