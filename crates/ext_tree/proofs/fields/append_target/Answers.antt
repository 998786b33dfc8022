use Rattle.std.proofs.Common.{[], ◌∷◌, ◌++◌, length, append_assoc, sym}
use Rattle.ext_attributes.specs.Attributes.{owned_number}
use Rattle.ext_tree.proofs.AppendLemmas.{first_stops, second_stops}
use Rattle.ext_tree.proofs.fields.append_target.Goals as goal

pub returns-in_err-append_owned-clause-err : goal.returns-in_err-append_owned-clause-err
returns-in_err-append_owned-clause-err c = first_stops c.from_residual.result _ _ (owned_number (length c.args.target.now) c.args.owner ++ 32 ∷ []) (c.args.target.now ++ 32 ∷ []) _ (sym (append_assoc (owned_number (length c.args.target.now) c.args.owner) (32 ∷ []) (c.args.target.now ++ 32 ∷ []))) c.in_err-append_owned.ensures.err

pub returns-clause-err : goal.returns-clause-err
returns-clause-err c = second_stops c.append_field.result _ _ _ (owned_number (length c.args.target.now) c.args.owner ++ 32 ∷ []) (c.args.target.now ++ 32 ∷ []) _ (sym (append_assoc (owned_number (length c.args.target.now) c.args.owner) (32 ∷ []) (c.args.target.now ++ 32 ∷ []))) c.in_ok-append_owned.ensures.ok c.append_field.ensures.err
