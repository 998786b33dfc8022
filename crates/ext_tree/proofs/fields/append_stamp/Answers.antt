use Rattle.std.proofs.Common.{[], ◌∷◌, ◌++◌, decimal, append_assoc, sym}
use Rattle.hex.specs.Hex.{encode_lower}
use Rattle.ext_tree.proofs.AppendLemmas.{first_stops, second_stops}
use Rattle.ext_tree.proofs.fields.append_stamp.Goals as goal

pub returns-in_err-append_number-clause-err : goal.returns-in_err-append_number-clause-err
returns-in_err-append_number-clause-err c = first_stops c.from_residual.result _ _ (decimal c.args.stamp.now.size ++ 32 ∷ []) (encode_lower c.args.stamp.now.digest.0 ++ 32 ∷ []) _ (sym (append_assoc (decimal c.args.stamp.now.size) (32 ∷ []) (encode_lower c.args.stamp.now.digest.0 ++ 32 ∷ []))) c.in_err-append_number.ensures.err

pub returns-clause-err : goal.returns-clause-err
returns-clause-err c = second_stops c.append_digest.result _ _ _ (decimal c.args.stamp.now.size ++ 32 ∷ []) (encode_lower c.args.stamp.now.digest.0 ++ 32 ∷ []) _ (sym (append_assoc (decimal c.args.stamp.now.size) (32 ∷ []) (encode_lower c.args.stamp.now.digest.0 ++ 32 ∷ []))) c.in_ok-append_number.ensures.ok c.append_digest.ensures.err
