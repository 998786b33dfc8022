use Rattle.std.proofs.Common.{[], ◌∷◌, decimal, refl}
use Rattle.ext_tree.proofs.AppendLemmas.{second_stops}
use Rattle.ext_tree.proofs.fields.append_number.Goals as goal

pub returns-clause-err : goal.returns-clause-err
returns-clause-err c = second_stops c.append_bytes.result _ _ _ (decimal c.args.number) (32 ∷ []) _ refl c.in_ok-append_decimal.ensures.ok c.append_bytes.ensures.err
