use Rattle.std.proofs.Common.{[], ◌∷◌, length, refl}
use Rattle.ext_attributes.specs.Attributes.{owned_number}
use Rattle.ext_tree.specs.Fields.{spaced}
use Rattle.ext_tree.proofs.AppendLemmas.{first_stops}
use Rattle.ext_tree.proofs.entry_line.append_link.Goals as goal

pub returns-in_err-append_bytes-clause-err : goal.returns-in_err-append_bytes-clause-err
returns-in_err-append_bytes-clause-err c = first_stops c.from_residual.result _ _ (108 ∷ 32 ∷ []) (spaced (owned_number (length c.args.target.now) c.args.owner ∷ c.args.target.now ∷ []) []) _ refl c.in_err-append_bytes.ensures.err
