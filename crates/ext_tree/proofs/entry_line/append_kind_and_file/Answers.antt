use Rattle.std.proofs.Common.{[], ◌∷◌, ◌++◌, refl}
use Rattle.ext_attributes.specs.Attributes.{file_attributes_text}
use Rattle.ext_tree.proofs.AppendLemmas.{first_stops, second_stops}
use Rattle.ext_tree.proofs.entry_line.append_kind_and_file.Goals as goal

pub returns-in_err-append_bytes-clause-err : goal.returns-in_err-append_bytes-clause-err
returns-in_err-append_bytes-clause-err c = first_stops c.from_residual.result _ _ (102 ∷ 32 ∷ []) (file_attributes_text c.args.attributes.now ++ 32 ∷ []) _ refl c.in_err-append_bytes.ensures.err

pub returns-clause-err : goal.returns-clause-err
returns-clause-err c = second_stops c.append_file_attributes.result _ _ _ (102 ∷ 32 ∷ []) (file_attributes_text c.args.attributes.now ++ 32 ∷ []) _ refl c.in_ok-append_bytes.ensures.ok c.append_file_attributes.ensures.err
