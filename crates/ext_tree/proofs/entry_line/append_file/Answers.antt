use Rattle.std.proofs.Common.{[], ◌∷◌, ◌++◌, append_assoc, sym, ap}
use Rattle.ext_attributes.specs.Attributes.{file_attributes_text}
use Rattle.ext_tree.specs.Fields.{spaced}
use Rattle.ext_tree.proofs.AppendLemmas.{first_stops, second_stops}
use Rattle.ext_tree.proofs.entry_line.append_file.Goals as goal

pub returns-in_err-append_kind_and_file-clause-err : goal.returns-in_err-append_kind_and_file-clause-err
returns-in_err-append_kind_and_file-clause-err g c = first_stops c.from_residual.result _ _ (102 ∷ 32 ∷ (file_attributes_text c.args.attributes.now ++ 32 ∷ [])) (spaced (g.C.LineContent.form.fields c.args.content.now) []) _ (ap (λ xs. 102 ∷ 32 ∷ xs) (sym (append_assoc (file_attributes_text c.args.attributes.now) (32 ∷ []) (spaced (g.C.LineContent.form.fields c.args.content.now) [])))) c.in_err-append_kind_and_file.ensures.err

pub returns-clause-err : goal.returns-clause-err
returns-clause-err g c = second_stops c.append_to.result _ _ _ (102 ∷ 32 ∷ (file_attributes_text c.args.attributes.now ++ 32 ∷ [])) (spaced (g.C.LineContent.form.fields c.args.content.now) []) _ (ap (λ xs. 102 ∷ 32 ∷ xs) (sym (append_assoc (file_attributes_text c.args.attributes.now) (32 ∷ []) (spaced (g.C.LineContent.form.fields c.args.content.now) [])))) c.in_ok-append_kind_and_file.ensures.ok c.append_to.ensures.err
