use Rattle.std.proofs.Common.{[], sym}
use Rattle.ext_text.specs.Path.{path_text}
use Rattle.ext_tree.specs.EntryLine.{entry_fields}
use Rattle.ext_tree.specs.Fields.{spaced}
use Rattle.ext_tree.proofs.AppendLemmas.{both_added, first_stops, second_stops}
use Rattle.ext_tree.proofs.FieldsLemmas.{spaced-append}
use Rattle.ext_tree.proofs.entry_line.append_line.Goals as goal

pub returns-in_err-append_fields-clause-err : goal.returns-in_err-append_fields-clause-err
returns-in_err-append_fields-clause-err g c = first_stops c.from_residual.result _ _ (spaced (entry_fields g.C.LineContent.form c.args.entry.now) []) (path_text c.args.path.now) _ (sym (spaced-append (entry_fields g.C.LineContent.form c.args.entry.now) (path_text c.args.path.now))) c.in_err-append_fields.ensures.err

pub returns-clause-err : goal.returns-clause-err
returns-clause-err g c = second_stops c.append_to.result _ _ _ (spaced (entry_fields g.C.LineContent.form c.args.entry.now) []) (path_text c.args.path.now) _ (sym (spaced-append (entry_fields g.C.LineContent.form c.args.entry.now) (path_text c.args.path.now))) c.in_ok-append_fields.ensures.ok c.append_to.ensures.err

pub returns-clause-ok : goal.returns-clause-ok
returns-clause-ok g c = both_added c.append_to.result _ _ _ (spaced (entry_fields g.C.LineContent.form c.args.entry.now) []) (path_text c.args.path.now) _ (sym (spaced-append (entry_fields g.C.LineContent.form c.args.entry.now) (path_text c.args.path.now))) c.in_ok-append_fields.ensures.ok c.append_to.ensures.ok
