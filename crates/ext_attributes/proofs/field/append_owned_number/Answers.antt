use Rattle.std.proofs.Common.{None, decimal, refl}
use Rattle.ext_attributes.specs.Attributes.{marks_text}
use Rattle.ext_attributes.proofs.AppendLemmas.{second_stops}
use Rattle.ext_attributes.proofs.field.append_owned_number.Goals as goal

pub returns-clause-err : goal.returns-clause-err
returns-clause-err c = second_stops c.append_marks.result _ _ _ (decimal c.args.number) (marks_text c.args.owner None) _ refl c.in_ok-append_decimal.ensures.ok c.append_marks.ensures.err
