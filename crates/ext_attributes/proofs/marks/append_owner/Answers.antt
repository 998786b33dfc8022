use Rattle.std.proofs.Common.{◌∷◌, decimal}
use Rattle.ext_attributes.proofs.AppendLemmas.{first_stops}
use Rattle.ext_attributes.proofs.MarksLemmas.{told_other}
use Rattle.ext_attributes.proofs.marks.append_owner.Goals as goal

pub returns-in_err-append_id-clause-err : goal.returns-in_err-append_id-clause-err
returns-in_err-append_id-clause-err c =
    let o = c.args.owner in
    first_stops c.from_residual.result _ _ (58 ∷ decimal o.user) (58 ∷ decimal o.group) _ (told_other o _ c.is_root.ensures c.if-is_root.false) c.in_err-append_id.ensures.err
