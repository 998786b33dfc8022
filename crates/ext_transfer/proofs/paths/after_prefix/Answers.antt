use Rattle.std.proofs.Common.{length, refl, sym, ap, ◌∙◌, Some}
use Rattle.std.proofs.lemmas.Bool.{false≢true}
use Rattle.ext_transfer.proofs.PathLemmas.{after_so_many, unprefixed, whole_rest}
use Rattle.ext_transfer.proofs.paths.after_prefix.Goals as goal

pub returns-then-begins_with : goal.returns-then-begins_with
returns-then-begins_with c =
    ap Some (whole_rest (length c.args.prefix.now) c.args.text.now) ∙ sym (after_so_many c.args.prefix.now c.args.text.now (c.if-begins_with.ensures.0 refl))

pub returns-else-begins_with : goal.returns-else-begins_with
returns-else-begins_with c =
    sym (unprefixed c.args.prefix.now c.args.text.now (λ begins. absurd (false≢true (c.if-begins_with.ensures.1 begins))))
