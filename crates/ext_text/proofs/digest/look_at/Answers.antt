use Rattle.ext_lines.proofs.ForCallers.{each_below}
use Rattle.ext_text.proofs.digest.look_at.Goals as goal

pub returns : goal.returns
returns c = record { count = c.requires; each = each_below c.args.bytes.now (λ i. (c.type_inv.bytes i).fits) }
