use Rattle.std.proofs.Common.{take, ap, ◌∙◌}
use Rattle.std.proofs.Math.Seq.{take-append_seam}
use Rattle.ext_index_lines.proofs.LineLemmas.{other_text}
use Rattle.std.proofs.Common.{length}
use Rattle.ext_index_lines.proofs.line.after_prefix.Goals as goal

pub returns-else-eq : goal.returns-else-eq
returns-else-eq c = λ rest e.
    let begins = c.split_at.ensures.front ∙ ap (take (length c.args.prefix.now)) e ∙ take-append_seam c.args.prefix.now rest in
    other_text c.split_at.result.0.now c.args.prefix.now c.if-eq.ensures begins
