use Rattle.std.proofs.Common.{take, ap, ◌∙◌}
use Rattle.ext_index.specs.Sections.{listed}
use Rattle.ext_index.proofs.WrongLemmas.{wrong_now}
use Rattle.ext_index.proofs.wrong.wrong_line.Goals as goal

pub returns-in-Some : goal.returns-in-Some
returns-in-Some c = λ g.
    wrong_now c.args.number g c.args.host.now (listed c.sections_of_host-sections.result) c.split_at.result.0.now c.in-Some.index c.head_count.result c.count_to_kept.result c.saturating_add-lines.result c.saturating_add.result
    c.sections_of_host-sections.ensures c.in-Some.ensures.1 (c.split_at.ensures.front ∙ ap (take c.in-Some.index) c.as_slice.ensures)
    c.head_count.ensures c.count_to_kept.ensures c.saturating_add-lines.ensures c.saturating_add.ensures
