use Rattle.std.proofs.Common.{length, ap, ◌∙◌}
use Rattle.std.specs.List.{flat_map}
use Rattle.ext_index_lines.specs.Out.{at_most_64_bits}
use Rattle.ext_index.specs.Index.{attachment_lines}
use Rattle.ext_index.proofs.CountingLemmas.{count_kept}
use Rattle.ext_index.specs.Sections.{listed}
use Rattle.ext_index.proofs.counting.count_to_kept.Goals as goal

-- src/counting.rt:26:1
pub returns : goal.returns
returns c =
    count_kept (listed c.args.sections) c.args.before.now c.classes_count.result c.attachments_count.result c.manifests_count.result c.saturating_add.result c.saturating_add-2.result c.saturating_add-3.result
    c.classes_count.ensures (c.attachments_count.ensures ∙ ap (λ xs. at_most_64_bits (length (flat_map attachment_lines xs))) c.as_slice.ensures) c.manifests_count.ensures c.saturating_add.ensures c.saturating_add-2.ensures c.saturating_add-3.ensures
