use Rattle.std.proofs.Common.{List, ap, ◌∙◌}
use Rattle.ext_text.specs.Path.{path_cmp}
use Rattle.ext_host.specs.declared.manifest.Item.{Item}
use Rattle.ext_index_reader.specs.Following.{may_follow}
use Rattle.ext_index_reader.proofs.LineLemmas.{no_item}
use Rattle.ext_index_reader.proofs.manifest_lines.item_line.Goals as goal

pub returns-then-not-follows_as_item : goal.returns-then-not-follows_as_item
returns-then-not-follows_as_item c = λ g t step.
    let found = rw c.in-Some.is at c.in_ok-item_of.ensures in
    let tells = c.follows_as_item.ensures ∙ ap (λ (items : List Item). may_follow path_cmp (λ (i : Item). i.path) items c.in-Some.path) c.as_slice.ensures in
    no_item c.args.line.now _ _ (may_follow path_cmp (λ (i : Item). i.path) c.args.manifest.items) c.follows_as_item.result found.0 found.1 found.2 tells c.if-not-follows_as_item.true
    step.0.0 step.1 step.2 step.3 step.4 step.5
