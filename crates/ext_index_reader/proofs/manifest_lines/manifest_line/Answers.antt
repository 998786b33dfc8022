use Rattle.std.proofs.Common.{List, ap, sym, ◌∙◌}
use Rattle.ext_host.specs.declared.manifest.Item.{Item}
use Rattle.ext_host.specs.declared.manifest.Manifest.{Manifest}
use Rattle.ext_index_reader.specs.Following.{may_follow_apart}
use Rattle.ext_index_reader.specs.State.{then_items}
use Rattle.ext_index_reader.proofs.LineLemmas.{no_manifest}
use Rattle.ext_index_reader.proofs.manifest_lines.manifest_line.Goals as goal

pub returns-then-not-follows_as_manifest : goal.returns-then-not-follows_as_manifest
returns-then-not-follows_as_manifest c = λ g t step.
    let found = rw c.in-Some.is at c.in_ok-manifest_of.ensures in
    let tells = c.follows_as_manifest.ensures ∙ ap (λ (kept : List Manifest). may_follow_apart (λ (m : Manifest). m.path) kept c.in-Some.path) c.as_slice.ensures in
    no_manifest c.args.line.now _ _ (may_follow_apart (λ (m : Manifest). m.path) c.args.so_far.now.parts.kept) c.follows_as_manifest.result found.0 found.1 found.2 tells c.if-not-follows_as_manifest.true
    step.0 step.1 step.2 step.3 step.4 step.5

pub returns-in_ok-then_items-in-Some : goal.returns-in_ok-then_items-in-Some
returns-in_ok-then_items-in-Some c = λ g.
    let found = rw c.in-Some.is at c.in_ok-manifest_of.ensures in
    let tells = c.follows_as_manifest.ensures ∙ ap (λ (kept : List Manifest). may_follow_apart (λ (m : Manifest). m.path) kept c.in-Some.path) c.as_slice.ensures in
    let empty = ap (λ (items : List Item). then_items c.args.so_far.now c.args.more c.in-Some.items (record { path = c.in-Some.path; items = items })) c.new.ensures in
    (c.in-Some.items, c.in-Some.path, found.0, found.1, found.2, sym tells ∙ c.if-not-follows_as_manifest.false, c.in_ok-then_items-in-Some.ensures ∙ empty)
