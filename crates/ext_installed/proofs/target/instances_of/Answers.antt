use Rattle.std.proofs.Common.{sym, ap, subst, ◌∙◌, List, ℕ}
use Rattle.std.specs.FinMap.Entries.{where_key}
use Rattle.ext_text.specs.Path.{is_proper_prefix, path_cmp}
use Rattle.ext_installed.proofs.ReachedLemmas.{IsReached, fewer_left, reached_start, reached_step}
use Rattle.ext_installed.proofs.target.instances_of.Goals as goal

pub entries-init : goal.entries-init
entries-init g c =
    let base = c.args.base.now in
    let transfer = c.args.transfer.now in
    let rest = c.below-rest.result.now in
    subst (IsReached base c.args.place transfer rest) (sym c.new-items.ensures.items)
    (reached_start base c.args.place transfer rest c.below-rest.ensures.sorted (c.below-rest.ensures.same ∙ ap (λ (p : List (List ℕ)). where_key path_cmp (is_proper_prefix p) base) c.names.ensures.same))

pub entries-smaller : goal.entries-smaller
entries-smaller g c =
    fewer_left c.entries.rest.now c.after-rest.result.now c.entry-item.result c.names-in-len1-up.result c.in-len1-up.len_at_least c.entry-item.is c.names-in-len1-up.ensures.same c.after-rest.ensures.same

pub entries-preserved : goal.entries-preserved
entries-preserved g c =
    reached_step c.args.base.now c.args.place c.args.transfer.now c.entries.rest.now c.after-rest.result.now c.entry-item.result c.names-in-len1-up.result c.entries.items.items c.keep.new.items.items c.in_ok-instance_at.field-0
    c.in-len1-up.len_at_least c.entry-item.is c.names-in-len1-up.ensures.same c.after-rest.ensures.same c.after-rest.ensures.sorted c.in_ok-instance_at.ensures c.in_ok-keep.ensures c.entries.invariant
