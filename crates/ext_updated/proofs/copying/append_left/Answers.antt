use Rattle.std.proofs.Common.{◌≡◌, ◌-◌, length, refl, subst}
use Rattle.std.specs.Prelude.{OnOk}
use Rattle.ext_updated.proofs.CopyingLemmas.{append_step, none_left, order_step}
use Rattle.ext_updated.proofs.copying.append_left.Goals as goal

pub returns-in-empty : goal.returns-in-empty
returns-in-empty g c =
    subst (λ es. OnOk c.append_pairs.result (c.append_pairs.new.copies.items ≡ es)) (none_left c.paths.more.now c.paths.left.items c.paths.rest.now _ c.in-empty.len_below c.paths.invariant.0) c.append_pairs.ensures

pub paths-preserved : goal.paths-preserved
paths-preserved g c = (
  append_step c.paths.more.now c.path-item.result c.names.result c.names-in-len1-up.result c.paths.left.items c.append_pairs-in-len1-up.new.copies.items c.before-in-len1-up.result.now c.paths.rest.now c.after-rest.result.now _
      c.in-len1-up.len_at_least c.path-item.is c.paths.invariant.2 c.paths.invariant.1 c.in_ok-append_pairs-in-len1-up.ensures c.before-in-len1-up.ensures c.names.ensures.same
      c.after-rest.ensures.same c.names-in-len1-up.ensures.same c.paths.invariant.0,
  c.after-rest.ensures.sorted,
  order_step c.paths.more.now (length c.paths.more.now - 1) c.in-len1-up.len_at_least refl c.paths.invariant.2,
)
