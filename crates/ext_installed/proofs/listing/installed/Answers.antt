use Rattle.std.proofs.Common.{[], List, ℕ, length, sym, subst, arith}
use Rattle.ext_installed.specs.declared.instance.Instance.{Instance}
use Rattle.ext_installed.specs.Installed.{AreInstalled}
use Rattle.ext_installed.proofs.ListedLemmas.{IsListed, listed_end, listed_start, listed_step}
use Rattle.ext_installed.proofs.listing.installed.Goals as goal

pub transfers-init : goal.transfers-init
transfers-init g c =
    let Start : List Instance → List (List (List ℕ)) → Type 0 = IsListed c.args.base.now c.args.transfers.now 0 in
    subst (λ (lists : List (List (List ℕ))). Start c.new-items.result.items lists) (sym c.new-lists.ensures.items) (subst (λ (items : List Instance). Start items []) (sym c.new-items.ensures.items) (listed_start c.args.base.now c.args.transfers.now))

pub transfers-preserved : goal.transfers-preserved
transfers-preserved g c =
    listed_step c.args.base.now c.args.transfers.now c.transfers.place c.index-transfers-place.result c.transfers.items.items c.in_ok-found.found.items c.append.new.self.items c.transfers.lists.items c.push.new.self.items c.as_slice.result.now c.in_ok-versions_of.field-0
    c.transfers-test.true c.index-transfers-place.is c.in_ok-found.ensures c.as_slice.ensures.value c.in_ok-versions_of.ensures c.in_ok-append.ensures.items c.in_ok-push.ensures.items c.transfers.invariant

pub common-requires : goal.common-requires
common-requires g c = omega (arith, c.requires, c.transfers-test.false, c.transfers.invariant.count)

pub returns : goal.returns
returns g c =
    subst (λ (items : List Instance). AreInstalled c.args.base.now c.args.transfers.now (record { transfers = length c.args.transfers.now; items = items; versions = c.common.result }))
    (sym c.from_vec.ensures)
    (listed_end c.args.base.now c.args.transfers.now c.transfers.place c.transfers.items.items c.transfers.lists.items c.common.result c.transfers.invariant c.transfers-test.false c.common.ensures)
