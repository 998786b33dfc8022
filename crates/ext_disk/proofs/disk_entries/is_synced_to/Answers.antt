use Rattle.std.proofs.Common.{◌∙◌, ◌+◌, List, ℕ, Bool, length, sym, ap, arith}
use Rattle.ext_disk.specs.Disk.{is_synced}
use Rattle.ext_disk.specs.DiskEntries.{place_at}
use Rattle.ext_disk.proofs.NamesLemmas.{all_pass, each_more, one_fails, some_prefix}
use Rattle.ext_disk.proofs.disk_entries.is_synced_to.Goals as goal

pub is_synced_at-requires : goal.is_synced_at-requires
is_synced_at-requires c = λ none. some_prefix c.names.count c.args.path.now (omega arith) (sym c.in_ok-prefix.ensures ∙ none)

pub returns-then-not-is_synced_at : goal.returns-then-not-is_synced_at
returns-then-not-is_synced_at c =
    let f : List (List ℕ) → Bool = λ q. is_synced (place_at c.args.disk_entries.now q) in
    one_fails f c.args.path.now (c.names.count + 1) (ap f (sym c.in_ok-prefix.ensures) ∙ sym c.is_synced_at.ensures ∙ c.if-not-is_synced_at.true)

pub names-preserved : goal.names-preserved
names-preserved c =
    let f : List (List ℕ) → Bool = λ q. is_synced (place_at c.args.disk_entries.now q) in
    each_more f c.args.path.now c.names.count c.names.invariant (ap f (sym c.in_ok-prefix.ensures) ∙ sym c.is_synced_at.ensures ∙ c.if-not-is_synced_at.false)

pub returns : goal.returns
returns c = sym (all_pass (λ q. is_synced (place_at c.args.disk_entries.now q)) c.args.path.now (λ k upto. c.names.invariant k (omega arith)))
