use Rattle.std.proofs.Common.{◌++◌, Err, sym, ap, ◌∙◌, subst}
use Rattle.std.proofs.lemmas.Result.{err_from_is_err_and}
use Rattle.std.specs.Option.{option_copied}
use Rattle.ext_host.specs.declared.host.Host.{Host}
use Rattle.ext_homes.specs.Giving.{stored_by}
use Rattle.ext_gen.specs.Preparing.{ArePastBefore, coming_number, host_before, is_left, is_needed, limit_of, most_bytes_of, most_files}
use Rattle.ext_gen.specs.PreparingPaths.{Changes}
use Rattle.ext_gen.proofs.PreparingAnswersLemmas.{limit_cause, limit_cleans, limit_says, no_limit, prepare_cause, prepared_cause, prepared_completed, prepared_limit}
use Rattle.ext_gen.proofs.PreparingLeftLemmas.{cause_finished, cleans_handed, cleans_later, memory_finished}
use Rattle.ext_gen.proofs.PreparingPathsLemmas.{changes_nothing}
use Rattle.ext_gen.proofs.preparing.write_coming.Goals as goal

pub returns-in_err-generation-clause-changes : goal.returns-in_err-generation-clause-changes
returns-in_err-generation-clause-changes g c =
    let from = option_copied c.args.from in
    let n = coming_number from in
    changes_nothing (is_needed from) n (most_files c.args.next) (most_bytes_of n c.args.next) (g.D.Disk.state c.args.disk.now)

pub returns-in_err-generation-clause-limit : goal.returns-in_err-generation-clause-limit
returns-in_err-generation-clause-limit g c =
    let from = option_copied c.args.from in
    let p = err_from_is_err_and c.from_residual.result c.from_residual.ensures.1 in
    let limit = c.in_err-generation.ensures.limit in
    limit_says _ (limit_of from c.args.next) limit.0 c.in_err-generation.field-0.0 c.from_residual.result limit.1 limit.2 (p.1 ∙ ap Err p.2)

pub returns-in_err-generation-clause-cleans : goal.returns-in_err-generation-clause-cleans
returns-in_err-generation-clause-cleans g c =
    let from = option_copied c.args.from in
    let p = err_from_is_err_and c.from_residual.result c.from_residual.ensures.1 in
    let limit = c.in_err-generation.ensures.limit in
    limit_cleans _ (is_left from) limit.0 c.in_err-generation.field-0.0 (g.D.Disk.state c.args.disk.now) c.from_residual.result limit.1 (p.1 ∙ ap Err p.2)

pub returns-in_err-generation-clause-cause : goal.returns-in_err-generation-clause-cause
returns-in_err-generation-clause-cause g c =
    let from = option_copied c.args.from in
    let p = err_from_is_err_and c.from_residual.result c.from_residual.ensures.1 in
    let limit = c.in_err-generation.ensures.limit in
    rw (p.1, p.2) (limit_cause from c.args.next (g.D.Disk.state c.args.disk.now) (g.P.Depot.state c.args.depot.now) (g.P.Depot.state c.args.depot.now) limit.0 c.in_err-generation.field-0.0 limit.1)

pub change_store-requires-clause-past : goal.change_store-requires-clause-past
change_store-requires-clause-past g c =
    subst (λ n. ArePastBefore n c.args.next.past) (sym c.in_ok-generation.ensures.number.0) c.requires.past

pub change_store-requires-clause-number : goal.change_store-requires-clause-number
change_store-requires-clause-number g c =
    c.in_ok-generation.ensures.number.0

pub change_store-requires-clause-positive : goal.change_store-requires-clause-positive
change_store-requires-clause-positive g c =
    c.in_ok-generation.ensures.number.1

pub change_store-requires-clause-fits : goal.change_store-requires-clause-fits
change_store-requires-clause-fits g c =
    c.in_ok-generation.ensures.number.3

pub returns-in_err-host-clause-changes : goal.returns-in_err-host-clause-changes
returns-in_err-host-clause-changes g c =
    let from = option_copied c.args.from in
    let n = c.in_ok-generation.generation in
    let number = c.in_ok-generation.ensures.number in
    subst (λ k. Changes (is_needed from) k (most_files c.args.next) (most_bytes_of k c.args.next) (g.D.Disk.state c.args.disk.now) (g.D.Disk.state c.change_store.new.disk)) number.0
    c.change_store.ensures.changes

pub returns-in_err-host-clause-limit : goal.returns-in_err-host-clause-limit
returns-in_err-host-clause-limit g c =
    let from = option_copied c.args.from in
    let p = err_from_is_err_and c.from_residual-in_err-host.result c.from_residual-in_err-host.ensures.1 in
    let number = c.in_ok-generation.ensures.number in
    let r = g.D.Disk.state c.args.disk.now in
    let s = g.D.Disk.state c.change_store.new.disk in
    let before = g.P.Depot.state c.args.depot.now in
    let after = g.P.Depot.state c.change_store.new.depot in
    let n = c.in_ok-generation.generation in
    let es = c.args.next.root ++ c.args.next.lower in
    no_limit _ (limit_of from c.args.next) c.in_err-host.field-0.0 r s before after (stored_by (host_before from) r) n es c.from_residual-in_err-host.result number.2 c.in_err-host.ensures.cause (p.1 ∙ ap Err p.2)

pub returns-in_err-host-clause-cleans : goal.returns-in_err-host-clause-cleans
returns-in_err-host-clause-cleans g c =
    let from = option_copied c.args.from in
    let p = err_from_is_err_and c.from_residual-in_err-host.result c.from_residual-in_err-host.ensures.1 in
    let r = g.D.Disk.state c.args.disk.now in
    cleans_handed Host _ (is_left from) c.in_err-host.field-0.0 r (g.D.Disk.state c.change_store.new.disk) c.change_store.result c.from_residual-in_err-host.result c.in_err-host.was (p.1 ∙ ap Err p.2) c.change_store.ensures.cleans

pub returns-in_err-host-clause-cause : goal.returns-in_err-host-clause-cause
returns-in_err-host-clause-cause g c =
    let from = option_copied c.args.from in
    let p = err_from_is_err_and c.from_residual-in_err-host.result c.from_residual-in_err-host.ensures.1 in
    let number = c.in_ok-generation.ensures.number in
    let r = g.D.Disk.state c.args.disk.now in
    let s = g.D.Disk.state c.change_store.new.disk in
    let before = g.P.Depot.state c.args.depot.now in
    let after = g.P.Depot.state c.change_store.new.depot in
    let n = c.in_ok-generation.generation in
    rw (p.1, p.2) (prepare_cause from c.args.next r s before after n c.in_err-host.field-0.0 number.0 c.in_err-host.ensures.cause)

pub prepared-requires : goal.prepared-requires
prepared-requires g c =
    c.in_ok-host.ensures.changed.opened

pub returns-clause-changes : goal.returns-clause-changes
returns-clause-changes g c =
    let from = option_copied c.args.from in
    let n = c.in_ok-generation.generation in
    let number = c.in_ok-generation.ensures.number in
    subst (λ k. Changes (is_needed from) k (most_files c.args.next) (most_bytes_of k c.args.next) (g.D.Disk.state c.args.disk.now) (g.D.Disk.state c.change_store.new.disk)) number.0
    c.change_store.ensures.changes

pub returns-clause-limit : goal.returns-clause-limit
returns-clause-limit g c =
    let from = option_copied c.args.from in
    prepared_limit _ (limit_of from c.args.next) c.prepared.result c.in_ok-generation.ensures.number.2 c.prepared.ensures.cause

pub returns-clause-cleans : goal.returns-clause-cleans
returns-clause-cleans g c =
    let from = option_copied c.args.from in
    let r = g.D.Disk.state c.args.disk.now in
    cleans_later Host _ c.in_ok-host.host (is_left from) _ r.told _ (g.D.Disk.state c.change_store.new.disk).told c.change_store.result c.prepared.result c.in_ok-host.was
    (cause_finished _ _ c.prepared.result memory_finished c.prepared.ensures.cause) c.change_store.ensures.cleans c.change_store.ensures.changes.told

pub returns-clause-completed : goal.returns-clause-completed
returns-clause-completed g c =
    let from = option_copied c.args.from in
    let number = c.in_ok-generation.ensures.number in
    let r = g.D.Disk.state c.args.disk.now in
    let s = g.D.Disk.state c.change_store.new.disk in
    let before = g.P.Depot.state c.args.depot.now in
    let n = c.in_ok-generation.generation in
    prepared_completed from n c.args.next c.in_ok-host.host r s before c.prepared.result number.0 c.in_ok-host.ensures.changed c.prepared.ensures.prepared

pub returns-clause-cause : goal.returns-clause-cause
returns-clause-cause g c =
    let from = option_copied c.args.from in
    let r = g.D.Disk.state c.args.disk.now in
    let s = g.D.Disk.state c.change_store.new.disk in
    let before = g.P.Depot.state c.args.depot.now in
    let after = g.P.Depot.state c.change_store.new.depot in
    prepared_cause _ from c.args.next r s before after c.prepared.result c.prepared.ensures.cause
