use Rattle.std.proofs.Common.{◌≡◌, ◌∙◌, ◌<◌, ◌≤◌, length, get_or, ap, arith, refl, subst}
use Rattle.std.proofs.lemmas.Result.{err_from_is_err_and}
use Rattle.std.proofs.lemmas.List.{take_all}
use Rattle.ext_text.specs.Path.{is_prefix}
use Rattle.ext_disk.proofs.ForCallers.{rests_itself, rests_then, spares_itself, spares_then}
use Rattle.ext_store_files.specs.Writing.{Holds}
use Rattle.ext_publish.specs.Filling.{IsFilling, held_of}
use Rattle.ext_publish.proofs.FilesLemmas.{entry_served, fill_entry_cause, filled_next, may_write_entry}
use Rattle.ext_publish.proofs.filling.write_files.Goals as goal

pub entries-init : goal.entries-init
entries-init g c = record {
  spares = spares_itself (is_prefix c.args.resource.now) (g.O.Disk.state c.args.out.now);
  rests = rests_itself (g.D.Disk.state c.args.store.now);
  filled = c.requires.free;
}

pub write_entry-requires-clause-served : goal.write_entry-requires-clause-served
write_entry-requires-clause-served g c =
    let tree = c.args.tree.now in
    let i = c.entries.pair-index in
    let x = c.pair-item.result in
    let same : c.pairs-pair-items.result.now ≡ tree = c.pairs-pair-items.ensures.same in
    let inside : i < length tree = omega (arith, ap length same, c.entries-test.true) in
    let item : x ≡ get_or tree i x = c.pair-item.is ∙ ap (λ es. get_or es i x) same in
    entry_served tree i x c.pairs-pair-items.ensures.tree.tree inside item c.requires.readable (held_of x.1) refl

pub write_entry-requires-clause-may : goal.write_entry-requires-clause-may
write_entry-requires-clause-may g c =
    let tree = c.args.tree.now in
    let i = c.entries.pair-index in
    let x = c.pair-item.result in
    let same : c.pairs-pair-items.result.now ≡ tree = c.pairs-pair-items.ensures.same in
    let inside : i < length tree = omega (arith, ap length same, c.entries-test.true) in
    let item : x ≡ get_or tree i x = c.pair-item.is ∙ ap (λ es. get_or es i x) same in
    may_write_entry (g.D.Disk.state c.args.store.now) c.args.folder.now c.args.resource.now tree i x c.requires.below c.pairs-pair-items.ensures.tree.tree inside item (held_of x.1) refl (g.O.Disk.state c.entries.out).told c.entries.invariant.filled

pub returns-in_err-write_entry-clause-spares : goal.returns-in_err-write_entry-clause-spares
returns-in_err-write_entry-clause-spares g c =
    spares_then (is_prefix c.args.resource.now) (g.O.Disk.state c.args.out.now) (g.O.Disk.state c.entries.out) (g.O.Disk.state c.write_entry.new.out) c.entries.invariant.spares c.in_err-write_entry.ensures.spares

pub returns-in_err-write_entry-clause-rests : goal.returns-in_err-write_entry-clause-rests
returns-in_err-write_entry-clause-rests g c =
    rests_then (g.D.Disk.state c.args.store.now) (g.D.Disk.state c.entries.store) (g.D.Disk.state c.write_entry.new.store) c.entries.invariant.rests c.in_err-write_entry.ensures.rests

pub returns-in_err-write_entry-clause-cause : goal.returns-in_err-write_entry-clause-cause
returns-in_err-write_entry-clause-cause g c =
    let tree = c.args.tree.now in
    let i = c.entries.pair-index in
    let x = c.pair-item.result in
    let same : c.pairs-pair-items.result.now ≡ tree = c.pairs-pair-items.ensures.same in
    let inside : i < length tree = omega (arith, ap length same, c.entries-test.true) in
    let item : x ≡ get_or tree i x = c.pair-item.is ∙ ap (λ es. get_or es i x) same in
    let p = err_from_is_err_and c.from_residual.result c.from_residual.ensures.1 in
    rw (p.1, p.2) (fill_entry_cause tree i x (g.D.Disk.state c.args.store.now) (g.D.Disk.state c.entries.store) (g.D.Disk.state c.write_entry.new.store) (g.O.Disk.state c.args.out.now) (g.O.Disk.state c.entries.out) (g.O.Disk.state c.write_entry.new.out) _
    c.pairs-pair-items.ensures.tree.tree inside item c.entries.invariant.rests c.entries.invariant.spares.follows.count (held_of x.1) refl c.in_err-write_entry.ensures.cause)

pub entries-preserved : goal.entries-preserved
entries-preserved g c =
    let tree = c.args.tree.now in
    let i = c.entries.pair-index in
    let x = c.pair-item.result in
    let same : c.pairs-pair-items.result.now ≡ tree = c.pairs-pair-items.ensures.same in
    let inside : i < length tree = omega (arith, ap length same, c.entries-test.true) in
    let item : x ≡ get_or tree i x = c.pair-item.is ∙ ap (λ es. get_or es i x) same in
    record {
      spares = spares_then (is_prefix c.args.resource.now) (g.O.Disk.state c.args.out.now) (g.O.Disk.state c.entries.out) (g.O.Disk.state c.write_entry.new.out) c.entries.invariant.spares c.in_ok-write_entry.ensures.spares;
      rests = rests_then (g.D.Disk.state c.args.store.now) (g.D.Disk.state c.entries.store) (g.D.Disk.state c.write_entry.new.store) c.entries.invariant.rests c.in_ok-write_entry.ensures.rests;
      filled = filled_next (g.D.Disk.state c.args.store.now) (g.D.Disk.state c.entries.store) (g.O.Disk.state c.entries.out) (g.O.Disk.state c.write_entry.new.out) c.args.folder.now c.args.resource.now tree i x c.requires.below c.pairs-pair-items.ensures.tree.tree inside item
          c.entries.invariant.rests c.entries.invariant.filled (held_of x.1) refl c.in_ok-write_entry.ensures.done;
    }

pub returns-clause-filled : goal.returns-clause-filled
returns-clause-filled g c =
    let tree = c.args.tree.now in
    let past : length tree ≤ c.entries.pair-index = omega (arith, ap length c.pairs-pair-items.ensures.same, c.entries-test.false) in
    subst (λ es. Holds (IsFilling (g.D.Disk.state c.args.store.now) c.args.folder.now c.args.resource.now tree es) (g.O.Disk.state c.entries.out)) (take_all c.entries.pair-index tree past) c.entries.invariant.filled

pub returns-clause-spares : goal.returns-clause-spares
returns-clause-spares g c = c.entries.invariant.spares

pub returns-clause-rests : goal.returns-clause-rests
returns-clause-rests g c = c.entries.invariant.rests
