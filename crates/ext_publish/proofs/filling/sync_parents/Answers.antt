use Rattle.std.proofs.Common.{◌≡◌, ◌∙◌, ◌<◌, ◌≤◌, length, get_or, ap, arith, refl, subst}
use Rattle.std.proofs.lemmas.Result.{err_from_is_err_and}
use Rattle.std.proofs.lemmas.List.{take_all}
use Rattle.ext_store_files.specs.Writing.{Holds, nowhere}
use Rattle.ext_store_files.proofs.ForCallers.{works_itself, works_then}
use Rattle.ext_publish.specs.Filling.{AreNamed, held_of}
use Rattle.ext_publish.proofs.FoldersLemmas.{out_cause_since}
use Rattle.ext_publish.proofs.ParentsLemmas.{entry_below, entry_stands, named_next, named_none}
use Rattle.ext_publish.proofs.filling.sync_parents.Goals as goal

pub entries-init : goal.entries-init
entries-init g c = record {
  works = works_itself nowhere nowhere (g.O.Disk.state c.args.out.now);
  named = named_none c.args.resource.now (g.O.Disk.state c.args.out.now).told;
}

pub sync_entry-requires-clause-some : goal.sync_entry-requires-clause-some
sync_entry-requires-clause-some g c =
    let tree = c.args.tree.now in
    let i = c.entries.pair-index in
    let x = c.pair-item.result in
    let same : c.pairs-pair-items.result.now ≡ tree = c.pairs-pair-items.ensures.same in
    let inside : i < length tree = omega (arith, ap length same, c.entries-test.true) in
    let item : x ≡ get_or tree i x = c.pair-item.is ∙ ap (λ es. get_or es i x) same in
    entry_below tree i x c.pairs-pair-items.ensures.tree.tree inside item

pub sync_entry-requires-clause-file : goal.sync_entry-requires-clause-file
sync_entry-requires-clause-file g c =
    let tree = c.args.tree.now in
    let i = c.entries.pair-index in
    let x = c.pair-item.result in
    let same : c.pairs-pair-items.result.now ≡ tree = c.pairs-pair-items.ensures.same in
    let inside : i < length tree = omega (arith, ap length same, c.entries-test.true) in
    let item : x ≡ get_or tree i x = c.pair-item.is ∙ ap (λ es. get_or es i x) same in
    entry_stands tree c.args.resource.now i x (g.O.Disk.state c.args.out.now) (g.O.Disk.state c.entries.out) c.pairs-pair-items.ensures.tree.tree inside item c.requires c.entries.invariant.works (held_of x.1) refl

pub returns-in_err-sync_entry-clause-works : goal.returns-in_err-sync_entry-clause-works
returns-in_err-sync_entry-clause-works g c =
    works_then nowhere nowhere 0 0 0 (g.O.Disk.state c.args.out.now) (g.O.Disk.state c.entries.out) (g.O.Disk.state c.sync_entry.new.out) (omega arith) c.entries.invariant.works c.in_err-sync_entry.ensures.works

pub returns-in_err-sync_entry-clause-cause : goal.returns-in_err-sync_entry-clause-cause
returns-in_err-sync_entry-clause-cause g c =
    let p = err_from_is_err_and c.from_residual.result c.from_residual.ensures.1 in
    rw (p.1, p.2) (out_cause_since (g.O.Disk.state c.args.out.now) (g.O.Disk.state c.entries.out) (g.O.Disk.state c.sync_entry.new.out) _ c.entries.invariant.works.spares.follows.count c.in_err-sync_entry.ensures.cause)

pub entries-preserved : goal.entries-preserved
entries-preserved g c =
    let tree = c.args.tree.now in
    let i = c.entries.pair-index in
    let x = c.pair-item.result in
    let same : c.pairs-pair-items.result.now ≡ tree = c.pairs-pair-items.ensures.same in
    let inside : i < length tree = omega (arith, ap length same, c.entries-test.true) in
    let item : x ≡ get_or tree i x = c.pair-item.is ∙ ap (λ es. get_or es i x) same in
    record {
      works = works_then nowhere nowhere 0 0 0 (g.O.Disk.state c.args.out.now) (g.O.Disk.state c.entries.out) (g.O.Disk.state c.sync_entry.new.out) (omega arith) c.entries.invariant.works c.in_ok-sync_entry.ensures.works;
      named = named_next tree c.args.resource.now i x inside item (g.O.Disk.state c.entries.out) (g.O.Disk.state c.sync_entry.new.out) c.in_ok-sync_entry.ensures.works c.entries.invariant.named (held_of x.1) refl c.in_ok-sync_entry.ensures.named;
    }

pub returns-clause-works : goal.returns-clause-works
returns-clause-works g c = c.entries.invariant.works

pub returns-clause-named : goal.returns-clause-named
returns-clause-named g c =
    let tree = c.args.tree.now in
    let past : length tree ≤ c.entries.pair-index = omega (arith, ap length c.pairs-pair-items.ensures.same, c.entries-test.false) in
    subst (λ es. Holds (AreNamed c.args.resource.now es) (g.O.Disk.state c.entries.out)) (take_all c.entries.pair-index tree past) c.entries.invariant.named
