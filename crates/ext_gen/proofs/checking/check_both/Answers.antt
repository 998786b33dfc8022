use Rattle.std.proofs.Common.{[], ◌∷◌, arith}
use Rattle.std.proofs.lemmas.Result.{err_from_is_err_and}
use Rattle.ext_gen.specs.Checking.{files_of}
use Rattle.ext_gen.proofs.CheckingLemmas.{both_bytes, both_files, checked_more, few_bytes, few_files, first_among, second_among, stops_later, tree_served}
use Rattle.ext_gen.proofs.checking.check_both.Goals as goal

pub check_entries-requires-clause-served : goal.check_entries-requires-clause-served
check_entries-requires-clause-served g c =
    tree_served (c.args.root.now ∷ c.args.lower.now ∷ []) c.args.root.now c.pairs.result.now c.requires.served (first_among c.args.root.now (c.args.lower.now ∷ [])) c.pairs.ensures.tree c.pairs.ensures.same

pub check_entries-requires-clause-few : goal.check_entries-requires-clause-few
check_entries-requires-clause-few g c = few_files c.args.root.now c.pairs.result.now c.pairs.ensures.same (omega (arith, c.requires.counted.entries))

pub check_entries-requires-clause-small : goal.check_entries-requires-clause-small
check_entries-requires-clause-small g c = few_bytes c.args.root.now c.pairs.result.now c.pairs.ensures.same (omega (arith, c.requires.counted.bytes))

pub check_entries-requires-2-clause-served : goal.check_entries-requires-2-clause-served
check_entries-requires-2-clause-served g c =
    tree_served (c.args.root.now ∷ c.args.lower.now ∷ []) c.args.lower.now c.pairs-2.result.now c.requires.served (second_among c.args.root.now c.args.lower.now []) c.pairs-2.ensures.tree c.pairs-2.ensures.same

pub check_entries-requires-2-clause-few : goal.check_entries-requires-2-clause-few
check_entries-requires-2-clause-few g c = few_files c.args.lower.now c.pairs-2.result.now c.pairs-2.ensures.same (omega (arith, c.requires.counted.entries))

pub check_entries-requires-2-clause-small : goal.check_entries-requires-2-clause-small
check_entries-requires-2-clause-small g c = few_bytes c.args.lower.now c.pairs-2.result.now c.pairs-2.ensures.same (omega (arith, c.requires.counted.bytes))

pub returns-in_err-under-clause-cause : goal.returns-in_err-under-clause-cause
returns-in_err-under-clause-cause g c =
    let p = err_from_is_err_and c.from_residual-in_err-under.result c.from_residual-in_err-under.ensures.1 in
    rw (p.1, p.2, ← c.pairs.ensures.same, ← c.pairs-2.ensures.same)
    (stops_later (g.D.Disk.state c.args.disk.now) (g.D.Disk.state c.check_entries.new.disk) (g.D.Disk.state c.check_entries-2.new.disk) (files_of c.pairs.result.now) (files_of c.pairs-2.result.now) _ _
    c.in_ok-seen.ensures.rests c.in_ok-seen.ensures.checked c.in_err-under.ensures.cause)

pub sum-requires-clause-files : goal.sum-requires-clause-files
sum-requires-clause-files g c =
    both_files c.args.root.now c.args.lower.now c.pairs.result.now c.pairs-2.result.now _ _ c.requires.counted c.pairs.ensures.same c.pairs-2.ensures.same
    c.in_ok-seen.ensures.checked.number c.in_ok-under.ensures.checked.number

pub sum-requires-clause-bytes : goal.sum-requires-clause-bytes
sum-requires-clause-bytes g c =
    both_bytes c.args.root.now c.args.lower.now c.pairs.result.now c.pairs-2.result.now _ _ c.requires.counted c.pairs.ensures.same c.pairs-2.ensures.same
    c.in_ok-seen.ensures.checked.bytes c.in_ok-under.ensures.checked.bytes

pub returns-clause-checked : goal.returns-clause-checked
returns-clause-checked g c =
    rw (← c.pairs.ensures.same, ← c.pairs-2.ensures.same)
    (checked_more (g.D.Disk.state c.args.disk.now) (g.D.Disk.state c.check_entries.new.disk) (files_of c.pairs.result.now) (files_of c.pairs-2.result.now) _ _ c.sum.result
    c.in_ok-seen.ensures.rests c.in_ok-seen.ensures.checked c.in_ok-under.ensures.checked c.sum.ensures.files c.sum.ensures.bytes)
