use Rattle.std.proofs.Common.{◌≡◌, ℕ, List, ◌∷◌, ◌+◌, [], arith, drop, take, slice_index_or, slice_set, refl, subst, sym}
use Rattle.std.proofs.lemmas.Result.{err_from_is_err_and}
use Rattle.std.proofs.lemmas.List.{drop-set-lt}
use Rattle.ext_tree.specs.Tree.{Entries}
use Rattle.ext_tree.specs.declared.entry.Entry.{Entry}
use Rattle.ext_host.specs.Held.{HeldFile}
use Rattle.ext_homes.proofs.PlacingLemmas.{Going, drop_next, goes, goes_on, number_so_far, small_here, stop_cause, stop_works, take_next}
use Rattle.ext_homes.proofs.placing.place_pairs.Goals as goal

pub pairs-init : goal.pairs-init
pairs-init g c =
    goes c.args.kept.now c.args.generation c.args.files.now c.args.pairs.now c.args.pairs.now [] (g.D.Disk.state c.args.disk.now) (g.P.Depot.state c.args.depot.now) refl refl c.requires.homes

pub place_entry-requires-clause-numbers : goal.place_entry-requires-clause-numbers
place_entry-requires-clause-numbers g c = λ stamp home listed. (c.requires.before stamp home listed).1

pub place_entry-requires-clause-number : goal.place_entry-requires-clause-number
place_entry-requires-clause-number g c =
    let kept = c.args.kept.now in
    let n = c.args.generation in
    let next = c.args.files.now in
    let all = c.args.pairs.now in
    let i = c.pairs.pair-index in
    let x : List (List ℕ) × Entry HeldFile = slice_index_or c.pairs.pairs i c.pair-item.result in
    let rest : Entries HeldFile = drop i c.pairs.pairs in
    let later : Entries HeldFile = drop (i + 1) c.pairs.pairs in
    let new : Entries HeldFile = take i c.pairs.pairs in
    let count = c.pairs.files in
    let first = g.D.Disk.state c.args.disk.now in
    let last = g.D.Disk.state c.pairs.disk in
    let before = g.P.Depot.state c.args.depot.now in
    let after = g.P.Depot.state c.pairs.depot in
    let is : rest ≡ x ∷ later = drop_next c.pairs.pairs i c.pair-item.result (omega arith) in
    number_so_far kept n next all rest new x later count 262144 first last before after is c.requires.few c.pairs.invariant

pub place_entry-requires-clause-size : goal.place_entry-requires-clause-size
place_entry-requires-clause-size g c =
    let kept = c.args.kept.now in
    let n = c.args.generation in
    let next = c.args.files.now in
    let all = c.args.pairs.now in
    let i = c.pairs.pair-index in
    let x : List (List ℕ) × Entry HeldFile = slice_index_or c.pairs.pairs i c.pair-item.result in
    let rest : Entries HeldFile = drop i c.pairs.pairs in
    let later : Entries HeldFile = drop (i + 1) c.pairs.pairs in
    let new : Entries HeldFile = take i c.pairs.pairs in
    let count = c.pairs.files in
    let first = g.D.Disk.state c.args.disk.now in
    let last = g.D.Disk.state c.pairs.disk in
    let before = g.P.Depot.state c.args.depot.now in
    let after = g.P.Depot.state c.pairs.depot in
    let is : rest ≡ x ∷ later = drop_next c.pairs.pairs i c.pair-item.result (omega arith) in
    small_here kept n next all rest new x later count first last before after is c.requires.sizes c.pairs.invariant

pub returns-in_err-place_entry-clause-works : goal.returns-in_err-place_entry-clause-works
returns-in_err-place_entry-clause-works g c =
    let kept = c.args.kept.now in
    let n = c.args.generation in
    let next = c.args.files.now in
    let all = c.args.pairs.now in
    let i = c.pairs.pair-index in
    let x : List (List ℕ) × Entry HeldFile = slice_index_or c.pairs.pairs i c.pair-item.result in
    let rest : Entries HeldFile = drop i c.pairs.pairs in
    let later : Entries HeldFile = drop (i + 1) c.pairs.pairs in
    let new : Entries HeldFile = take i c.pairs.pairs in
    let count = c.pairs.files in
    let first = g.D.Disk.state c.args.disk.now in
    let last = g.D.Disk.state c.pairs.disk in
    let before = g.P.Depot.state c.args.depot.now in
    let after = g.P.Depot.state c.pairs.depot in
    let is : rest ≡ x ∷ later = drop_next c.pairs.pairs i c.pair-item.result (omega arith) in
    stop_works kept n next all rest new x later count first last (g.D.Disk.state c.place_entry.new.disk) before after is c.pairs.invariant c.in_err-place_entry.ensures.works

pub returns-in_err-place_entry-clause-cause : goal.returns-in_err-place_entry-clause-cause
returns-in_err-place_entry-clause-cause g c =
    let kept = c.args.kept.now in
    let n = c.args.generation in
    let next = c.args.files.now in
    let all = c.args.pairs.now in
    let i = c.pairs.pair-index in
    let x : List (List ℕ) × Entry HeldFile = slice_index_or c.pairs.pairs i c.pair-item.result in
    let rest : Entries HeldFile = drop i c.pairs.pairs in
    let later : Entries HeldFile = drop (i + 1) c.pairs.pairs in
    let new : Entries HeldFile = take i c.pairs.pairs in
    let count = c.pairs.files in
    let first = g.D.Disk.state c.args.disk.now in
    let last = g.D.Disk.state c.pairs.disk in
    let before = g.P.Depot.state c.args.depot.now in
    let after = g.P.Depot.state c.pairs.depot in
    let is : rest ≡ x ∷ later = drop_next c.pairs.pairs i c.pair-item.result (omega arith) in
    let p = err_from_is_err_and c.from_residual.result c.from_residual.ensures.1 in
    rw (p.1, p.2) (stop_cause kept n next all rest new x.0 x.1 later count _ first last (g.D.Disk.state c.place_entry.new.disk) before after (g.P.Depot.state c.place_entry.new.depot)
    c.ranges.generation.fits c.requires.before is c.pairs.invariant c.in_err-place_entry.ensures.cause)

pub pairs-preserved : goal.pairs-preserved
pairs-preserved g c =
    let kept = c.args.kept.now in
    let n = c.args.generation in
    let next = c.args.files.now in
    let all = c.args.pairs.now in
    let i = c.pairs.pair-index in
    let x : List (List ℕ) × Entry HeldFile = slice_index_or c.pairs.pairs i c.pair-item.result in
    let rest : Entries HeldFile = drop i c.pairs.pairs in
    let later : Entries HeldFile = drop (i + 1) c.pairs.pairs in
    let new : Entries HeldFile = take i c.pairs.pairs in
    let count = c.pairs.files in
    let first = g.D.Disk.state c.args.disk.now in
    let last = g.D.Disk.state c.pairs.disk in
    let before = g.P.Depot.state c.args.depot.now in
    let after = g.P.Depot.state c.pairs.depot in
    let is : rest ≡ x ∷ later = drop_next c.pairs.pairs i c.pair-item.result (omega arith) in
    let y : List (List ℕ) × Entry HeldFile = (x.0, c.place_entry.new.entry) in
    let going = goes_on kept n next all rest new x.0 x.1 c.place_entry.new.entry later count c.place_entry.new.files first last (g.D.Disk.state c.place_entry.new.disk) before after (g.P.Depot.state c.place_entry.new.depot)
    c.ranges.generation.fits c.requires.before is c.pairs.invariant c.in_ok-place_entry.ensures.works c.in_ok-place_entry.ensures.kept c.in_ok-place_entry.ensures.placed in
    subst (λ l. Going kept n next all l (take (i + 1) (slice_set c.pairs.pairs i y)) c.place_entry.new.files first (g.D.Disk.state c.place_entry.new.disk) before (g.P.Depot.state c.place_entry.new.depot))
    (sym (drop-set-lt (i + 1) c.pairs.pairs i y (omega arith)))
    (subst (λ l. Going kept n next all later l c.place_entry.new.files first (g.D.Disk.state c.place_entry.new.disk) before (g.P.Depot.state c.place_entry.new.depot)) (sym (take_next c.pairs.pairs i y (omega arith))) going)
