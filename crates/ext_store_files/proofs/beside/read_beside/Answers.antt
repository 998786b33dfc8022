use Rattle.std.proofs.Common.{◌+◌, ◌-◌, ◌≤◌, length, take, arith, length-take}
use Rattle.std.proofs.lemmas.Result.{err_from_is_err_and}
use Rattle.sha2.specs.Hashers.{Holds256}
use Rattle.ext_store_files.proofs.CopyingLemmas.{kept_there}
use Rattle.ext_store_files.proofs.BesideLemmas.{beside_nothing, beside_more, beside_whole, beside_ends, beside_fails}
use Rattle.ext_store_files.proofs.beside.read_beside.Goals as goal

pub reads-init : goal.reads-init
reads-init g c = beside_nothing c.args.from.now (g.P.Depot.state c.args.depot.now) c.args.at c.args.piece.now (Holds256 c.args.beside.hasher) c.args.beside.same

pub reads-preserved : goal.reads-preserved
reads-preserved g c =
    let n = c.in_ok-count.count in
    let read = c.in_ok-count.ensures.ok in
    let fits : c.reads.done + n ≤ length c.args.piece.now = omega (arith, read.0, length-take (length c.args.piece.now - c.reads.done) c.reads.buffer) in
    beside_more c.args.from.now (g.P.Depot.state c.args.depot.now) (g.P.Depot.state c.reads.depot) (g.P.Depot.state c.hash_piece.new.depot) c.args.at c.args.piece.now
    (Holds256 c.args.beside.hasher) (Holds256 c.reads.hasher) (Holds256 c.hash_piece.new.hasher) c.args.beside.same c.reads.same c.is_still_same-same.result c.reads.done n (take n c.hash_piece.new.buffer)
    c.reads.invariant c.in_ok-count.ensures.kept read.1 fits read.2 read.3 c.is_still_same-same.ensures

pub hash_piece-requires-clause-there : goal.hash_piece-requires-clause-there
hash_piece-requires-clause-there g c = kept_there (g.P.Depot.state c.args.depot.now) (g.P.Depot.state c.reads.depot) c.args.from.now c.reads.invariant.kept c.requires.there

pub returns-in_err-count-clause-followed : goal.returns-in_err-count-clause-followed
returns-in_err-count-clause-followed g c = λ xs at_end is.
    let p = err_from_is_err_and c.from_residual.result c.from_residual.ensures.1 in
    rw (p.1, p.2) (beside_fails _ (g.P.Depot.state c.args.depot.now) (g.P.Depot.state c.reads.depot) (g.P.Depot.state c.hash_piece.new.depot) _ c.args.listed.now c.reads.invariant.kept c.in_err-count.ensures.cause)

pub returns-then-count-eq0-clause-followed : goal.returns-then-count-eq0-clause-followed
returns-then-count-eq0-clause-followed g c = λ xs at_end is.
    let read = c.in_ok-count.ensures.ok in
    rw c.mismatch.ensures (beside_ends c.args.from.now (g.P.Depot.state c.args.depot.now) (g.P.Depot.state c.reads.depot) (g.P.Depot.state c.hash_piece.new.depot) c.args.at c.args.piece.now
    (Holds256 c.args.beside.hasher) (Holds256 c.reads.hasher) (Holds256 c.hash_piece.new.hasher) c.args.beside.same c.reads.same c.reads.done c.in_ok-count.count (take c.in_ok-count.count c.hash_piece.new.buffer)
    c.args.listed.now c.stamp.result xs c.reads.invariant c.reads-test.true c.requires.within read.1 c.if-count-eq0.true read.2 read.3 c.stamp.ensures at_end is)

pub returns-clause-followed : goal.returns-clause-followed
returns-clause-followed g c = λ xs at_end is.
    beside_whole c.args.from.now (g.P.Depot.state c.args.depot.now) (g.P.Depot.state c.reads.depot) c.args.at c.args.piece.now
    (Holds256 c.args.beside.hasher) (Holds256 c.reads.hasher) c.args.beside.same c.reads.same c.reads.done xs c.reads.invariant (omega arith) at_end is
