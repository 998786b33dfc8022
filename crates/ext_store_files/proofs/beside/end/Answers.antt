use Rattle.std.proofs.Common.{take, refl, ◌∙◌, arith, rules}
use Rattle.sha2.specs.Hashers.{Holds256}
use Rattle.ext_store_files.specs.Copying.{depot_told}
use Rattle.ext_store_files.specs.HeldFiles.{IsListed}
use Rattle.ext_store_files.proofs.CopyingLemmas.{equal_stamps}
use Rattle.ext_store_files.proofs.BesideLemmas.{IsStampUpTo, listed_there, past_size, same_told, stamps_end}
use Rattle.ext_store_files.proofs.beside.end.Goals as goal

pub returns-then-eq-clause-same : goal.returns-then-eq-clause-same
returns-then-eq-clause-same g c = λ ours xs told sized is.
    let read = c.in_ok-more.ensures.ok in
    let size = c.args.listed.now.size in
    let theirs = depot_told (g.P.Depot.state c.args.depot.now) c.args.from.now in
    let up : IsStampUpTo theirs size c.stamp-found.result =
    stamps_end theirs (Holds256 c.args.beside.hasher) (Holds256 c.hash_piece.new.hasher) size size c.in_ok-more.more is.0 (take c.in_ok-more.more c.hash_piece.new.buffer) c.stamp-found.result
    (is.1 ∙ sized) is.2 is.3 (omega arith) read.1 (omega (arith, read.0)) (past_size size c.in_ok-more.more) read.2 read.3 c.stamp-found.ensures in
    let listed : IsListed theirs c.args.listed.now = listed_there theirs c.args.listed.now c.stamp-found.result (equal_stamps c.stamp-found.result c.args.listed.now c.if-eq.ensures) up in
    (listed, same_told ours theirs xs is.0 c.args.listed.now c.args.beside.same told sized is.1 is.2 is.4 listed)

pub returns-else-eq-clause-cause : goal.returns-else-eq-clause-cause
returns-else-eq-clause-cause g c = λ xs sized is.
    let read = c.in_ok-more.ensures.ok in
    let size = c.args.listed.now.size in
    let theirs = depot_told (g.P.Depot.state c.args.depot.now) c.args.from.now in
    let up : IsStampUpTo theirs size c.stamp-found.result =
    stamps_end theirs (Holds256 c.args.beside.hasher) (Holds256 c.hash_piece.new.hasher) size size c.in_ok-more.more is.0 (take c.in_ok-more.more c.hash_piece.new.buffer) c.stamp-found.result
    (is.1 ∙ sized) is.2 is.3 (omega arith) read.1 (omega (arith, read.0)) (past_size size c.in_ok-more.more) read.2 read.3 c.stamp-found.ensures in
    rw c.mismatch.ensures (refl, (search rules, up))
