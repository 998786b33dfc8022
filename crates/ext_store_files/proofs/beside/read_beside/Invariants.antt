use Rattle.std.proofs.Common.{length, ◌-◌}
use Rattle.sha2.specs.Hashers.{Holds256}
use Rattle.ext_store_files.proofs.BesideLemmas.{BesidePiece}
use Rattle.ext_store_files.proofs.beside.read_beside.Given as goal

-- what was read is hashed, and the same as the piece so far or not
abbrev pub invariant-reads : goal.invariant-reads
invariant-reads g l =
    BesidePiece l.from (g.P.Depot.state l.initial.depot) (g.P.Depot.state l.depot) l.at l.piece (Holds256 l.initial.hasher) (Holds256 l.hasher) l.initial.same l.same l.done

abbrev pub decreases-reads : goal.decreases-reads
decreases-reads g l = length l.piece - l.done
