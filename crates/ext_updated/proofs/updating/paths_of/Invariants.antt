use Rattle.std.proofs.Common.{◌≡◌, take}
use Rattle.ext_updated.specs.Pieces.{paths_of}
use Rattle.ext_updated.proofs.updating.paths_of.Given as goal

abbrev pub invariant-loop-piece : goal.invariant-loop-piece
invariant-loop-piece g l = l.paths.items ≡ paths_of (take l.piece-index l.pieces)
