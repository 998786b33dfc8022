use Rattle.std.proofs.Common.{◌≡◌, ◌++◌, take}
use Rattle.ext_disk.proofs.pieces.share_parts.Given as goal

-- the parts so far have been added
abbrev pub invariant-parts : goal.invariant-parts
invariant-parts l = l.shared.items ≡ l.fn.shared.items ++ take l.part-index l.parts
