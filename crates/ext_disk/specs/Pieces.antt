-- The bytes of a file in memory, held in the pieces in which they were appended.
use Rattle.std.specs.Prelude.{◌≡◌, ℕ, ◌+◌, List, [], ◌∷◌, ◌++◌, length}
use Rattle.ext_disk.specs.declared.pieces.Part.{Part}

-- the bytes of the file
abbrev pub joined : List Part → List ℕ
joined [] = []
joined (part ∷ parts) = part.piece ++ joined parts

-- each piece has the number of the bytes before it, of which so many stand before the first one
abbrev pub AreLaid : ℕ → List Part → Type 0
AreLaid before [] = Unit {0}
AreLaid before (part ∷ parts) = (part.start ≡ before) × AreLaid (before + length part.piece) parts

-- the pieces are in their places, and their bytes are counted
pub record IsLaid (parts : List Part) (size : ℕ) : Type 0 where
  pub starts : AreLaid 0 parts
  pub size_is : size ≡ length (joined parts)
