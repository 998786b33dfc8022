-- How much one call of a device moves, and what a piece of a file is: this project's own.
use Rattle.std.specs.Prelude.{◌≡◌, ℕ, ◌+◌, ◌≤◌, List, ◌++◌, length, drop}

-- the most bytes of a piece
abbrev pub most_of_piece : ℕ
most_of_piece = 65536

-- bytes of a file from the byte `at` on, none exactly at or past its end
pub record IsPieceAt (all : List ℕ) (at : ℕ) (piece : List ℕ) : Type 0 where
  pub moved : drop at all ≡ piece ++ drop (at + length piece) all
  pub end : length piece ≡ 0 → length all ≤ at
