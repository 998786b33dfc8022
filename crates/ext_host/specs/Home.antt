-- The numbers of homes: this project's own.
use Rattle.std.specs.Prelude.{ℕ}

-- the greatest number of a generation
abbrev pub last_generation : ℕ
last_generation = 4294967295

-- the most files of a generation: the number of a file is less
abbrev pub most_files_of_generation : ℕ
most_files_of_generation = 262144
