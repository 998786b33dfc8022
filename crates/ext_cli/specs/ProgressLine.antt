-- The line that tells of a command's progress. This project's own.
use Rattle.std.specs.Prelude.{ℕ, ◌/◌, ◌%◌, List, [], ◌++◌, codes}
use Rattle.std.specs.Fmt.{decimal}
use Rattle.ext_cli.specs.declared.tally.Tally.{Tally}

-- a number of bytes in megabytes of 1,000,000 bytes, rounded down to tenths
abbrev pub megabytes : ℕ → List ℕ
megabytes bytes = decimal (bytes / 1_000_000) ++ (codes "." ++ decimal (bytes / 100_000 % 10))

-- so many files and bytes, before the rest of a line
abbrev pub amount : ℕ → ℕ → List ℕ → List ℕ
amount files bytes rest = decimal files ++ (codes " files, " ++ (megabytes bytes ++ (codes " MB" ++ rest)))

-- what was read and written so far, without a newline
abbrev pub progress_line : Tally → List ℕ
progress_line tally =
    codes "hostext: read " ++ amount tally.files_read tally.bytes_read (codes "; wrote " ++ amount tally.files_written tally.bytes_written [])
