-- What a command has read and written so far, as a person is told of it. This project's own.
use Rattle.std.specs.Prelude.{ℕ, ◌+◌, ◌-◌, ◌^◌, ◌==◌, min, if◌then◌else◌}
use Rattle.ext_io.specs.Device.{next_count}
use Rattle.ext_cli.specs.declared.tally.Tally.{Tally}

-- a sum stands still at the last value of a 64 bit number
abbrev pub sum_of : ℕ → ℕ → ℕ
sum_of a b = min (a + b) (2 ^ 64 - 1)

-- after a read from the byte `at` on that gave so many bytes: a file is counted where it is read from its beginning
abbrev pub after_read : Tally → ℕ → ℕ → Tally
after_read tally at count = record tally {
  files_read = if at == 0 then next_count tally.files_read else tally.files_read;
  bytes_read = sum_of tally.bytes_read count;
}

-- after a file was made
abbrev pub after_making : Tally → Tally
after_making tally = record tally { files_written = next_count tally.files_written }

-- after so many bytes were appended
abbrev pub after_append : Tally → ℕ → Tally
after_append tally count = record tally { bytes_written = sum_of tally.bytes_written count }
