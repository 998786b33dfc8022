-- What devices share: how they count, and what a read from the middle of a file gives.
use Rattle.std.specs.Prelude.{◌≡◌, ℕ, ◌+◌, ◌-◌, ◌^◌, ◌≤◌, min, List, ◌++◌, length, take, drop}

-- the count after one more: a count goes by ones, up to the last value of a 64 bit number, where it stands still
abbrev pub next_count : ℕ → ℕ
next_count count = min (count + 1) (2 ^ 64 - 1)

-- the first so many bytes of the buffer are those of the file from the byte `at` on, and they are none exactly at or past
-- the file's end
pub record IsReadAt (bytes : List ℕ) (at : ℕ) (buf : List ℕ) (count : ℕ) : Type 0 where
  pub moved : drop at bytes ≡ take count buf ++ drop (at + count) bytes
  pub end : count ≡ 0 → length bytes ≤ at
