-- How many bytes were appended. The sum that a disk tells goes up to the last value of a 64 bit number.
use Rattle.std.specs.Prelude.{◌≡◌, ℕ, zero, suc, ◌+◌, ◌-◌, ◌^◌, ◌≤◌, min}
use Rattle.ext_disk.specs.Disk.{Told, DiskState, BothTold}

-- the sum after so many more bytes: no bytes leave it as it was
abbrev pub raised : ℕ → ℕ → ℕ
raised sum zero = sum
raised sum (suc n) = min (sum + suc n) (2 ^ 64 - 1)

-- the sum was raised by some number of bytes, at most by so many
abbrev pub RaisesWithin : ℕ → ℕ → ℕ → Type 0
RaisesWithin most before after = (n : ℕ) × (n ≤ most) × (after ≡ raised before n)

-- what was appended is exactly so many bytes
abbrev pub RaisesTold : ℕ → Told → Told → Type 0
RaisesTold n d e = e.appended ≡ raised d.appended n

-- the same of two states of a disk, where it tells
abbrev pub Raises : ℕ → DiskState → DiskState → Type 0
Raises n old new = BothTold (RaisesTold n) old.told new.told
