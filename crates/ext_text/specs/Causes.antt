-- When a fault may be reported. This project's own rule for every device: a device counts its faults, and an error that
-- blames it comes only where that count rose in this very call.
use Rattle.std.specs.Prelude.{◌≡◌, ℕ, ◌-◌, ◌^◌, ◌<◌, ◌⊎◌, Result, OnErr}

-- the count rose from old to new, or stands at the last value of its type, where it can rise no more
abbrev pub Rose : ℕ → ℕ → Type 0
Rose old new = (old < new) ⊎ (new ≡ 2 ^ 64 - 1)

-- a refused call has its cause: the count of the object that it was handed rose
abbrev pub HasCause : {T E : Type 0} → Result T E → ℕ → ℕ → Type 0
HasCause result old new = OnErr result (Rose old new)
