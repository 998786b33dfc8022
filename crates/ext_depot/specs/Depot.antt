-- What contracts see of a depot: the files that a program reads and never writes. This project's own device.
use Rattle.std.specs.Prelude.{◌≡◌, ℕ, ◌<◌, ◌≤◌, List, Option, IfSome, IsSome, length}
use Rattle.std.specs.Option.{option_map}
use Rattle.ext_io.specs.Device.{IsReadAt}

-- the bytes of the file at each path; none where no file stands
abbrev pub Files : Type 0
Files = List (List ℕ) → Option (List ℕ)

-- what contracts see of a depot
pub record DepotState : Type 0 where
  -- the files, where the depot tells them
  pub contents : Option Files
  -- how often a call failed
  pub faults : ℕ

-- what a call leaves: the same files, told or not as before, and no fault forgotten
pub record IsKept (old new : DepotState) : Type 0 where
  pub contents : new.contents ≡ old.contents
  pub count : old.faults ≤ new.faults

-- a file stands at the path, and the buffer has room for a byte: the condition of a read, in force where the files are told
abbrev pub MayRead : DepotState → List (List ℕ) → ℕ → Type 0
MayRead depot path room = IfSome depot.contents (λ files. IsSome (files path) × (0 < room))

-- the size of the file at the path, and none exactly where there is none, where the files are told
abbrev pub IsSizeAt : DepotState → List (List ℕ) → Option ℕ → Type 0
IsSizeAt depot path size = IfSome depot.contents (λ files. size ≡ option_map length (files path))

-- what a read from a byte of the file at the path on gave, where the files are told
abbrev pub IsReadOf : DepotState → List (List ℕ) → ℕ → List ℕ → ℕ → Type 0
IsReadOf depot path at buf count = IfSome depot.contents (λ files. IfSome (files path) (λ bytes. IsReadAt bytes at buf count))
