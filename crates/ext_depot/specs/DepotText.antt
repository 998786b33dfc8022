-- Texts in the depot, read whole.
use Rattle.std.specs.Prelude.{◌≡◌, ℕ, nat_le, List, length, if◌then◌else◌, Option, Some, None, IfSome, IsSome}
use Rattle.ext_text.specs.Causes.{Rose}
use Rattle.ext_io.specs.Pieces.{IsPieceAt}
use Rattle.ext_depot.specs.Depot.{DepotState, Files}
use Rattle.ext_depot.specs.declared.depot_text.DepotText.{DepotText}
use Rattle.ext_depot.specs.declared.depot_text.DepotText.TheVariants.{Absent, TooLong, Whole}
use Rattle.ext_depot.specs.declared.depot_err.DepotErr.{DepotErr}
use Rattle.ext_depot.specs.declared.depot_err.DepotErr.TheVariants.{Fault, OutOfMemory}

-- the most bytes of a text in the depot
abbrev pub most_text : ℕ
most_text = 67108864

-- what is found of what the depot has at a path
abbrev pub text_of : Option (List ℕ) → DepotText
text_of None = Absent
text_of (Some bytes) = if nat_le (length bytes) most_text then Whole bytes else TooLong

-- what is found at a path of these files, where they are told
abbrev pub IsTextIn : Option Files → List (List ℕ) → DepotText → Type 0
IsTextIn files path found = IfSome files (λ has. found ≡ text_of (has path))

-- what was found at the path, where the depot tells what it has there
abbrev pub IsTextAt : DepotState → List (List ℕ) → DepotText → Type 0
IsTextAt depot path found = IsTextIn depot.contents path found

-- why it was not read: the depot had a fault, or there was no memory
abbrev pub ReadTextCause : ℕ → ℕ → DepotErr → Type 0
ReadTextCause before after Fault = Rose before after
ReadTextCause before after OutOfMemory = Unit {0}

-- a file stands at the path, where that is told
abbrev pub HasFileAt : DepotState → List (List ℕ) → Type 0
HasFileAt depot path = IfSome depot.contents (λ files. IsSome (files path))

-- of the file at the path, where it is told what stands there
abbrev pub IsPieceOfFile : DepotState → List (List ℕ) → ℕ → List ℕ → Type 0
IsPieceOfFile depot path at piece = IfSome depot.contents (λ files. IfSome (files path) (λ all. IsPieceAt all at piece))
