-- Reading a file of the store whole, up to a limit.
use Rattle.std.specs.Prelude.{◌≡◌, ℕ, ◌==◌, nat_le, if◌then◌else◌, Bool, true, false, List, ◌++◌, length, drop, Option, Some, None, IfSome}
use Rattle.ext_text.specs.Causes.{Rose}
use Rattle.ext_io.specs.Pieces.{IsPieceAt}
use Rattle.ext_disk.specs.Disk.{Node, folder, file, DiskState, is_file}
use Rattle.ext_host.specs.declared.shelf.ShelfErr.{ShelfErr}
use Rattle.ext_host.specs.declared.shelf.ShelfErr.TheVariants as shelf_errors
use Rattle.ext_store_files.specs.declared.reading.Found.{Found}
use Rattle.ext_store_files.specs.declared.reading.Found.TheVariants.{Absent, Folder, TooLong, File}
use Rattle.ext_store_files.specs.declared.errors.ReadErr.{ReadErr}
use Rattle.ext_store_files.specs.declared.errors.ReadErr.TheVariants.{DiskFault, OutOfMemory}

-- what is found of what stands at a path: the bytes of a file of at most so many
abbrev pub found_of : ℕ → Option Node → Found
found_of most None = Absent
found_of most (Some folder) = Folder
found_of most (Some (file bytes)) = if nat_le (length bytes) most then File bytes else TooLong

-- what was found at a path, where it is told what stands there
abbrev pub IsFoundAt : DiskState → List (List ℕ) → ℕ → Found → Type 0
IsFoundAt disk path most found = IfSome disk.told (λ d. found ≡ found_of most (d.places path).node)

-- why nothing is known of a file: the disk had a fault, or there was no memory for the bytes
abbrev pub ReadCause : ℕ → ℕ → ReadErr → Type 0
ReadCause before after DiskFault = Rose before after
ReadCause before after OutOfMemory = Unit {0}

-- a file that was not read is not given by a shelf, for the same reason
abbrev pub shelf_err : ReadErr → ShelfErr
shelf_err DiskFault = shelf_errors.Fault
shelf_err OutOfMemory = shelf_errors.OutOfMemory

-- a file stands at the path, where it is told what does
abbrev pub IsFileAt : DiskState → List (List ℕ) → Type 0
IsFileAt disk path = IfSome disk.told (λ d. is_file (d.places path).node ≡ true)

-- of the file at the path, where it is told what stands there
abbrev pub IsPieceOf : DiskState → List (List ℕ) → ℕ → List ℕ → Type 0
IsPieceOf disk path at piece = IfSome disk.told (λ d. (all : List ℕ) → (d.places path).node ≡ Some (file all) → IsPieceAt all at piece)

-- the file at the path begins with these bytes, where it is told what stands there
abbrev pub BeginsWith : DiskState → List (List ℕ) → List ℕ → Type 0
BeginsWith disk path bytes = IfSome disk.told (λ d. (all : List ℕ) → (d.places path).node ≡ Some (file all) → all ≡ bytes ++ drop (length bytes) all)

-- a file of this size stands there
abbrev pub is_file_of : ℕ → Option Node → Bool
is_file_of size None = false
is_file_of size (Some folder) = false
is_file_of size (Some (file bytes)) = length bytes == size

-- a file of this size stands at the path, where it is told what does
abbrev pub HasSize : DiskState → List (List ℕ) → ℕ → Type 0
HasSize disk path size = IfSome disk.told (λ d. is_file_of size (d.places path).node ≡ true)
