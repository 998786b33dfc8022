-- What a shelf means to contracts. This project's own device.
use Rattle.std.specs.Prelude.{◌≡◌, ◌≢◌, ℕ, Bool, List, length, Option, Some, None}
use Rattle.ext_text.specs.Causes.{Rose}
use Rattle.ext_tree.specs.declared.stamp.Stamp.{Stamp}
use Rattle.ext_host.specs.Held.{HeldFile, IsStampOf}
use Rattle.ext_host.specs.declared.home.Home.{Home}
use Rattle.ext_host.specs.declared.body.Body.{Body}
use Rattle.ext_host.specs.declared.body.Body.TheVariants.{Kept}
use Rattle.ext_host.specs.declared.shelf.ShelfErr.{ShelfErr}
use Rattle.ext_host.specs.declared.shelf.ShelfErr.TheVariants.{OutOfMemory, Fault, Damaged}

-- what a shelf tells of a file: nothing, or that no file stands where its body says, or the bytes of the one that does
pub data Told : Type 0 where
  untold : Told
  missing : Told
  stored : List ℕ → Told

-- bytes that a shelf gives are those that it tells
abbrev pub IsTold : Told → List ℕ → Type 0
IsTold untold text = Unit {0}
IsTold missing text = ⊥
IsTold (stored bytes) text = text ≡ bytes

-- what is found where a file of the listed stamp should stand: no file of that size, or one of that size whose bytes have
-- another stamp
abbrev pub IsFound : Stamp → Told → Option Stamp → Type 0
IsFound listed untold None = Unit {0}
IsFound listed untold (Some found) = (found.size ≡ listed.size) × (found ≢ listed)
IsFound listed missing None = Unit {0}
IsFound listed missing (Some found) = ⊥
IsFound listed (stored bytes) None = length bytes ≢ listed.size
IsFound listed (stored bytes) (Some found) = (found.size ≡ listed.size) × (found ≢ listed) × IsStampOf bytes found

-- a file that is kept at the home with this stamp
pub record IsKeptAs (held : HeldFile) (home : Home) (listed : Stamp) : Type 0 where
  pub body : held.body ≡ Kept home
  pub stamp : held.stamp ≡ listed

-- when each error may come: a fault where the count rose; damage where a kept file is not what it is listed as, at its home
-- and with its stamp
abbrev pub ShelfCause : ℕ → ℕ → Told → HeldFile → ShelfErr → Type 0
ShelfCause old new told held OutOfMemory = Unit {0}
ShelfCause old new told held Fault = Rose old new
ShelfCause old new told held (Damaged damage) = IsKeptAs held damage.home damage.listed × IsFound damage.listed told damage.found

-- Staying holds of a state with itself, and over a state between; and what stays serves the same files and tells the same
-- of each.
pub record IsStays {S : Type 0} (stays : S → S → Type 0) (serves : S → HeldFile → Bool) (told : S → HeldFile → Told) : Type 0 where
  pub same : (a : S) → stays a a
  pub through : (a b c : S) → stays a b → stays b c → stays a c
  pub served : (a b : S) (held : HeldFile) → stays a b → serves b held ≡ serves a held
  pub tells : (a b : S) (held : HeldFile) → stays a b → told b held ≡ told a held
