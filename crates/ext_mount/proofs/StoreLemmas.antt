-- What opening a store leaves of it.
use Rattle.std.proofs.Common.{Option, Some, None, IfSome, Result, Ok, Err, refl, inl, inr}
use Rattle.ext_disk.specs.Disk.{Told, DiskState, BothTold, IsDisk}
use Rattle.ext_disk.specs.Since.{Follows}
use Rattle.ext_disk.proofs.ForCallers.{follows_itself, since_now}
use Rattle.ext_store_files.proofs.ForCallers.{told_itself, within_same}
use Rattle.ext_gen.specs.Opened.{Generation}
use Rattle.ext_gen.specs.Opening.{KeepsNow, OpensTold}
use Rattle.ext_gen.specs.Sound.{IsSound}
use Rattle.ext_gen.specs.declared.errors.StoreErr.{StoreErr}
use Rattle.ext_gen.proofs.ForCallers.{sound_left}
use Rattle.ext_mount.specs.StoreRead.{LeavesSound, LeavesStore}

leaves_opened : (result : Result (Option Generation) StoreErr) (d e : Told) → OpensTold result d e → IsSound d.places → LeavesSound d e
leaves_opened (Ok answer) d e opens sound = let says = opens sound in record { ends = inr (says.ends.0, says.ends.2, says.ends.3); since = says.since }
leaves_opened (Err error) d e opens sound = let says = opens sound in record { ends = says.ends; since = says.since }

-- a store that was opened, or not
pub leaves_store : (result : Result (Option Generation) StoreErr) (old new : DiskState) → Follows old new → BothTold KeepsNow old.told new.told → BothTold (OpensTold result) old.told new.told → LeavesStore old new
leaves_store result old new follows keeps opens = record { follows = follows; now = keeps; sound = both old.told new.told opens }
  where
    both : (x y : Option Told) → BothTold (OpensTold result) x y → BothTold (λ d e. IsSound d.places → LeavesSound d e) x y
    both None None opens = tt
    both None (Some e) opens = absurd opens
    both (Some d) None opens = absurd opens
    both (Some d) (Some e) opens = leaves_opened result d e opens

-- a store that is not touched
pub untouched_store : (s : DiskState) → IfSome s.told IsDisk → LeavesStore s s
untouched_store s disk = record { follows = follows_itself s; now = told_itself KeepsNow (λ d. record { now = λ p out. refl; appended = within_same 0 d.appended d.appended refl }) s.told; sound = at s.told disk }
  where
    at : (x : Option Told) → IfSome x IsDisk → BothTold (λ d e. IsSound d.places → LeavesSound d e) x x
    at None disk = tt
    at (Some d) disk = λ sound. record { ends = inl refl; since = λ t since. sound_left d.places t disk.tree.root sound (since_now d t disk since) }
