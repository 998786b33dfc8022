-- Paths that no stop since a moment can have changed, and which calls leave them so.
use Rattle.std.specs.Prelude.{◌≡◌, ℕ, ◌≤◌, Bool, true, false, ◌||◌, List}
use Rattle.ext_text.specs.Path.{is_prefix}
use Rattle.ext_disk.specs.Disk.{Tree, Places, Told, DiskState, BothTold, is_synced, is_durable}
use Rattle.ext_disk.specs.Since.{Since, Follows}
use Rattle.ext_disk.specs.Calls.{Call, look, make_dir, make_file, append, sync_file, sync_dir, rename, remove}

-- the path is durable, and each tree that a stop since the moment m may have left has there what stands there now, be it nothing
pub record IsFixed (d : Told) (m : ℕ) (p : List (List ℕ)) : Type 0 where
  pub durable : is_durable d.places p ≡ true
  pub since : (t : Tree) → Since d m t → t p ≡ (d.places p).node

-- a call that makes, writes, renames or removes has the path among its own, or a path below which it lies
abbrev pub touches : Call → List (List ℕ) → Bool
touches look p = false
touches (make_dir q) p = is_prefix q p
touches (make_file q) p = is_prefix q p
touches (append q bytes) p = is_prefix q p
touches (sync_file q) p = false
touches (sync_dir q) p = false
touches (rename from to) p = is_prefix from p || is_prefix to p
touches (remove q) p = is_prefix q p

-- the same stands there, and what was synced is so still
pub record Stays (d e : Places) (p : List (List ℕ)) : Type 0 where
  pub node : (e p).node ≡ (d p).node
  pub synced : is_synced (d p) ≡ true → is_synced (e p) ≡ true
  pub hard : (d p).unsynced_bytes ≡ false → (e p).unsynced_bytes ≡ false

-- the path stays, and stays fixed since each moment since which it was
pub record IsUnchangedAt (d e : Told) (p : List (List ℕ)) : Type 0 where
  pub stays : Stays d.places e.places p
  pub fixed : (m : ℕ) → m ≤ d.clock → IsFixed d m p → IsFixed e m p

-- what is made of calls that touch only paths within reach: it follows, and spares each path out of reach
pub record Spares (reach : List (List ℕ) → Bool) (old new : DiskState) : Type 0 where
  pub follows : Follows old new
  pub told : BothTold (λ d e. (p : List (List ℕ)) → reach p ≡ false → IsUnchangedAt d e p) old.told new.told
