-- The switch from one generation to the next: `next` is renamed to `current`, and the store folder is synced.
use Rattle.std.specs.Prelude.{◌≡◌, ℕ, Bool, true, ◌||◌, ◌⊎◌, List, [], Some, IfSome, Result, Ok, Err}
use Rattle.ext_disk.specs.Disk.{Places, Told, DiskState, is_no_folder, now}
use Rattle.ext_io.specs.declared.failed.Failed.{Failed}
use Rattle.ext_store_files.specs.Names.{current_path, next_path}
use Rattle.ext_store_files.specs.Writing.{is_at, WorksTold}
use Rattle.ext_gen.specs.Opened.{Generation}
use Rattle.ext_gen.specs.Store.{State, Points}
use Rattle.ext_gen.specs.Sound.{IsEither, IsDurably, IsReady, StandsSince, with_current}

-- the paths that a switch needs: the store folder, `next` and `current`
pub record HasPaths (folder next current : List (List ℕ)) : Type 0 where
  pub folder_is : folder ≡ []
  pub next_is : next ≡ next_path
  pub current_is : current ≡ current_path

-- with what is at `next` at `current`, where no folder stands, the store points to the generation
pub record IsPrepared (g : Generation) (d : Places) : Type 0 where
  pub coming : Points (with_current (d next_path).node (now d)) (Some g)
  pub free : is_no_folder (d current_path).node ≡ true

-- the condition of the switch, in force where contents are told
abbrev pub MayCommit : Generation → DiskState → Type 0
MayCommit g disk = IfSome disk.told (λ d. IsPrepared g d.places)

-- one of the paths that a switch renames
abbrev pub is_switched : List (List ℕ) → Bool
is_switched p = is_at next_path p || is_at current_path p

-- what stands changes at `next` and at `current` alone, and nothing was appended
abbrev pub SwitchesNow : Told → Told → Type 0
SwitchesNow d e = WorksTold is_switched 0 d e

-- one of the two states
abbrev pub IsOneOf : State → State → State → Type 0
IsOneOf s u x = (x ≡ s) ⊎ (x ≡ u)

-- what a switch leaves: done, the new state; failed, one of both
abbrev pub CommitEnds : {T : Type 0} → Result T Failed → State → State → Places → Type 0
CommitEnds (Ok _) s u e = IsDurably u e
CommitEnds (Err failed) s u e = IsEither s u e

-- Where all was ready for the state u beside the state s, the disk durably stands for u, or for one of both where it failed; and
-- each tree that a stop since may have left stands for one of them.
abbrev pub CommitsTold : {T : Type 0} → Result T Failed → Told → Told → Type 0
CommitsTold result d e = (s u : State) → IsReady s u d.places → CommitEnds result s u e.places × StandsSince (IsOneOf s u) e d.clock

-- the store points to the generation where the switch was done, as far as that is told
abbrev pub PointsAfter : {T : Type 0} → Result T Failed → Generation → DiskState → Type 0
PointsAfter (Ok _) g new = IfSome new.told (λ e. Points (now e.places) (Some g))
PointsAfter (Err failed) g new = Unit {0}
