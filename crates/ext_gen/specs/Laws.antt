-- The laws of stores between stops.
use Rattle.std.specs.Prelude.{◌≡◌, ℕ, List, []}
use Rattle.ext_disk.specs.Disk.{Tree, Places, Told, MayLeave, absent, now, root_place}
use Rattle.ext_disk.specs.Calls.{synced_in}
use Rattle.ext_disk.specs.Fixed.{IsFixed}
use Rattle.ext_store_files.specs.Names.{current_path}
use Rattle.ext_gen.specs.Store.{State, none, generation_in, Stands}
use Rattle.ext_gen.specs.Sound.{IsGenerationPath, IsEither, IsDurably, IsMember, IsSound, StandsSince}

-- an empty disk durably stands for no generation
abbrev pub EmptyStandsForNone : Type 0
EmptyStandsForNone = (d : Places) → d [] ≡ root_place → d current_path ≡ absent → IsDurably none d

-- a store that durably stands for a state is sound, and so is one that stands for one of two
abbrev pub DurablyIsSound : Type 0
DurablyIsSound = (s : State) (d : Places) → IsDurably s d → IsSound d

-- a store that stands for one of two states is sound
abbrev pub EitherIsSound : Type 0
EitherIsSound = (s u : State) (d : Places) → IsEither s u d → IsSound d

-- a stop leaves of a sound store one that stands for a state for which it might stand, and of one that durably stands for a
-- state one that stands for that
abbrev pub StopsLeaveStates : Type 0
StopsLeaveStates = (d : Places) (t : Tree) → d [] ≡ root_place → IsSound d → MayLeave d t → (s : State) × IsMember d s × Stands t s

-- a stop leaves of a store that durably stands for a state one that stands for it
abbrev pub StopsLeaveTheState : Type 0
StopsLeaveTheState = (s : State) (d : Places) (t : Tree) → IsDurably s d → MayLeave d t → Stands t s

-- a sound store whose folder is synced durably stands for the state for which it stands now
abbrev pub SyncedIsDurably : Type 0
SyncedIsDurably = (d : Places) → d [] ≡ root_place → IsSound d → (s : State) × Stands (now d) s × IsDurably s (synced_in [] d)

-- where what a state rests on is fixed since a moment, and the store stands for it, it does so durably, and so does each tree that
-- a stop since the moment may have left
abbrev pub FixedIsDurably : Type 0
FixedIsDurably = (s : State) (d : Told) (m : ℕ) → IsFixed d m current_path → ((p : List (List ℕ)) → IsGenerationPath s p → IsFixed d m p) → Stands (now d.places) s
    → IsDurably s d.places × StandsSince (λ x. x ≡ s) d m

-- two states for which a tree stands have one generation
abbrev pub OneState : Type 0
OneState = (t : Tree) (s u : State) → Stands t s → Stands t u → generation_in s ≡ generation_in u
