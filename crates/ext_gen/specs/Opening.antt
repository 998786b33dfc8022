-- Opening a store: what is said of it, and what that leaves.
use Rattle.std.specs.Prelude.{◌≡◌, ◌≢◌, ℕ, ◌⊎◌, List, Option, Some, None, Result, Ok, Err}
use Rattle.ext_text.specs.Causes.{Rose}
use Rattle.ext_disk.specs.Disk.{Node, Tree, Told, file, now}
use Rattle.ext_index.specs.Faulty.{IsFaulty}
use Rattle.ext_index.specs.ValidIndex.{GivesIndex}
use Rattle.ext_store_files.specs.Names.{IsGeneration, current_text}
use Rattle.ext_store_files.specs.declared.reading.Found.{Found}
use Rattle.ext_store_files.specs.declared.reading.Found.TheVariants.{Absent, Folder, TooLong, File}
use Rattle.ext_store_files.specs.Writing.{nowhere, WorksTold}
use Rattle.ext_store_files.specs.declared.fault.StoreFault.TheVariants.{OutOfMemory, DiskFault, DepotFault, Damaged}
use Rattle.ext_gen.specs.Opened.{Generation}
use Rattle.ext_gen.specs.Store.{State, generation_in, Points, Stands}
use Rattle.ext_gen.specs.Sound.{IsDurably, IsMember, IsSound, StandsSince}
use Rattle.ext_gen.specs.Broken.{IsBroken, IsFaultyIndex, NamesNone}
use Rattle.ext_gen.specs.declared.errors.StoreErr.{StoreErr}
use Rattle.ext_gen.specs.declared.errors.StoreErr.TheVariants.{Fault, Broken, Mismatch, NotInDepot, Unfinished, Limit}

-- the answer is what the store points to; broken where it points to nothing, in its first faulty line
abbrev pub OpenSays : Result (Option Generation) StoreErr → Tree → Type 0
OpenSays (Ok answer) t = Points t answer
OpenSays (Err (Fault OutOfMemory)) t = Unit {0}
OpenSays (Err (Fault DiskFault)) t = Unit {0}
OpenSays (Err (Fault DepotFault)) t = ⊥
OpenSays (Err (Broken line)) t = IsBroken t line
OpenSays (Err (Fault (Damaged damage))) t = ⊥
OpenSays (Err (Mismatch path listed found)) t = ⊥
OpenSays (Err (NotInDepot path)) t = ⊥
OpenSays (Err Unfinished) t = ⊥
OpenSays (Err (Limit which)) t = ⊥

-- why a store was not opened
abbrev pub OpenCause : ℕ → ℕ → StoreErr → Type 0
OpenCause before after (Fault OutOfMemory) = Unit {0}
OpenCause before after (Fault DiskFault) = Rose before after
OpenCause before after (Fault DepotFault) = ⊥
OpenCause before after (Broken line) = Unit {0}
OpenCause before after (Fault (Damaged damage)) = ⊥
OpenCause before after (Mismatch path listed found) = ⊥
OpenCause before after (NotInDepot path) = ⊥
OpenCause before after Unfinished = ⊥
OpenCause before after (Limit which) = ⊥

-- the same stands, and nothing was appended
abbrev pub KeepsNow : Told → Told → Type 0
KeepsNow d e = WorksTold nowhere 0 d e

-- from a sound store: durably the state that the answer is, for which the store stood before. An error before the store folder
-- was synced leaves the disk as it was; a later one leaves it durably standing for what it stood for
abbrev pub OpenEnds : Result (Option Generation) StoreErr → Told → Told → Type 0
OpenEnds (Ok answer) d e = (s : State) × (generation_in s ≡ answer) × Stands (now d.places) s × IsDurably s e.places
OpenEnds (Err error) d e = (e ≡ d) ⊎ ((s : State) × Stands (now d.places) s × IsDurably s e.places)

-- and each tree that a stop since may have left stands for a state for which it might have stood before
pub record OpensSound (result : Result (Option Generation) StoreErr) (d e : Told) : Type 0 where
  pub ends : OpenEnds result d e
  pub since : StandsSince (IsMember d.places) e d.clock

-- what opening leaves of a sound store
abbrev pub OpensTold : Result (Option Generation) StoreErr → Told → Told → Type 0
OpensTold result d e = IsSound d.places → OpensSound result d e

-- what is said of a text, as the index of the generation
abbrev pub TextSays : ℕ → List ℕ → Result Generation StoreErr → Type 0
TextSays n text (Ok g) = (g.number ≡ n) × GivesIndex n text (g.host, g.text)
TextSays n text (Err (Fault OutOfMemory)) = Unit {0}
TextSays n text (Err (Fault DiskFault)) = ⊥
TextSays n text (Err (Fault DepotFault)) = ⊥
TextSays n text (Err (Broken line)) = IsFaulty n text line
TextSays n text (Err (Fault (Damaged damage))) = ⊥
TextSays n text (Err (Mismatch path listed found)) = ⊥
TextSays n text (Err (NotInDepot path)) = ⊥
TextSays n text (Err Unfinished) = ⊥
TextSays n text (Err (Limit which)) = ⊥

-- and of what stands where the index of the generation should
abbrev pub IndexSays : ℕ → Option Node → Result Generation StoreErr → Type 0
IndexSays n found (Ok g) = (g.number ≡ n) × ((text : List ℕ) × (found ≡ Some (file text)) × GivesIndex n text (g.host, g.text))
IndexSays n found (Err (Fault OutOfMemory)) = Unit {0}
IndexSays n found (Err (Fault DiskFault)) = Unit {0}
IndexSays n found (Err (Fault DepotFault)) = ⊥
IndexSays n found (Err (Broken line)) = IsFaultyIndex n found line
IndexSays n found (Err (Fault (Damaged damage))) = ⊥
IndexSays n found (Err (Mismatch path listed found_stamp)) = ⊥
IndexSays n found (Err (NotInDepot path)) = ⊥
IndexSays n found (Err Unfinished) = ⊥
IndexSays n found (Err (Limit which)) = ⊥

-- what is made of what was found there
abbrev pub IndexOf : ℕ → Found → Result Generation StoreErr → Type 0
IndexOf n Absent result = result ≡ Err (Broken 1)
IndexOf n Folder result = result ≡ Err (Broken 1)
IndexOf n TooLong result = result ≡ Err (Broken 1)
IndexOf n (File text) result = TextSays n text result

-- the generation that a text of `current` names
abbrev pub NamedBy : List ℕ → Result (Option ℕ) StoreErr → Type 0
NamedBy text (Ok None) = ⊥
NamedBy text (Ok (Some n)) = IsGeneration n × (text ≡ current_text n)
NamedBy text (Err e) = (e ≡ Broken 0) × ((n : ℕ) → IsGeneration n → text ≢ current_text n)

-- what is made of what was found at `current`
abbrev pub NamesOf : Found → Result (Option ℕ) StoreErr → Type 0
NamesOf Absent result = result ≡ Ok None
NamesOf Folder result = result ≡ Err (Broken 0)
NamesOf TooLong result = result ≡ Err (Broken 0)
NamesOf (File text) result = NamedBy text result

-- what is said of what stands there
abbrev pub NumberSays : Option Node → Result (Option ℕ) StoreErr → Type 0
NumberSays found (Ok None) = found ≡ None
NumberSays found (Ok (Some n)) = IsGeneration n × (found ≡ Some (file (current_text n)))
NumberSays found (Err (Fault OutOfMemory)) = Unit {0}
NumberSays found (Err (Fault DiskFault)) = Unit {0}
NumberSays found (Err (Fault DepotFault)) = ⊥
NumberSays found (Err (Broken line)) = NamesNone found × (line ≡ 0)
NumberSays found (Err (Fault (Damaged damage))) = ⊥
NumberSays found (Err (Mismatch path listed found_stamp)) = ⊥
NumberSays found (Err (NotInDepot path)) = ⊥
NumberSays found (Err Unfinished) = ⊥
NumberSays found (Err (Limit which)) = ⊥
