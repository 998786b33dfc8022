-- Preparing a change: the coming generation is written beside the current one, so that a switch is all that is left to do.
use Rattle.std.specs.Prelude.{◌≡◌, ◌⊎◌, ℕ, ◌+◌, ◌<◌, ◌==◌, Bool, true, false, ◌||◌, nat_lt, if◌then◌else◌, List, [], ◌∷◌, ◌++◌, length, slice_get, unwrap_or, Option, Some, None, IfSome, Result, Ok, Err}
use Rattle.std.specs.List.{AllByRecursion, flat_map, list_any, sum_by}
use Rattle.std.specs.Option.{is_some, option_map}
use Rattle.ext_text.specs.Causes.{Rose}
use Rattle.ext_text.specs.declared.which.Which.{Which}
use Rattle.ext_text.specs.declared.which.Which.TheVariants as whichs
use Rattle.ext_depot.specs.Depot.{DepotState}
use Rattle.ext_disk.specs.Disk.{Told, DiskState, BothTold, now}
use Rattle.ext_disk.specs.Since.{Rests}
use Rattle.ext_tree.specs.Tree.{Entries}
use Rattle.ext_tree.specs.declared.entry.Entry.{Entry}
use Rattle.ext_tree.specs.declared.entry.Entry.TheVariants.{Dir, Opaque, File, Link, Hide}
use Rattle.ext_host.specs.Drawn.{IsFileOf, trees_of}
use Rattle.ext_host.specs.Held.{HeldFile}
use Rattle.ext_host.specs.declared.body.Body.{Body}
use Rattle.ext_host.specs.declared.body.Body.TheVariants.{Here, Kept, Depot}
use Rattle.ext_host.specs.declared.home.Home.{Home}
use Rattle.ext_host.specs.declared.host.Host.{Host}
use Rattle.ext_host.specs.declared.past.Past.{Past}
use Rattle.ext_host.specs.Home.{last_generation}
use Rattle.ext_store_files.specs.Appended.{raised}
use Rattle.ext_store_files.specs.LeftOvers.{is_left_path}
use Rattle.ext_store_files.specs.Names.{IsGeneration, current_text, generation_path}
use Rattle.ext_index.specs.ValidIndex.{most_index_bytes, written_text}
use Rattle.ext_homes.specs.Brought.{brought, bytes_of_all, is_brought}
use Rattle.ext_homes.specs.Giving.{stored_by}
use Rattle.ext_homes.specs.Placed.{IsHostPlaced}
use Rattle.ext_homes.specs.Refused.{HomesCause}
use Rattle.ext_store_files.specs.declared.fault.StoreFault.TheVariants as store_faults
use Rattle.ext_store_files.specs.declared.fault.StoreFault.TheVariants.{OutOfMemory, DiskFault, DepotFault, Damaged}
use Rattle.ext_homes.specs.declared.errors.HomesErr.TheVariants as homes_errors
use Rattle.ext_gen.specs.Opened.{Generation}
use Rattle.ext_gen.specs.Store.{State, none, at, Points}
use Rattle.ext_gen.specs.Sound.{IsDurably, IsReady}
use Rattle.ext_gen.specs.Committing.{IsPrepared}
use Rattle.ext_gen.specs.PreparingIndex.{coming_index}
use Rattle.ext_gen.specs.declared.errors.StoreErr.{StoreErr}
use Rattle.ext_gen.specs.declared.errors.StoreErr.TheVariants.{Fault, Broken, Mismatch, NotInDepot, Unfinished, Limit}

-- the number of the coming generation: 1, or one more than that of the one before
abbrev pub coming_number : Option Generation → ℕ
coming_number None = 1
coming_number (Some g) = g.number + 1

-- the host of the generation before, if there is one
abbrev pub host_before : Option Generation → Option Host
host_before from = option_map (λ g. g.host) from

-- the trees of a host's past
abbrev pub trees_of_pasts : List Past → List (Entries HeldFile)
trees_of_pasts pasts = flat_map (λ past. past.root ∷ past.lower ∷ []) pasts

-- the trees bring no file: each is kept
abbrev pub BringNone : List (Entries HeldFile) → Type 0
BringNone trees = (held : HeldFile) → IsFileOf trees held → is_brought held.body ≡ false

-- each past tree is of a generation before this one
abbrev pub ArePastBefore : ℕ → List Past → Type 0
ArePastBefore n past = AllByRecursion (λ p. (0 < p.generation) × (p.generation < n)) past

-- the store points to the generation before, where it is told
abbrev pub PointsBefore : Option Generation → DiskState → Type 0
PointsBefore from disk = IfSome disk.told (λ d. Points (now d.places) from)

-- The limit that a change would pass, if it passes one: the coming index is longer than an index may be, each file that is
-- brought counted with a home in the coming generation; or there is no number for that.
abbrev pub limit_of : Option Generation → Host → Option Which
limit_of from next =
    if nat_lt most_index_bytes (length (coming_index (coming_number from) next))
    then Some whichs.Index
    else if nat_lt last_generation (coming_number from) then Some whichs.Generations else None

-- the answer is that limit, if there is one, and else another
abbrev pub LimitSays : {T : Type 0} → Option Which → Result T StoreErr → Type 0
LimitSays limit (Ok coming) = limit ≡ None
LimitSays limit (Err (Fault OutOfMemory)) = limit ≡ None
LimitSays limit (Err (Fault DiskFault)) = limit ≡ None
LimitSays limit (Err (Fault DepotFault)) = limit ≡ None
LimitSays limit (Err (Broken line)) = limit ≡ None
LimitSays limit (Err (Fault (Damaged damage))) = limit ≡ None
LimitSays limit (Err (Mismatch path listed found)) = limit ≡ None
LimitSays limit (Err (NotInDepot path)) = limit ≡ None
LimitSays limit (Err Unfinished) = limit ≡ None
LimitSays limit (Err (Limit which)) = limit ≡ Some which

-- the file is kept in this generation
abbrev pub is_kept_in : ℕ → Body → Bool
is_kept_in n (Here bytes) = false
is_kept_in n (Kept home) = home.generation == n
is_kept_in n (Depot path) = false

-- the entry is a file that is kept in this generation
abbrev pub is_file_in : ℕ → Entry HeldFile → Bool
is_file_in n (Dir attributes) = false
is_file_in n (Opaque attributes) = false
is_file_in n (File attributes held) = is_kept_in n held.body
is_file_in n (Link owner target) = false
is_file_in n Hide = false

-- some file of the tree is
abbrev pub has_file_in : ℕ → Entries HeldFile → Bool
has_file_in n es = list_any (λ e. is_file_in n e.1) es

-- the generation is the one before, or files of that are kept in it
abbrev pub is_needed : Option Generation → ℕ → Bool
is_needed None n = false
is_needed (Some g) n = (g.number == n) || list_any (has_file_in n) (trees_of g.host)

-- at or below a left-over: `next`, or a generation that is not needed
abbrev pub is_left : Option Generation → List (List ℕ) → Bool
is_left from p = is_left_path (is_needed from) p

-- as many files as the host brings
abbrev pub most_files : Host → ℕ
most_files next = length (brought (next.root ++ next.lower))

-- the bytes of these, those of the coming index, each of them counted with a home in the coming generation, and the line of `next`
abbrev pub most_bytes_of : ℕ → Host → ℕ
most_bytes_of n next = bytes_of_all (brought (next.root ++ next.lower)) + (length (coming_index n next) + length (current_text n))

-- the bytes at each home of a state
abbrev pub contents_of : State → Home → List ℕ
contents_of none home = []
contents_of (at g contents) home = contents home

-- the bytes at each home: those that were written, by their numbers in the coming generation, and elsewhere those of before
abbrev pub contents_after : ℕ → List (List ℕ) → State → Home → List ℕ
contents_after n written s home = if home.generation == n then unwrap_or (slice_get written home.file) [] else contents_of s home

-- the coming generation is ready beside the state that the store stands for
pub record PreparesTold (from : Option Generation) (coming : Generation) (written : List (List ℕ)) (d e : Told) : Type 0 where
  -- whichever state the disk durably stood for, all is there for the coming one
  pub ready : (s : State) → IsDurably s d.places → IsReady s (at coming (contents_after coming.number written s)) e.places
  pub prepared : IsPrepared coming e.places
  -- exactly what was written, the index, and the line of `next`
  pub appended : e.appended ≡ raised d.appended (sum_by length written + (length (coming_index coming.number coming.host) + length (current_text coming.number)))
  -- of generations there is the coming one, and those that were needed
  pub generations : (m : ℕ) → IsGeneration m → is_some (e.places (generation_path m)).node ≡ true → (m ≡ coming.number) ⊎ (is_needed from m ≡ true)

-- the coming generation has the host that is wanted, with its homes, as the text that is written
pub record Prepares (from : Option Generation) (next : Host) (old new : DiskState) (depot : DepotState) (coming : Generation) : Type 0 where
  pub number : coming.number ≡ coming_number from
  pub text : coming.text ≡ written_text coming.host
  pub written : List (List ℕ)
  pub homes : IsHostPlaced (stored_by (host_before from) old) depot coming.number next coming.host written
  pub told : BothTold (PreparesTold from coming written) old.told new.told

-- beside the limits, of which nothing was done, and left-overs, of which there were too many: a fault that was counted, and the
-- first file that got no home
abbrev pub PrepareCause : Option Generation → Host → DiskState → DiskState → DepotState → DepotState → StoreErr → Type 0
PrepareCause from next old new before after (Fault OutOfMemory) = Unit {0}
PrepareCause from next old new before after (Fault DiskFault) = Rose old.faults new.faults
PrepareCause from next old new before after (Fault DepotFault) = Rose before.faults after.faults
PrepareCause from next old new before after (Broken line) = ⊥
PrepareCause from next old new before after (Fault (Damaged damage)) =
    HomesCause old new before after (stored_by (host_before from) old) (coming_number from) (next.root ++ next.lower) 0 (homes_errors.Fault (store_faults.Damaged damage))
PrepareCause from next old new before after (Mismatch path listed found) =
    HomesCause old new before after (stored_by (host_before from) old) (coming_number from) (next.root ++ next.lower) 0 (homes_errors.Mismatch path listed found)
PrepareCause from next old new before after (NotInDepot path) =
    HomesCause old new before after (stored_by (host_before from) old) (coming_number from) (next.root ++ next.lower) 0 (homes_errors.NotInDepot path)
PrepareCause from next old new before after Unfinished = Unit {0}
PrepareCause from next old new before after (Limit which) = Rests old new
