-- The calls of a disk as data: when they may be made, what they leave when they are done and when they failed, and what a
-- stop within one may leave.
use Rattle.std.specs.Prelude.{◌≡◌, ◌≢◌, ℕ, ◌+◌, ◌-◌, ◌^◌, ◌<◌, ◌≤◌, min, Bool, true, false, ◌&&◌, ◌||◌, List, [], ◌∷◌, ◌++◌, length, Option, Some, None, IfSome, ◌⊎◌, if◌then◌else◌}
use Rattle.std.specs.Option.{is_some}
use Rattle.std.specs.Ordering.{eq_by_cmp}
use Rattle.ext_text.specs.Name.{bytes_cmp}
use Rattle.ext_text.specs.Path.{path_cmp}
use Rattle.ext_disk.specs.Disk.{Node, folder, file, Place, Places, Told, DiskState, BothTold, is_folder, is_file, is_no_folder, is_durable}
use Rattle.ext_disk.specs.Since.{IsLater}

-- a call: one that reads (`list`, `kind`, `read`), or one of the seven that change something
pub data Call : Type 0 where
  look : Call
  make_dir : List (List ℕ) → Call
  make_file : List (List ℕ) → Call
  append : List (List ℕ) → List ℕ → Call
  sync_file : List (List ℕ) → Call
  sync_dir : List (List ℕ) → Call
  rename : List (List ℕ) → List (List ℕ) → Call
  remove : List (List ℕ) → Call

-- nothing stands at the path, and its folder is there
pub record IsFree (d : Places) (path : List (List ℕ)) : Type 0 where
  pub dir : List (List ℕ)
  pub name : List ℕ
  pub path_is : path ≡ dir ++ name ∷ []
  pub dir_there : (d dir).node ≡ Some folder
  pub path_absent : (d path).node ≡ None

-- a file, to be renamed over a file or to an absent path: two names in one folder
pub record CanRename (d : Places) (from to : List (List ℕ)) : Type 0 where
  pub dir : List (List ℕ)
  pub old_name : List ℕ
  pub new_name : List ℕ
  pub from_is : from ≡ dir ++ old_name ∷ []
  pub to_is : to ≡ dir ++ new_name ∷ []
  pub two : from ≢ to
  pub from_file : is_file (d from).node ≡ true
  pub to_free : is_no_folder (d to).node ≡ true

-- a folder in which nothing stands, and not the root
pub record IsEmptyFolder (d : Places) (path : List (List ℕ)) : Type 0 where
  pub no_root : path ≢ []
  pub is : (d path).node ≡ Some folder
  pub empty : (name : List ℕ) → (d (path ++ name ∷ [])).node ≡ None

-- the call may be made of what stands there
abbrev pub Allows : Call → Places → Type 0
Allows look d = Unit {0}
Allows (make_dir p) d = IsFree d p
Allows (make_file p) d = IsFree d p
Allows (append p bytes) d = (is_file (d p).node ≡ true) × (0 < length bytes)
Allows (sync_file p) d = is_file (d p).node ≡ true
Allows (sync_dir p) d = is_folder (d p).node ≡ true
Allows (rename from to) d = CanRename d from to
Allows (remove p) d = (is_file (d p).node ≡ true) ⊎ IsEmptyFolder d p

-- the condition of a call, in force where contents are told
abbrev pub MayCall : Call → DiskState → Type 0
MayCall call disk = IfSome disk.told (λ d. Allows call d.places)

-- the place at one path, every other one as before
abbrev pub put : List (List ℕ) → Place → Places → Places
put path place d = λ q. if eq_by_cmp path_cmp path q then place else d q

-- the name of the second path in the first one, where it stands directly in it
abbrev pub child_name : List (List ℕ) → List (List ℕ) → Option (List ℕ)
child_name [] [] = None
child_name [] (n ∷ []) = Some n
child_name [] (n ∷ m ∷ q) = None
child_name (k ∷ p) [] = None
child_name (k ∷ p) (n ∷ q) = if eq_by_cmp bytes_cmp k n then child_name p q else None

-- the path stands directly in the folder
abbrev pub is_child : List (List ℕ) → List (List ℕ) → Bool
is_child dir q = is_some (child_name dir q)

-- a name that is not synced: nothing else is known of the path but what stands there, and whether its bytes are synced
abbrev pub with_unsynced_name : Option Node → Bool → Place
with_unsynced_name node unsynced_bytes = record { node = node; unsynced_name = true; unsynced_bytes = unsynced_bytes; unsynced_rename = None }

-- the bytes of a file; none of anything else
abbrev pub bytes_of : Option Node → List ℕ
bytes_of None = []
bytes_of (Some folder) = []
bytes_of (Some (file bytes)) = bytes

-- a file whose bytes are not synced. A path that had an unsynced rename has an unsynced name from then on, and no longer an unsynced rename
abbrev pub written : List ℕ → Place → Place
written bytes place = record { node = Some (file bytes); unsynced_name = place.unsynced_name || is_some place.unsynced_rename; unsynced_bytes = true; unsynced_rename = None }

-- the name is synced
abbrev pub synced : Place → Place
synced place = record place { unsynced_name = false; unsynced_rename = None }

-- each name directly in the folder is synced
abbrev pub synced_in : List (List ℕ) → Places → Places
synced_in dir d = λ q. if is_child dir q then synced (d q) else d q

-- no path directly in the folder has an unsynced rename
abbrev pub without_renames_in : List (List ℕ) → Places → Places
without_renames_in dir d = λ q. if is_child dir q then record (d q) { unsynced_rename = None } else d q

-- where a file was renamed from: it has left, or it failed to
abbrev pub left_place : Bool → Place → Place
left_place moved place = if moved then with_unsynced_name None false else with_unsynced_name place.node place.unsynced_bytes

-- where a file was renamed to: with an unsynced rename where both paths were durable, else with an unsynced name and unsynced bytes
abbrev pub reached_place : Bool → Bool → Place → Place → Place
reached_place moved durable from to =
    if durable
    then record to { node = if moved then from.node else to.node; unsynced_rename = Some (record { before = to.node; after = from.node }) }
    else with_unsynced_name (if moved then from.node else to.node) true

-- a file was renamed, or failed to be; the marks are the same
abbrev pub renamed : List (List ℕ) → List (List ℕ) → Bool → Places → Places
renamed from to moved d =
    put from (left_place moved (d from)) (put to (reached_place moved (is_durable d from && is_durable d to) (d from) (d to)) d)

-- nothing stands at the path, nor may a rename have left anything directly in it
abbrev pub removed : List (List ℕ) → Bool → Places → Places
removed path unsynced_bytes d = put path (with_unsynced_name None unsynced_bytes) (without_renames_in path d)

-- the disk after a call that was done
abbrev pub after : Call → Places → Places
after look d = d
after (make_dir p) d = put p (with_unsynced_name (Some folder) false) d
after (make_file p) d = put p (with_unsynced_name (Some (file [])) true) d
after (append p bytes) d = put p (written (bytes_of (d p).node ++ bytes) (d p)) d
after (sync_file p) d = put p (record (d p) { unsynced_bytes = false }) d
after (sync_dir p) d = synced_in p d
after (rename from to) d = renamed from to true d
after (remove p) d = removed p false d

-- what a call that failed may have changed: a path to be made or removed is there or not and has an unsynced name, a file to be written
-- has any bytes, which are unsynced, a file to be renamed was moved or not and both names are marked
abbrev pub LeavesHalf : Call → Places → Places → Type 0
LeavesHalf look d e = ⊥
LeavesHalf (make_dir p) d e = (made : Bool) × (unsynced_bytes : Bool) × (e ≡ put p (with_unsynced_name (if made then Some folder else (d p).node) unsynced_bytes) d)
LeavesHalf (make_file p) d e = (made : Bool) × (unsynced_bytes : Bool) × (e ≡ put p (with_unsynced_name (if made then Some (file []) else (d p).node) unsynced_bytes) d)
LeavesHalf (append p bytes) d e = (any : List ℕ) × (e ≡ put p (written any (d p)) d)
LeavesHalf (sync_file p) d e = ⊥
LeavesHalf (sync_dir p) d e = ⊥
LeavesHalf (rename from to) d e = (moved : Bool) × (e ≡ renamed from to moved d)
LeavesHalf (remove p) d e = (gone : Bool) × (unsynced_bytes : Bool) × (e ≡ (if gone then removed p unsynced_bytes d else put p (with_unsynced_name (d p).node unsynced_bytes) d))

-- what a call that failed may leave; it may also have changed nothing and marked nothing
abbrev pub Fails : Call → Places → Places → Type 0
Fails call d e = (e ≡ d) ⊎ LeavesHalf call d e

-- the disk at a moment within a call: before it, after it was done, or after it failed
abbrev pub IsWithin : Call → Places → Places → Type 0
IsWithin call d e = (e ≡ after call d) ⊎ Fails call d e

-- the sum of the bytes of all appends that were done
abbrev pub appended_after : Call → ℕ → ℕ
appended_after look sum = sum
appended_after (make_dir p) sum = sum
appended_after (make_file p) sum = sum
appended_after (append p bytes) sum = min (sum + length bytes) (2 ^ 64 - 1)
appended_after (sync_file p) sum = sum
appended_after (sync_dir p) sum = sum
appended_after (rename from to) sum = sum
appended_after (remove p) sum = sum

-- a call that failed: those that read, and the syncs, leave everything as it was, moments included
abbrev pub FailsTold : Call → Told → Told → Type 0
FailsTold look d e = e ≡ d
FailsTold (sync_file p) d e = e ≡ d
FailsTold (sync_dir p) d e = e ≡ d
FailsTold call d e = Fails call d.places e.places × (e.appended ≡ d.appended)

-- a call that was done: one that reads leaves everything as it was
abbrev pub DoneTold : Call → Told → Told → Type 0
DoneTold look d e = e ≡ d
DoneTold call d e = (e.places ≡ after call d.places) × (e.appended ≡ appended_after call d.appended)

-- how a call ends on a disk that tells, done or failed
abbrev pub EndsTold : Call → Bool → Told → Told → Type 0
EndsTold call true d e = DoneTold call d e
EndsTold call false d e = FailsTold call d e

-- a call of a disk that tells, done or failed: how it ends, and the disk at each moment within it
pub record DoesTold (call : Call) (done : Bool) (d e : Told) : Type 0 where
  pub later : IsLater d e
  pub within : (n : ℕ) → d.clock < n → n ≤ e.clock → IsWithin call d.places (e.past n)
  pub ends : EndsTold call done d e

-- a call of a disk, told or not, done or failed: no fault is forgotten
pub record Does (call : Call) (old new : DiskState) (done : Bool) : Type 0 where
  pub told : BothTold (DoesTold call done) old.told new.told
  pub count : old.faults ≤ new.faults
