-- The model of a disk: what stands at each path, which of it a stop may undo, and what a stop may leave. It is this
-- project's own: a name is synced by a sync of its folder, bytes by a sync of their file, and a rename in one folder leaves the
-- old or the new file. ext4, xfs and btrfs promise as much, on a device that keeps what it acknowledged.
use Rattle.std.specs.Prelude.{◌≡◌, ℕ, Bool, true, false, not, ◌&&◌, ◌||◌, List, [], ◌∷◌, ◌++◌, Option, Some, None, ◌⊎◌}
use Rattle.std.specs.Option.{is_some}

-- what stands at a path: a folder, or a file with its bytes
pub data Node : Type 0 where
  folder : Node
  file : List ℕ → Node

-- what stands at each path; the root is the empty path
abbrev pub Tree : Type 0
Tree = List (List ℕ) → Option Node

-- a folder stands there
abbrev pub is_folder : Option Node → Bool
is_folder None = false
is_folder (Some folder) = true
is_folder (Some (file bytes)) = false

-- a file stands there
abbrev pub is_file : Option Node → Bool
is_file None = false
is_file (Some folder) = false
is_file (Some (file bytes)) = true

-- a file, or nothing
abbrev pub is_no_folder : Option Node → Bool
is_no_folder node = not (is_folder node)

-- the two outcomes of a rename: what stood there, a file or nothing, and the file that was renamed to the path
pub record Swing : Type 0 where
  pub before : Option Node
  pub after : Option Node

-- one path: what stands there now, whether its name is not synced since the last sync of its folder (an unsynced name), whether the
-- bytes of its file are not synced (unsynced bytes), and the two outcomes where it has two (an unsynced rename)
pub record Place : Type 0 where
  pub node : Option Node
  pub unsynced_name : Bool
  pub unsynced_bytes : Bool
  pub unsynced_rename : Option Swing

-- each path of a disk
abbrev pub Places : Type 0
Places = List (List ℕ) → Place

-- the tree that stands now
abbrev pub now : Places → Tree
now d = λ p. (d p).node

-- nothing stands there, and nothing is to be synced
abbrev pub absent : Place
absent = record { node = None; unsynced_name = false; unsynced_bytes = false; unsynced_rename = None }

-- the place of the root: a folder, and nothing to sync
abbrev pub root_place : Place
root_place = record { node = Some folder; unsynced_name = false; unsynced_bytes = false; unsynced_rename = None }

-- with neither an unsynced name nor an unsynced rename
abbrev pub is_synced : Place → Bool
is_synced place = not place.unsynced_name && not (is_some place.unsynced_rename)

-- the test holds of the path and of each prefix of it
abbrev pub at_prefixes : (List (List ℕ) → Bool) → List (List ℕ) → Bool
at_prefixes test [] = test []
at_prefixes test (n ∷ p) = test [] && at_prefixes (λ q. test (n ∷ q)) p

-- the test holds of each proper prefix of the path
abbrev pub at_proper_prefixes : (List (List ℕ) → Bool) → List (List ℕ) → Bool
at_proper_prefixes test [] = true
at_proper_prefixes test (n ∷ p) = test [] && at_proper_prefixes (λ q. test (n ∷ q)) p

-- no prefix of the path, itself counted, has an unsynced name or rename, and the path has no unsynced bytes
abbrev pub is_durable : Places → List (List ℕ) → Bool
is_durable d p = at_prefixes (λ q. is_synced (d q)) p && not (d p).unsynced_bytes

-- a stop may leave this tree: it is as it stands at each durable path, and has one of the two outcomes at each path with an unsynced rename
-- whose proper prefixes are synced. What lies at or below a path with an unsynced name, and the bytes of a file with unsynced bytes, may be anything
pub record MayLeave (d : Places) (t : Tree) : Type 0 where
  pub durable : (p : List (List ℕ)) → is_durable d p ≡ true → t p ≡ (d p).node
  pub unsynced_rename : (p : List (List ℕ)) (w : Swing) → (d p).unsynced_rename ≡ Some w → at_proper_prefixes (λ q. is_synced (d q)) p ≡ true
      → (t p ≡ w.before) ⊎ (t p ≡ w.after)

-- of a path with an unsynced rename no outcome is a folder, the new one is a file, and one of them stands there
pub record IsSwing (w : Swing) (node : Option Node) : Type 0 where
  pub before : is_no_folder w.before ≡ true
  pub after : is_file w.after ≡ true
  pub stands : (node ≡ w.before) ⊎ (node ≡ w.after)

-- something stands there, or may be left there by a rename
abbrev pub is_taken : Place → Bool
is_taken place = is_some place.node || is_some place.unsynced_rename

-- the root is a folder with nothing to sync, and each other path at which something stands, or has an unsynced rename, has its folder
pub record IsTree (d : Places) : Type 0 where
  pub root : d [] ≡ root_place
  pub parents : (p : List (List ℕ)) (n : List ℕ) → is_taken (d (p ++ n ∷ [])) ≡ true → (d p).node ≡ Some folder
  pub swings : (p : List (List ℕ)) (w : Swing) → (d p).unsynced_rename ≡ Some w → IsSwing w (d p).node

-- what a disk tells, all together or not at all
pub record Told : Type 0 where
  -- each path, as it stands now
  pub places : Places
  -- the number of this moment, which never falls
  pub clock : ℕ
  -- each path, as it stood at the moment of this number, up to the clock; a stop at that moment leaves what it may leave
  -- of that
  pub past : ℕ → Places
  -- the sum of the bytes of the appends that were done, up to the last value of a 64 bit number
  pub appended : ℕ

-- what contracts see of a disk
pub record DiskState : Type 0 where
  pub told : Option Told
  -- how often a call failed, which every disk counts
  pub faults : ℕ

-- what each disk that tells keeps: it holds a tree, and the present is the moment of its clock
pub record IsDisk (d : Told) : Type 0 where
  pub tree : IsTree d.places
  pub present : d.past d.clock ≡ d.places

-- both tell, and this holds of what they tell; or neither does. A disk never begins to tell, and never ceases to
abbrev pub BothTold : (Told → Told → Type 0) → Option Told → Option Told → Type 0
BothTold R None None = Unit {0}
BothTold R None (Some e) = ⊥
BothTold R (Some d) None = ⊥
BothTold R (Some d) (Some e) = R d e
