-- The files that a host keeps, of stamps that are looked for, as a list in an order for searches: by their stamps, and of one
-- stamp by their homes.
use Rattle.std.specs.Prelude.{◌≡◌, ◌≢◌, ◌↔◌, Bool, true, List, [], ◌∷◌, if◌then◌else◌}
use Rattle.std.specs.Cmp.Lexicographic.{slice_cmp}
use Rattle.std.specs.List.{AllByRecursion, Contains, flat_map}
use Rattle.std.specs.Ordering.{nat_cmp, ordering_then, is_eq, is_lt}
use Rattle.std.specs.declared.cmp.Ordering.{Ordering}
use Rattle.std.specs.declared.cmp.Ordering.TheVariants.{Less}
use Rattle.ext_tree.specs.Tree.{Entries}
use Rattle.ext_tree.specs.declared.entry.Entry.{Entry}
use Rattle.ext_tree.specs.declared.entry.Entry.TheVariants.{Dir, Opaque, File, Link, Hide}
use Rattle.ext_tree.specs.declared.stamp.Stamp.{Stamp}
use Rattle.ext_host.specs.Held.{HeldFile}
use Rattle.ext_host.specs.declared.body.Body.{Body}
use Rattle.ext_host.specs.declared.body.Body.TheVariants.{Here, Kept, Depot}
use Rattle.ext_host.specs.declared.home.Home.{Home}
use Rattle.ext_host.specs.declared.past.Past.{Past}
use Rattle.ext_homes.specs.Giving.{lists_kept}
use Rattle.ext_homes.specs.Placed.{home_cmp}
use Rattle.ext_homes.specs.declared.kept_files.HomeKey.{HomeKey}
use Rattle.ext_homes.specs.declared.kept_files.KeptFile.{KeptFile}
use Rattle.ext_homes.specs.declared.kept_files.StampKey.{StampKey}

-- a stamp as it is ordered
abbrev pub stamp_key : Stamp → StampKey
stamp_key stamp = record { size = stamp.size; digest = stamp.digest.0 }

-- a stamp and a home at which it is listed
abbrev pub kept_file : Stamp → Home → KeptFile
kept_file stamp home = record { stamp = stamp_key stamp; home = record { generation = home.generation; file = home.file } }

-- the stamp of a kept file
abbrev pub file_stamp : KeptFile → Stamp
file_stamp f = record { size = f.stamp.size; digest = record { 0 = f.stamp.digest } }

-- the home of a kept file
abbrev pub home_of : KeptFile → Home
home_of f = record { generation = f.home.generation; file = f.home.file }

-- the order of stamps
abbrev pub stamp_key_cmp : StampKey → StampKey → Ordering
stamp_key_cmp a b = ordering_then (nat_cmp a.size b.size) (slice_cmp nat_cmp a.digest b.digest)

-- the order of homes
abbrev pub home_key_cmp : HomeKey → HomeKey → Ordering
home_key_cmp a b = ordering_then (nat_cmp a.generation b.generation) (nat_cmp a.file b.file)

-- the order of kept files: by stamp, then by home
abbrev pub kept_cmp : KeptFile → KeptFile → Ordering
kept_cmp a b = ordering_then (stamp_key_cmp a.stamp b.stamp) (home_key_cmp a.home b.home)

-- the file's stamp comes before this one
abbrev pub is_before : StampKey → KeptFile → Bool
is_before key f = is_lt (stamp_key_cmp f.stamp key)

-- the file has this stamp
abbrev pub has_stamp : StampKey → KeptFile → Bool
has_stamp key f = is_eq (stamp_key_cmp f.stamp key)

-- no home comes before one that stands before it
abbrev pub AreInOrder : List KeptFile → Type 0
AreInOrder [] = Unit {0}
AreInOrder (f ∷ files) = AllByRecursion (λ g. home_cmp (home_of g) (home_of f) ≢ Less) files × AreInOrder files

-- among these files one of the stamp is kept at the home
abbrev pub lists_in : List KeptFile → Stamp → Home → Type 0
lists_in files stamp home = Contains files (kept_file stamp home)

-- these are files that the trees keep, and all of them whose stamps are sought
pub record AreKept (trees : List (Entries HeldFile)) (sought : Stamp → Bool) (files : List KeptFile) : Type 0 where
  pub each : (stamp : Stamp) (home : Home) → lists_in files stamp home → lists_kept trees stamp home
  pub all : (stamp : Stamp) (home : Home) → sought stamp ≡ true → lists_kept trees stamp home → lists_in files stamp home

-- the same files are in both, in whatever order and however often
abbrev pub HaveSame : List KeptFile → List KeptFile → Type 0
HaveSame files others = (file : KeptFile) → Contains files file ↔ Contains others file

-- a file that is kept, where its stamp is sought
abbrev pub body_kept : (Stamp → Bool) → Stamp → Body → List KeptFile
body_kept sought stamp (Here bytes) = []
body_kept sought stamp (Kept home) = if sought stamp then kept_file stamp home ∷ [] else []
body_kept sought stamp (Depot path) = []

-- that of an entry's file
abbrev pub entry_kept : (Stamp → Bool) → Entry HeldFile → List KeptFile
entry_kept sought (Dir attributes) = []
entry_kept sought (Opaque attributes) = []
entry_kept sought (File attributes held) = body_kept sought held.stamp held.body
entry_kept sought (Link owner target) = []
entry_kept sought Hide = []

-- those of all entries of a tree
abbrev pub tree_kept : (Stamp → Bool) → Entries HeldFile → List KeptFile
tree_kept sought es = flat_map (λ e. entry_kept sought e.1) es

-- root and lower of each past tree
abbrev pub past_trees : List Past → List (Entries HeldFile)
past_trees past = flat_map (λ tree. tree.root ∷ tree.lower ∷ []) past

-- those of all trees, one after another
abbrev pub trees_kept : (Stamp → Bool) → List (Entries HeldFile) → List KeptFile
trees_kept sought trees = flat_map (tree_kept sought) trees
