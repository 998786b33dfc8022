-- Trees whose files are in the depot, each at its path below another one. This project's own.
use Rattle.std.specs.Prelude.{◌≡◌, ℕ, List, ◌++◌, map, IsTrue, Contains, Result, Ok, Err}
use Rattle.std.specs.List.{AllByRecursion}
use Rattle.ext_text.specs.Path.{IsPath}
use Rattle.ext_tree.specs.Tree.{Entries, is_file}
use Rattle.ext_tree.specs.declared.entry.Entry.{Entry}
use Rattle.ext_tree.specs.declared.entry.Entry.TheVariants.{Dir, Opaque, File, Link, Hide}
use Rattle.ext_tree.specs.declared.stamp.Stamp.{Stamp}
use Rattle.ext_tree.specs.declared.tree.TreeErr.{TreeErr}
use Rattle.ext_tree.specs.declared.tree.TreeErr.TheVariants.{OutOfMemory, Exists, NotDirectory, Limit, Path}
use Rattle.ext_host.specs.Held.{HeldFile}
use Rattle.ext_host.specs.declared.body.Body.TheVariants.{Depot}

-- the entry, a file with its body in the depot at the path
abbrev pub in_depot : List (List ℕ) → Entry Stamp → Entry HeldFile
in_depot path (Dir attributes) = Dir attributes
in_depot path (Opaque attributes) = Opaque attributes
in_depot path (File attributes stamp) = File attributes (record { stamp = stamp; body = Depot path })
in_depot path (Link owner target) = Link owner target
in_depot path Hide = Hide

-- an entry whose file is in the depot below the path
abbrev pub pair_in_depot : List (List ℕ) → List (List ℕ) × Entry Stamp → List (List ℕ) × Entry HeldFile
pair_in_depot res e = (e.0, in_depot (res ++ e.0) e.1)

-- each file with its body at its path below `res`
abbrev pub from_depot : List (List ℕ) → Entries Stamp → Entries HeldFile
from_depot res es = map (pair_in_depot res) es

-- a file's path below `res` is within the limits
abbrev pub FileFits : List (List ℕ) → List (List ℕ) × Entry Stamp → Type 0
FileFits res e = IsTrue (is_file e.1) → IsPath (res ++ e.0)

-- a file's path below `res` passes the limits
abbrev pub FilePasses : List (List ℕ) → List (List ℕ) × Entry Stamp → Type 0
FilePasses res e = IsTrue (is_file e.1) × ¬ IsPath (res ++ e.0)

-- why a path below `res` is not given
abbrev pub JoinErr : List (List ℕ) → TreeErr → Type 0
JoinErr path OutOfMemory = Unit {0}
JoinErr path Exists = ⊥
JoinErr path NotDirectory = ⊥
JoinErr path Limit = ⊥
JoinErr path Path = ¬ IsPath path

-- why an entry is not given
abbrev pub HasFileErr : List (List ℕ) → List (List ℕ) × Entry Stamp → TreeErr → Type 0
HasFileErr res e OutOfMemory = Unit {0}
HasFileErr res e Exists = ⊥
HasFileErr res e NotDirectory = ⊥
HasFileErr res e Limit = ⊥
HasFileErr res e Path = FilePasses res e

-- why a tree is not given: an allocation failed, or some file's path passes the limits
abbrev pub FitsErr : List (List ℕ) → Entries Stamp → TreeErr → Type 0
FitsErr res es OutOfMemory = Unit {0}
FitsErr res es Exists = ⊥
FitsErr res es NotDirectory = ⊥
FitsErr res es Limit = ⊥
FitsErr res es Path = (e : List (List ℕ) × Entry Stamp) × Contains es e × FilePasses res e

-- what `from_depot` gives: the tree, where each file's path fits, or that the path of some file does not
abbrev pub GivesFromDepot : List (List ℕ) → Entries Stamp → Result (Entries HeldFile) TreeErr → Type 0
GivesFromDepot res es (Ok placed) = (placed ≡ from_depot res es) × AllByRecursion (FileFits res) es
GivesFromDepot res es (Err e) = FitsErr res es e
