-- Where the files of a host come from. A command brings files of its own, and otherwise moves and copies those of the host
-- before: so no command makes up where a file is kept. This project's own.
use Rattle.std.specs.Prelude.{◌≡◌, ℕ, List, [], ◌∷◌, Some, Contains}
use Rattle.std.specs.List.{flat_map}
use Rattle.ext_attributes.specs.Attributes.{OfFile}
use Rattle.ext_tree.specs.Tree.{Entries, lookup}
use Rattle.ext_tree.specs.declared.entry.Entry.TheVariants.{File}
use Rattle.ext_host.specs.Held.{HeldFile}
use Rattle.ext_host.specs.declared.body.Body.TheVariants.{Kept}
use Rattle.ext_host.specs.declared.home.Home.{Home}
use Rattle.ext_host.specs.declared.host.Host.{Host}

-- a file of the tree, at some path and with some attributes
pub record HasFile (es : Entries HeldFile) (held : HeldFile) : Type 0 where
  pub path : List (List ℕ)
  pub attributes : OfFile
  pub stands : lookup es path ≡ Some (File attributes held)

-- the trees of a host: what is seen, what lies under it, and both of each past tree
abbrev pub trees_of : Host → List (Entries HeldFile)
trees_of host = host.root ∷ host.lower ∷ flat_map (λ past. past.root ∷ past.lower ∷ []) host.past

-- a file of one of the trees
pub record IsFileOf (trees : List (Entries HeldFile)) (held : HeldFile) : Type 0 where
  pub tree : Entries HeldFile
  pub among : Contains trees tree
  pub file : HasFile tree held

-- each kept file of the new trees is one of the old ones, with its home and its stamp
abbrev pub AreDrawnFrom : List (Entries HeldFile) → List (Entries HeldFile) → Type 0
AreDrawnFrom old new = (held : HeldFile) (home : Home) → held.body ≡ Kept home → IsFileOf new held → IsFileOf old held

-- each kept file of the new host is one of the old host
abbrev pub IsDrawnFrom : Host → Host → Type 0
IsDrawnFrom old new = AreDrawnFrom (trees_of old) (trees_of new)
