-- What a store stands for, this project's own: nothing, or a generation of a host with the bytes of its files.
use Rattle.std.specs.Prelude.{◌≡◌, ℕ, List, Option, Some, None}
use Rattle.ext_disk.specs.Disk.{Tree, file}
use Rattle.ext_host.specs.Drawn.{IsFileOf, trees_of}
use Rattle.ext_host.specs.Held.{HeldFile, IsStampOf}
use Rattle.ext_host.specs.declared.body.Body.TheVariants.{Kept}
use Rattle.ext_host.specs.declared.home.Home.{Home}
use Rattle.ext_host.specs.declared.host.Host.{Host}
use Rattle.ext_store_files.specs.Names.{IsGeneration, current_path, current_text, home_path, index_path}
use Rattle.ext_index.specs.ValidIndex.{GivesIndex}
use Rattle.ext_gen.specs.Opened.{Generation}

-- a state: no generation, or one with the bytes of the file at each home
pub data State : Type 0 where
  none : State
  at : Generation → (Home → List ℕ) → State

-- its generation, where there is one
abbrev pub generation_in : State → Option Generation
generation_in none = None
generation_in (at g contents) = Some g

-- `current` names the generation, whose index is that of the host
pub record IsCurrent (t : Tree) (g : Generation) : Type 0 where
  pub number : IsGeneration g.number
  pub current : t current_path ≡ Some (file (current_text g.number))
  pub bytes : List ℕ
  pub index : t (index_path g.number) ≡ Some (file bytes)
  pub reads : GivesIndex g.number bytes (g.host, g.text)

-- the tree is a store that points to the generation, or to none
abbrev pub Points : Tree → Option Generation → Type 0
Points t None = t current_path ≡ None
Points t (Some g) = IsCurrent t g

-- the file is kept at the home, by its listed stamp
pub record IsKeptFile (host : Host) (held : HeldFile) (home : Home) : Type 0 where
  pub file : IsFileOf (trees_of host) held
  pub body : held.body ≡ Kept home

-- at each home of the host's files, those of past trees among them, stand these bytes, and they have the listed stamp
pub record HasFiles (t : Tree) (host : Host) (contents : Home → List ℕ) : Type 0 where
  pub stands : (held : HeldFile) (home : Home) → IsKeptFile host held home → t (home_path home.generation home.file) ≡ Some (file (contents home))
  pub stamped : (held : HeldFile) (home : Home) → IsKeptFile host held home → IsStampOf (contents home) held.stamp

-- the tree is a store that stands for the state
abbrev pub Stands : Tree → State → Type 0
Stands t none = t current_path ≡ None
Stands t (at g contents) = IsCurrent t g × HasFiles t g.host contents
