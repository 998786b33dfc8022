-- What is given where an image is attached, and what is known on the way.
use Rattle.std.specs.Prelude.{◌≡◌, ◌≢◌, ◌⊎◌, ℕ, Bool, true, List, [], Some}
use Rattle.std.specs.List.{AllByRecursion, list_any}
use Rattle.std.specs.List.Sorted.{IsStrictlySortedBy}
use Rattle.ext_lines.specs.ByteOrder.{bytes_cmp}
use Rattle.ext_text.specs.Digest.{IsDigest}
use Rattle.ext_tree.specs.EntryLine.{IsWritable}
use Rattle.ext_tree.specs.Tree.{Entries, lookup}
use Rattle.ext_tree.specs.declared.entry.Entry.{Entry}
use Rattle.ext_host.specs.Drawn.{HasFile}
use Rattle.ext_host.specs.Held.{HeldFile}
use Rattle.ext_host.specs.Planning.{IsBaseTree}
use Rattle.ext_host.specs.Valid.{IsValidHost, held_form}
use Rattle.ext_host.specs.declared.host.Host.{Host}
use Rattle.ext_units.specs.Body.{IsTreeOf}
use Rattle.ext_units.specs.Image.{IsImageAt}
use Rattle.ext_find.specs.Content.{is_file_at}
use Rattle.ext_units.specs.Units.{AreUnits, has_unit_suffix, names_of}
use Rattle.ext_units.specs.declared.body.Body.{Body}
use Rattle.ext_units.specs.declared.image.Image.{Image}
use Rattle.ext_units.specs.declared.image.Image.TheVariants.{Named, At}
use Rattle.ext_units.specs.declared.unit_file.UnitFile.{UnitFile}
use Rattle.ext_added.specs.DropIn.{IsOwn}
use Rattle.ext_added.specs.Entries.{IsWellMade}
use Rattle.ext_added.specs.declared.attaching.Attaching.{Attaching}
use Rattle.ext_port.specs.declared.starting.Start.{Start}

-- the path of an image is not the root
abbrev pub IsAsked : Image → Type 0
IsAsked (Named name) = Unit {0}
IsAsked (At path) = path ≢ []

-- the image is there, in the base, with this tree
pub record IsBodyIn (host : Host) (base : Entries HeldFile) (image : Image) (body : Body) : Type 0 where
  pub is_image : IsImageAt base host.arch image body.place
  pub is_tree : IsTreeOf base body.place body.tree

-- the body is that of the image in the host
pub record IsBodyFor (host : Host) (image : Image) (body : Body) : Type 0 where
  pub base : Entries HeldFile
  pub is_base : IsBaseTree host base
  pub body_in : IsBodyIn host base image body

-- a file that is seen of the host, or lies under what is seen
abbrev pub IsHostFile : Host → HeldFile → Type 0
IsHostFile host held = HasFile host.root held ⊎ HasFile host.lower held

-- each file of the tree is one
abbrev pub AreFilesOf : Host → Entries HeldFile → Type 0
AreFilesOf host tree = (held : HeldFile) → HasFile tree held → IsHostFile host held

-- the units are those of the tree that have one of some prefixes
abbrev pub AreUnitsIn : Entries HeldFile → List UnitFile → Type 0
AreUnitsIn tree units = (prefixes : List (List ℕ)) × AreUnits tree prefixes units

-- the same paths, whatever is tested of them
abbrev pub HasPaths : List (List (List ℕ)) → List (List (List ℕ)) → Type 0
HasPaths paths sorted = (test : List (List ℕ) → Bool) → list_any test sorted ≡ list_any test paths

-- what is made, of files of a host alone
pub record IsSoundMade (host : Host) (made : Attaching) (image tree : Entries HeldFile) : Type 0 where
  pub well : IsWellMade made
  pub place : made.place ≢ []
  -- names of units in order, and files in the tree
  pub sorted : IsStrictlySortedBy bytes_cmp (names_of made.units)
  pub unit_names : AllByRecursion (λ (unit : UnitFile). has_unit_suffix unit.name ≡ true) made.units
  pub unit_files : AllByRecursion (λ (unit : UnitFile). is_file_at (lookup tree unit.file) ≡ true) made.units
  pub profile : IsHostFile host made.profile.file
  pub text : List ℕ
  pub own : IsOwn text made.own
  pub digest : IsDigest made.own.stamp.digest.0
  pub image_range : (path : List (List ℕ)) (e : Entry HeldFile) → lookup image path ≡ Some e → IsWritable held_form e
  pub image_files : AreFilesOf host image
  pub tree_files : AreFilesOf host tree

-- the host of a start is valid, and its base is that of the host
pub record IsStart (start : Start) : Type 0 where
  pub valid : IsValidHost start.host.now
  pub base : IsBaseTree start.host.now start.base
