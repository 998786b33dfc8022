-- What lists of lines leave as it was, this project's own. Every search reads the base of a host. `import-fs` and `remove` write
-- or cut it at and below their path, and with that the manifests of related paths go. An update, where it changes the host, writes
-- the resources and the links of its version and cuts what has to go; making room cuts. Attaching an image writes what it adds, and
-- detaching one, or attaching it anew, cuts what was added. A rollback puts all that the mark had in place of all that there is. No
-- other command changes the base: merging, unmerging and refreshing change what is seen over it, `mark` and `forget` change the marks,
-- and `init` makes a host without entries.
use Rattle.std.specs.Prelude.{◌≡◌, ℕ, false, IsTrue, List, [], ◌∷◌, Contains, Option, Some, None}
use Rattle.ext_attributes.specs.Attributes.{OfFile}
use Rattle.ext_text.specs.Path.{are_related}
use Rattle.ext_text.specs.SortedPaths.{is_among}
use Rattle.ext_depot.specs.Depot.{Files}
use Rattle.ext_tree.specs.declared.entry.Entry.{Entry}
use Rattle.ext_tree.specs.declared.entry.Entry.TheVariants.{File}
use Rattle.ext_host.specs.Held.{HeldFile}
use Rattle.ext_host.specs.Host.{base_at, hierarchies_in, present}
use Rattle.ext_host.specs.Valid.{HasItems}
use Rattle.ext_host.specs.declared.manifest.Manifest.{Manifest}
use Rattle.ext_updated.specs.Pieces.{seen_at}
use Rattle.ext_updated.specs.declared.piece.Piece.{Piece}
use Rattle.ext_update.specs.Stages.{items_of, touched_by}
use Rattle.ext_gen.specs.Store.{State, none, at}
use Rattle.ext_cmd.specs.Words.{IsWellFormed}
use Rattle.ext_cmd.specs.declared.command.Command.{Command}
use Rattle.ext_cmd.specs.declared.command.Command.TheVariants.{ImportFs, Portable, Remove, Rollback, Sysupdate}
use Rattle.ext_cmd.specs.declared.command.UpdateVerb.{UpdateVerb}
use Rattle.ext_cmd.specs.declared.command.UpdateVerb.TheVariants as verbs
use Rattle.ext_top.specs.Exits.{Line, LineComes, does, unread, wrong}
use Rattle.ext_top.specs.Machine.{Outcome, bytes_at, state_after}
use Rattle.ext_top.specs.Services.{TouchesByService}
use Rattle.ext_top.specs.Updating.{MakesRoomIn, UpdatesHost, writes_in}

-- the state after all of these lines
abbrev pub After : State → Option Files → List Line → State → Type 0
After s files [] x = x ≡ s
After s files (line ∷ lines) x = (outcome : Outcome) × LineComes s files line outcome × After (state_after s outcome) files lines x

-- the verb writes or cuts at this path of the base of the state's host
abbrev pub TouchesByVerb : State → Option Files → Option (List ℕ) → UpdateVerb → List (List ℕ) → Type 0
TouchesByVerb s files component verbs.List path = ⊥
TouchesByVerb s files component verbs.CheckNew path = ⊥
TouchesByVerb s files component (verbs.Update wanted) path =
    (update : UpdatesHost s files component wanted) × IsTrue (is_among (touched_by (items_of (writes_in update))) path)
TouchesByVerb s files component verbs.Vacuum path = (room : MakesRoomIn s files component) × IsTrue (is_among room.removed path)
TouchesByVerb s files component verbs.Features path = ⊥

-- the command does; a rollback counts as writing everywhere
abbrev pub CommandTouches : State → Option Files → Command → List (List ℕ) → Type 0
CommandTouches s files (ImportFs resource target) path = path ≡ target
CommandTouches s files (Remove target) path = path ≡ target
CommandTouches s files (Sysupdate component verb) path = TouchesByVerb s files component verb path
CommandTouches s files (Rollback mark) path = Unit {0}
CommandTouches s files (Portable command) path = TouchesByService s command path
CommandTouches s files _ path = ⊥

-- the line does: words that are no command touch nothing
abbrev pub LineTouches : State → Option Files → Line → List (List ℕ) → Type 0
LineTouches s files (does command) path = CommandTouches s files command path
LineTouches s files (wrong place) path = ⊥
LineTouches s files unread path = ⊥

-- whatever the line touches is neither at, above nor below the path
abbrev pub IsLineApart : State → Option Files → Line → List (List ℕ) → Type 0
IsLineApart s files line path = (other : List (List ℕ)) → LineTouches s files line other → are_related other path ≡ false

-- so does each of the lines, one after the other from the state
abbrev pub IsUntouched : List (List ℕ) → State → Option Files → List Line → Type 0
IsUntouched path s files [] = Unit {0}
IsUntouched path s files (line ∷ lines) =
    IsLineApart s files line path × ((outcome : Outcome) → LineComes s files line outcome → IsUntouched path (state_after s outcome) files lines)

-- the line's command has arguments that the grammar allows, as each command has that words give
abbrev pub IsWellFormedLine : Line → Type 0
IsWellFormedLine (does command) = IsWellFormed command
IsWellFormedLine (wrong place) = Unit {0}
IsWellFormedLine unread = Unit {0}

-- what the base of the state's host has at a path; where there is no host, nothing
abbrev pub base_in : State → List (List ℕ) → Option (Entry HeldFile)
base_in none path = None
base_in (at g contents) path = base_at (hierarchies_in g.host) (present g.host) path

-- at a path the base of both states has the same, and a file there has the same bytes in both
pub record IsSameAt (s x : State) (path : List (List ℕ)) : Type 0 where
  pub entry : base_in x path ≡ base_in s path
  pub bytes : (attributes : OfFile) (held : HeldFile) → base_in s path ≡ Some (File attributes held) → bytes_at x held.body ≡ bytes_at s held.body

-- the installed manifests of the state's host; where there is no host, none
abbrev pub installed_in : State → List Manifest
installed_in none = []
installed_in (at g contents) = g.host.kept

-- the manifest is installed, and the files at and below its path in the base are its items
pub record HasInstalled (s : State) (manifest : Manifest) : Type 0 where
  pub installed : Contains (installed_in s) manifest
  pub items : HasItems (base_in s) manifest

-- the resource is installed as it was put: its manifest lists the files that were put, with their digests, and the base has them
pub record IsInstalledAs (s : State) (piece : Piece HeldFile) : Type 0 where
  pub manifest : Manifest
  pub path_is : manifest.path ≡ piece.path
  pub as_put : HasItems (seen_at piece) manifest
  pub installed : HasInstalled s manifest
