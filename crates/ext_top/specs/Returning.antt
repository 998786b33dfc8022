-- What a rollback gives back, this project's own.
use Rattle.std.specs.Prelude.{◌≡◌, ℕ, List}
use Rattle.ext_tree.specs.Tree.{lookup}
use Rattle.ext_host.specs.Drawn.{IsFileOf, trees_of}
use Rattle.ext_host.specs.Held.{HeldFile}
use Rattle.ext_host.specs.declared.host.Host.{Host}
use Rattle.ext_gen.specs.Store.{State, at, none}
use Rattle.ext_top.specs.Machine.{bytes_at}

-- a later host has again all that an earlier one had: at each path what was seen there and what lay under that, the merged names, the
-- attachments and the manifests
pub record HasAgain (earlier later : Host) : Type 0 where
  pub root : (path : List (List ℕ)) → lookup later.root path ≡ lookup earlier.root path
  pub lower : (path : List (List ℕ)) → lookup later.lower path ≡ lookup earlier.lower path
  pub sysext : later.sysext ≡ earlier.sysext
  pub confext : later.confext ≡ earlier.confext
  pub attached : later.attached ≡ earlier.attached
  pub kept : later.kept ≡ earlier.kept

-- so does the host of a later state, and each file of the earlier host has the bytes that it had
abbrev pub IsBackAt : State → State → Type 0
IsBackAt none later = ⊥
IsBackAt (at g contents) none = ⊥
IsBackAt (at g contents) (at h bytes) =
    HasAgain g.host h.host × ((held : HeldFile) → IsFileOf (trees_of g.host) held → bytes_at (at h bytes) held.body ≡ bytes_at (at g contents) held.body)
