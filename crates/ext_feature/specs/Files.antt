-- What the configuration files of a component say. What bytes a file has is what a shelf gives: bytes of its stamp, and those
-- that the shelf tells, where it tells them.
use Rattle.std.specs.Prelude.{◌≡◌, ℕ, List, map, Option}
use Rattle.std.specs.List.{Contains}
use Rattle.std.specs.List.Sorted.{IsStrictlySortedBy}
use Rattle.std.specs.declared.cmp.Ordering.TheVariants.{Less}
use Rattle.ext_lines.specs.ByteOrder.{bytes_cmp}
use Rattle.ext_tree.specs.Tree.{Entries}
use Rattle.ext_host.specs.Held.{HeldFile}
use Rattle.ext_host.specs.Planning.{content_size}
use Rattle.ext_host.specs.Shelf.{Told}
use Rattle.ext_find.specs.HostRelease.{IsGiven}
use Rattle.ext_configs.specs.Configs.{IsConfig}
use Rattle.ext_configs.specs.declared.kind.ConfigKind.{ConfigKind}

-- bytes that a shelf gives of the file have P
pub record IsGivenWith (told : HeldFile → Told) (held : HeldFile) (P : List ℕ → Type 0) : Type 0 where
  pub bytes : List ℕ
  pub given : IsGiven (told held) held bytes
  pub has : P bytes

module _ (told : HeldFile → Told) (es : Entries HeldFile) (component : Option (List ℕ)) (kind : ConfigKind) where
  -- the file of this name counts, and its bytes have P
  pub record FileHas (file : List ℕ) (P : List ℕ → Type 0) : Type 0 where
    pub held : HeldFile
    pub counts : IsConfig content_size es component kind file held
    pub given : IsGivenWith told held P

  -- each of these is what its file says, and each file that counts says one; they stand in byte order of their names
  pub record AreFromFiles {X : Type 0} (name file : X → List ℕ) (Says : X → List ℕ → Type 0) (xs : List X) : Type 0 where
    pub sorted : IsStrictlySortedBy bytes_cmp (map name xs)
    pub each : (x : X) → Contains xs x → FileHas (file x) (Says x)
    pub whole : (other : List ℕ) (held : HeldFile) → IsConfig content_size es component kind other held
        → (x : X) × Contains xs x × (file x ≡ other)

  -- the bytes of this file have P, and those of each one before it, in byte order of the names of the files, are sound
  pub record IsFirstBadFile (Sound : List ℕ → List ℕ → Type 0) (P : List ℕ → Type 0) (file : List ℕ) : Type 0 where
    pub bad : FileHas file P
    pub before : (other : List ℕ) (held : HeldFile) → IsConfig content_size es component kind other held
        → bytes_cmp other file ≡ Less → IsGivenWith told held (Sound other)

-- no file of the kind counts
abbrev pub HasNone : Entries HeldFile → Option (List ℕ) → ConfigKind → Type 0
HasNone es component kind = (file : List ℕ) (held : HeldFile) → ¬ IsConfig content_size es component kind file held
