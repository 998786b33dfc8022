-- Held files: the stamp of a file's bytes, and where they are. This project's own.
use Rattle.std.specs.Prelude.{◌≡◌, ℕ, List, length}
use Rattle.sha2.specs.Sha256.{sha256}
use Rattle.ext_tree.specs.declared.stamp.Stamp.{Stamp}
use Rattle.ext_host.specs.declared.body.Body.{Body}
use Rattle.ext_host.specs.declared.body.Body.TheVariants.{Here, Kept, Depot}

-- what contracts see of a held file
pub record HeldFile : Type 0 where
  pub stamp : Stamp
  pub body : Body

-- the stamp is that of the bytes
pub record IsStampOf (bytes : List ℕ) (stamp : Stamp) : Type 0 where
  pub size : stamp.size ≡ length bytes
  pub digest : stamp.digest.0 ≡ sha256 bytes

-- bytes that are here have the stamp
abbrev pub HasStamp : Stamp → Body → Type 0
HasStamp stamp (Here bytes) = IsStampOf bytes stamp
HasStamp stamp (Kept home) = Unit {0}
HasStamp stamp (Depot path) = Unit {0}
