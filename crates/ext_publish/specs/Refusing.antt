-- Why a run is refused: the first of the conditions below that holds, in the order in which they stand.
--
--     no-store       there is no store
--     no-entry       nothing stands at the path of the host
--     not-file       neither a directory nor a file stands there
--     limit path     a path in the depot passes the limits of a path
--     out-kind       something of the wrong kind stands in the depot
--     limit text     the tree text, the old or the new manifest has more than 67,108,864 bytes
--     out-manifest   the manifest is none
--     listed         the manifest lists the name, or that of its tree text
use Rattle.std.specs.Prelude.{◌≡◌, ℕ, ◌≤◌, List, length, Option, Some, None, Ok}
use Rattle.std.specs.List.{AllByRecursion}
use Rattle.sha2.specs.Sha256.{sha256}
use Rattle.ext_text.specs.Path.{IsPath}
use Rattle.ext_disk.specs.Disk.{Tree}
use Rattle.ext_host.specs.declared.host.Host.{Host}
use Rattle.ext_sums.specs.Manifest.{IsFirstFault}
use Rattle.ext_published.specs.Asked.{AskedOf}
use Rattle.ext_published.specs.Manifest.{ListsNeither, ListsOne, most_published_text, with_listing}
use Rattle.ext_published.specs.Payload.{GivesPayload, HasNoneAt, HasOtherAt, listing_name}
use Rattle.ext_published.specs.Places.{FitsBelow, places_in, published_resource_path}
use Rattle.ext_published.specs.Published.{published_text}
use Rattle.ext_published.specs.declared.payload.Payload.{Payload}
use Rattle.ext_published.specs.declared.payload.Payload.TheVariants.{Directory, File}
use Rattle.ext_published.specs.declared.refusal.PubRefusal.{PubRefusal}
use Rattle.ext_published.specs.declared.refusal.PubRefusal.TheVariants.{NoStore, NoEntry, NotFile, LimitPath, OutKind, LimitText, OutManifest, Listed}
use Rattle.ext_publish.specs.Out.{manifest_bytes, wrong_kind}

-- the files of a directory have paths in the depot
abbrev pub HasFilePaths : AskedOf → Payload → Type 0
HasFilePaths asked (Directory tree) = AllByRecursion (FitsBelow (published_resource_path asked)) tree
HasFilePaths asked (File held) = Unit {0}

-- each path in the depot is within the limits of a path
pub record HasDepotPaths (asked : AskedOf) (payload : Payload) : Type 0 where
  pub places : AllByRecursion IsPath (places_in asked)
  pub files : HasFilePaths asked payload

-- a directory's tree text is short enough
abbrev pub HasShortText : Payload → Type 0
HasShortText (Directory tree) = length (published_text tree) ≤ most_published_text
HasShortText (File held) = Unit {0}

-- the digest that is listed: of a directory's tree text, or that with which a file is listed
abbrev pub look_digest : Payload → List ℕ
look_digest (Directory tree) = sha256 (published_text tree)
look_digest (File held) = held.stamp.digest.0

-- the new manifest is short enough, where this is the old one
abbrev pub HasShortManifest : AskedOf → Payload → List ℕ → Type 0
HasShortManifest asked payload text = length (with_listing text (look_digest payload) (listing_name payload asked.name)) ≤ most_published_text

-- the tree text, the old and the new manifest are short enough
pub record HasShortTexts (asked : AskedOf) (payload : Payload) (t : Tree) : Type 0 where
  pub text : HasShortText payload
  pub old : length (manifest_bytes t asked) ≤ most_published_text
  pub new : HasShortManifest asked payload (manifest_bytes t asked)

-- what is asked is a payload of the host
pub record IsPayloadOf (host : Option Host) (asked : AskedOf) (payload : Payload) : Type 0 where
  pub of : Host
  pub is : host ≡ Some of
  pub gives : GivesPayload of.root asked.path (Ok payload)

-- it may be published where this stands, as far as paths and kinds go
pub record HasRoomAt (host : Option Host) (asked : AskedOf) (t : Tree) (payload : Payload) : Type 0 where
  pub payload_is : IsPayloadOf host asked payload
  pub paths : HasDepotPaths asked payload
  pub kinds : wrong_kind t asked ≡ None

-- and as far as texts go
pub record HasRoomFor (host : Option Host) (asked : AskedOf) (t : Tree) (payload : Payload) : Type 0 where
  pub room : HasRoomAt host asked t payload
  pub texts : HasShortTexts asked payload t

-- no refusal's condition holds
pub record IsAllowed (host : Option Host) (asked : AskedOf) (t : Tree) (payload : Payload) : Type 0 where
  pub room : HasRoomFor host asked t payload
  pub manifest : ListsNeither (manifest_bytes t asked) asked.name

-- there is a host, whose tree this holds of
abbrev pub OfHost : Option Host → (Host → Type 0) → Type 0
OfHost host P = (of : Host) × (host ≡ Some of) × P of

-- the refusal is the first whose condition holds
abbrev pub IsRefused : Option Host → AskedOf → Tree → PubRefusal → Type 0
IsRefused host asked t NoStore = host ≡ None
IsRefused host asked t (NoEntry path) = (path ≡ asked.path) × OfHost host (λ of. HasNoneAt of.root path)
IsRefused host asked t (NotFile path) = (path ≡ asked.path) × OfHost host (λ of. HasOtherAt of.root path)
IsRefused host asked t LimitPath = (payload : Payload) × IsPayloadOf host asked payload × ¬ HasDepotPaths asked payload
IsRefused host asked t (OutKind path) = (payload : Payload) × IsPayloadOf host asked payload × HasDepotPaths asked payload × (wrong_kind t asked ≡ Some path)
IsRefused host asked t LimitText = (payload : Payload) × HasRoomAt host asked t payload × ¬ HasShortTexts asked payload t
IsRefused host asked t (OutManifest line) = (payload : Payload) × HasRoomFor host asked t payload × IsFirstFault (manifest_bytes t asked) line
IsRefused host asked t (Listed name) = (payload : Payload) × HasRoomFor host asked t payload × (name ≡ asked.name) × ListsOne (manifest_bytes t asked) name
