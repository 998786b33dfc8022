-- What holds after every update, and of manifests over many changes of a host.
use Rattle.std.specs.Prelude.{◌≡◌, ℕ, false, IsTrue, List, [], ◌∷◌, ◌++◌, Contains, Some, None, Option}
use Rattle.std.specs.List.{AllByRecursion}
use Rattle.ext_text.specs.Path.{is_prefix}
use Rattle.ext_text.specs.SortedPaths.{covers, is_among}
use Rattle.ext_tree.specs.Graft.{IsOpen}
use Rattle.ext_tree.specs.Laws.{HasPrefixes}
use Rattle.ext_tree.specs.Tree.{Entries, lookup}
use Rattle.ext_tree.specs.declared.entry.Entry.{Entry}
use Rattle.ext_host.specs.Held.{HeldFile}
use Rattle.ext_host.specs.Valid.{HasItems, IsValidHost}
use Rattle.ext_host.specs.declared.host.Host.{Host}
use Rattle.ext_host.specs.declared.manifest.Manifest.{Manifest}
use Rattle.ext_updated.specs.Clash.{AnswersClash, NoClash}
use Rattle.ext_updated.specs.Items.{written}
use Rattle.ext_updated.specs.Keeping.{HostChange, Keeps, LeadTo, LeaveAlone}
use Rattle.ext_updated.specs.Manifests.{IsManifestAt}
use Rattle.ext_updated.specs.Pieces.{IsPiece, MayBePut, paths_of, piece_at, seen_at}
use Rattle.ext_updated.specs.Updated.{IsUpdated}
use Rattle.ext_updated.specs.declared.items.Items.{Items}
use Rattle.ext_updated.specs.declared.piece.Piece.{Piece}

-- there is one least path that is in the way, or none
abbrev pub OneClash : Type 0 → Type 0
OneClash C = (root : Entries C) (items : Items) (a b : Option (List (List ℕ))) → AnswersClash root items a → AnswersClash root items b → a ≡ b

-- a path of a tree has one manifest
abbrev pub OneManifest : Type 0
OneManifest = (es : Entries HeldFile) (path : List (List ℕ)) (a b : Manifest) → IsManifestAt es path a → IsManifestAt es path b → a ≡ b

-- there is one tree after an update
abbrev pub OneUpdated : Type 0 → Type 0
OneUpdated C = (root : Entries C) (removed : List (List (List ℕ))) (pieces : List (Piece C)) (a b : Entries C) → IsUpdated root removed pieces a → IsUpdated root removed pieces b → a ≡ b

-- the pieces of what is written, and no others
pub record ArePiecesOf {C : Type 0} (items : Items) (pieces : List (Piece C)) : Type 0 where
  pub paths : paths_of pieces ≡ written items
  pub each : AllByRecursion IsPiece pieces

-- where nothing is in the way, none is written at the root, and only directories stand above what is written, the pieces may be
-- put into what is left
abbrev pub PiecesMayBePut : Type 0 → Type 0
PiecesMayBePut C = (root : Entries C) (items : Items) (pieces : List (Piece C)) → ArePiecesOf items pieces → NoClash root items
    → is_among (written items) [] ≡ false → ((p : List (List ℕ)) → IsTrue (is_among (written items) p) → IsOpen root p)
    → MayBePut root items.removed pieces

-- where nothing is in the way, the new tree has at and below a path that stays what the tree had
abbrev pub StayingStays : Type 0 → Type 0
StayingStays C = (root : Entries C) (items : Items) (pieces : List (Piece C)) (new : Entries C) (path rest : List (List ℕ)) → ArePiecesOf items pieces → NoClash root items
    → IsUpdated root items.removed pieces new → IsTrue (is_among items.staying path) → lookup new (path ++ rest) ≡ lookup root (path ++ rest)

-- where nothing is in the way, nothing stands at and below a path that goes
abbrev pub RemovedGoes : Type 0 → Type 0
RemovedGoes C = (root : Entries C) (items : Items) (pieces : List (Piece C)) (new : Entries C) (path rest : List (List ℕ)) → ArePiecesOf items pieces → NoClash root items
    → IsUpdated root items.removed pieces new → IsTrue (is_among items.removed path) → lookup new (path ++ rest) ≡ None

-- each piece stands as it was put, in directories
abbrev pub PiecesStand : Type 0 → Type 0
PiecesStand C = (root : Entries C) (removed : List (List (List ℕ))) (pieces : List (Piece C)) (new : Entries C) (piece : Piece C) → IsUpdated root removed pieces new → Contains pieces piece
    → ((rest : List (List ℕ)) → lookup new (piece.path ++ rest) ≡ piece_at piece rest) × HasPrefixes new piece.path

-- what stands neither at nor below a removed path or one of a piece stands as before, the directories above pieces among it
abbrev pub OthersStay : Type 0 → Type 0
OthersStay C = (root : Entries C) (removed : List (List (List ℕ))) (pieces : List (Piece C)) (new : Entries C) (path : List (List ℕ)) (e : Entry C) → IsUpdated root removed pieces new
    → covers removed path ≡ false → covers (paths_of pieces) path ≡ false → lookup root path ≡ Some e → lookup new path ≡ Some e

-- the manifest of a piece's path after an update says what the piece has
abbrev pub ManifestsOfPieces : Type 0
ManifestsOfPieces = (root : Entries HeldFile) (removed : List (List (List ℕ))) (pieces : List (Piece HeldFile)) (new : Entries HeldFile) (piece : Piece HeldFile) (manifest : Manifest)
    → IsUpdated root removed pieces new → Contains pieces piece → IsManifestAt new piece.path manifest → HasItems (seen_at piece) manifest

-- a manifest says what stands at and below its path, and goes on to say so where that stays
abbrev pub FilesDecide : Type 0
FilesDecide = (old new : List (List ℕ) → Option (Entry HeldFile)) (manifest : Manifest) → ((path : List (List ℕ)) → IsTrue (is_prefix manifest.path path) → old path ≡ new path)
    → HasItems old manifest → HasItems new manifest

-- a manifest of the first host that no change touches is kept in the last one
abbrev pub KeptAsLongAsUntouched : Type 0
KeptAsLongAsUntouched = (host last : Host) (changes : List HostChange) (manifest : Manifest) → IsValidHost host → LeadTo host changes last → Contains host.kept manifest
    → LeaveAlone changes manifest.path → Keeps last manifest

-- and so is one that a change added and that none after it touches
abbrev pub AddedAndKept : Type 0
AddedAndKept = (host last : Host) (before after : List HostChange) (change : HostChange) (manifest : Manifest) → LeadTo host (before ++ change ∷ after) last → Contains change.added manifest
    → LeaveAlone after manifest.path → Keeps last manifest
