-- What an update puts into a tree: pieces, each at its path. This project's own.
use Rattle.std.specs.Prelude.{◌≡◌, ℕ, false, not, ◌&&◌, Bool, IsTrue, if◌then◌else◌, List, [], ◌∷◌, drop, length, map, Option, Some, None}
use Rattle.std.specs.List.{AllByRecursion, list_any}
use Rattle.ext_text.specs.Path.{is_prefix, is_proper_prefix}
use Rattle.ext_text.specs.SortedPaths.{covers, is_among}
use Rattle.ext_tree.specs.Graft.{is_non_directory_at}
use Rattle.ext_tree.specs.Refusals.{is_root}
use Rattle.ext_tree.specs.Tree.{Entries, is_directory, lookup}
use Rattle.ext_tree.specs.declared.entry.Entry.{Entry}
use Rattle.ext_updated.specs.Clash.{MeetsAnother}
use Rattle.ext_updated.specs.declared.piece.Piece.{Piece}

-- what a piece has at the rest of a path after its own: its top, and its part below it
abbrev pub piece_at : {C : Type 0} → Piece C → List (List ℕ) → Option (Entry C)
piece_at piece [] = Some piece.top
piece_at piece (n ∷ q) = lookup piece.part (n ∷ q)

-- what it has at a path, where that is at or below its own
abbrev pub seen_at : {C : Type 0} → Piece C → List (List ℕ) → Option (Entry C)
seen_at piece q = if is_prefix piece.path q then piece_at piece (drop (length piece.path) q) else None

-- the paths of pieces
abbrev pub paths_of : {C : Type 0} → List (Piece C) → List (List (List ℕ))
paths_of pieces = map (λ piece. piece.path) pieces

-- it has a part only below a directory
abbrev pub IsPiece : {C : Type 0} → Piece C → Type 0
IsPiece piece = is_directory piece.top ≡ false → piece.part ≡ []

-- a piece stands below the path, which is not the root
abbrev pub is_above : {C : Type 0} → List (Piece C) → List (List ℕ) → Bool
is_above pieces q = not (is_root q) && list_any (λ p. is_proper_prefix q p) (paths_of pieces)

-- what is left at a path of a tree without the removed paths and what is below them
abbrev pub left_at : {C : Type 0} → Entries C → List (List (List ℕ)) → List (List ℕ) → Option (Entry C)
left_at root removed q = if covers removed q then None else lookup root q

-- the pieces may be put into what is left of a tree
pub record MayBePut {C : Type 0} (root : Entries C) (removed : List (List (List ℕ))) (pieces : List (Piece C)) : Type 0 where
  pub each : AllByRecursion IsPiece pieces
  -- the paths of no two of them are related
  pub apart : (p : List (List ℕ)) → ¬ MeetsAnother (paths_of pieces) p
  -- none is put at the root
  pub below_root : is_among (paths_of pieces) [] ≡ false
  -- what stands above one of them is a directory
  pub opens : (p q : List (List ℕ)) → IsTrue (is_among (paths_of pieces) p) → IsTrue (is_proper_prefix q p) → is_non_directory_at (left_at root removed q) ≡ false
