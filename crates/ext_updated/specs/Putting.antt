-- How the tree after an update is made: what is left without all that stands at and below the paths of the pieces, the
-- directories that are missing above them, and the entries of the pieces.
use Rattle.std.specs.Prelude.{◌≡◌, ℕ, zero, suc, ◌-◌, Bool, false, not, if◌then◌else◌, List, [], ◌∷◌, ◌++◌, length, map, take, None, is_some, Contains}
use Rattle.std.specs.List.{AllByRecursion, filter}
use Rattle.std.specs.Ordering.{eq_by_cmp, is_lt}
use Rattle.ext_text.specs.Path.{IsPath, parent, path_cmp}
use Rattle.ext_text.specs.SortedPaths.{covers}
use Rattle.ext_tree.specs.Graft.{made}
use Rattle.ext_tree.specs.Grafting.{hung}
use Rattle.ext_tree.specs.Tree.{Entries, IsTree, lookup}
use Rattle.ext_tree.specs.declared.entry.Entry.{Entry}
use Rattle.ext_updated.specs.Pieces.{left_at, paths_of}
use Rattle.ext_updated.specs.declared.piece.Piece.{Piece}

-- the first names of the path: so many, and one more each, so many paths
abbrev pub prefixes_from : List (List ℕ) → ℕ → ℕ → List (List (List ℕ))
prefixes_from p names zero = []
prefixes_from p names (suc count) = take names p ∷ prefixes_from p (suc names) count

-- the proper prefixes of the path but the root
abbrev pub prefixes : List (List ℕ) → List (List (List ℕ))
prefixes p = prefixes_from p 1 (length p - 1)

-- the second path comes before the first one
abbrev pub is_earlier : List (List ℕ) → List (List ℕ) → Bool
is_earlier path other = is_lt (path_cmp other path)

-- nothing stands at the path
abbrev pub lacks : {C : Type 0} → Entries C → List (List ℕ) → Bool
lacks es p = not (is_some (lookup es p))

-- the proper prefixes of the paths of pieces, but the root, at which nothing stands
abbrev pub lacking_above : {C : Type 0} → Entries C → List (Piece C) → List (List (List ℕ))
lacking_above es [] = []
lacking_above es (piece ∷ pieces) = filter (lacks es) (prefixes piece.path) ++ lacking_above es pieces

-- the first of the pieces stands in the directory of this one
abbrev pub is_beside : {C : Type 0} → Piece C → List (Piece C) → Bool
is_beside piece [] = false
is_beside piece (next ∷ pieces) = eq_by_cmp path_cmp (parent piece.path) (parent next.path)

-- those of a piece, unless the next one stands in its directory
abbrev pub lacking_last : {C : Type 0} → Entries C → Piece C → List (Piece C) → List (List (List ℕ))
lacking_last es piece pieces = if is_beside piece pieces then [] else filter (lacks es) (prefixes piece.path)

-- those of pieces, of pieces in one directory that follow one another those of the last
abbrev pub lacking_once : {C : Type 0} → Entries C → List (Piece C) → List (List (List ℕ))
lacking_once es [] = []
lacking_once es (piece ∷ pieces) = lacking_last es piece pieces ++ lacking_once es pieces

-- made directories at the paths
abbrev pub made_at : {C : Type 0} → List (List (List ℕ)) → Entries C
made_at ps = map (λ p. (p, made)) ps

-- the entries of a piece
abbrev pub entries_at : {C : Type 0} → Piece C → Entries C
entries_at piece = (piece.path, piece.top) ∷ map (hung piece.path) piece.part

-- those of pieces
abbrev pub entries_of : {C : Type 0} → List (Piece C) → Entries C
entries_of [] = []
entries_of (piece ∷ pieces) = entries_at piece ++ entries_of pieces

-- path by path: what is left, and nothing at and below the pieces' paths
abbrev pub IsCutFor : {C : Type 0} → Entries C → List (List (List ℕ)) → List (Piece C) → Entries C → Type 0
IsCutFor root removed pieces kept = (q : List (List ℕ)) → lookup kept q ≡ (if covers (paths_of pieces) q then None else left_at root removed q)

-- the path of each entry, below the path, is within the limits
abbrev pub AllFitBelow : {C : Type 0} → List (List ℕ) → Entries C → Type 0
AllFitBelow path es = AllByRecursion (λ e. IsPath (path ++ e.0)) es

-- that of some entry is not
abbrev pub SomePasses : {C : Type 0} → List (List ℕ) → Entries C → Type 0
SomePasses {C} path es = (e : List (List ℕ) × Entry C) × Contains es e × ¬ IsPath (path ++ e.0)

-- a piece that may be put: its path and the paths of its part are within the limits, and its part is a tree
pub record IsReady {C : Type 0} (piece : Piece C) : Type 0 where
  pub path : IsPath piece.path
  pub part : IsTree piece.part
  pub fits : AllFitBelow piece.path piece.part

-- the path of some piece's part grows past its limits
abbrev pub SomePiecePasses : {C : Type 0} → List (Piece C) → Type 0
SomePiecePasses {C} pieces = (piece : Piece C) × Contains pieces piece × SomePasses piece.path piece.part

-- each element of the rest is one of all
abbrev pub IsWithin : {X : Type 0} → List X → List X → Type 0
IsWithin {X} all rest = (x : X) → Contains rest x → Contains all x
