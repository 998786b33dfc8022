-- The tree after an update: without the removed paths, with the pieces, and with the directories in which they stand. Missing
-- directories are made with mode 755, as where a part is hung into a tree. This project's own.
use Rattle.std.specs.Prelude.{◌≡◌, ℕ, ◌<◌, ◌≤◌, false, IsTrue, List, ◌++◌, length, Contains, Result, Ok, Err}
use Rattle.std.specs.List.{AllByRecursion}
use Rattle.ext_text.specs.SortedPaths.{covers}
use Rattle.ext_tree.specs.Graft.{Fits, IsTooLong, or_made}
use Rattle.ext_tree.specs.Tree.{Entries, IsTree, lookup, most_entries}
use Rattle.ext_tree.specs.declared.tree.TreeErr.{TreeErr}
use Rattle.ext_tree.specs.declared.tree.TreeErr.TheVariants.{OutOfMemory, Exists, NotDirectory, Limit, Path}
use Rattle.ext_updated.specs.Pieces.{is_above, left_at, paths_of, piece_at}
use Rattle.ext_updated.specs.declared.piece.Piece.{Piece}

-- the tree after an update, path by path
pub record IsUpdated {C : Type 0} (root : Entries C) (removed : List (List (List ℕ))) (pieces : List (Piece C)) (new : Entries C) : Type 0 where
  pub tree : IsTree new
  -- at and below the path of a piece: that piece
  pub put : (piece : Piece C) (rest : List (List ℕ)) → Contains pieces piece → lookup new (piece.path ++ rest) ≡ piece_at piece rest
  -- above one, the root aside: the directory that is left there, or a new one
  pub above : (q : List (List ℕ)) → covers (paths_of pieces) q ≡ false → IsTrue (is_above pieces q) → lookup new q ≡ or_made (left_at root removed q)
  -- elsewhere: what is left
  pub elsewhere : (q : List (List ℕ)) → covers (paths_of pieces) q ≡ false → is_above pieces q ≡ false → lookup new q ≡ left_at root removed q

-- no path of a piece's part grows past its limits
abbrev pub PieceFits : {C : Type 0} → Piece C → Type 0
PieceFits piece = Fits piece.path piece.part

-- some path of a piece's part does
abbrev pub IsPieceTooLong : {C : Type 0} → List (Piece C) → Type 0
IsPieceTooLong {C} pieces = (piece : Piece C) × Contains pieces piece × IsTooLong piece.path piece.part

-- what an update of a tree answers: the tree after it, or the first of its refusals
abbrev pub AnswersUpdated : {C : Type 0} → Entries C → List (List (List ℕ)) → List (Piece C) → Result (Entries C) TreeErr → Type 0
AnswersUpdated root removed pieces (Ok new) = AllByRecursion PieceFits pieces × IsUpdated root removed pieces new × (length new ≤ most_entries)
AnswersUpdated root removed pieces (Err OutOfMemory) = Unit {0}
AnswersUpdated root removed pieces (Err Exists) = ⊥
AnswersUpdated root removed pieces (Err NotDirectory) = ⊥
AnswersUpdated root removed pieces (Err Path) = IsPieceTooLong pieces
AnswersUpdated {C} root removed pieces (Err Limit) =
    AllByRecursion PieceFits pieces × ((new : Entries C) × IsUpdated root removed pieces new × (most_entries < length new))
