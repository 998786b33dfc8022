-- The lines of changes, this project's own format:
--
--     + /PATH
--     - /PATH
--     * /PATH
--
-- A line tells a path to which an entry was added, from which one was removed, or at which one was changed. Each ends with
-- a newline. No path has a newline.
use Rattle.std.specs.Prelude.{ℕ, List, ◌∷◌, map}
use Rattle.ext_lines.specs.Lines.{lines_text}
use Rattle.ext_text.specs.Absolute.{absolute}
use Rattle.ext_changes.specs.Changes.{Changes}
use Rattle.ext_changes.specs.declared.change.ChangeKind.{ChangeKind}
use Rattle.ext_changes.specs.declared.change.ChangeKind.TheVariants.{Added, Removed, Changed}

-- the sign of a kind: `+`, `-` or `*`
abbrev pub sign : ChangeKind → ℕ
sign Added = 43
sign Removed = 45
sign Changed = 42

-- a change's line, without its newline
abbrev pub change_line : List (List ℕ) × ChangeKind → List ℕ
change_line change = sign change.1 ∷ 32 ∷ absolute change.0

-- the lines of changes in their order
abbrev pub changes_text : Changes → List ℕ
changes_text changes = lines_text (map change_line changes)
