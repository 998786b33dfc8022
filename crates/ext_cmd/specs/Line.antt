-- The lines of a batch: a command a line, its words between runs of blanks. A line without a word, and one whose first word
-- begins with `#`, counts for nothing. There is no quoting. `layer`, `batch` and `sample` are no commands of a line. The rules
-- are this project's own.
use Rattle.std.specs.Prelude.{◌≡◌, ℕ, Bool, true, false, ◌==◌, List, [], ◌∷◌, Option, Some, None, Result, Ok, Err}
use Rattle.ext_lines.specs.Words.{words_of}
use Rattle.ext_cmd.specs.Fault.{IsFault}
use Rattle.ext_cmd.specs.Words.{IsWellFormed, command_words}
use Rattle.ext_cmd.specs.declared.command.Command.{Command}
use Rattle.ext_cmd.specs.declared.command.Command.TheVariants.{Layer, Batch, Sample}
use Rattle.ext_cmd.specs.declared.keyword.Keyword.{Keyword}
use Rattle.ext_cmd.specs.declared.keyword.Keyword.TheVariants as keywords
use Rattle.ext_cmd.specs.declared.words.CmdErr.{CmdErr}
use Rattle.ext_cmd.specs.declared.words.CmdErr.TheVariants.{OutOfMemory, Usage}

-- whether the command may stand in a line of a batch: each but those that read the source, and `sample`
abbrev pub may_be_line : Command → Bool
may_be_line Layer = false
may_be_line Batch = false
may_be_line (Sample images) = false
may_be_line _ = true

-- whether a line may begin with the keyword
abbrev pub may_begin_line : Keyword → Bool
may_begin_line keywords.Layer = false
may_begin_line keywords.Batch = false
may_begin_line keywords.Sample = false
may_begin_line _ = true

-- the words are a command that may stand in a line
pub record IsLineCommand (words : List (List ℕ)) : Type 0 where
  pub command : Command
  pub well_formed : IsWellFormed command
  pub line : may_be_line command ≡ true
  pub same : words ≡ command_words command

-- the words are no such command, and this is the place of their first fault, counted from 1 in the line
abbrev pub IsLineUsage : List (List ℕ) → ℕ → Type 0
IsLineUsage words place = IsFault IsLineCommand words 1 place

-- whether a line of these words counts for nothing: there is none, or the first begins with `#`
abbrev pub counts_for_nothing : List (List ℕ) → Bool
counts_for_nothing [] = true
counts_for_nothing ([] ∷ words) = false
counts_for_nothing ((byte ∷ bytes) ∷ words) = byte == 35

-- what words that don't count for nothing give: the command of a line whose words they are, or the place of their first fault
abbrev pub ReadsLineCommand : List (List ℕ) → Result Command CmdErr → Type 0
ReadsLineCommand words (Ok command) = IsWellFormed command × (may_be_line command ≡ true) × (words ≡ command_words command)
ReadsLineCommand words (Err (Usage place)) = IsLineUsage words place
ReadsLineCommand words (Err OutOfMemory) = Unit {0}

-- what the words of a line give: nothing, a command, or the place of the first fault
abbrev pub ReadsLineWords : List (List ℕ) → Result (Option Command) CmdErr → Type 0
ReadsLineWords words (Ok None) = counts_for_nothing words ≡ true
ReadsLineWords words (Ok (Some command)) = (counts_for_nothing words ≡ false)
    × IsWellFormed command × (may_be_line command ≡ true) × (words ≡ command_words command)
ReadsLineWords words (Err (Usage place)) = (counts_for_nothing words ≡ false) × IsLineUsage words place
ReadsLineWords words (Err OutOfMemory) = Unit {0}

-- what reading the text of a line gives
abbrev pub ReadsBatchLine : List ℕ → Result (Option Command) CmdErr → Type 0
ReadsBatchLine text result = ReadsLineWords (words_of text) result
