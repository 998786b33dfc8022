-- Laws of words and their commands.
use Rattle.std.specs.Prelude.{◌≡◌, ℕ, ◌+◌, ◌≤◌, ◌⊎◌, true, List, length, Option, Some, Result, Ok, Err}
use Rattle.ext_lines.specs.Words.{words_of}
use Rattle.ext_cmd.specs.Line.{IsLineCommand, IsLineUsage, ReadsBatchLine, counts_for_nothing, may_be_line}
use Rattle.ext_cmd.specs.Reading.{ReadsWords}
use Rattle.ext_cmd.specs.Words.{IsCommand, IsUsage, IsWellFormed, command_words}
use Rattle.ext_cmd.specs.declared.command.Command.{Command}
use Rattle.ext_cmd.specs.declared.words.CmdErr.{CmdErr}
use Rattle.ext_cmd.specs.declared.words.CmdErr.TheVariants.{OutOfMemory}

-- words are those of one command
abbrev pub OneCommand : Type 0
OneCommand = (c d : Command) → IsWellFormed c → IsWellFormed d → command_words c ≡ command_words d → c ≡ d

-- reading the words of a command gives that command, where memory suffices
abbrev pub ReadsBack : Type 0
ReadsBack =
    (command : Command) (result : Result Command CmdErr) → IsWellFormed command → ReadsWords (command_words command) result →
    (result ≡ Ok command) ⊎ (result ≡ Err OutOfMemory)

-- words have one first fault
abbrev pub OneUsage : Type 0
OneUsage = (words : List (List ℕ)) (a b : ℕ) → IsUsage words a → IsUsage words b → a ≡ b

-- the words of a command have none
abbrev pub NoUsage : Type 0
NoUsage = (words : List (List ℕ)) (place : ℕ) → IsCommand words → ¬ IsUsage words place

-- words that are no command have one: it can't be that no place is one
abbrev pub SomeUsage : Type 0
SomeUsage = (words : List (List ℕ)) → ¬ IsCommand words → ¬ ((place : ℕ) → ¬ IsUsage words place)

-- its place is that of a word, or the one after the last
abbrev pub UsageWithin : Type 0
UsageWithin = (words : List (List ℕ)) (place : ℕ) → IsUsage words place → (1 ≤ place) × (place ≤ length words + 1)

-- a line that counts for nothing has the words of no command
abbrev pub NothingIsNoCommand : Type 0
NothingIsNoCommand = (words : List (List ℕ)) → counts_for_nothing words ≡ true → ¬ IsLineCommand words

-- the text of a line gives one thing, where memory suffices
abbrev pub ReadsOneLine : Type 0
ReadsOneLine =
    (text : List ℕ) (a b : Result (Option Command) CmdErr) → ReadsBatchLine text a → ReadsBatchLine text b →
    (a ≡ b) ⊎ (a ≡ Err OutOfMemory) ⊎ (b ≡ Err OutOfMemory)

-- the words of a command that may stand in a line give that command, where memory suffices
abbrev pub ReadsLineBack : Type 0
ReadsLineBack =
    (text : List ℕ) (command : Command) (result : Result (Option Command) CmdErr) →
    IsWellFormed command → may_be_line command ≡ true → words_of text ≡ command_words command → ReadsBatchLine text result →
    (result ≡ Ok (Some command)) ⊎ (result ≡ Err OutOfMemory)

-- the words of a line have one first fault
abbrev pub OneLineUsage : Type 0
OneLineUsage = (words : List (List ℕ)) (a b : ℕ) → IsLineUsage words a → IsLineUsage words b → a ≡ b

-- those of a command that may stand in a line have none
abbrev pub NoLineUsage : Type 0
NoLineUsage = (words : List (List ℕ)) (place : ℕ) → IsLineCommand words → ¬ IsLineUsage words place

-- words that are no such command have one: it can't be that no place is one
abbrev pub SomeLineUsage : Type 0
SomeLineUsage = (words : List (List ℕ)) → ¬ IsLineCommand words → ¬ ((place : ℕ) → ¬ IsLineUsage words place)

-- its place is that of a word of the line, or the one after the last
abbrev pub LineUsageWithin : Type 0
LineUsageWithin = (words : List (List ℕ)) (place : ℕ) → IsLineUsage words place → (1 ≤ place) × (place ≤ length words + 1)
