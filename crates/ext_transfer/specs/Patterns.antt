-- MatchPattern= of [Source] and of [Target], as sysupdate.d(5) has it. That a key has at most 64 patterns is this project's own:
-- each name of a source is matched with each pattern.
use Rattle.std.specs.Prelude.{ℕ, ◌==◌, nat_lt, if◌then◌else◌, List, [], ◌∷◌, ◌++◌, length, Option, Some, None, Result, Ok, Err}
use Rattle.std.specs.Option.{option_and_then}
use Rattle.std.specs.Result.{result_ok}
use Rattle.ext_lines.specs.Words.{words_of}
use Rattle.ext_ini.specs.declared.sections.Setting.{Setting}
use Rattle.ext_pattern.specs.Pattern.{PatternView}
use Rattle.ext_pattern.specs.Reading.{pattern_of}
use Rattle.ext_transfer.specs.declared.err.TransferErr.{TransferErr}
use Rattle.ext_transfer.specs.declared.err.TransferErr.TheVariants.{BadTransfer}
use Rattle.ext_transfer.specs.declared.err.TransferFault.{TransferFault}
use Rattle.ext_transfer.specs.declared.err.TransferFault.TheVariants.{SourcePattern, TargetPattern}
use Rattle.ext_transfer.specs.Fault.{if_sound, or_fault}
use Rattle.ext_transfer.specs.Versions.{expanded_settings}

-- the most patterns of a key
abbrev pub most_patterns : ℕ
most_patterns = 64

-- the pattern that a word writes after so many others, if it writes one and there are not too many
abbrev pub next_pattern : ℕ → List ℕ → Option PatternView
next_pattern count word = if nat_lt count most_patterns then result_ok (pattern_of word) else None

-- patterns, and after them those that words write, if each writes one
abbrev pub patterns_and_words : List PatternView → List (List ℕ) → Option (List PatternView)
patterns_and_words before [] = Some before
patterns_and_words before (word ∷ words) =
    option_and_then (λ pattern. patterns_and_words (before ++ pattern ∷ []) words) (next_pattern (length before) word)

-- patterns, and after them those of a setting, which has one at least
abbrev pub patterns_and_value : List PatternView → List ℕ → Option (List PatternView)
patterns_and_value before value = if length (words_of value) == 0 then None else patterns_and_words before (words_of value)

-- patterns, and after them those of settings
abbrev pub patterns_in : TransferFault → List PatternView → List Setting → Result (List PatternView) TransferErr
patterns_in why before [] = Ok before
patterns_in why before (setting ∷ settings) =
    if_sound (or_fault (patterns_and_value before setting.value) setting.line why) (λ patterns. patterns_in why patterns settings)

-- the patterns that settings write, of which there is one at least
abbrev pub patterns_of : (ℕ → Option (List ℕ)) → TransferFault → List Setting → Result (List PatternView) TransferErr
patterns_of meaning why [] = Err (BadTransfer 0 why)
patterns_of meaning why (setting ∷ settings) =
    if_sound (expanded_settings meaning [] (setting ∷ settings)) (λ made. patterns_in why [] made)

-- the patterns of a target: where none are set, those of the source
abbrev pub target_patterns : (ℕ → Option (List ℕ)) → List Setting → List Setting → Result (List PatternView) TransferErr
target_patterns meaning of_source [] = patterns_of meaning SourcePattern of_source
target_patterns meaning of_source (setting ∷ settings) = patterns_of meaning TargetPattern (setting ∷ settings)
