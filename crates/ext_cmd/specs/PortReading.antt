-- What reading the words after `portable` gives, part by part.
use Rattle.std.specs.Prelude.{◌≡◌, ◌≢◌, ℕ, Bool, false, ◌==◌, List, [], ◌∷◌, ◌++◌, map, Option, Some, None, Result, Ok, Err}
use Rattle.std.specs.List.{AllByRecursion}
use Rattle.ext_added.specs.declared.ask.CopyMode.{CopyMode}
use Rattle.ext_cmd.specs.Grammar.{Spells, TakesAfter, TakesAttached, TakesPortWord}
use Rattle.ext_cmd.specs.Keyword.{port_word_text}
use Rattle.ext_cmd.specs.Plain.{IsPlainName}
use Rattle.ext_cmd.specs.Portable.{AreAttachWords, AreOptions, IsPortCommand, MayJoin, attach_word, attach_words, mode_word, option_word}
use Rattle.ext_cmd.specs.Portable.{options_among, port_words, prefixes_among}
use Rattle.ext_cmd.specs.Reading.{RefusesWord, RefusesWords}
use Rattle.ext_cmd.specs.declared.keyword.PortWord.{PortWord}
use Rattle.ext_cmd.specs.declared.portable.AttachOption.{AttachOption}
use Rattle.ext_cmd.specs.declared.portable.AttachWord.{AttachWord}
use Rattle.ext_cmd.specs.declared.portable.AttachWord.TheVariants as items
use Rattle.ext_cmd.specs.declared.portable.AttachWords.{AttachWords}
use Rattle.ext_cmd.specs.declared.portable.PortCommand.{PortCommand}
use Rattle.ext_cmd.specs.declared.words.CmdErr.{CmdErr}

-- whether a word begins with this byte
abbrev pub begins : ℕ → List ℕ → Bool
begins byte [] = false
begins byte (first ∷ bytes) = first == byte

-- whether a word is an option or nothing: it begins with `-`
abbrev pub is_dashed : List ℕ → Bool
is_dashed = begins 45

-- whether a word is a path or nothing: it begins with `/`
abbrev pub is_slashed : List ℕ → Bool
is_slashed = begins 47

-- words, as their own spelling
abbrev pub themselves : List (List ℕ) → List (List ℕ)
themselves words = words

-- a name as one word
abbrev pub name_words : List ℕ → List (List ℕ)
name_words name = name ∷ []

-- what is copied by a word, or that the word tells nothing
abbrev pub ReadsMode : List ℕ → Option CopyMode → Type 0
ReadsMode text (Some mode) = text ≡ mode_word mode
ReadsMode text None = (mode : CopyMode) → text ≢ mode_word mode

-- what is done with portable services by this word
abbrev pub ReadsAfterPortWord : PortWord → List (List ℕ) → Result PortCommand CmdErr → Type 0
ReadsAfterPortWord word words (Ok port) = IsPortCommand port × (port_word_text word ∷ words ≡ port_words port)
ReadsAfterPortWord word words (Err e) = RefusesWords (TakesPortWord word) words 3 e

-- what is asked by these options and the words after them
abbrev pub ReadsAttached : List AttachOption → List (List ℕ) → ℕ → Result AttachWords CmdErr → Type 0
ReadsAttached options words first (Ok asked) = AreAttachWords asked × (map option_word options ++ words ≡ attach_words asked)
ReadsAttached options words first (Err e) = RefusesWords (TakesAttached options) words first e

-- what stands after an image and these options
pub record AreAfter (options : List AttachOption) (after : List AttachWord) : Type 0 where
  pub are : AreOptions (options ++ options_among after)
  pub prefixes : AllByRecursion IsPlainName (prefixes_among after)

-- prefixes and options, after an image and these options
abbrev pub ReadsAfterImage : List AttachOption → List (List ℕ) → ℕ → Result (List AttachWord) CmdErr → Type 0
ReadsAfterImage options words first (Ok after) = AreAfter options after × (words ≡ map attach_word after)
ReadsAfterImage options words first (Err e) = RefusesWords (TakesAfter options) words first e

-- a word that may stand after an image and these options
abbrev pub MayFollowImage : List AttachOption → AttachWord → Type 0
MayFollowImage options (items.Prefix name) = IsPlainName name
MayFollowImage options (items.Option option) = MayJoin options option

-- a prefix or an option after these options, to which it was added
abbrev pub ReadsNextWord : List AttachOption → List AttachOption → List ℕ → ℕ → Result AttachWord CmdErr → Type 0
ReadsNextWord old new word place (Ok next) = MayFollowImage old next × (word ≡ attach_word next) × (new ≡ old ++ options_among (next ∷ []))
ReadsNextWord old new word place (Err e) = RefusesWord (Spells attach_word (MayFollowImage old)) word place e
