-- What reading words gives: a command, or the place of the first fault.
use Rattle.std.specs.Prelude.{◌≡◌, ℕ, ◌<◌, Bool, not, ◌&&◌, nat_eq, nat_lt, List, [], ◌∷◌, ◌++◌, length, Result, Ok, Err}
use Rattle.std.specs.Cmp.Lexicographic.{pointwise}
use Rattle.std.specs.List.{list_all, list_any}
use Rattle.ext_text.specs.declared.path.PathErr.{PathErr}
use Rattle.ext_text.specs.declared.path.PathErr.TheVariants as paths
use Rattle.ext_cmd.specs.Fault.{IsFault}
use Rattle.ext_cmd.specs.Grammar.{Spells, Takes, TakesOthers, TakesUpdateWord, TakesVerb}
use Rattle.ext_cmd.specs.Keyword.{keyword_text, update_word_text, verb_text}
use Rattle.ext_cmd.specs.Words.{AreChosen, IsHierarchy, IsNone, IsUpdateAsk, IsUsage, IsViewCommand, IsWellFormed}
use Rattle.ext_cmd.specs.Words.{chosen_words, command_words, hierarchies_word, slashed, update_words, view_words}
use Rattle.ext_cmd.specs.declared.command.Chosen.{Chosen}
use Rattle.ext_cmd.specs.declared.command.Command.{Command}
use Rattle.ext_cmd.specs.declared.command.UpdateVerb.{UpdateVerb}
use Rattle.ext_cmd.specs.declared.command.ViewCommand.{ViewCommand}
use Rattle.ext_cmd.specs.declared.keyword.Keyword.{Keyword}
use Rattle.ext_cmd.specs.declared.keyword.UpdateWord.{UpdateWord}
use Rattle.ext_cmd.specs.declared.keyword.Verb.{Verb}
use Rattle.ext_cmd.specs.declared.words.CmdErr.{CmdErr}
use Rattle.ext_cmd.specs.declared.words.CmdErr.TheVariants.{OutOfMemory, Usage}

-- the command whose words these are, or the place of their first fault
abbrev pub ReadsWords : List (List ℕ) → Result Command CmdErr → Type 0
ReadsWords words (Ok command) = IsWellFormed command × (words ≡ command_words command)
ReadsWords words (Err (Usage place)) = IsUsage words place
ReadsWords words (Err OutOfMemory) = Unit {0}

-- why words of a grammar aren't read: the place of their first fault, where the first word has the place `first`
abbrev pub RefusesWords : (List (List ℕ) → Type 0) → List (List ℕ) → ℕ → CmdErr → Type 0
RefusesWords Is words first (Usage place) = IsFault Is words first place
RefusesWords Is words first OutOfMemory = Unit {0}

-- why a word at this place isn't read: it is none of that kind
abbrev pub RefusesWord : (List ℕ → Type 0) → List ℕ → ℕ → CmdErr → Type 0
RefusesWord Is word place (Usage at) = (at ≡ place) × ¬ Is word
RefusesWord Is word place OutOfMemory = Unit {0}

-- why the text of a path isn't read at this place
abbrev pub usage_of : PathErr → ℕ → CmdErr
usage_of paths.OutOfMemory place = OutOfMemory
usage_of paths.TooLong place = Usage place
usage_of paths.TooDeep place = Usage place
usage_of paths.BadName place = Usage place

-- the value of a word, or that it is the word of none
abbrev pub ReadsWord : {A : Type 0} → (A → List ℕ) → (A → Type 0) → List ℕ → ℕ → Result A CmdErr → Type 0
ReadsWord form Is word place (Ok value) = Is value × (word ≡ form value)
ReadsWord form Is word place (Err e) = RefusesWord (Spells form Is) word place e

-- the value of words of a grammar
abbrev pub ReadsPart :
    {A : Type 0} → (A → List (List ℕ)) → (A → Type 0) → (List (List ℕ) → Type 0) → List (List ℕ) → ℕ → Result A CmdErr → Type 0
ReadsPart form Is More words first (Ok value) = Is value × (words ≡ form value)
ReadsPart form Is More words first (Err e) = RefusesWords More words first e

-- a command: words that were read before, and the words of a grammar after them
abbrev pub ReadsRest : List (List ℕ) → (List (List ℕ) → Type 0) → List (List ℕ) → ℕ → Result Command CmdErr → Type 0
ReadsRest before More words first (Ok command) = IsWellFormed command × (before ++ words ≡ command_words command)
ReadsRest before More words first (Err e) = RefusesWords More words first e

-- a command of this keyword
abbrev pub ReadsAfter : Keyword → List (List ℕ) → Result Command CmdErr → Type 0
ReadsAfter keyword words result = ReadsRest (keyword_text keyword ∷ []) (Takes keyword) words 2 result

-- a view command of this verb
abbrev pub ReadsAfterVerb : Verb → List (List ℕ) → Result ViewCommand CmdErr → Type 0
ReadsAfterVerb verb words (Ok view) = IsViewCommand view × (verb_text verb ∷ words ≡ view_words view)
ReadsAfterVerb verb words (Err e) = RefusesWords (TakesVerb verb) words 3 e

-- what is asked of updates by this word
abbrev pub ReadsAfterUpdateWord : UpdateWord → List (List ℕ) → ℕ → Result UpdateVerb CmdErr → Type 0
ReadsAfterUpdateWord asked words first (Ok verb) = IsUpdateAsk verb × (update_word_text asked ∷ words ≡ update_words verb)
ReadsAfterUpdateWord asked words first (Err e) = RefusesWords (TakesUpdateWord asked) words first e

-- no word, whatever the value
abbrev pub no_words : {A : Type 0} → A → List (List ℕ)
no_words value = []

-- the name may stand in a list after these
pub record MayFollow (names : List (List ℕ)) (name : List ℕ) : Type 0 where
  pub hierarchy : IsHierarchy name
  pub new : IsNone name names
  pub few : length names < 16

-- whether a name is one of these
abbrev pub is_name_among : List ℕ → List (List ℕ) → Bool
is_name_among name names = list_any (λ other. pointwise nat_eq other name) names

-- whether it may stand after them, being one of a hierarchy
abbrev pub may_follow : List (List ℕ) → List ℕ → Bool
may_follow names name = nat_lt (length names) 16 && not (is_name_among name names)

-- whether no name is one of the others
abbrev pub are_apart : List (List ℕ) → List (List ℕ) → Bool
are_apart names others = list_all (λ name. not (is_name_among name others)) names

-- the name of a part was added to those before it, or may not stand there
abbrev pub PushesName : {A : Type 0} → List (List ℕ) → List (List ℕ) → List ℕ → ℕ → Result A CmdErr → Type 0
PushesName names after part place (Ok done) = (name : List ℕ) × MayFollow names name × (part ≡ slashed name) × (after ≡ names ++ name ∷ [])
PushesName names after part place (Err e) = RefusesWord (Spells slashed (MayFollow names)) part place e

-- what is chosen, where system extensions have these
abbrev pub ReadsOthers : List (List ℕ) → List (List ℕ) → Result Chosen CmdErr → Type 0
ReadsOthers names words (Ok chosen) = AreChosen chosen × (hierarchies_word names ∷ words ≡ chosen_words chosen)
ReadsOthers names words (Err e) = RefusesWords (TakesOthers names) words 5 e
