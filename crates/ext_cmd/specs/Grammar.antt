-- The words after each keyword, part by part: which word may stand where. These grammars are those of the printed commands.
use Rattle.std.specs.Prelude.{◌≡◌, ◌≢◌, ◌⊎◌, ℕ, List, [], ◌∷◌, ◌++◌, codes, decimal}
use Rattle.ext_text.specs.Absolute.{absolute}
use Rattle.ext_text.specs.Arch.{arch_name}
use Rattle.ext_text.specs.Path.{IsPath, path_text}
use Rattle.ext_text.specs.Scope.{scope_name}
use Rattle.ext_text.specs.declared.extension.Extension.TheVariants as extensions
use Rattle.ext_text.specs.declared.scope.Scope.{Scope}
use Rattle.ext_text.specs.declared.scope.Scope.TheVariants as scopes
use Rattle.ext_host.specs.Host.{default_hierarchies}
use Rattle.ext_vers.specs.Version.{IsVersion}
use Rattle.ext_cmd.specs.Keyword.{port_word_text, update_word_text, verb_text}
use Rattle.ext_cmd.specs.Resource.{IsResource}
use Rattle.ext_cmd.specs.Plain.{IsBelowRoot, IsPlainName}
use Rattle.ext_cmd.specs.Portable.{IsImageOfWords, MayJoin, image_word, option_word}
use Rattle.ext_cmd.specs.Words.{AreDisjoint, IsHierarchyList, IsImages, IsKeep, IsMarkNumber, IsPlainComponent}
use Rattle.ext_cmd.specs.Words.{component_word, hierarchies_word}
use Rattle.ext_cmd.specs.declared.keyword.Keyword.{Keyword}
use Rattle.ext_cmd.specs.declared.keyword.Keyword.TheVariants.{Init, ImportFs, Remove, Sysext, Confext}
use Rattle.ext_cmd.specs.declared.keyword.Keyword.TheVariants.{Tree, Cat, Compare, Check, Layer, Migrate, Batch, Sample, Sysupdate, Portable}
use Rattle.ext_cmd.specs.declared.keyword.Keyword.TheVariants.{Mark, History, Rollback, Forget}
use Rattle.ext_cmd.specs.declared.keyword.PortWord.{PortWord}
use Rattle.ext_cmd.specs.declared.keyword.PortWord.TheVariants as ports
use Rattle.ext_cmd.specs.declared.keyword.UpdateWord.{UpdateWord}
use Rattle.ext_cmd.specs.declared.keyword.UpdateWord.TheVariants as asks
use Rattle.ext_cmd.specs.declared.keyword.Verb.{Verb}
use Rattle.ext_cmd.specs.declared.keyword.Verb.TheVariants as verbs
use Rattle.ext_cmd.specs.declared.portable.AttachOption.{AttachOption}

-- the word is that of a value with this property
pub record Spells {A : Type 0} (form : A → List ℕ) (Is : A → Type 0) (word : List ℕ) : Type 0 where
  pub value : A
  pub is : Is value
  pub same : word ≡ form value

-- each value has it
abbrev pub Any : {A : Type 0} → A → Type 0
Any value = Unit {0}

-- a text, as its own spelling
abbrev pub itself : List ℕ → List ℕ
itself text = text

-- the name of an architecture
abbrev pub IsArchWord : List ℕ → Type 0
IsArchWord = Spells arch_name Any

-- the scope of a host
abbrev pub IsHostScope : Scope → Type 0
IsHostScope scope = scope ≢ scopes.Portable

-- the name of a scope that a host may have
abbrev pub IsScopeWord : List ℕ → Type 0
IsScopeWord = Spells scope_name IsHostScope

-- a resource of the depot
abbrev pub IsResourceWord : List ℕ → Type 0
IsResourceWord = Spells path_text IsResource

-- a path of the host, after a `/`
abbrev pub IsPathWord : List ℕ → Type 0
IsPathWord = Spells absolute IsPath

-- a path of the host that is not its root
abbrev pub IsBelowRootWord : List ℕ → Type 0
IsBelowRootWord = Spells absolute IsBelowRoot

-- how many images a sample has
abbrev pub IsImagesWord : List ℕ → Type 0
IsImagesWord = Spells decimal IsImages

-- how many marks stay
abbrev pub IsKeepWord : List ℕ → Type 0
IsKeepWord = Spells decimal IsKeep

-- the number of a mark's generation
abbrev pub IsMarkWord : List ℕ → Type 0
IsMarkWord = Spells decimal IsMarkNumber

-- a version
abbrev pub IsVersionWord : List ℕ → Type 0
IsVersionWord = Spells itself IsVersion

-- the option of a component
abbrev pub IsComponentWord : List ℕ → Type 0
IsComponentWord = Spells component_word IsPlainComponent

-- no word more
abbrev pub HasNoMore : List (List ℕ) → Type 0
HasNoMore [] = Unit {0}
HasNoMore (word ∷ words) = ⊥

-- a word of one kind, and then words of that grammar
abbrev pub Then : (List ℕ → Type 0) → (List (List ℕ) → Type 0) → List (List ℕ) → Type 0
Then Is More [] = ⊥
Then Is More (word ∷ words) = Is word × More words

-- so, or no word at all
abbrev pub Maybe : (List ℕ → Type 0) → (List (List ℕ) → Type 0) → List (List ℕ) → Type 0
Maybe Is More [] = Unit {0}
Maybe Is More (word ∷ words) = Is word × More words

-- one of some words, and then what is wanted after it
abbrev pub Chooses : {A : Type 0} → (A → List ℕ) → (A → List (List ℕ) → Type 0) → List (List ℕ) → Type 0
Chooses {A = A} text More [] = ⊥
Chooses {A = A} text More (word ∷ words) = (choice : A) × (word ≡ text choice) × More choice words

-- those of configuration extensions, beside these of system extensions
pub record AreOthers (names others : List (List ℕ)) : Type 0 where
  pub hierarchies : IsHierarchyList others
  pub apart : AreDisjoint names others

-- after those of system extensions: no word, which means the default, or those of configuration extensions
abbrev pub TakesOthers : List (List ℕ) → List (List ℕ) → Type 0
TakesOthers names [] = AreDisjoint names (default_hierarchies extensions.Confext)
TakesOthers names (word ∷ words) = Spells hierarchies_word (AreOthers names) word × HasNoMore words

-- the lists of hierarchies of `init`: none, one or two
abbrev pub TakesChosen : List (List ℕ) → Type 0
TakesChosen [] = Unit {0}
TakesChosen (word ∷ words) = (names : List (List ℕ)) × IsHierarchyList names × (word ≡ hierarchies_word names) × TakesOthers names words

-- the option `--force`
abbrev pub IsForce : List ℕ → Type 0
IsForce word = word ≡ codes "--force"

-- a path, with the option `--force` before it or without
abbrev pub TakesExplained : List (List ℕ) → Type 0
TakesExplained words = Then IsBelowRootWord HasNoMore words ⊎ Then IsForce (Then IsBelowRootWord HasNoMore) words

-- the words after a verb
abbrev pub TakesVerb : Verb → List (List ℕ) → Type 0
TakesVerb verbs.List = HasNoMore
TakesVerb verbs.Status = HasNoMore
TakesVerb verbs.Merge = Maybe IsForce HasNoMore
TakesVerb verbs.Unmerge = HasNoMore
TakesVerb verbs.Refresh = Maybe IsForce HasNoMore
TakesVerb verbs.Changes = Maybe IsForce HasNoMore
TakesVerb verbs.Explain = TakesExplained

-- the words after the one by which something is asked of updates
abbrev pub TakesUpdateWord : UpdateWord → List (List ℕ) → Type 0
TakesUpdateWord asks.List = HasNoMore
TakesUpdateWord asks.CheckNew = HasNoMore
TakesUpdateWord asks.Update = Maybe IsVersionWord HasNoMore
TakesUpdateWord asks.Vacuum = HasNoMore
TakesUpdateWord asks.Features = HasNoMore

-- what is asked of updates
abbrev pub TakesAsked : List (List ℕ) → Type 0
TakesAsked = Chooses update_word_text TakesUpdateWord

-- the word that asks which components there are
abbrev pub IsComponents : List ℕ → Type 0
IsComponents word = word ≡ codes "components"

-- what is asked of the updates of no component, or which components there are, or what is asked of the updates of one
abbrev pub TakesUpdate : List (List ℕ) → Type 0
TakesUpdate words = TakesAsked words ⊎ Then IsComponents HasNoMore words ⊎ Then IsComponentWord TakesAsked words

-- the option by which `history` tells what has changed since a mark
abbrev pub IsSince : List ℕ → Type 0
IsSince word = word ≡ codes "--changes"

-- a name that isn't taken for an option
abbrev pub IsPlainWord : List ℕ → Type 0
IsPlainWord = Spells itself IsPlainName

-- an image of a portable service
abbrev pub IsImageWord : List ℕ → Type 0
IsImageWord = Spells image_word IsImageOfWords

-- any number of words of one kind
abbrev pub Each : (List ℕ → Type 0) → List (List ℕ) → Type 0
Each Is [] = Unit {0}
Each Is (word ∷ words) = Is word × Each Is words

-- prefixes and options, after an image and these options
abbrev pub TakesAfter : List AttachOption → List (List ℕ) → Type 0
TakesAfter options [] = Unit {0}
TakesAfter options (word ∷ words) =
    (IsPlainWord word × TakesAfter options words)
    ⊎ ((option : AttachOption) × MayJoin options option × (word ≡ option_word option) × TakesAfter (options ++ option ∷ []) words)

-- an image with options and prefixes, after these options
abbrev pub TakesAttached : List AttachOption → List (List ℕ) → Type 0
TakesAttached options [] = ⊥
TakesAttached options (word ∷ words) =
    (IsImageWord word × TakesAfter options words)
    ⊎ ((option : AttachOption) × MayJoin options option × (word ≡ option_word option) × TakesAttached (options ++ option ∷ []) words)

-- the words after the one by which something is done with portable services
abbrev pub TakesPortWord : PortWord → List (List ℕ) → Type 0
TakesPortWord ports.List = HasNoMore
TakesPortWord ports.Inspect = Then IsImageWord (Each IsPlainWord)
TakesPortWord ports.IsAttached = Then IsPlainWord HasNoMore
TakesPortWord ports.Attach = TakesAttached []
TakesPortWord ports.Detach = Then IsPlainWord HasNoMore
TakesPortWord ports.Reattach = TakesAttached []

-- the words after a keyword
abbrev pub Takes : Keyword → List (List ℕ) → Type 0
Takes Init = Then IsArchWord (Then IsScopeWord TakesChosen)
Takes ImportFs = Then IsResourceWord (Then IsPathWord HasNoMore)
Takes Remove = Then IsBelowRootWord HasNoMore
Takes Sysext = Chooses verb_text TakesVerb
Takes Confext = Chooses verb_text TakesVerb
Takes Tree = Maybe IsPathWord HasNoMore
Takes Cat = Then IsBelowRootWord HasNoMore
Takes Compare = Then Any (Then Any HasNoMore)
Takes Check = HasNoMore
Takes Layer = HasNoMore
Takes Migrate = HasNoMore
Takes Batch = HasNoMore
Takes Sample = Then IsImagesWord HasNoMore
Takes Sysupdate = TakesUpdate
Takes Portable = Chooses port_word_text TakesPortWord
Takes Mark = Maybe IsKeepWord HasNoMore
Takes History = Maybe IsSince (Then IsMarkWord HasNoMore)
Takes Rollback = Then IsMarkWord HasNoMore
Takes Forget = Then IsMarkWord HasNoMore
