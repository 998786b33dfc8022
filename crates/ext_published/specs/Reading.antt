-- What reading the words of a run gives.
use Rattle.std.specs.Prelude.{◌≡◌, ◌≢◌, ℕ, List, Option, Some, Result, Ok, Err}
use Rattle.ext_text.specs.declared.path.PathErr.{PathErr}
use Rattle.ext_text.specs.declared.path.PathErr.TheVariants as paths
use Rattle.ext_published.specs.Asked.{AskedOf, IsPublishAsk, IsAskWrongAt, asked_words}
use Rattle.ext_published.specs.declared.words.AskErr.{AskErr}
use Rattle.ext_published.specs.declared.words.AskErr.TheVariants.{OutOfMemory, Usage}

-- what the words ask, or the place of their first fault
abbrev pub ReadsAsked : List (List ℕ) → Result AskedOf AskErr → Type 0
ReadsAsked words (Ok asked) = IsPublishAsk asked × (words ≡ asked_words asked)
ReadsAsked words (Err (Usage place)) = IsAskWrongAt words place
ReadsAsked words (Err OutOfMemory) = Unit {0}

-- why the text of a path at this place asks nothing
abbrev pub usage_of_path : PathErr → ℕ → AskErr
usage_of_path paths.OutOfMemory place = OutOfMemory
usage_of_path paths.TooLong place = Usage place
usage_of_path paths.TooDeep place = Usage place
usage_of_path paths.BadName place = Usage place

-- why there is no value of a kind in a word at this place: the word is missing, or is the word of no value
abbrev pub RefusesAt : {A : Type 0} → (A → List ℕ) → (A → Type 0) → Option (List ℕ) → ℕ → AskErr → Type 0
RefusesAt {A = A} form Is word place (Usage at) = (at ≡ place) × ((value : A) → Is value → word ≢ Some (form value))
RefusesAt form Is word place OutOfMemory = Unit {0}

-- the value of a word
abbrev pub ReadsAt : {A : Type 0} → (A → List ℕ) → (A → Type 0) → Option (List ℕ) → ℕ → Result A AskErr → Type 0
ReadsAt form Is word place (Ok value) = Is value × (word ≡ Some (form value))
ReadsAt form Is word place (Err e) = RefusesAt form Is word place e
