-- What reading the words of a run gives.
use Rattle.std.specs.Prelude.{◌≡◌, ◌≢◌, ℕ, List, ◌++◌, decimal, Option, None, Some, Result, Ok, Err}
use Rattle.ext_mount.specs.Asked.{IsImageAsk, IsImageWrongAt, image_ask_words}
use Rattle.ext_mount.specs.declared.asked.ImageAsk.{ImageAsk}
use Rattle.ext_mount.specs.declared.words.UsageErr.{UsageErr}

-- what the words ask, or the place of their first fault
abbrev pub ReadsImageAsk : List (List ℕ) → Result ImageAsk UsageErr → Type 0
ReadsImageAsk words (Ok asked) = IsImageAsk asked × (words ≡ image_ask_words asked)
ReadsImageAsk words (Err e) = IsImageWrongAt words e.place

-- the number that a word tells after these bytes; none where the word is missing, or tells no such number
abbrev pub FindsNumber : List ℕ → (ℕ → Type 0) → Option (List ℕ) → Option ℕ → Type 0
FindsNumber option Is word None = (n : ℕ) → Is n → word ≢ Some (option ++ decimal n)
FindsNumber option Is word (Some n) = Is n × (word ≡ Some (option ++ decimal n))

-- how many words tell a number: one where it is there
abbrev pub told : {A : Type 0} → Option A → ℕ
told None = 0
told (Some n) = 1
