-- What is asked of a run, in at most two words, this project's own grammar.
--
--     hostext_erofs STORE [--mark=G] [--time=SECONDS]
--
-- G is the number of a mark's generation, whose tree is shown; without it, that of the current generation is. SECONDS is the time
-- that is told of each entry, in seconds since 1970; without it, it is 0. Numbers are decimal, without leading zeros.
use Rattle.std.specs.Prelude.{◌≡◌, ℕ, ◌+◌, ◌≤◌, List, [], ◌∷◌, ◌++◌, length, codes, decimal, Option, None, Some, IfSome}
use Rattle.ext_mount.specs.declared.asked.ImageAsk.{ImageAsk}

-- the number of a generation that may have a mark
abbrev pub IsGenerationNumber : ℕ → Type 0
IsGenerationNumber n = (1 ≤ n) × (n ≤ 4294967295)

-- a time that may be told, in seconds since 1970
abbrev pub IsImageTime : ℕ → Type 0
IsImageTime n = n ≤ 9223372036854775807

-- what may be asked
pub record IsImageAsk (asked : ImageAsk) : Type 0 where
  pub mark : IfSome asked.mark IsGenerationNumber
  pub time : IfSome asked.time IsImageTime

-- a number that is there, or 0
abbrev pub number_or_0 : Option ℕ → ℕ
number_or_0 None = 0
number_or_0 (Some n) = n

-- the time that the image tells of each entry
abbrev pub time_of : ImageAsk → ℕ
time_of asked = number_or_0 asked.time

-- how the word of a mark begins
abbrev pub mark_option : List ℕ
mark_option = codes "--mark="

-- how the word of a time begins
abbrev pub time_option : List ℕ
time_option = codes "--time="

-- the word of a number that is there
abbrev pub option_words : List ℕ → Option ℕ → List (List ℕ)
option_words option None = []
option_words option (Some n) = (option ++ decimal n) ∷ []

-- the words of what is asked
abbrev pub image_ask_words : ImageAsk → List (List ℕ)
image_ask_words asked = option_words mark_option asked.mark ++ option_words time_option asked.time

-- the words ask something
pub record AsksImage (words : List (List ℕ)) : Type 0 where
  pub asked : ImageAsk
  pub is : IsImageAsk asked
  pub same : words ≡ image_ask_words asked

-- words that ask something begin with these
pub record BeginsImage (words : List (List ℕ)) : Type 0 where
  pub more : List (List ℕ)
  pub whole : AsksImage (words ++ more)

-- words that begin to ask something do so no longer with the next word; or no word is left, and they ask nothing yet
abbrev pub GoesImageWrong : List (List ℕ) → List (List ℕ) → Type 0
GoesImageWrong prefix [] = ¬ AsksImage prefix
GoesImageWrong prefix (word ∷ rest) = ¬ BeginsImage (prefix ++ word ∷ [])

-- The words ask nothing, and this is the place of their first fault, counted from 1: the least place such that no words that
-- ask something begin with those up to it; where some begin with all of them, the place after the last.
pub record IsImageWrongAt (words : List (List ℕ)) (place : ℕ) : Type 0 where
  pub prefix : List (List ℕ)
  pub rest : List (List ℕ)
  pub split : words ≡ prefix ++ rest
  pub after : place ≡ length prefix + 1
  pub begins : BeginsImage prefix
  pub wrong : GoesImageWrong prefix rest
