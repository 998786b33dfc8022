-- What holds of all words of a run.
use Rattle.std.specs.Prelude.{◌≡◌, ℕ, List}
use Rattle.ext_mount.specs.Asked.{IsImageAsk, IsImageWrongAt, image_ask_words}
use Rattle.ext_mount.specs.declared.asked.ImageAsk.{ImageAsk}

-- words have one first fault
abbrev pub OneImageFault : Type 0
OneImageFault = (words : List (List ℕ)) (a b : ℕ) → IsImageWrongAt words a → IsImageWrongAt words b → a ≡ b

-- words ask one thing
abbrev pub OneImageAsked : Type 0
OneImageAsked = (a b : ImageAsk) → IsImageAsk a → IsImageAsk b → image_ask_words a ≡ image_ask_words b → a ≡ b
