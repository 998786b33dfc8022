-- The line of a run that was refused: a number, a word and the details, parted by spaces. Paths stand after a `/`. Numbers and
-- words are this project's own.
use Rattle.std.specs.Prelude.{ℕ, List, ◌++◌, codes, decimal}
use Rattle.ext_text.specs.Absolute.{absolute}
use Rattle.ext_mount.specs.declared.refusal.ImageRefusal.{ImageRefusal}
use Rattle.ext_mount.specs.declared.refusal.ImageRefusal.TheVariants.{NoStore, NoMark, LongLink}

-- the number of a refusal
abbrev pub image_refusal_number : ImageRefusal → ℕ
image_refusal_number NoStore = 1
image_refusal_number (NoMark mark) = 37
image_refusal_number (LongLink path) = 38

-- the word and the details of a refusal
abbrev pub image_refusal_details : ImageRefusal → List ℕ
image_refusal_details NoStore = codes "no-store"
image_refusal_details (NoMark mark) = codes "no-mark " ++ decimal mark
image_refusal_details (LongLink path) = codes "link " ++ absolute path

-- the line of a refusal, with its newline
abbrev pub image_refusal_line : ImageRefusal → List ℕ
image_refusal_line refusal = codes "refused " ++ decimal (image_refusal_number refusal) ++ codes " " ++ image_refusal_details refusal ++ codes "\n"
