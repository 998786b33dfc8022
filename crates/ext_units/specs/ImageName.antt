-- The names of images and what stands in them before a version, after portablectl(1).
use Rattle.std.specs.Prelude.{ℕ, List, [], ◌∷◌, Option, Some, None}
use Rattle.ext_lines.specs.Split.{split_of}
use Rattle.ext_units.specs.declared.image.Image.{Image}
use Rattle.ext_units.specs.declared.image.Image.TheVariants.{Named, At}

-- the last name of a path; nothing of the root
abbrev pub last_name : List (List ℕ) → List ℕ
last_name [] = []
last_name (n ∷ []) = n
last_name (n ∷ m ∷ path) = last_name (m ∷ path)

-- the name of an image: the one that is given, or the last of its path
abbrev pub image_name : Image → List ℕ
image_name (Named name) = name
image_name (At path) = last_name path

-- the text before the first of two parts, or the whole text where there are no two
abbrev pub first_or_whole : List ℕ → Option (List ℕ × List ℕ) → List ℕ
first_or_whole text None = text
first_or_whole text (Some parts) = parts.0

-- what stands in a name before its first `_`: in the name of an image, as `foobar_47.11`, a version stands after it
abbrev pub first_part : List ℕ → List ℕ
first_part name = first_or_whole name (split_of 95 name)
