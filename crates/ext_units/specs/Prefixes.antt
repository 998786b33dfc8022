-- The prefixes of units: those that are given, or that of the image's name, after portablectl(1); and which of them an image allows,
-- by PORTABLE_PREFIXES= of os-release(5).
use Rattle.std.specs.Prelude.{ℕ, Bool, true, not, if◌then◌else◌, ◌==◌, List, [], ◌∷◌, length, codes, Option, Some, None}
use Rattle.std.specs.FinMap.{FinMap, get}
use Rattle.std.specs.List.{find}
use Rattle.ext_lines.specs.ByteOrder.{bytes_cmp}
use Rattle.ext_lines.specs.Words.{has_word}
use Rattle.ext_units.specs.ImageName.{first_part, last_name}

-- the prefixes that count: those given, or where none is given the first part of the image's name
abbrev pub prefixes_of : List (List ℕ) → List (List ℕ) → List (List ℕ)
prefixes_of given place = if length given == 0 then first_part (last_name place) ∷ [] else given

-- the key by which an image lists prefixes
abbrev pub prefixes_key : List ℕ
prefixes_key = codes "PORTABLE_PREFIXES"

-- a value of that key allows its words; an image without one allows each prefix
abbrev pub allows_by : Option (List ℕ) → List ℕ → Bool
allows_by None prefix = true
allows_by (Some value) prefix = has_word prefix value

-- an image of this release allows the prefix
abbrev pub allows : FinMap bytes_cmp (List ℕ) → List ℕ → Bool
allows release prefix = allows_by (get release prefixes_key) prefix

-- the first of the prefixes that it does not allow
abbrev pub first_forbidden : FinMap bytes_cmp (List ℕ) → List (List ℕ) → Option (List ℕ)
first_forbidden release prefixes = find (λ prefix. not (allows release prefix)) prefixes
