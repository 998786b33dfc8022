-- The lines of a drop-in that name the extensions of a service, after systemd.exec(5), option ExtensionDirectories=. How a path is
-- written is this project's own, after systemd.syntax(7).
use Rattle.std.specs.Prelude.{ℕ, ◌==◌, if◌then◌else◌, List, [], ◌∷◌, ◌++◌, codes}
use Rattle.ext_text.specs.Absolute.{absolute}
use Rattle.ext_portext.specs.declared.extending.Extending.{Extending}

-- a byte as it is written: `%` twice, and what would end or quote a word by its number
abbrev pub quoted_byte : ℕ → List ℕ
quoted_byte b =
    if b == 37 then 37 ∷ 37 ∷ []
    else (if b == 32 then 92 ∷ codes "x20"
    else (if b == 92 then 92 ∷ codes "x5c"
    else (if b == 34 then 92 ∷ codes "x22"
    else (if b == 39 then 92 ∷ codes "x27" else b ∷ []))))

-- bytes, each written so
abbrev pub quoted : List ℕ → List ℕ
quoted [] = []
quoted (b ∷ bytes) = quoted_byte b ++ quoted bytes

-- the line of an extension at the place
abbrev pub line_of_place : List (List ℕ) → List ℕ
line_of_place place = (codes "ExtensionDirectories=" ++ quoted (absolute place)) ++ 10 ∷ []

-- a line for each extension, in their order
abbrev pub extension_lines : List Extending → List ℕ
extension_lines [] = []
extension_lines (extending ∷ extensions) = line_of_place extending.place ++ extension_lines extensions
