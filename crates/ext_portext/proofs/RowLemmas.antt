-- The lines of drop-ins on examples, by computation.
use Rattle.std.proofs.Common.{◌≡◌, ℕ, List, [], ◌∷◌, ◌++◌, length, refl}
use Rattle.std.specs.Prelude.{codes}
use Rattle.ext_tree.specs.Tree.{Entries}
use Rattle.ext_host.specs.Held.{HeldFile}
use Rattle.ext_added.specs.DropIn.{own_text}
use Rattle.ext_portext.specs.Lines.{extension_lines, quoted}

-- where the image is, and the extension
abbrev image_place : List (List ℕ)
image_place = codes "var" ∷ codes "lib" ∷ codes "portables" ∷ codes "foobar_47.11" ∷ []

abbrev tools_place : List (List ℕ)
tools_place = codes "var" ∷ codes "lib" ∷ codes "extensions" ∷ codes "tools" ∷ []

module _ (tree : Entries HeldFile) where
  -- the line that names it
  line_is : extension_lines (record { place = tools_place; tree = tree } ∷ []) ≡ codes "ExtensionDirectories=/var/lib/extensions/tools" ++ 10 ∷ []
  line_is = refl

  -- the drop-in of each service with it
  text_length : length (own_text image_place image_place (extension_lines (record { place = tools_place; tree = tree } ∷ []))) ≡ 135
  text_length = refl

-- bytes that would end a word or quote one
quoted_is : quoted (codes "a%b c") ≡ codes "a%%b" ++ 92 ∷ codes "x20c"
quoted_is = refl

quotes_are : quoted (34 ∷ 39 ∷ 92 ∷ []) ≡ (92 ∷ codes "x22") ++ (92 ∷ codes "x27") ++ 92 ∷ codes "x5c"
quotes_are = refl
