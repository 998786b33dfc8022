-- Maps from texts. A `BTreeMap<String, V>` is seen as the finite map from the bytes of its keys to what a function makes of
-- its values.
use Rattle.std.specs.Prelude.{ℕ, List, [], ◌∷◌, String}
use Rattle.std.specs.FinMap.{FinMap, from_entries}
use Rattle.std.specs.String.{string_bytes}
use Rattle.ext_lines.specs.ByteOrder.{bytes_cmp}

-- the entries, keys as their bytes
abbrev pub text_entries : {Z V W : Type 0} → (V → W) → List (String Z × V) → List (List ℕ × W)
text_entries f [] = []
text_entries f (e ∷ es) = (string_bytes e.0, f e.1) ∷ text_entries f es

-- the map of the entries
abbrev pub text_map : {Z V W : Type 0} → (V → W) → List (String Z × V) → FinMap bytes_cmp W
text_map f es = from_entries (text_entries f es)
