-- The lines of origins, this project's own format: a layer, and what it has at a path.
--
--     image NAME X
--     base X
--
-- X is one of these. The fields are as the rows of a tree text have them: the mode in octal digits, the owner where it is not
-- root, the size in decimal digits, the digest in lower-case hexadecimal digits, the target as it is.
--
--     d MODE[:USER:GROUP]
--     o MODE[:USER:GROUP]
--     f ATTRIBUTES SIZE HEX
--     l[:USER:GROUP] TARGET
--     w
--     covers /AT
use Rattle.std.specs.Prelude.{ℕ, List, ◌++◌, codes, decimal, None}
use Rattle.std.specs.List.{flat_map}
use Rattle.hex.specs.Hex.{encode_lower}
use Rattle.ext_text.specs.Absolute.{absolute}
use Rattle.ext_attributes.specs.Attributes.{attributes_text, file_attributes_text, marks_text}
use Rattle.ext_tree.specs.declared.entry.Entry.{Entry}
use Rattle.ext_tree.specs.declared.entry.Entry.TheVariants.{Dir, Opaque, File, Link, Hide}
use Rattle.ext_tree.specs.declared.stamp.Stamp.{Stamp}
use Rattle.ext_origin.specs.declared.origin.Finding.{Finding}
use Rattle.ext_origin.specs.declared.origin.Finding.TheVariants.{Has, Covers}
use Rattle.ext_origin.specs.declared.origin.Layer.{Layer}
use Rattle.ext_origin.specs.declared.origin.Layer.TheVariants.{Image, Base}
use Rattle.ext_origin.specs.declared.origin.Origin.{Origin}

-- the words of a layer
abbrev pub layer_words : Layer → List ℕ
layer_words (Image name) = codes "image " ++ name
layer_words Base = codes "base"

-- the words of an entry
abbrev pub entry_words : Entry Stamp → List ℕ
entry_words (Dir attributes) = codes "d " ++ attributes_text attributes
entry_words (Opaque attributes) = codes "o " ++ attributes_text attributes
entry_words (File attributes stamp) = codes "f " ++ file_attributes_text attributes ++ codes " " ++ decimal stamp.size ++ codes " " ++ encode_lower stamp.digest.0
entry_words (Link owner target) = codes "l" ++ marks_text owner None ++ codes " " ++ target
entry_words Hide = codes "w"

-- the words of what a layer has at the path, or above it
abbrev pub finding_words : Finding → List ℕ
finding_words (Has entry) = entry_words entry
finding_words (Covers at) = codes "covers " ++ absolute at

-- the line of an origin, with its newline
abbrev pub origin_line : Origin → List ℕ
origin_line origin = layer_words origin.layer ++ codes " " ++ finding_words origin.finding ++ codes "\n"

-- the lines of origins in their order
abbrev pub origins_text : List Origin → List ℕ
origins_text origins = flat_map origin_line origins
