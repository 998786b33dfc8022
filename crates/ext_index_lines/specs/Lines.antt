-- The lines of an index, this project's own format, each without its newline. A line is a word, a space, and the rest of the
-- line; what may hold spaces, a name or a path, ends the line.
--
--     hostext-store X      X is 1, 2 or 3
--     host ARCH SCOPE
--     h CLASS NAME
--     a WHERE COUNT        WHERE is etc or run
--     k COUNT PATH
--     m HEX PATH
--
-- Each other line is a word with a number (`sysext`, `confext`, `hierarchies`, `attached`, `kept`, `root`, `lower`, `past`, `g`), with
-- a name (`n`, `i`) or with a path (`s`, `p`); or it is the line of an entry, or `end`. Numbers are decimal without a
-- leading zero, HEX is the digest in lower-case hexadecimal digits.
use Rattle.std.specs.Prelude.{ℕ, ◌<◌, Bool, true, false, ◌||◌, if◌then◌else◌, List, ◌∷◌, ◌++◌, length, codes, decimal}
use Rattle.hex.specs.Hex.{encode_lower}
use Rattle.ext_text.specs.Arch.{arch_name}
use Rattle.ext_text.specs.Extension.{extension_name}
use Rattle.ext_text.specs.Path.{IsPath, path_text}
use Rattle.ext_text.specs.Scope.{scope_name}
use Rattle.ext_text.specs.declared.arch.Arch.{Arch}
use Rattle.ext_text.specs.declared.extension.Extension.{Extension}
use Rattle.ext_text.specs.declared.scope.Scope.{Scope}
use Rattle.ext_tree.specs.Tree.{is_plain_entry}
use Rattle.ext_tree.specs.declared.entry.Entry.{Entry}
use Rattle.ext_index_lines.specs.declared.text_number.TextNumber.{TextNumber}
use Rattle.ext_index_lines.specs.declared.text_number.TextNumber.TheVariants.{One, Later}

-- a word, a space, and the rest of the line
abbrev pub worded : List ℕ → List ℕ → List ℕ
worded word rest = word ++ 32 ∷ rest

-- the first line of a text
abbrev pub header_line : TextNumber → List ℕ
header_line One = codes "hostext-store 1"
header_line (Later owners) = if owners then codes "hostext-store 3" else codes "hostext-store 2"

-- it has hierarchies and past trees
abbrev pub is_later : TextNumber → Bool
is_later One = false
is_later (Later owners) = true

-- lines may tell owners and capabilities
abbrev pub tells_owners : TextNumber → Bool
tells_owners One = false
tells_owners (Later owners) = owners

-- the line of the entry may stand there: it tells no owner and no capability, or lines may
abbrev pub may_tell : {C : Type 0} → TextNumber → Entry C → Bool
may_tell text e = is_plain_entry e || tells_owners text

-- the line of the machine
abbrev pub host_line : Arch → Scope → List ℕ
host_line arch scope = worded (codes "host") (worded (arch_name arch) (scope_name scope))

-- the line `h` of a hierarchy
abbrev pub hierarchy_line : Extension → List ℕ → List ℕ
hierarchy_line class name = worded (codes "h") (worded (extension_name class) name)

-- a word and a number
abbrev pub number_line : List ℕ → ℕ → List ℕ
number_line word number = worded word (decimal number)

-- a word and a path
abbrev pub path_line : List ℕ → List (List ℕ) → List ℕ
path_line word path = worded word (path_text path)

-- the first line of an attachment: whether it lies in `run`, and how many paths were added
abbrev pub attachment_line : Bool → ℕ → List ℕ
attachment_line runtime count = worded (codes "a") (worded (if runtime then codes "run" else codes "etc") (decimal count))

-- the first line of a kept manifest: how many items it has, and its path
abbrev pub manifest_line : ℕ → List (List ℕ) → List ℕ
manifest_line count path = worded (codes "k") (worded (decimal count) (path_text path))

-- the line of an item of a kept manifest
abbrev pub item_line : List ℕ → List (List ℕ) → List ℕ
item_line digest path = worded (codes "m") (worded (encode_lower digest) (path_text path))

-- a path that a line holds
pub record IsLinePath (path : List (List ℕ)) : Type 0 where
  pub within : IsPath path
  pub non_empty : 0 < length path
