-- What a manifest lists, in the byte order of the names.
use Rattle.std.specs.Prelude.{ℕ, Bool, if◌then◌else◌, List, [], ◌∷◌, map, Option, Some, None}
use Rattle.std.specs.FinMap.{find}
use Rattle.std.specs.Ordering.{is_lt}
use Rattle.std.specs.Str.{bytes_eq}
use Rattle.ext_lines.specs.ByteOrder.{bytes_cmp}
use Rattle.ext_sums.specs.declared.sums.Listed.{Listed}
use Rattle.ext_sums.specs.Entry.{Entry}

-- names with their digests
abbrev pub Entries : Type 0
Entries = List Entry

-- the digest that the first entry of a name has; None where no entry has the name
abbrev pub said : Entries → List ℕ → Option (List ℕ)
said entries name = find bytes_cmp name entries

-- the entries from the first on whose name does not come before this one
abbrev pub entries_from : List ℕ → Entries → Entries
entries_from name [] = []
entries_from name (e ∷ es) = if is_lt (bytes_cmp e.0 name) then entries_from name es else e ∷ es

-- the digest of the first entry, where that has the name
abbrev pub said_first : List ℕ → Entries → Option (List ℕ)
said_first name [] = None
said_first name (e ∷ es) = if bytes_eq e.0 name then Some e.1 else None

-- what one name and its digest are to contracts
abbrev pub listed_entry : Listed → Entry
listed_entry l = (l.name, l.digest.0)

-- and a list of them
abbrev pub entries_of : List Listed → Entries
entries_of ls = map listed_entry ls

-- whether a listed name comes before the name
abbrev pub comes_before : List ℕ → Listed → Bool
comes_before name l = is_lt (bytes_cmp l.name name)
