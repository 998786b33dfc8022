-- The marks of a host as they are listed. This project's own.
use Rattle.std.specs.Prelude.{ℕ, List, length, map, reverse}
use Rattle.std.specs.List.{count_by}
use Rattle.ext_tree.specs.Tree.{Entries, is_file}
use Rattle.ext_host.specs.Held.{HeldFile}
use Rattle.ext_host.specs.declared.past.Past.{Past}
use Rattle.ext_host.specs.declared.host.Host.{Host}
use Rattle.ext_history.specs.declared.marks.Mark.{Mark}

-- how many entries are files
abbrev pub files_in : Entries HeldFile → ℕ
files_in es = count_by (λ e. is_file e.1) es

-- a mark with the numbers of what was seen
abbrev pub listed : Past → Mark
listed mark = record { generation = mark.generation; entries = length mark.root; files = files_in mark.root }

-- the marks, the youngest first
abbrev pub history_of : Host → List Mark
history_of host = map listed (reverse host.past)
