-- The limits of the coming host, in this order: the entries of both of its trees, the bytes of a new file, the bytes of all files.
-- This project's own.
use Rattle.std.specs.Prelude.{ℕ, ◌+◌, Bool, true, false, nat_lt, if◌then◌else◌, length, Option, Some, None}
use Rattle.std.specs.List.{list_any}
use Rattle.ext_text.specs.declared.which.Which.{Which}
use Rattle.ext_text.specs.declared.which.Which.TheVariants as limits
use Rattle.ext_tree.specs.Tree.{Entries, most_entries}
use Rattle.ext_host.specs.Held.{HeldFile}
use Rattle.ext_host.specs.Valid.{all_bytes, most_bytes}
use Rattle.ext_added.specs.Added.{is_service}
use Rattle.ext_added.specs.declared.attaching.Attaching.{Attaching}

-- the most bytes of a file
abbrev pub most_file : ℕ
most_file = 1073741824

-- the bytes of the new file that is made: of the drop-in that names the image, where there is a service
abbrev pub new_bytes : Attaching → ℕ
new_bytes made = if list_any is_service made.units then made.own.stamp.size else 0

-- the first limit that is passed, where a new file has so many bytes
abbrev pub first_limit : ℕ → Entries HeldFile → Entries HeldFile → Option Which
first_limit size root lower =
    if nat_lt most_entries (length root + length lower) then Some limits.Entries
    else if nat_lt most_file size then Some limits.File
    else if nat_lt most_bytes (all_bytes root + all_bytes lower) then Some limits.Bytes
    else None

-- that of entries
abbrev pub are_entries : Option Which → Bool
are_entries None = false
are_entries (Some limits.Entries) = true
are_entries (Some limits.Bytes) = false
are_entries (Some limits.File) = false
are_entries (Some limits.Path) = false
are_entries (Some limits.Text) = false
are_entries (Some limits.Index) = false
are_entries (Some limits.Generations) = false

-- that of a file, where it is passed
abbrev pub file_or : ℕ → Option Which → Option Which
file_or size passed = if nat_lt most_file size then Some limits.File else passed

-- the first limit that is passed, by the one of entries and bytes that is
abbrev pub with_file : ℕ → Option Which → Option Which
with_file size passed = if are_entries passed then passed else file_or size passed
