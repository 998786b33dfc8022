-- What an entry is to a search.
use Rattle.std.specs.Prelude.{ℕ, Bool, true, false, not, ◌==◌, codes, Option, Some, None}
use Rattle.std.specs.Ordering.{eq_by_cmp}
use Rattle.ext_lines.specs.ByteOrder.{bytes_cmp}
use Rattle.ext_tree.specs.Tree.{is_directory, is_file}
use Rattle.ext_tree.specs.declared.entry.Entry.{Entry}
use Rattle.ext_tree.specs.declared.entry.Entry.TheVariants.{Dir, Opaque, File, Link, Hide}

-- a file stands there
abbrev pub is_file_at : {C : Type 0} → Option (Entry C) → Bool
is_file_at None = false
is_file_at (Some e) = is_file e

-- something stands there in which nothing else can stand
abbrev pub is_other_at : {C : Type 0} → Option (Entry C) → Bool
is_other_at None = false
is_other_at (Some e) = not (is_directory e)

-- a mask: an empty file, or a link to `/dev/null`
abbrev pub is_mask : {C : Type 0} → (C → ℕ) → Entry C → Bool
is_mask size (Dir attributes) = false
is_mask size (Opaque attributes) = false
is_mask size (File attributes content) = size content == 0
is_mask size (Link owner target) = eq_by_cmp bytes_cmp target (codes "/dev/null")
is_mask size Hide = false

-- a mask stands there: an empty file, or a link to `/dev/null`
abbrev pub is_mask_at : {C : Type 0} → (C → ℕ) → Option (Entry C) → Bool
is_mask_at size None = false
is_mask_at size (Some e) = is_mask size e

-- a link
abbrev pub is_link : {C : Type 0} → Entry C → Bool
is_link (Dir attributes) = false
is_link (Opaque attributes) = false
is_link (File attributes content) = false
is_link (Link owner target) = true
is_link Hide = false

-- a file that is not empty
abbrev pub is_full : {C : Type 0} → (C → ℕ) → Entry C → Bool
is_full size (Dir attributes) = false
is_full size (Opaque attributes) = false
is_full size (File attributes content) = not (size content == 0)
is_full size (Link owner target) = false
is_full size Hide = false

-- a file that is not empty stands there
abbrev pub is_full_at : {C : Type 0} → (C → ℕ) → Option (Entry C) → Bool
is_full_at size None = false
is_full_at size (Some e) = is_full size e
