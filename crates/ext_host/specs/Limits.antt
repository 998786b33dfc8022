-- The limits of the two trees of a host, which are counted together: this project's own.
use Rattle.std.specs.Prelude.{◌+◌, ◌<◌, ◌≤◌, nat_lt, if◌then◌else◌, length, Option, Some, None}
use Rattle.ext_text.specs.declared.which.Which.{Which}
use Rattle.ext_text.specs.declared.which.Which.TheVariants.{Entries, Bytes, File, Path, Text, Index, Generations}
use Rattle.ext_tree.specs.Tree as tree
use Rattle.ext_host.specs.Held.{HeldFile}
use Rattle.ext_host.specs.Valid.{all_bytes, most_bytes}

-- the first limit that the trees pass: entries, then bytes
abbrev pub passed_limit : tree.Entries HeldFile → tree.Entries HeldFile → Option Which
passed_limit root lower =
    if nat_lt tree.most_entries (length root + length lower) then Some Entries
    else if nat_lt most_bytes (all_bytes root + all_bytes lower) then Some Bytes
    else None

-- the trees are within both
pub record AreWithin (root lower : tree.Entries HeldFile) : Type 0 where
  pub entries : length root + length lower ≤ tree.most_entries
  pub bytes : all_bytes root + all_bytes lower ≤ most_bytes

-- the limit is the first that the trees pass
abbrev pub PassLimit : Which → tree.Entries HeldFile → tree.Entries HeldFile → Type 0
PassLimit Entries root lower = tree.most_entries < length root + length lower
PassLimit Bytes root lower = (length root + length lower ≤ tree.most_entries) × (most_bytes < all_bytes root + all_bytes lower)
PassLimit File root lower = ⊥
PassLimit Path root lower = ⊥
PassLimit Text root lower = ⊥
PassLimit Index root lower = ⊥
PassLimit Generations root lower = ⊥
