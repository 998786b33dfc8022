-- The command `check`: each file of the host has its listed stamp. What it counts: the file entries of what is seen, of
-- what lies under the view and of each past tree, and their bytes; two entries of one home count twice.
use Rattle.std.specs.Prelude.{ℕ}
use Rattle.std.specs.List.{sum_by}
use Rattle.ext_host.specs.Drawn.{trees_of}
use Rattle.ext_host.specs.Valid.{all_bytes}
use Rattle.ext_host.specs.declared.host.Host.{Host}
-- how many files a tree has
pub use Rattle.ext_history.specs.History.{files_in}

-- how many files the trees of a host have, and how many bytes these have
abbrev pub host_files : Host → ℕ
host_files host = sum_by files_in (trees_of host)

-- the bytes of all files of a host and of its past trees
abbrev pub host_bytes : Host → ℕ
host_bytes host = sum_by all_bytes (trees_of host)
