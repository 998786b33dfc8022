-- The index of the coming generation.
use Rattle.std.specs.Prelude.{ℕ, List}
use Rattle.ext_host.specs.declared.host.Host.{Host}
use Rattle.ext_index.specs.ValidIndex.{written_index}

-- the index of a host in a generation, as it is written; a file that is not kept is listed with a home in this generation
unfoldable pub coming_index : ℕ → Host → List ℕ
coming_index n host = written_index n host
