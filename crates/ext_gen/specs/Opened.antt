-- A generation of a store: its host, its number, and the number of the text that its index is. This project's own.
use Rattle.std.specs.Prelude.{ℕ, List}
use Rattle.ext_host.specs.declared.host.Host.{Host}
use Rattle.ext_store_files.specs.Names.{IsGeneration}
use Rattle.ext_index.specs.ValidIndex.{GivesIndex}

-- what contracts see of an opened store
pub record Generation : Type 0 where
  pub number : ℕ
  -- 1, 2 or 3
  pub text : ℕ
  pub host : Host

-- The number is that of a generation, and there is an index of the host in it, as a text of that number. So the host is valid,
-- each file of it is kept in this generation or in one before it, and a host of text 1 has the default hierarchies and no past.
pub record IsOpened (g : Generation) : Type 0 where
  pub number : IsGeneration g.number
  pub bytes : List ℕ
  pub index : GivesIndex g.number bytes (g.host, g.text)
