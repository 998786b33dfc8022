-- What holds of each host that comes of another one by its marks. A past tree may bring no file, since its files have to be in the
-- store before it: so each mark has trees of the host before. This project's own.
use Rattle.std.specs.Prelude.{List, ◌++◌, Contains}
use Rattle.ext_host.specs.Drawn.{IsDrawnFrom}
use Rattle.ext_host.specs.Valid.{IsValidHost}
use Rattle.ext_host.specs.declared.past.Past.{Past}
use Rattle.ext_host.specs.declared.host.Host.{Host}

-- it is valid where the host was, each file that it keeps is one of the host, and each of its marks is one of the host or one of
-- those that are new
pub record ComesOf (host : Host) (added : List Past) (next : Host) : Type 0 where
  pub valid : IsValidHost host → IsValidHost next
  pub drawn : IsDrawnFrom host next
  pub past : (mark : Past) → Contains next.past mark → Contains (host.past ++ added) mark
