-- The items of an update: what it writes, takes away and lets stay, each at its path. This project's own.
use Rattle.std.specs.Prelude.{ℕ, List, ◌++◌}
use Rattle.ext_updated.specs.declared.items.Items.{Items}

-- what is written: the resources, then the links
abbrev pub written : Items → List (List (List ℕ))
written items = items.resources ++ items.links
