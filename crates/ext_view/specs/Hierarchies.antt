-- The hierarchies of a class in a host, names directly below the root, and whether the class is merged.
use Rattle.std.specs.Prelude.{ℕ, Bool, List, is_some}
use Rattle.ext_text.specs.declared.extension.Extension.{Extension}
use Rattle.ext_host.specs.Host.{hierarchies_in, hierarchies_of, merged_names, present}
use Rattle.ext_host.specs.declared.host.Host.{Host}

-- the hierarchies of a class in a host
abbrev pub hierarchies_at : Extension → Host → List (List ℕ)
hierarchies_at class host = hierarchies_of class (hierarchies_in host)

-- the class is merged
abbrev pub is_merged : Extension → Host → Bool
is_merged class host = is_some (merged_names class (present host))
