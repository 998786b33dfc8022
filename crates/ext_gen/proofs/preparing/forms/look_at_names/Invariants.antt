use Rattle.std.proofs.Common.{take}
use Rattle.std.specs.List.{AllByRecursion}
use Rattle.ext_text.specs.Name.{IsName}
use Rattle.ext_gen.proofs.preparing.forms.look_at_names.Given as goal

-- those so far are
abbrev pub invariant-names : goal.invariant-names
invariant-names l = AllByRecursion IsName (take l.name-index l.names)
