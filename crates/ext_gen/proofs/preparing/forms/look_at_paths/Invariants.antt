use Rattle.std.proofs.Common.{take}
use Rattle.std.specs.List.{AllByRecursion}
use Rattle.ext_text.specs.Path.{IsPath}
use Rattle.ext_gen.proofs.preparing.forms.look_at_paths.Given as goal

-- those so far are
abbrev pub invariant-paths : goal.invariant-paths
invariant-paths l = AllByRecursion IsPath (take l.path-index l.paths)
