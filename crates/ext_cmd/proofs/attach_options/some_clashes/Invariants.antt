use Rattle.std.proofs.Common.{take}
use Rattle.ext_cmd.specs.Portable.{NoneClashes}
use Rattle.ext_cmd.proofs.attach_options.some_clashes.Given as goal

-- none of the options so far clashes with it
abbrev pub invariant-options : goal.invariant-options
invariant-options l = NoneClashes (take l.earlier-index l.options) l.option
