use Rattle.std.proofs.Common.{◌≡◌, take}
use Rattle.ext_cmd.proofs.attach_options.copies.Given as goal

abbrev pub invariant-options : goal.invariant-options
invariant-options l = l.copies ≡ take l.option-index l.options
