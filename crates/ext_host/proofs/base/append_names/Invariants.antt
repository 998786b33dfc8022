use Rattle.std.proofs.Common.{◌≡◌, ◌++◌, take}
use Rattle.ext_host.proofs.base.append_names.Given as goal

abbrev pub invariant-loop-name : goal.invariant-loop-name
invariant-loop-name l = l.copies.items ≡ l.fn.copies.items ++ take l.name-index l.names
