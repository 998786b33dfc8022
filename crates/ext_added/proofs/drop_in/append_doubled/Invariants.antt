use Rattle.std.proofs.Common.{◌≡◌, ◌++◌, drop}
use Rattle.ext_added.specs.DropIn.{doubled}
use Rattle.ext_added.proofs.drop_in.append_doubled.Given as goal

-- the bytes so far and those of the rest are all
abbrev pub invariant-bytes : goal.invariant-bytes
invariant-bytes l = l.text.items ++ doubled (drop l.byte-index l.bytes) ≡ l.initial.text.items ++ doubled l.bytes
