use Rattle.std.proofs.Common.{arith}
use Rattle.ext_mount.specs.Asked.{mark_option}
use Rattle.ext_mount.proofs.WordLemmas.{zero_is_none}
use Rattle.ext_mount.proofs.words.read_mark.Goals as goal

pub returns-in-Some-eq0 : goal.returns-in-Some-eq0
returns-in-Some-eq0 c = zero_is_none mark_option _ c.in-Some-eq0.field-0 (omega (arith, c.in-Some-eq0.field-0-is)) c.in-Some-eq0.ensures.1
