use Rattle.std.proofs.Common.{arith}
use Rattle.ext_disk.proofs.ForCallers.{since_past, since_wider, since_now, left_now}
use Rattle.ext_disk.proofs.laws.a_stop_since_a_moment.Goals as goal

pub returns-clause-past : goal.returns-clause-past
returns-clause-past c = since_past

pub returns-clause-later : goal.returns-clause-later
returns-clause-later c = since_wider

pub returns-clause-now : goal.returns-clause-now
returns-clause-now c = λ d t disk. (since_now d t disk, left_now d t d.clock disk (omega arith))
