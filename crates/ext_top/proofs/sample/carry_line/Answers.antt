use Rattle.std.proofs.Common.{Some}
use Rattle.ext_depot.specs.DepotView.{file_at}
use Rattle.ext_disk.specs.Memory.{told_by}
use Rattle.ext_top.proofs.SampleLemmas.{applied_carries}
use Rattle.ext_top.proofs.sample.carry_line.Goals as goal

pub returns-in-Ok-clause-carried : goal.returns-in-Ok-clause-carried
returns-in-Ok-clause-carried c = (
  c.in_ok-command.command,
  c.in_ok-command.ensures,
  applied_carries (Some (file_at c.args.depot.now)) c.in_ok-command.command c.args.opened c.in-Ok.applied (told_by c.args.disk.now.history) (told_by c.apply.new.disk.history) c.in-Ok.ensures.applies,
)
