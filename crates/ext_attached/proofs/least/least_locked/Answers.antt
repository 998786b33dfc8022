use Rattle.std.proofs.Common.{sym, ap, ◌∙◌}
use Rattle.std.specs.List.{find}
use Rattle.std.specs.Option.{option_copied}
use Rattle.ext_host.specs.ReadOnly.{is_read_only}
use Rattle.ext_attached.proofs.LeastLemmas.{finds_least}
use Rattle.ext_attached.proofs.least.least_locked.Goals as goal

pub returns : goal.returns
returns c =
    finds_least (is_read_only c.args.host.now) c.args.paths.now (option_copied c.first_locked.result) c.as_slice.ensures.sorted
    (ap (find (is_read_only c.args.host.now)) (sym c.as_slice.ensures.same) ∙ sym c.first_locked.ensures)
