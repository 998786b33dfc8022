use Rattle.std.proofs.Common.{◌++◌, ◌∙◌, ap}
use Rattle.std.specs.List.{list_any}
use Rattle.std.specs.Option.{option_copied}
use Rattle.ext_host.specs.ReadOnly.{is_read_only}
use Rattle.ext_port.proofs.StageLemmas.{least_copied}
use Rattle.ext_port.proofs.staging.least_touched.Goals as goal

pub returns : goal.returns
returns c =
    least_copied (is_read_only c.args.start.now.host.now) c.of-touched.result (c.args.start.now.cut ++ c.args.tops.now)
    (λ test. c.of-touched.ensures.same test ∙ ap (list_any test) (c.in_ok-paths.ensures ∙ (λ i. c.as_slice-2.ensures i ++ c.as_slice-3.ensures.same i)))
    (option_copied c.least_locked-2.result) c.least_locked-2.ensures c.copied-2.result c.copied-2.ensures
