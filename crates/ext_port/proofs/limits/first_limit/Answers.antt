use Rattle.std.proofs.Common.{◌∙◌, ap}
use Rattle.ext_port.specs.Limits.{with_file}
use Rattle.ext_port.proofs.PutLemmas.{limit_is}
use Rattle.ext_port.proofs.limits.first_limit.Goals as goal

pub returns : goal.returns
returns c =
    c.with_file.ensures ∙ ap (with_file c.args.size) c.passed_limit.ensures.same ∙ limit_is c.args.size c.args.root.now c.args.lower.now
