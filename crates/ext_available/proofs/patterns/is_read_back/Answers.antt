use Rattle.std.proofs.Common.{sym, ap, ◌∙◌}
use Rattle.std.specs.Option.{option_copied}
use Rattle.ext_available.proofs.PatternLemmas.{read_back}
use Rattle.ext_available.proofs.patterns.is_read_back.Goals as goal

pub returns : goal.returns
returns c =
    read_back c.args.patterns.now c.in-Some.first.now c.bytes.result.now c.args.version.now c.args.digest.now.0 c.is_of_version.result
    (sym c.first.ensures.value ∙ ap option_copied c.in-Some.is) (c.bytes.ensures.same ∙ c.in_ok-name.ensures) c.is_of_version.ensures
