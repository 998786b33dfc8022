use Rattle.std.proofs.Common.{sym, ap, ◌∙◌}
use Rattle.std.specs.Option.{option_copied}
use Rattle.ext_host.proofs.ReadOnlyLemmas.{least_of_both, least_of_first, least_of_second}
use Rattle.ext_host.proofs.read_only.least_merged.Goals as goal

pub returns-in-Some-Some : goal.returns-in-Some-Some
returns-in-Some-Some c =
    least_of_both c.args.host.now c.in-Some-Some.a.now c.in-Some-Some.b.now _ c.requires.valid
    (sym c.first_merged-sysext.ensures ∙ ap option_copied c.in-Some-Some.is-0) (sym c.first_merged-confext.ensures ∙ ap option_copied c.in-Some-Some.is-1) c.lesser.ensures

pub returns-in-Some-None : goal.returns-in-Some-None
returns-in-Some-None c =
    least_of_first c.args.host.now c.in-Some-None.a.now c.requires.valid
    (sym c.first_merged-sysext.ensures ∙ ap option_copied c.in-Some-None.is-0) (sym c.first_merged-confext.ensures ∙ ap option_copied c.in-Some-None.is-1)

pub returns-in-None-Some : goal.returns-in-None-Some
returns-in-None-Some c =
    least_of_second c.args.host.now c.in-None-Some.b.now c.requires.valid
    (sym c.first_merged-sysext.ensures ∙ ap option_copied c.in-None-Some.is-0) (sym c.first_merged-confext.ensures ∙ ap option_copied c.in-None-Some.is-1)
