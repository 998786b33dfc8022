use Rattle.std.proofs.Common.{sym, subst}
use Rattle.ext_text.specs.declared.class.Class.TheVariants as classes
use Rattle.ext_find.specs.Image.{ReleaseChecksAs}
use Rattle.ext_find.proofs.ImageLemmas.{configuration_checks, system_checks}
use Rattle.ext_find.proofs.image.check_release.Goals as goal

pub returns-in_ok-system_release-in-Sysext : goal.returns-in_ok-system_release-in-Sysext
returns-in_ok-system_release-in-Sysext g c =
    rw c.in-Sysext.is
    (subst (ReleaseChecksAs c.args.base.now c.args.image.now classes.Sysext c.args.name.now) (sym c.check_of.ensures)
    (system_checks c.args.base.now c.args.image.now c.args.name.now c.in_ok-system_release-in-Sysext.field-0 c.in_ok-system_release-in-Sysext.ensures))

pub returns-in_ok-configuration_release-in-Confext : goal.returns-in_ok-configuration_release-in-Confext
returns-in_ok-configuration_release-in-Confext g c =
    rw c.in-Confext.is
    (subst (ReleaseChecksAs c.args.base.now c.args.image.now classes.Confext c.args.name.now) (sym c.check_of-in-Confext.ensures)
    (configuration_checks c.args.base.now c.args.image.now c.args.name.now c.in_ok-configuration_release-in-Confext.field-0 c.in_ok-configuration_release-in-Confext.ensures))
