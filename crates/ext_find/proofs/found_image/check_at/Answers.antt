use Rattle.std.proofs.Common.{subst}
use Rattle.ext_walk.specs.Leads.{DirectoryAt}
use Rattle.ext_find.proofs.found_image.check_at.Goals as goal

pub returns-in_ok-check_of_image-in-Some : goal.returns-in_ok-check_of_image-in-Some
returns-in_ok-check_of_image-in-Some g c =
    let led = subst (DirectoryAt c.args.search.now.base.now c.args.place.now) c.in-Some.is c.in_ok-directory_at.ensures in
    c.in_ok-check_of_image-in-Some.ensures c.args.place.now led.0 led.1
