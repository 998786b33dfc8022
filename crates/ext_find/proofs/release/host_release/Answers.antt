use Rattle.std.proofs.Common.{subst}
use Rattle.ext_find.specs.HostRelease.{ReleaseFileAt}
use Rattle.ext_find.proofs.ReleaseLemmas.{served}
use Rattle.ext_find.proofs.release.host_release.Goals as goal

pub read_held-requires : goal.read_held-requires
read_held-requires g c =
    served (g.H.Shelf.serves c.args.shelf.now) c.args.base.now c.in-Some.held.now c.requires (subst (ReleaseFileAt c.args.base.now) c.in-Some.is c.in_ok-release_file.ensures)
