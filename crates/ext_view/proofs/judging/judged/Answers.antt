use Rattle.std.proofs.Common.{rules}
use Rattle.ext_view.specs.Image.{HasReleaseFile}
use Rattle.ext_view.proofs.ImageLemmas.{release_found, release_has, release_served}
use Rattle.ext_view.proofs.judging.judged.Goals as goal

pub release_file-held-requires : goal.release_file-held-requires
release_file-held-requires g c =
    release_found c.args.look.now.base.now c.args.look.now.class c.args.place.now c.args.name.now c.args.release.now c.requires.leads

pub bytes-requires : goal.bytes-requires
bytes-requires g c =
    release_served (g.H.Shelf.serves c.args.shelf.now) c.args.look.now.base.now c.args.look.now.class c.args.place.now c.args.name.now c.release_file-held.result.now c.requires.serves
    (release_has c.args.look.now.base.now c.args.look.now.class c.args.place.now c.args.name.now c.args.release.now c.release_file-held.result.now c.requires.leads c.release_file-held.ensures)

pub returns-in_err-text-clause-gives : goal.returns-in_err-text-clause-gives
returns-in_err-text-clause-gives g c =
    let has : HasReleaseFile c.args.look.now.base.now c.args.look.now.class c.args.place.now c.args.name.now c.release_file-held.result.now =
    release_has c.args.look.now.base.now c.args.look.now.class c.args.place.now c.args.name.now c.args.release.now c.release_file-held.result.now c.requires.leads c.release_file-held.ensures
    in
    search rules

pub returns-clause-gives : goal.returns-clause-gives
returns-clause-gives g c =
    let has : HasReleaseFile c.args.look.now.base.now c.args.look.now.class c.args.place.now c.args.name.now c.release_file-held.result.now =
    release_has c.args.look.now.base.now c.args.look.now.class c.args.place.now c.args.name.now c.args.release.now c.release_file-held.result.now c.requires.leads c.release_file-held.ensures
    in
    search rules
