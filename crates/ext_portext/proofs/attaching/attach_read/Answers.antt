use Rattle.std.proofs.Common.{List, Err, sym, subst}
use Rattle.std.specs.List.{AllByRecursion}
use Rattle.ext_host.specs.declared.host.Host.{Host}
use Rattle.ext_units.specs.declared.image.Image.{Image}
use Rattle.ext_port.specs.Given.{AreFilesOf, IsAsked, IsBodyFor}
use Rattle.ext_port.specs.Starting.{start_host}
use Rattle.ext_portext.specs.Extensions.{AreExtending}
use Rattle.ext_portext.specs.Steps.{ReadsExtensions}
use Rattle.ext_portext.specs.Wants.{FittingExtensionsWant, UnlessMemory}
use Rattle.ext_portext.specs.declared.extending.Extending.{Extending}
use Rattle.ext_portext.proofs.WantsLemmas.{extending_files, fitting_wants, unfit_wants}
use Rattle.ext_portext.proofs.attaching.attach_read.Goals as goal

pub read_all-requires-clause-asked : goal.read_all-requires-clause-asked
read_all-requires-clause-asked g c = subst (λ (images : List Image). AllByRecursion IsAsked images) (sym c.as_slice.ensures) c.requires.all_asked

pub attach_fitting-requires-clause-body : goal.attach_fitting-requires-clause-body
attach_fitting-requires-clause-body g c = subst (λ (h : Host). IsBodyFor h c.args.ask.now.image c.args.body.now) c.requires.start c.requires.body

pub attach_fitting-requires-clause-files : goal.attach_fitting-requires-clause-files
attach_fitting-requires-clause-files g c =
    let told = g.H.Shelf.told c.args.shelf.now in
    let base = c.args.base.now in
    let release = c.args.body.now.release in
    let are = subst (λ (images : List Image). AreExtending told c.args.start.now base release images c.in-Ok.fitting) c.as_slice.ensures c.in-Ok.ensures.gives in
    let files = extending_files told c.args.start.now base release c.requires.base c.args.extensions.now c.in-Ok.fitting are in
    subst (λ (xs : List Extending). AllByRecursion (λ (x : Extending). AreFilesOf (start_host c.args.again c.args.ask.now.image c.args.host.now) x.tree) xs) (sym c.as_slice-in-Ok.ensures)
    (subst (λ (h : Host). AllByRecursion (λ (x : Extending). AreFilesOf h x.tree) c.in-Ok.fitting) c.requires.start files)

pub returns-in-Ok-clause-gives : goal.returns-in-Ok-clause-gives
returns-in-Ok-clause-gives g c =
    let told = g.H.Shelf.told c.args.shelf.now in
    let old = g.H.Shelf.faults c.args.shelf.now in
    let new = g.H.Shelf.faults c.read_all.new.shelf in
    let base = c.args.base.now in
    let release = c.args.body.now.release in
    let host = c.args.host.now in
    let ask = c.args.ask.now in
    let are = subst (λ (images : List Image). AreExtending told c.args.start.now base release images c.in-Ok.fitting) c.as_slice.ensures c.in-Ok.ensures.gives in
    fitting_wants told old new c.args.again host ask c.args.extensions.now base c.args.body.now c.in-Ok.fitting
    (subst (λ (h : Host). AreExtending told h base release c.args.extensions.now c.in-Ok.fitting) c.requires.start are) c.attach_fitting.result
    (subst (λ (xs : List Extending). UnlessMemory (FittingExtensionsWant c.args.again host ask c.args.body.now xs) c.attach_fitting.result) c.as_slice-in-Ok.ensures c.attach_fitting.ensures.gives)

pub returns-in-Err-clause-gives : goal.returns-in-Err-clause-gives
returns-in-Err-clause-gives g c =
    let told = g.H.Shelf.told c.args.shelf.now in
    let old = g.H.Shelf.faults c.args.shelf.now in
    let new = g.H.Shelf.faults c.read_all.new.shelf in
    let base = c.args.base.now in
    let release = c.args.body.now.release in
    unfit_wants told old new c.args.again c.args.host.now c.args.ask.now c.args.extensions.now base c.args.body.now c.in-Err.failed
    (subst (λ (h : Host). ReadsExtensions told h base release old new c.args.extensions.now (Err c.in-Err.failed)) c.requires.start
    (subst (λ (images : List Image). ReadsExtensions told c.args.start.now base release old new images (Err c.in-Err.failed)) c.as_slice.ensures c.in-Err.ensures.gives))
