use Rattle.std.proofs.Common.{◌≡◌, ◌∙◌, Ok, Err, refl, sym, ap, subst, arith}
use Rattle.ext_text.specs.declared.arch.Arch.{Arch}
use Rattle.ext_host.specs.Held.{HeldFile}
use Rattle.ext_host.specs.Planning.{IsBaseTree, ServesHost}
use Rattle.ext_host.specs.Shelf.{Told}
use Rattle.ext_host.specs.declared.host.Host.{Host}
use Rattle.ext_units.specs.Body.{ReadsImage}
use Rattle.ext_port.proofs.ForCallers.{arch_start, base_served, serves_start}
use Rattle.ext_portext.specs.Errors.{portext_err_of_port}
use Rattle.ext_portext.specs.Wants.{AttachesExtended, ExtensionsWant, UnlessMemory}
use Rattle.ext_portext.specs.declared.errors.PortExtErr.{PortExtErr}
use Rattle.ext_portext.proofs.WantsLemmas.{body_for, read_wants, unread_wants}
use Rattle.ext_portext.proofs.attaching.attach_from.Goals as goal

pub body_of-requires : goal.body_of-requires
body_of-requires g c =
    base_served (g.H.Shelf.serves c.args.shelf.now) c.args.start.now c.in_ok-base.base (record { tree = c.pairs-entries.ensures.tree.tree; is_base = c.in_ok-base.ensures })
    (subst (ServesHost (g.H.Shelf.serves c.args.shelf.now)) (sym c.requires.start) (serves_start (g.H.Shelf.serves c.args.shelf.now) c.args.again c.args.ask.now.image c.args.host.now c.requires.serves))

pub returns-in-Err-clause-gives : goal.returns-in-Err-clause-gives
returns-in-Err-clause-gives g c =
    let told = g.H.Shelf.told c.args.shelf.now in
    let old = g.H.Shelf.faults c.args.shelf.now in
    let new = g.H.Shelf.faults c.body_of.new.shelf in
    let host = c.args.host.now in
    let ask = c.args.ask.now in
    let base = c.in_ok-base.base in
    let is_base = subst (λ h. IsBaseTree h base) c.requires.start (record { tree = c.pairs-entries.ensures.tree.tree; is_base = c.in_ok-base.ensures }) in
    let arch : c.args.start.now.arch ≡ host.arch = ap (λ (h : Host). h.arch) c.requires.start ∙ arch_start c.args.again ask.image host in
    let reads = subst (λ (a : Arch). ReadsImage told old new base a ask.image (Err c.in-Err.failed)) arch c.in-Err.ensures.gives in
    subst (λ (e : PortExtErr). UnlessMemory (AttachesExtended told old new c.args.again host ask c.args.extensions.now) (Err e)) (sym (c.from.ensures ∙ ap portext_err_of_port c.from-failed.ensures))
    (unread_wants told old new new c.in-Err.ensures.count c.args.again host ask c.args.extensions.now base is_base refl c.in-Err.failed reads)

pub attach_read-requires-clause-base : goal.attach_read-requires-clause-base
attach_read-requires-clause-base g c = record { tree = c.pairs-entries.ensures.tree.tree; is_base = c.in_ok-base.ensures }

pub attach_read-requires-clause-body : goal.attach_read-requires-clause-body
attach_read-requires-clause-body g c =
    body_for (g.H.Shelf.told c.args.shelf.now) (g.H.Shelf.faults c.args.shelf.now) (g.H.Shelf.faults c.body_of.new.shelf) c.args.start.now c.in_ok-base.base
    (record { tree = c.pairs-entries.ensures.tree.tree; is_base = c.in_ok-base.ensures }) c.args.ask.now.image c.in-Ok.body c.in-Ok.ensures.gives

pub attach_read-requires-clause-serves : goal.attach_read-requires-clause-serves
attach_read-requires-clause-serves g c = λ path attributes held found.
    g.met.H.Shelf.stays_laws.served c.args.shelf.now c.body_of.new.shelf held c.in-Ok.ensures.stays
    ∙ base_served (g.H.Shelf.serves c.args.shelf.now) c.args.start.now c.in_ok-base.base (record { tree = c.pairs-entries.ensures.tree.tree; is_base = c.in_ok-base.ensures })
    (subst (ServesHost (g.H.Shelf.serves c.args.shelf.now)) (sym c.requires.start) (serves_start (g.H.Shelf.serves c.args.shelf.now) c.args.again c.args.ask.now.image c.args.host.now c.requires.serves))
    path attributes held found

pub returns-clause-gives : goal.returns-clause-gives
returns-clause-gives g c =
    let told = g.H.Shelf.told c.args.shelf.now in
    let old = g.H.Shelf.faults c.args.shelf.now in
    let mid = g.H.Shelf.faults c.body_of.new.shelf in
    let new = g.H.Shelf.faults c.attach_read.new.shelf in
    let host = c.args.host.now in
    let ask = c.args.ask.now in
    let base = c.in_ok-base.base in
    let is_base = subst (λ h. IsBaseTree h base) c.requires.start (record { tree = c.pairs-entries.ensures.tree.tree; is_base = c.in_ok-base.ensures }) in
    let arch : c.args.start.now.arch ≡ host.arch = ap (λ (h : Host). h.arch) c.requires.start ∙ arch_start c.args.again ask.image host in
    let same : g.H.Shelf.told c.body_of.new.shelf ≡ told = λ i held. g.met.H.Shelf.stays_laws.tells c.args.shelf.now c.body_of.new.shelf held c.in-Ok.ensures.stays i in
    read_wants told old mid new c.in-Ok.ensures.count c.args.again host ask c.args.extensions.now base is_base c.in-Ok.body
    (subst (λ (a : Arch). ReadsImage told old new base a ask.image (Ok c.in-Ok.body)) arch c.in-Ok.ensures.gives) c.attach_read.result
    (subst (λ (t : HeldFile → Told). UnlessMemory (ExtensionsWant c.args.again host ask t mid new base c.args.extensions.now c.in-Ok.body) c.attach_read.result) same c.attach_read.ensures.gives)

pub returns-clause-stays : goal.returns-clause-stays
returns-clause-stays g c = g.met.H.Shelf.stays_laws.through _ _ _ c.in-Ok.ensures.stays c.attach_read.ensures.stays

pub returns-clause-count : goal.returns-clause-count
returns-clause-count g c = omega (arith, c.in-Ok.ensures.count, c.attach_read.ensures.count)
