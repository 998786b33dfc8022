use Rattle.std.proofs.Common.{◌∙◌, ◌++◌, ◌∷◌, [], IfSome, ap, arith, refl, subst, sym}
use Rattle.std.proofs.lemmas.Result.{err_from_is_err_and}
use Rattle.std.specs.Prelude.{IfErr}
use Rattle.ext_disk.proofs.ForCallers.{rests_itself, spares_then}
use Rattle.ext_store_files.specs.Writing.{Holds, IsWritten}
use Rattle.ext_published.specs.Published.{text_of_payload}
use Rattle.ext_published.specs.declared.payload.Payload.TheVariants.{Directory, File}
use Rattle.ext_publish.specs.Copying.{HeldCause}
use Rattle.ext_publish.specs.Filling.{EndsFilled, FilesCause, IsPublishedFileOf, IsReadable, is_filled_at}
use Rattle.ext_publish.specs.Stopping.{OutCause}
use Rattle.ext_publish.proofs.FilesLemmas.{err_map}
use Rattle.ext_publish.proofs.FilledLemmas.{fill_cause_file, fill_cause_out, fill_cause_since, filled_file, filled_tree, filling_begins, has_files, may_make_resource, may_make_text, nowhere_spares, resource_spares, text_spares}
use Rattle.ext_publish.proofs.filling.fill.Goals as goal

pub copy_held-requires-clause-free : goal.copy_held-requires-clause-free
copy_held-requires-clause-free g c = may_make_resource c.args.asked.now c.args.places.now.resource (g.O.Disk.state c.args.out.now) c.requires.places.resource c.requires.open

pub copy_held-requires-clause-served : goal.copy_held-requires-clause-served
copy_held-requires-clause-served g c =
    let held = c.in-File.held in
    c.requires.readable held (subst (λ p. IsPublishedFileOf p held) (sym c.in-File.is) refl)

pub returns-in-File-clause-spares : goal.returns-in-File-clause-spares
returns-in-File-clause-spares g c =
    resource_spares c.args.asked.now c.args.places.now.resource (g.O.Disk.state c.args.out.now) (g.O.Disk.state c.copy_held.new.out) c.requires.places.resource c.copy_held.ensures.works.spares

pub returns-in-File-clause-filled : goal.returns-in-File-clause-filled
returns-in-File-clause-filled g c =
    let asked = c.args.asked.now in
    let store = g.D.Disk.state c.args.store.now in
    let new = g.O.Disk.state c.copy_held.new.out in
    subst (λ p. EndsFilled c.copy_held.result store asked p new) (sym c.in-File.is)
    (filled_file _ c.copy_held.result asked store new c.in-File.held c.args.places.now.resource c.requires.places.resource c.copy_held.ensures.copied)

pub returns-in-File-clause-cause : goal.returns-in-File-clause-cause
returns-in-File-clause-cause g c =
    let held = c.in-File.held in
    let store = g.D.Disk.state c.args.store.now in
    let after = g.D.Disk.state c.copy_held.new.store in
    let old = g.O.Disk.state c.args.out.now in
    let new = g.O.Disk.state c.copy_held.new.out in
    subst (λ p. IfErr c.copy_held.result (FilesCause p store after old new)) (sym c.in-File.is)
    (err_map _ c.copy_held.result (HeldCause held store after old new) (FilesCause (File held) store after old new) (λ stop cause. fill_cause_file held store after old new stop cause) c.copy_held.ensures.cause)

pub write_text-requires : goal.write_text-requires
write_text-requires g c = may_make_text c.args.asked.now c.args.places.now.text (g.O.Disk.state c.args.out.now) c.requires.places.text c.requires.open

pub returns-in_err-write_text-in-Directory-clause-spares : goal.returns-in_err-write_text-in-Directory-clause-spares
returns-in_err-write_text-in-Directory-clause-spares g c =
    text_spares c.args.asked.now c.args.places.now.text (g.O.Disk.state c.args.out.now) (g.O.Disk.state c.write_text.new.out) c.requires.places.text c.in_err-write_text-in-Directory.ensures.works.spares

pub returns-in_err-write_text-in-Directory-clause-rests : goal.returns-in_err-write_text-in-Directory-clause-rests
returns-in_err-write_text-in-Directory-clause-rests g c = rests_itself (g.D.Disk.state c.args.store.now)

pub returns-in_err-write_text-in-Directory-clause-filled : goal.returns-in_err-write_text-in-Directory-clause-filled
returns-in_err-write_text-in-Directory-clause-filled g c =
    let p = err_from_is_err_and c.from_residual.result c.from_residual.ensures.1 in
    subst (λ r. EndsFilled r (g.D.Disk.state c.args.store.now) c.args.asked.now c.args.payload.now (g.O.Disk.state c.write_text.new.out)) (sym p.1) tt

pub returns-in_err-write_text-in-Directory-clause-cause : goal.returns-in_err-write_text-in-Directory-clause-cause
returns-in_err-write_text-in-Directory-clause-cause g c =
    let old = g.O.Disk.state c.args.out.now in
    let p = err_from_is_err_and c.from_residual.result c.from_residual.ensures.1 in
    rw (p.1, p.2) (fill_cause_out c.args.payload.now (g.D.Disk.state c.args.store.now) (g.D.Disk.state c.args.store.now) old old (g.O.Disk.state c.write_text.new.out) _ (omega arith) c.in_err-write_text-in-Directory.ensures.cause)

pub write_files-requires-clause-below : goal.write_files-requires-clause-below
write_files-requires-clause-below g c = (c.args.asked.now.name, c.requires.places.resource ∙ ap (λ f. f ++ c.args.asked.now.name ∷ []) (sym c.folder.ensures.same))

pub write_files-requires-clause-readable : goal.write_files-requires-clause-readable
write_files-requires-clause-readable g c = subst (λ p. IsReadable p) c.in-Directory.is c.requires.readable

pub write_files-requires-clause-free : goal.write_files-requires-clause-free
write_files-requires-clause-free g c =
    filling_begins c.args.asked.now (g.D.Disk.state c.args.store.now) (g.O.Disk.state c.args.out.now) (g.O.Disk.state c.write_text.new.out) c.folder.result.now c.args.places.now.text c.args.places.now.resource c.in-Directory.tree
    c.folder.ensures.same c.requires.places.text c.requires.places.resource c.requires.open c.in_ok-write_text-in-Directory.ensures.works

pub returns-in_err-write_files-in-Directory-clause-spares : goal.returns-in_err-write_files-in-Directory-clause-spares
returns-in_err-write_files-in-Directory-clause-spares g c =
    let asked = c.args.asked.now in
    let old = g.O.Disk.state c.args.out.now in
    let mid = g.O.Disk.state c.write_text.new.out in
    let new = g.O.Disk.state c.write_files.new.out in
    spares_then (is_filled_at asked) old mid new (text_spares asked c.args.places.now.text old mid c.requires.places.text c.in_ok-write_text-in-Directory.ensures.works.spares)
    (resource_spares asked c.args.places.now.resource mid new c.requires.places.resource c.in_err-write_files-in-Directory.ensures.spares)

pub returns-in_err-write_files-in-Directory-clause-filled : goal.returns-in_err-write_files-in-Directory-clause-filled
returns-in_err-write_files-in-Directory-clause-filled g c =
    let p = err_from_is_err_and c.from_residual-in_err-write_files-in-Directory.result c.from_residual-in_err-write_files-in-Directory.ensures.1 in
    subst (λ r. EndsFilled r (g.D.Disk.state c.args.store.now) c.args.asked.now c.args.payload.now (g.O.Disk.state c.write_files.new.out)) (sym p.1) tt

pub returns-in_err-write_files-in-Directory-clause-cause : goal.returns-in_err-write_files-in-Directory-clause-cause
returns-in_err-write_files-in-Directory-clause-cause g c =
    let store = g.D.Disk.state c.args.store.now in
    let after = g.D.Disk.state c.write_files.new.store in
    let old = g.O.Disk.state c.args.out.now in
    let mid = g.O.Disk.state c.write_text.new.out in
    let new = g.O.Disk.state c.write_files.new.out in
    let p = err_from_is_err_and c.from_residual-in_err-write_files-in-Directory.result c.from_residual-in_err-write_files-in-Directory.ensures.1 in
    rw (p.1, p.2) (subst (λ q. FilesCause q store after old new c.in_err-write_files-in-Directory.field-0.0) (sym c.in-Directory.is)
    (fill_cause_since (Directory c.in-Directory.tree) store after old mid new _ c.in_ok-write_text-in-Directory.ensures.works.spares.follows.count c.in_err-write_files-in-Directory.ensures.cause))

pub sync_parents-requires : goal.sync_parents-requires
sync_parents-requires g c =
    has_files (g.D.Disk.state c.args.store.now) c.folder.result.now c.args.places.now.resource c.in-Directory.tree (g.O.Disk.state c.write_files.new.out) c.in_ok-write_files-in-Directory.ensures.filled

pub returns-in_ok-write_files-in-Directory-clause-spares : goal.returns-in_ok-write_files-in-Directory-clause-spares
returns-in_ok-write_files-in-Directory-clause-spares g c =
    let asked = c.args.asked.now in
    let old = g.O.Disk.state c.args.out.now in
    let first = g.O.Disk.state c.write_text.new.out in
    let mid = g.O.Disk.state c.write_files.new.out in
    let new = g.O.Disk.state c.sync_parents.new.out in
    spares_then (is_filled_at asked) old mid new
    (spares_then (is_filled_at asked) old first mid (text_spares asked c.args.places.now.text old first c.requires.places.text c.in_ok-write_text-in-Directory.ensures.works.spares)
    (resource_spares asked c.args.places.now.resource first mid c.requires.places.resource c.in_ok-write_files-in-Directory.ensures.spares))
    (nowhere_spares asked mid new c.sync_parents.ensures.works.spares)

pub returns-in_ok-write_files-in-Directory-clause-filled : goal.returns-in_ok-write_files-in-Directory-clause-filled
returns-in_ok-write_files-in-Directory-clause-filled g c =
    let asked = c.args.asked.now in
    let store = g.D.Disk.state c.args.store.now in
    let first = g.O.Disk.state c.write_text.new.out in
    let mid = g.O.Disk.state c.write_files.new.out in
    let new = g.O.Disk.state c.sync_parents.new.out in
    let tree = c.in-Directory.tree in
    subst (λ p. EndsFilled c.sync_parents.result store asked p new) (sym c.in-Directory.is)
    (filled_tree _ c.sync_parents.result asked store first mid new c.folder.result.now c.args.places.now.text c.args.places.now.resource tree c.folder.ensures.same c.requires.places.text c.requires.places.resource
    (subst (λ o. IfSome o (λ text. Holds (IsWritten c.args.places.now.text text) first)) (c.requires.text ∙ ap text_of_payload c.in-Directory.is) c.in_ok-write_text-in-Directory.ensures.written)
    c.in_ok-write_files-in-Directory.ensures.spares c.in_ok-write_files-in-Directory.ensures.filled c.sync_parents.ensures.works c.sync_parents.ensures.named)

pub returns-in_ok-write_files-in-Directory-clause-cause : goal.returns-in_ok-write_files-in-Directory-clause-cause
returns-in_ok-write_files-in-Directory-clause-cause g c =
    let payload = c.args.payload.now in
    let store = g.D.Disk.state c.args.store.now in
    let after = g.D.Disk.state c.write_files.new.store in
    let old = g.O.Disk.state c.args.out.now in
    let first = g.O.Disk.state c.write_text.new.out in
    let mid = g.O.Disk.state c.write_files.new.out in
    let new = g.O.Disk.state c.sync_parents.new.out in
    let one = c.in_ok-write_text-in-Directory.ensures.works.spares.follows.count in
    let two = c.in_ok-write_files-in-Directory.ensures.spares.follows.count in
    err_map _ c.sync_parents.result (OutCause mid new) (FilesCause payload store after old new) (λ stop cause. fill_cause_out payload store after old mid new stop (omega (arith, one, two)) cause) c.sync_parents.ensures.cause
