use Rattle.std.proofs.Common.{◌≡◌, ◌∙◌, ◌++◌, IfSome, drop, length, refl, subst, sym}
use Rattle.std.specs.Prelude.{IfErr}
use Rattle.std.proofs.lemmas.Result.{err_from_is_err_and}
use Rattle.ext_text.specs.Path.{is_prefix, parent}
use Rattle.ext_disk.specs.Disk.{BothTold}
use Rattle.ext_disk.proofs.ForCallers.{spares_itself}
use Rattle.ext_publish.specs.Copying.{HeldCause, IsCopyOf}
use Rattle.ext_publish.specs.Filling.{IsOneMore, MayWriteOne}
use Rattle.ext_store_files.specs.HeldFiles.{body_told}
use Rattle.ext_publish.proofs.FilesLemmas.{copy_cause_out, copy_cause_since, err_map, ok_map, one_spares, path_in, way_spares}
use Rattle.ext_publish.proofs.FillingLemmas.{may_make_file, may_make_way, wrote_one}
use Rattle.ext_publish.proofs.filling.write_one.Goals as goal

pub returns-in_err-path-clause-spares : goal.returns-in_err-path-clause-spares
returns-in_err-path-clause-spares g c = spares_itself (is_prefix c.args.resource.now) (g.O.Disk.state c.args.out.now)

pub make_down-requires : goal.make_down-requires
make_down-requires g c =
    let path = c.in_ok-path.path in
    let dir = c.args.folder.now in
    let old = g.O.Disk.state c.args.out.now in
    let names : c.rest.result ≡ drop (length dir) (parent path) = c.rest.ensures ∙ (λ i. drop (c.depth.ensures i) (c.parent.ensures i)) in
    may_make_way dir path c.rest.result dir old refl names (subst (λ p. IfSome old.told (λ d. MayWriteOne dir p d.places)) (sym c.in_ok-path.ensures.longer) c.requires.may)

pub returns-in_err-make_down-clause-spares : goal.returns-in_err-make_down-clause-spares
returns-in_err-make_down-clause-spares g c =
    let path = c.in_ok-path.path in
    let dir = c.args.folder.now in
    let names : c.rest.result ≡ drop (length dir) (parent path) = c.rest.ensures ∙ (λ i. drop (c.depth.ensures i) (c.parent.ensures i)) in
    way_spares _ _ dir c.requires.below.0 c.args.below.now path c.rest.result c.args.resource.now (g.O.Disk.state c.args.out.now) (g.O.Disk.state c.make_down.new.out) c.requires.below.1 c.in_ok-path.ensures.longer names c.in_err-make_down.ensures.makes

pub returns-in_err-make_down-clause-cause : goal.returns-in_err-make_down-clause-cause
returns-in_err-make_down-clause-cause g c =
    let p = err_from_is_err_and c.from_residual-in_err-make_down.result c.from_residual-in_err-make_down.ensures.1 in
    rw (p.1, p.2) (copy_cause_out c.args.held.now (g.D.Disk.state c.args.store.now) (g.O.Disk.state c.args.out.now) (g.O.Disk.state c.make_down.new.out) _ c.in_err-make_down.ensures.cause)

pub copy_held-requires-clause-free : goal.copy_held-requires-clause-free
copy_held-requires-clause-free g c =
    let path = c.in_ok-path.path in
    let dir = c.args.folder.now in
    let old = g.O.Disk.state c.args.out.now in
    let names : c.rest.result ≡ drop (length dir) (parent path) = c.rest.ensures ∙ (λ i. drop (c.depth.ensures i) (c.parent.ensures i)) in
    may_make_file _ _ dir c.requires.below.0 c.args.below.now path c.rest.result old (g.O.Disk.state c.make_down.new.out)
    (path_in dir c.args.resource.now c.args.below.now path c.requires.below.0 c.requires.below.1 c.in_ok-path.ensures.longer) names
    (subst (λ p. IfSome old.told (λ d. MayWriteOne dir p d.places)) (sym c.in_ok-path.ensures.longer) c.requires.may) c.in_ok-make_down.ensures.makes

pub returns-clause-spares : goal.returns-clause-spares
returns-clause-spares g c =
    let path = c.in_ok-path.path in
    let dir = c.args.folder.now in
    let names : c.rest.result ≡ drop (length dir) (parent path) = c.rest.ensures ∙ (λ i. drop (c.depth.ensures i) (c.parent.ensures i)) in
    one_spares _ _ dir c.requires.below.0 c.args.below.now path c.rest.result c.args.resource.now (g.O.Disk.state c.args.out.now) (g.O.Disk.state c.make_down.new.out) (g.O.Disk.state c.copy_held.new.out)
    c.requires.below.1 c.in_ok-path.ensures.longer names c.in_ok-make_down.ensures.makes c.copy_held.ensures.works

pub returns-clause-done : goal.returns-clause-done
returns-clause-done g c =
    let path = c.in_ok-path.path in
    let dir = c.args.folder.now in
    let held = c.args.held.now in
    let store = g.D.Disk.state c.args.store.now in
    let old = g.O.Disk.state c.args.out.now in
    let mid = g.O.Disk.state c.make_down.new.out in
    let new = g.O.Disk.state c.copy_held.new.out in
    let names : c.rest.result ≡ drop (length dir) (parent path) = c.rest.ensures ∙ (λ i. drop (c.depth.ensures i) (c.parent.ensures i)) in
    ok_map _ c.copy_held.result (IsCopyOf (body_told store held.body) held.stamp path new) (BothTold (λ d e. IsOneMore store held (c.args.resource.now ++ c.args.below.now) d.places e.places) old.told new.told)
    (λ copy. subst (λ p. BothTold (λ d e. IsOneMore store held p d.places e.places) old.told new.told) c.in_ok-path.ensures.longer
    (wrote_one _ _ store held dir c.requires.below.0 c.args.below.now path c.rest.result old mid new
    (path_in dir c.args.resource.now c.args.below.now path c.requires.below.0 c.requires.below.1 c.in_ok-path.ensures.longer) names
    (subst (λ p. IfSome old.told (λ d. MayWriteOne dir p d.places)) (sym c.in_ok-path.ensures.longer) c.requires.may) c.in_ok-make_down.ensures.makes (g.met.O.Disk.holds_a_tree c.make_down.new.out) c.copy_held.ensures.works copy))
    c.copy_held.ensures.copied

pub returns-clause-cause : goal.returns-clause-cause
returns-clause-cause g c =
    let held = c.args.held.now in
    let store = g.D.Disk.state c.args.store.now in
    let after = g.D.Disk.state c.copy_held.new.store in
    let old = g.O.Disk.state c.args.out.now in
    let mid = g.O.Disk.state c.make_down.new.out in
    let new = g.O.Disk.state c.copy_held.new.out in
    err_map _ c.copy_held.result (HeldCause held store after mid new) (HeldCause held store after old new)
    (λ stop cause. copy_cause_since held store after old mid new stop c.in_ok-make_down.ensures.makes.follows.count cause) c.copy_held.ensures.cause

pub returns-in_err-path-clause-cause : goal.returns-in_err-path-clause-cause
returns-in_err-path-clause-cause g c =
    let held = c.args.held.now in
    let store = g.D.Disk.state c.args.store.now in
    let old = g.O.Disk.state c.args.out.now in
    let p = err_from_is_err_and c.from_residual.result c.from_residual.ensures.1 in
    subst (λ r. IfErr r (HeldCause held store store old old)) (sym p.1) (subst (HeldCause held store store old old) (sym (p.2 ∙ c.in_err-path.ensures.cause)) tt)
