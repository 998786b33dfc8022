use Rattle.std.proofs.Common.{◌≡◌, ◌∙◌, [], inr, refl, sym, ap, subst}
use Rattle.std.specs.List.{list_any}
use Rattle.ext_updated.specs.Pieces.{MayBePut}
use Rattle.ext_updated.specs.Updated.{IsUpdated}
use Rattle.ext_port.proofs.PutLemmas.{none_of, put_given, put_many}
use Rattle.ext_port.proofs.staging.attach_pieces.Goals as goal

pub updated-requires : goal.updated-requires
updated-requires c =
    subst (λ removed. MayBePut c.args.start.now.host.now.root removed c.args.pieces.items)
    (sym (none_of c.of-none.result (λ test. c.of-none.ensures.same test ∙ ap (list_any test) c.new.ensures.items))) c.requires

pub returns-in-Ok : goal.returns-in-Ok
returns-in-Ok c =
    let host = c.args.start.now.host.now in
    let none : c.of-none.result ≡ [] = none_of c.of-none.result (λ test. c.of-none.ensures.same test ∙ ap (list_any test) c.new.ensures.items) in
    put_given host c.args.ask.now c.args.made.now c.args.pieces.items c.args.tops c.in-Ok.ensures.0 c.in-Ok.root
    (subst (λ removed. IsUpdated host.root removed c.args.pieces.items c.in-Ok.root) none c.in-Ok.ensures.1) c.attach_root.result c.attach_root.ensures

pub returns-in-Err-Path : goal.returns-in-Err-Path
returns-in-Err-Path c =
    let why = rw c.in-Err-Path.field-0-is at c.in-Err-Path.ensures in
    inr (why, refl)

pub returns-in-Err-Limit : goal.returns-in-Err-Limit
returns-in-Err-Limit c =
    let host = c.args.start.now.host.now in
    let none : c.of-none.result ≡ [] = none_of c.of-none.result (λ test. c.of-none.ensures.same test ∙ ap (list_any test) c.new.ensures.items) in
    let why = rw c.in-Err-Limit.field-0-is at c.in-Err-Limit.ensures in
    put_many host c.args.ask.now c.args.made.now c.args.pieces.items c.args.tops why.0 why.1.0
    (subst (λ removed. IsUpdated host.root removed c.args.pieces.items why.1.0) none why.1.1) why.1.2
