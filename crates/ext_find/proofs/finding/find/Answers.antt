use Rattle.std.proofs.Common.{◌≡◌, map, subst, sym, ◌∙◌, arith}
use Rattle.ext_find.specs.Found.{AreFound}
use Rattle.ext_find.specs.Keeps.{Keeps, before}
use Rattle.ext_find.specs.Usable.{item_with}
use Rattle.ext_find.proofs.FoundLemmas.{found_of}
use Rattle.ext_find.proofs.KeepsLemmas.{keeps_none}
use Rattle.ext_find.proofs.FoundImageLemmas.{if_ok}
use Rattle.ext_find.proofs.finding.find.Goals as goal

pub directories-init : goal.directories-init
directories-init g c = keeps_none g.C.Measured.size c.args.base.now c.args.class c.args.arch c.args.hierarchies.now c.new-kept.result c.new-kept.ensures.empty

pub returns : goal.returns
returns g c =
    let reached : c.directories.index ≡ c.count_of_directories-index-end.result = omega (arith, c.directories-test.false) in
    if_ok (λ items. items ≡ map (λ e. item_with e.0 e.1) c.directories.kept.entries) (AreFound g.C.Measured.size c.args.base.now c.args.class c.args.arch c.args.hierarchies.now) c.items_of.result
    (λ items same. subst (AreFound g.C.Measured.size c.args.base.now c.args.class c.args.arch c.args.hierarchies.now) (sym same)
    (found_of g.C.Measured.size c.args.base.now c.args.class c.args.arch c.args.hierarchies.now c.directories.kept
    (subst (λ i. Keeps g.C.Measured.size c.args.base.now c.args.class c.args.arch c.args.hierarchies.now (before i) c.directories.kept) (reached ∙ c.count_of_directories-index-end.ensures) c.directories.invariant)
    c.items_of.ensures.ordered))
    c.items_of.ensures.items
