use Rattle.std.proofs.Common.{subst}
use Rattle.std.proofs.lemmas.List.{take_all}
use Rattle.ext_explain.specs.Adding.{HaveLinesInOrder}
use Rattle.ext_explain.proofs.LineLemmas.{lines_more, lines_turned}
use Rattle.ext_explain.proofs.explaining.origins_from_top.Goals as goal

pub loop-item-preserved : goal.loop-item-preserved
loop-item-preserved c =
    let added = c.in_ok-push_image.ensures in
    lines_more c.args.base.now c.args.items.now c.loop-item.item-index c.item-item.result c.args.path.now c.loop-item.origins.items c.push_image.new.origins.items c.loop-item-test.true c.item-item.is c.loop-item.invariant added.0 added.1 added.2

pub returns : goal.returns
returns c =
    lines_turned c.args.base.now c.args.items.now c.args.path.now c.loop-item.origins.items c.reverse.new.self.items
    (subst (λ items. HaveLinesInOrder c.args.base.now items c.args.path.now c.loop-item.origins.items) (take_all c.loop-item.item-index c.args.items.now c.loop-item-test.false) c.loop-item.invariant)
    c.reverse.ensures.items
