use Rattle.std.proofs.Common.{arith}
use Rattle.ext_tree.specs.Tree.{all_shown}
use Rattle.ext_layer.specs.Overlay.{with_mark}
use Rattle.ext_layer.proofs.LayeredLemmas.{shown_calls, shown_last}
use Rattle.ext_layer.proofs.OverlayAdvance.{rest_sorted}
use Rattle.ext_layer.proofs.layered.visible_merged.Goals as goal

pub insertion_point-index-requires : goal.insertion_point-index-requires
insertion_point-index-requires g c = rest_sorted (λ e. (e.0, with_mark e.1)) c.uppers.from c.args.lower.now c.split_at.result.1.now c.requires.lower c.split_at.ensures.back

pub uppers-preserved : goal.uppers-preserved
uppers-preserved g c = record {
  within = omega (arith, c.split_at.ensures.back_len, c.split_at-in-uppers.ensures.back_len, c.insertion_point-index.ensures.within, c.count_hidden.ensures.within);
  shown = shown_calls c.args.upper.now c.args.lower.now (all_shown c.uppers.pairs.items) c.uppers.from c.laid_over-laid.result c.requires.upper c.requires.lower c.uppers-test.true c.item-item.is c.split_at.ensures.back c.split_at-in-uppers.ensures.front c.split_at-in-uppers.ensures.back c.in_ok-append_visible.ensures c.in_ok-push_visible.ensures c.insertion_point-index.ensures.count (λ i. (c.laid_over-laid.ensures.path i, c.laid_over-laid.ensures.mark i)) c.count_hidden.ensures.count c.uppers.invariant.shown;
}

pub returns : goal.returns
returns g c =
    shown_last c.args.upper.now c.args.lower.now (all_shown c.uppers.pairs.items) c.uppers.item-index c.uppers.from c.uppers-test.false c.split_at-2.ensures.back c.in_ok-append_visible-2.ensures c.uppers.invariant.shown
