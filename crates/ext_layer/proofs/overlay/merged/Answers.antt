use Rattle.std.proofs.Common.{arith}
use Rattle.ext_layer.specs.Item.{all_seen, seen}
use Rattle.ext_layer.proofs.OverlayAdvance.{advance_calls, appended, rest_sorted}
use Rattle.ext_layer.proofs.overlay.merged.Goals as goal

pub insertion_point-index-requires : goal.insertion_point-index-requires
insertion_point-index-requires g c = rest_sorted seen c.uppers.from c.args.lower.now c.split_at.result.1.now c.requires.lower c.split_at.ensures.back

pub uppers-preserved : goal.uppers-preserved
uppers-preserved g c = record {
  within = omega (arith, c.split_at.ensures.back_len, c.split_at-in-uppers.ensures.back_len, c.insertion_point-index.ensures.within, c.count_hidden.ensures.within);
  joined = advance_calls seen c.args.upper.now c.args.lower.now (all_seen c.uppers.merged.items) c.uppers.from c.laid_over.result c.requires.upper c.requires.lower c.uppers-test.true c.item-item.is c.split_at.ensures.back c.split_at-in-uppers.ensures.front c.split_at-in-uppers.ensures.back
      (appended c.uppers.merged.items _ _ _ c.laid_over.result c.in_ok-append.ensures c.in_ok-push.ensures.items) c.insertion_point-index.ensures.count (λ i. (c.laid_over.ensures.path i, c.laid_over.ensures.mark i)) c.count_hidden.ensures.count c.uppers.invariant.joined;
}
