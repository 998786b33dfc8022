use Rattle.std.proofs.Common.{refl, arith}
use Rattle.ext_layer.proofs.OverlayAdvance.{rest_sorted, stride_counted}
use Rattle.ext_layer.proofs.overlay.insertion_point.Goals as goal

pub passes_stride-requires : goal.passes_stride-requires
passes_stride-requires g c = rest_sorted g.L.Lies.sees c.strides.passed c.args.lower.now c.split_at.result.1.now c.requires c.split_at.ensures.back

pub strides-preserved : goal.strides-preserved
strides-preserved g c = record {
  within = let far = c.if-passes_stride.ensures.within refl in omega (arith, far, c.split_at.ensures.back_len);
  counted = stride_counted g.L.Lies.sees c.args.upper.now c.args.lower.now c.split_at.result.1.now c.strides.passed c.strides.invariant.counted c.split_at.ensures.back (c.if-passes_stride.ensures.passed refl);
}
