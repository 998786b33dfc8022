use Rattle.std.proofs.Common.{sym, ◌∙◌}
use Rattle.ext_layer.proofs.OverlayAdvance.{stride_passed}
use Rattle.ext_layer.proofs.overlay.passes_stride.Goals as goal

pub returns-in-Some-clause-passed : goal.returns-in-Some-clause-passed
returns-in-Some-clause-passed g c before =
    let found = c.in-Some.ensures.lookup in
    stride_passed g.L.Lies.sees c.args.upper.now c.args.lower.now c.in-Some.last.now c.requires found.3.0 found.1 (sym c.is_past.ensures ∙ before)
