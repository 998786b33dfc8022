use Rattle.std.proofs.Common.{length}
use Rattle.ext_layer.proofs.joining.+joined.Given as goal

abbrev pub decreases-joined : goal.decreases-joined
decreases-joined g l = length l.layers.now
