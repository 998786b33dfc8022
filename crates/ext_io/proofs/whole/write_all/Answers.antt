use Rattle.ext_io.proofs.WholeLemmas.{writes_on}
use Rattle.ext_io.proofs.whole.write_all.Goals as goal

pub pieces-preserved : goal.pieces-preserved
pieces-preserved g c =
    writes_on _ _ _ _ _ _ c.pieces.invariant c.in_ok-at.ensures.within c.in_ok-at.ensures.appended c.in_ok-at.ensures.count
