use Rattle.ext_text.proofs.CutLemmas.{rest_step}
use Rattle.ext_text.proofs.path_ref.PathRef.rest.Goals as goal

pub names-preserved : goal.names-preserved
names-preserved c = rest_step c.args.self.now c.names.rest c.in-Some.below c.in-Some._first.now c.names._index c.names.invariant c.in-Some.ensures.0
