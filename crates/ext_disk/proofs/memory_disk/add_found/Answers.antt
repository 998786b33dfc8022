use Rattle.std.proofs.Common.{◌≡◌, IfOk, subst}
use Rattle.ext_disk.specs.Deeds.{call_of}
use Rattle.ext_disk.proofs.PastLemmas.{added}
use Rattle.ext_disk.proofs.memory_disk.add_found.Goals as goal

pub returns : goal.returns
returns c = λ call is. added _ _ _ _ _ _ c.in_ok-deed.deed call (subst (λ r. IfOk r (λ x. call ≡ call_of x)) c.in_ok-deed.was is) c.in_ok-add.ensures.given c.in_ok-add.ensures.ok c.in_ok-add.ensures.sum
