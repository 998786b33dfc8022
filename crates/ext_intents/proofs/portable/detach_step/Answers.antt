use Rattle.std.proofs.Common.{inl, subst}
use Rattle.ext_intents.specs.Portable.{DetachWants}
use Rattle.ext_intents.proofs.portable.detach_step.Goals as goal

pub returns-in-Ok : goal.returns-in-Ok
returns-in-Ok c = subst (λ name. DetachWants c.args.host.now name c.detached.result) c.bytes.ensures.same (inl (c.in-Ok.plan, c.in-Ok.ensures.gives, c.detached.ensures))
