use Rattle.std.proofs.Common.{ℕ, Option, refl, sym, subst}
use Rattle.ext_history.specs.Marks.{HasNoMark}
use Rattle.ext_mount.specs.Asking.{LacksTree}
use Rattle.ext_mount.specs.declared.refusal.ImageRefusal.TheVariants.{NoMark}
use Rattle.ext_mount.proofs.generation.tree_asked.Goals as goal

pub returns-in-None-mark_of-clause-err : goal.returns-in-None-mark_of-clause-err
returns-in-None-mark_of-clause-err c =
    subst (λ (m : Option ℕ). LacksTree c.args.host.now m (NoMark c.in-Some.generation)) (sym c.in-Some.is)
    (refl, subst (λ l. HasNoMark l c.in-Some.generation) c.as_slice.ensures c.in-None-mark_of.ensures)
