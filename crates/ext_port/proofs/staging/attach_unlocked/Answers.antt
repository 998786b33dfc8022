use Rattle.std.proofs.Common.{None, Some, inl, inr, is_some, refl, sym, subst}
use Rattle.ext_tree.specs.Tree.{lookup}
use Rattle.ext_attached.specs.Least.{IsLeastPassing}
use Rattle.ext_attached.proofs.ForCallers.{least_moved}
use Rattle.ext_added.specs.Tops.{tops_of}
use Rattle.ext_port.specs.Wants.{BlockingWants, StandingWants}
use Rattle.ext_port.proofs.WantsLemmas.{bar_more}
use Rattle.ext_port.proofs.staging.attach_unlocked.Goals as goal

pub returns-in_ok-path-in-Some-clause-gives : goal.returns-in_ok-path-in-Some-clause-gives
returns-in_ok-path-in-Some-clause-gives c =
    let root = c.args.staged.now.start.now.host.now.root in
    inr (
      c.in_ok-path-in-Some.path,
      subst (IsLeastPassing (λ path. is_some (lookup root path)) (tops_of c.args.staged.now.made.now)) (sym c.in_ok-path-in-Some.ensures)
          (least_moved (λ path. is_some (lookup root path)) c.args.tops (tops_of c.args.staged.now.made.now) (Some c.in-Some.path.now) c.requires.tops c.in-Some.ensures),
      refl,
    )

pub returns-in-None-clause-gives : goal.returns-in-None-clause-gives
returns-in-None-clause-gives c =
    let host = c.args.staged.now.start.now.host.now in
    let none = least_moved (λ path. is_some (lookup host.root path)) c.args.tops (tops_of c.args.staged.now.made.now) None c.requires.tops c.in-None.ensures in
    bar_more (BlockingWants host c.args.staged.now.ask.now c.args.staged.now.image.now c.args.staged.now.tree.now c.args.staged.now.made.now)
    (StandingWants host c.args.staged.now.ask.now c.args.staged.now.image.now c.args.staged.now.tree.now c.args.staged.now.made.now)
    (λ r wants. inl (none, wants)) c.attach_free.result c.attach_free.ensures.gives
