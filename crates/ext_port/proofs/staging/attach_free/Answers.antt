use Rattle.std.proofs.Common.{None, Some, inl, inr, refl, sym, subst}
use Rattle.ext_tree.specs.Graft.{is_non_directory_at}
use Rattle.ext_tree.specs.Tree.{lookup}
use Rattle.ext_attached.specs.Least.{IsLeastPassing}
use Rattle.ext_attached.proofs.ForCallers.{least_moved}
use Rattle.ext_added.specs.Tops.{ways_of}
use Rattle.ext_port.specs.Wants.{BlockingWants, FittingWants}
use Rattle.ext_port.proofs.WantsLemmas.{bar_more}
use Rattle.ext_port.proofs.staging.attach_free.Goals as goal

pub attach_open-requires-clause-open : goal.attach_open-requires-clause-open
attach_open-requires-clause-open c =
    least_moved (λ path. is_non_directory_at (lookup c.args.staged.now.start.now.host.now.root path)) c.in_ok-ways.ways (ways_of c.args.staged.now.made.now) None c.in_ok-ways.ensures c.in-None.ensures

pub returns-in_ok-path-in-Some-clause-gives : goal.returns-in_ok-path-in-Some-clause-gives
returns-in_ok-path-in-Some-clause-gives c =
    let root = c.args.staged.now.start.now.host.now.root in
    inr (
      c.in_ok-path-in-Some.path,
      subst (IsLeastPassing (λ path. is_non_directory_at (lookup root path)) (ways_of c.args.staged.now.made.now)) (sym c.in_ok-path-in-Some.ensures)
          (least_moved (λ path. is_non_directory_at (lookup root path)) c.in_ok-ways.ways (ways_of c.args.staged.now.made.now) (Some c.in-Some.path.now) c.in_ok-ways.ensures c.in-Some.ensures),
      refl,
    )

pub returns-in-None-clause-gives : goal.returns-in-None-clause-gives
returns-in-None-clause-gives c =
    let host = c.args.staged.now.start.now.host.now in
    let none = least_moved (λ path. is_non_directory_at (lookup host.root path)) c.in_ok-ways.ways (ways_of c.args.staged.now.made.now) None c.in_ok-ways.ensures c.in-None.ensures in
    bar_more (FittingWants host c.args.staged.now.ask.now c.args.staged.now.image.now c.args.staged.now.tree.now c.args.staged.now.made.now)
    (BlockingWants host c.args.staged.now.ask.now c.args.staged.now.image.now c.args.staged.now.tree.now c.args.staged.now.made.now)
    (λ r wants. inl (none, wants)) c.attach_open.result c.attach_open.ensures.gives
