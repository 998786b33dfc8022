use Rattle.std.proofs.Common.{None, Some, sym, subst}
use Rattle.ext_host.specs.ReadOnly.{is_read_only}
use Rattle.ext_attached.specs.Going.{cut_paths}
use Rattle.ext_attached.specs.Least.{IsLeastPassing}
use Rattle.ext_attached.specs.declared.going.By.TheVariants.{Name}
use Rattle.ext_attached.proofs.LeastLemmas.{least_moved}
use Rattle.ext_attached.proofs.detaching.detach_paths.Goals as goal

pub returns-in_ok-path-in-Some : goal.returns-in_ok-path-in-Some
returns-in_ok-path-in-Some c =
    let test = is_read_only c.args.host.now in
    let paths = cut_paths Name c.args.name.now c.args.host.now in (
      c.requires.attached,
      subst (IsLeastPassing test paths) (sym c.in_ok-path-in-Some.ensures)
          (least_moved test c.args.cut.now paths (Some c.in-Some.path.now) c.requires.cut c.in-Some.ensures),
    )

pub returns-in_ok-next-in-None : goal.returns-in_ok-next-in-None
returns-in_ok-next-in-None c =
    let test = is_read_only c.args.host.now in
    let paths = cut_paths Name c.args.name.now c.args.host.now in (
      c.requires.attached,
      least_moved test c.args.cut.now paths None c.requires.cut c.in-None.ensures,
      c.in_ok-next-in-None.ensures,
    )
