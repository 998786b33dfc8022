use Rattle.std.proofs.Common.{◌≡◌, None, not, sym, subst, ap, ◌∙◌}
use Rattle.std.specs.List.{AllByRecursion}
use Rattle.std.specs.FinMap.{is_sorted}
use Rattle.ext_text.specs.Path.{path_cmp}
use Rattle.ext_tree.specs.Tree.{lookup}
use Rattle.ext_host.specs.Host.{is_in}
use Rattle.ext_view.proofs.InsideLemmas.{sorted_where}
use Rattle.ext_view.proofs.ReplacedLemmas.{apart_outside}
use Rattle.ext_view.proofs.replaced.replaced.Goals as goal

pub joined-requires-clause-first_sorted : goal.joined-requires-clause-first_sorted
joined-requires-clause-first_sorted c =
    ap (is_sorted path_cmp) c.in_ok-others.ensures ∙ sorted_where (λ p. not (is_in c.args.hierarchies.now p)) c.args.old.now c.requires.old_sorted

pub joined-requires-clause-apart : goal.joined-requires-clause-apart
joined-requires-clause-apart c =
    subst (AllByRecursion (λ e. lookup c.args.new.items e.0 ≡ None)) (sym c.in_ok-others.ensures) (apart_outside c.args.hierarchies.now c.args.old.now c.args.new.items c.requires.inside)
