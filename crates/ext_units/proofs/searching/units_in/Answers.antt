use Rattle.std.proofs.Common.{◌≡◌, ap, subst, sym, ◌∙◌, arith}
use Rattle.std.specs.List.{filter_map}
use Rattle.ext_units.specs.Kept.{KeepsUnits, earlier_entries, unit_with}
use Rattle.ext_units.specs.TextSet.{is_one_of}
use Rattle.ext_units.specs.Units.{AreUnits}
use Rattle.ext_units.proofs.KeptLemmas.{keeps_none}
use Rattle.ext_units.proofs.UnitLemmas.{if_ok, units_by, units_kept}
use Rattle.ext_units.proofs.searching.units_in.Goals as goal

pub directories-init : goal.directories-init
directories-init g c = keeps_none c.args.tree.now c.in_ok-set.set c.new-kept.result c.new-kept.ensures.empty

pub returns : goal.returns
returns g c =
    let reached : c.directories.index ≡ c.count_of_directories-index-end.result = omega (arith, c.directories-test.false) in
    let kept = c.directories.kept in
    let keeps = subst (λ i. KeepsUnits c.args.tree.now c.in_ok-set.set (earlier_entries i) kept) (reached ∙ c.count_of_directories-index-end.ensures) c.directories.invariant in
    if_ok (λ units. units ≡ filter_map (λ e. unit_with e.0 e.1) kept.entries) (AreUnits c.args.tree.now c.args.prefixes.now) c.units_kept.result
    (λ units same. subst (AreUnits c.args.tree.now c.args.prefixes.now) (sym same)
    (units_by c.args.tree.now c.in_ok-set.set c.args.prefixes.now (λ text. c.in_ok-set.ensures text ∙ ap (λ texts. is_one_of texts text) c.as_slice.ensures)
    (filter_map (λ e. unit_with e.0 e.1) kept.entries) (units_kept c.args.tree.now c.in_ok-set.set kept keeps c.units_kept.ensures.ordered)))
    c.units_kept.ensures.units
