use Rattle.std.proofs.Common.{sym, subst, ap, ◌∙◌}
use Rattle.std.specs.Prelude.{IsTrue}
use Rattle.std.specs.FinMap.{find, is_sorted}
use Rattle.ext_index_reader.specs.Homes.{home_cmp}
use Rattle.ext_index_reader.proofs.HomeListLemmas.{found_later, found_now, none_of, sorted_at}
use Rattle.ext_index_reader.proofs.home_lists.found_in_lists.Goals as goal

pub found_in-found-requires : goal.found_in-found-requires
found_in-found-requires c =
    subst (λ l. IsTrue (is_sorted home_cmp l)) (sym c.as_slice.ensures.value) (sorted_at c.each.list-index c.args.lists.now c.list-item.result c.each-test.true c.list-item.is c.requires)

pub returns-then-is_some : goal.returns-then-is_some
returns-then-is_some c =
    found_now c.args.home c.each.list-index c.args.lists.now c.list-item.result c.found_in-found.result c.each-test.true c.list-item.is (sym c.is_some.ensures ∙ c.if-is_some.true)
    (c.found_in-found.ensures ∙ ap (find home_cmp c.args.home) c.as_slice.ensures.value) c.each.invariant

pub each-preserved : goal.each-preserved
each-preserved c =
    found_later c.args.home c.each.list-index c.args.lists.now c.list-item.result c.each-test.true c.list-item.is
    (none_of c.found_in-found.result (sym c.is_some.ensures ∙ c.if-is_some.false) ∙ c.found_in-found.ensures ∙ ap (find home_cmp c.args.home) c.as_slice.ensures.value) c.each.invariant
