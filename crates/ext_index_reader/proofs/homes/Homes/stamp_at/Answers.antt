use Rattle.std.proofs.Common.{◌≡◌, None, Some, sym, ap, ◌∙◌, subst}
use Rattle.std.specs.Prelude.{IfSome}
use Rattle.std.specs.BTreeMap.{insert_entry, is_at}
use Rattle.std.specs.FinMap.{find}
use Rattle.std.specs.Map.{lookup}
use Rattle.ext_index_reader.specs.Homes.{home_cmp}
use Rattle.ext_index_reader.specs.HomeLists.{all_of}
use Rattle.ext_index_reader.proofs.InOrderLemmas.{again, first_found, second_found}
use Rattle.ext_index_reader.proofs.homes.Homes.stamp_at.Goals as goal

pub returns-in-None-clause-found : goal.returns-in-None-clause-found
returns-in-None-clause-found c =
    let lists = all_of c.self.inside.lists.items in
    let none : None ≡ find home_cmp c.args.home lists = sym c.in-None.is ∙ c.found_in_lists.ensures ∙ ap (λ l. find home_cmp c.args.home (all_of l)) c.as_slice.ensures.value in
    subst (λ s. c.copied.result ≡ lookup (is_at (home_cmp c.args.home)) s) c.self.view_is
    (second_found c.args.home lists c.self.inside.others.entries c.copied.result none (c.copied.ensures ∙ c.get.ensures.value))

pub returns-in-None-clause-again : goal.returns-in-None-clause-again
returns-in-None-clause-again c =
    let lists = all_of c.self.inside.lists.items in
    let none : None ≡ find home_cmp c.args.home lists = sym c.in-None.is ∙ c.found_in_lists.ensures ∙ ap (λ l. find home_cmp c.args.home (all_of l)) c.as_slice.ensures.value in
    subst (λ s. IfSome c.copied.result (λ v. s ≡ insert_entry home_cmp s c.args.home v)) c.self.view_is
    (again c.args.home lists c.self.inside.others.entries c.copied.result
    (second_found c.args.home lists c.self.inside.others.entries c.copied.result none (c.copied.ensures ∙ c.get.ensures.value)))

pub returns-in-Some-clause-found : goal.returns-in-Some-clause-found
returns-in-Some-clause-found c =
    let lists = all_of c.self.inside.lists.items in
    let is : Some c.in-Some.stamp ≡ find home_cmp c.args.home lists = sym c.in-Some.is ∙ c.found_in_lists.ensures ∙ ap (λ l. find home_cmp c.args.home (all_of l)) c.as_slice.ensures.value in
    subst (λ s. Some c.in-Some.stamp ≡ lookup (is_at (home_cmp c.args.home)) s) c.self.view_is
    (first_found c.args.home lists c.self.inside.others.entries c.in-Some.stamp is)

pub returns-in-Some-clause-again : goal.returns-in-Some-clause-again
returns-in-Some-clause-again c =
    let lists = all_of c.self.inside.lists.items in
    let is : Some c.in-Some.stamp ≡ find home_cmp c.args.home lists = sym c.in-Some.is ∙ c.found_in_lists.ensures ∙ ap (λ l. find home_cmp c.args.home (all_of l)) c.as_slice.ensures.value in
    subst (λ s. s ≡ insert_entry home_cmp s c.args.home c.in-Some.stamp) c.self.view_is
    (again c.args.home lists c.self.inside.others.entries (Some c.in-Some.stamp)
    (first_found c.args.home lists c.self.inside.others.entries c.in-Some.stamp is))
