use Rattle.std.proofs.Common.{◌≡◌, None, ap, ◌∙◌}
use Rattle.std.proofs.lemmas.Result.{on_ok_weaker}
use Rattle.std.specs.BTreeMap.{insert_entry}
use Rattle.std.specs.FinMap.{find}
use Rattle.ext_index_reader.specs.Homes.{home_cmp, in_order}
use Rattle.ext_index_reader.specs.HomeLists.{all_of}
use Rattle.ext_index_reader.proofs.InOrderLemmas.{in_first, in_second, lacking_first}
use Rattle.ext_index_reader.proofs.homes.Homes.add.Goals as goal

pub push_at-requires-clause-lacking : goal.push_at-requires-clause-lacking
push_at-requires-clause-lacking c = lacking_first c.args.home (all_of c.self.inside.lists.items) c.self.inside.others.entries c.args.self.now c.self.view_is c.requires

pub push_list-requires-clause-lacking : goal.push_list-requires-clause-lacking
push_list-requires-clause-lacking c = lacking_first c.args.home (all_of c.self.inside.lists.items) c.self.inside.others.entries c.args.self.now c.self.view_is c.requires

pub returns-in-Some : goal.returns-in-Some
returns-in-Some c =
    on_ok_weaker c.push_at.result
    (λ is. in_first c.args.home c.args.stamp (all_of c.self.inside.lists.items) (all_of c.push_at.new.lists.items) c.self.inside.others.entries is
    ∙ ap (λ s. insert_entry home_cmp s c.args.home c.args.stamp) c.self.view_is)
    c.push_at.ensures.ok

pub returns-then-len-lt-MOST_LISTS : goal.returns-then-len-lt-MOST_LISTS
returns-then-len-lt-MOST_LISTS c =
    on_ok_weaker c.push_list.result
    (λ is. in_first c.args.home c.args.stamp (all_of c.self.inside.lists.items) (all_of c.push_list.new.lists.items) c.self.inside.others.entries is
    ∙ ap (λ s. insert_entry home_cmp s c.args.home c.args.stamp) c.self.view_is)
    c.push_list.ensures.ok

pub returns : goal.returns
returns c =
    let lists = all_of c.self.inside.lists.items in
    let none : find home_cmp c.args.home lists ≡ None = lacking_first c.args.home lists c.self.inside.others.entries c.args.self.now c.self.view_is c.requires in
    ap (in_order lists) c.in_ok-insert.ensures.entries ∙ in_second c.args.home c.args.stamp lists c.self.inside.others.entries none
    ∙ ap (λ s. insert_entry home_cmp s c.args.home c.args.stamp) c.self.view_is
