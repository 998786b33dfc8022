use Rattle.std.proofs.Common.{◌∷◌, ◌++◌, [], ap, ◌∙◌}
use Rattle.ext_index_reader.proofs.HomeListLemmas.{with_list}
use Rattle.ext_index_reader.proofs.home_lists.push_list.Goals as goal

pub returns-clause-ok : goal.returns-clause-ok
returns-clause-ok c =
    with_list c.args.home c.args.stamp c.args.lists.now.items c.push-2.new.self.items c.push.new.list c.requires.lacking c.in_ok-push-2.ensures.items
    (c.in_ok-push.ensures.ok ∙ ap (λ l. l ++ (c.args.home, c.args.stamp) ∷ []) c.new-list.ensures.items)
