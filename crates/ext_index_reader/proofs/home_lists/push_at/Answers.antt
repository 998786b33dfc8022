use Rattle.std.proofs.lemmas.Result.{on_ok_weaker}
use Rattle.ext_index_reader.proofs.HomeListLemmas.{pushed_sorted, with_home}
use Rattle.ext_index_reader.proofs.home_lists.push_at.Goals as goal

pub returns-clause-ok : goal.returns-clause-ok
returns-clause-ok c =
    on_ok_weaker c.push.result
    (λ more. with_home c.args.home c.args.stamp c.args.lists.now.items c.args.index c.index_mut.result.now c.push.new.list c.requires.at_end.0 c.index_mut.ensures.value c.requires.lacking more)
    c.push.ensures.ok

pub returns-clause-sorted : goal.returns-clause-sorted
returns-clause-sorted c =
    pushed_sorted c.push.result c.args.home c.args.stamp c.args.lists.now.items c.args.index c.index_mut.result.now c.push.new.list c.index_mut.ensures.value c.requires.at_end c.requires.lacking c.requires.sorted c.push.ensures.ok c.push.ensures.err
