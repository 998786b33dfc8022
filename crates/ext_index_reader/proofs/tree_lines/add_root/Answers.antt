use Rattle.ext_index_reader.proofs.TreeLemmas.{added_root, not_root, root_fits}
use Rattle.ext_index_reader.proofs.tree_lines.add_root.Goals as goal

pub returns-then-not-may_follow : goal.returns-then-not-may_follow
returns-then-not-may_follow c =
    let enters = rw c.in-Some.is at c.in_ok-entered.ensures in
    not_root c.args.generation c.args.so_far.now c.args.line.now c.entered.new.so_far c.in-Some.path c.in-Some.entry enters c.entered.new.so_far c.may_follow.result c.may_follow.ensures c.if-not-may_follow.true

pub push-requires : goal.push-requires
push-requires c =
    let enters = rw c.in-Some.is at c.in_ok-entered.ensures in
    root_fits c.args.generation c.args.so_far.now c.args.line.now c.entered.new.so_far c.in-Some.path c.in-Some.entry enters ((c.may_follow.ensures c.in-Some.entry).0 c.if-not-may_follow.false)

pub returns-in_ok-push-in-Some : goal.returns-in_ok-push-in-Some
returns-in_ok-push-in-Some c =
    let enters = rw c.in-Some.is at c.in_ok-entered.ensures in
    added_root c.args.generation c.args.so_far.now c.args.line.now c.entered.new.so_far c.in-Some.path c.in-Some.entry enters _ ((c.may_follow.ensures c.in-Some.entry).0 c.if-not-may_follow.false)
    (λ i. record c.entered.new.so_far { parts = record c.entered.new.so_far.parts { root = c.in_ok-push-in-Some.ensures i } })
