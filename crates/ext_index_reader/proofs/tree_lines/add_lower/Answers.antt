use Rattle.ext_index_reader.proofs.TreeLemmas.{added_lower, lower_fits, not_lower}
use Rattle.ext_index_reader.proofs.tree_lines.add_lower.Goals as goal

pub returns-then-not-may_be_lower : goal.returns-then-not-may_be_lower
returns-then-not-may_be_lower c =
    let enters = rw c.in-Some.is at c.in_ok-entered.ensures in
    not_lower c.args.generation c.args.so_far.now c.args.line.now c.entered.new.so_far c.in-Some.path c.in-Some.entry enters c.entered.new.so_far c.may_be_lower.result c.may_be_lower.ensures c.if-not-may_be_lower.true

pub push-requires : goal.push-requires
push-requires c =
    let enters = rw c.in-Some.is at c.in_ok-entered.ensures in
    lower_fits c.args.generation c.args.so_far.now c.args.line.now c.entered.new.so_far c.in-Some.path c.in-Some.entry enters ((c.may_be_lower.ensures c.in-Some.entry).0 c.if-not-may_be_lower.false).0

pub returns-in_ok-push-in-Some : goal.returns-in_ok-push-in-Some
returns-in_ok-push-in-Some c =
    let enters = rw c.in-Some.is at c.in_ok-entered.ensures in
    let may = (c.may_be_lower.ensures c.in-Some.entry).0 c.if-not-may_be_lower.false in
    added_lower c.args.generation c.args.so_far.now c.args.line.now c.entered.new.so_far c.in-Some.path c.in-Some.entry enters _ may.0 may.1
    (λ i. record c.entered.new.so_far { parts = record c.entered.new.so_far.parts { lower = c.in_ok-push-in-Some.ensures i } })
