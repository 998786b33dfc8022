use Rattle.std.proofs.Common.{rules}
use Rattle.ext_tree.proofs.TreeTextLemmas.{no_entry, not_added, not_of_version}
use Rattle.ext_tree.proofs.reading.judge.Goals as goal

pub returns-in-None : goal.returns-in-None
returns-in-None c = no_entry c.args.version c.args.entries.now c.args.line.now c.in_ok-entry_of_line.field-0 (search rules) c.in_ok-entry_of_line.ensures c.in-None.is

pub returns-else-may_add : goal.returns-else-may_add
returns-else-may_add c =
    not_added c.args.version c.args.entries.now c.args.line.now c.in_ok-entry_of_line.field-0 c.in-Some.path c.in-Some.entry c.may_add.result
    c.in_ok-entry_of_line.ensures c.in-Some.is c.may_add.ensures c.if-may_add.false

pub returns-then-not-has_line : goal.returns-then-not-has_line
returns-then-not-has_line c =
    not_of_version c.args.version c.args.entries.now c.args.line.now c.in_ok-entry_of_line.field-0 c.in-Some.path c.in-Some.entry c.has_line.result
    c.in_ok-entry_of_line.ensures c.in-Some.is c.has_line.ensures c.if-not-has_line.true
