use Rattle.ext_tree.proofs.EntryLineLemmas.{no_path_after}
use Rattle.ext_tree.proofs.entry_line.entry_of_line.Goals as goal

pub returns-in-None : goal.returns-in-None
returns-in-None g c =
    let found = rw c.in-Some.is at c.in_ok-entry.ensures in
    let absent = rw c.in-None.is at c.in_ok-path_of.ensures in
    no_path_after g.C.LineContent.form g.met.C.LineContent.once c.args.line.now c.in-Some.rest.now c.in-Some.entry found.0 found.1 absent
