use Rattle.ext_tree.proofs.EntryLineLemmas.{no_content}
use Rattle.ext_tree.proofs.entry_line.file_of.Goals as goal

pub returns-in_default-split_from : goal.returns-in_default-split_from
returns-in_default-split_from g c =
    let found = rw c.in-Some.is at c.in_ok-split.ensures in
    no_content g.C.LineContent.form c.args.fields.now _ _ found.0 found.1 c.in_default-split_from.ensures
