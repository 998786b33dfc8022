use Rattle.std.proofs.Common.{◌∙◌, ap, sym}
use Rattle.ext_tree.specs.Slices.{is_named}
use Rattle.ext_tree.proofs.SlicesLemmas.{named_apart, named_rest}
use Rattle.ext_tree.proofs.slices.begins_named.Goals as goal

pub returns-in-None : goal.returns-in-None
returns-in-None c = sym (named_apart c.args.directory.now c.args.start.now c.args.names.now c.in-None.ensures)

pub returns-in-Some : goal.returns-in-Some
returns-in-Some c =
    c.first_begins.ensures
    ∙ sym (ap (is_named c.args.directory.now c.args.start.now) c.in-Some.ensures ∙ named_rest c.args.directory.now c.args.start.now c.in-Some.rest)
