use Rattle.std.proofs.Common.{sym, subst}
use Rattle.ext_sample.specs.Made.{IsTreeOf}
use Rattle.ext_sample.specs.Making.{PutsDirectories}
use Rattle.ext_sample.proofs.TreeLemmas.{tree_of}
use Rattle.ext_sample.proofs.tree.tree_of.Goals as goal

pub from_pairs-requires : goal.from_pairs-requires
from_pairs-requires c =
    (tree_of c.args.files.now c.new-entries.result.entries c.put_files.new.entries.entries c.in_ok-pairs_of.field-0.items c.requires.small c.requires.few c.new-entries.ensures.empty c.in_ok-put_files.ensures
    (subst (λ es. PutsDirectories c.put_files.new.entries.entries es c.args.files.now) (sym c.in_ok-pairs_of.ensures.same) c.in_ok-put_directories.ensures) c.in_ok-pairs_of.ensures.sorted).text.within

pub returns : goal.returns
returns c =
    subst (IsTreeOf c.args.files.now) (sym c.from_pairs.ensures)
    (tree_of c.args.files.now c.new-entries.result.entries c.put_files.new.entries.entries c.in_ok-pairs_of.field-0.items c.requires.small c.requires.few c.new-entries.ensures.empty c.in_ok-put_files.ensures
    (subst (λ es. PutsDirectories c.put_files.new.entries.entries es c.args.files.now) (sym c.in_ok-pairs_of.ensures.same) c.in_ok-put_directories.ensures) c.in_ok-pairs_of.ensures.sorted)
