use Rattle.std.proofs.Common.{rules, sym, ◌-◌, length}
use Rattle.std.proofs.lemmas.Bool.{OnTrue_from}
use Rattle.ext_tree.proofs.TreeLemmas.{directory_of}
use Rattle.ext_tree.proofs.insertion_point.holds_last.Goals as goal

pub returns-in-Some : goal.returns-in-Some
returns-in-Some g c =
    OnTrue_from _ _ (λ same. directory_of c.args.entries.now (length c.args.entries.now - 1) c.in-Some.field-0.now c.args.names.now c.requires (sym c.in-Some.ensures.value) (search rules))
