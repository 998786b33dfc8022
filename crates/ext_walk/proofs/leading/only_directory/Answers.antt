use Rattle.std.proofs.Common.{[], Some, None, sym, ◌∙◌, subst}
use Rattle.ext_walk.specs.Walk.{ResolvesIn}
use Rattle.ext_walk.proofs.EndLemmas.{resolves_whole}
use Rattle.ext_walk.proofs.LeadsLemmas.{no_directory, other_directory}
use Rattle.ext_walk.proofs.leading.only_directory.Goals as goal

pub returns-in-None : goal.returns-in-None
returns-in-None g c = λ names led.
    no_directory c.args.tree.now names (resolves_whole c.args.tree.now names None c.pairs-entries.ensures.tree.tree (subst (ResolvesIn c.args.tree.now [] names) c.in-None.is led))

pub returns-then-is_directory_or_root : goal.returns-then-is_directory_or_root
returns-then-is_directory_or_root g c = λ names led.
    (resolves_whole c.args.tree.now names (Some c.in-Some.names) c.pairs-entries.ensures.tree.tree (subst (ResolvesIn c.args.tree.now [] names) c.in-Some.is led), sym c.is_directory_or_root.ensures ∙ c.if-is_directory_or_root.true)

pub returns-else-is_directory_or_root : goal.returns-else-is_directory_or_root
returns-else-is_directory_or_root g c = λ names led.
    other_directory c.args.tree.now names c.in-Some.names (resolves_whole c.args.tree.now names (Some c.in-Some.names) c.pairs-entries.ensures.tree.tree (subst (ResolvesIn c.args.tree.now [] names) c.in-Some.is led)) (sym c.is_directory_or_root.ensures ∙ c.if-is_directory_or_root.false)
