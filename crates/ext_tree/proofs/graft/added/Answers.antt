use Rattle.std.proofs.Common.{◌++◌, ◌-◌, suc, ◌∙◌, map, length, ap}
use Rattle.ext_tree.specs.Grafting.{directories, hung}
use Rattle.ext_tree.proofs.GraftingLemmas.{all_fit}
use Rattle.ext_tree.proofs.graft.added.Goals as goal

pub returns-clause-ok : goal.returns-clause-ok
returns-clause-ok g c = (
  c.in_ok-push_hung.ensures.ok.0 ∙ ap (λ es. es ++ map (hung c.args.path.now) c.args.part.items) (c.in_ok-push_directories.ensures ∙ ap (λ es. es ++ directories c.args.path.now (suc c.args.standing) (length c.args.path.now - c.args.standing)) c.new-new.ensures.items),
  all_fit c.args.path.now c.args.part.items c.in_ok-push_hung.ensures.ok.1,
)
