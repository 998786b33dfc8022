use Rattle.std.proofs.Common.{rules, is_some, not}
use Rattle.std.proofs.lemmas.Fn.{filter_same}
use Rattle.ext_tree.specs.Tree.{lookup}
use Rattle.ext_tree.proofs.SlicesLemmas.{at_path}
use Rattle.ext_tree.proofs.joining.lacking.Goals as goal

pub returns : goal.returns
returns g c = filter_same _ (at_path (λ q. not (is_some (lookup c.args.old.now q)))) _ (λ x b f' h. search rules) _ _ c.retain.ensures.filtered
