use Rattle.std.proofs.Common.{rules, not}
use Rattle.std.proofs.lemmas.Fn.{filter_same}
use Rattle.ext_text.specs.SortedPaths.{covers}
use Rattle.ext_tree.proofs.SlicesLemmas.{at_path}
use Rattle.ext_tree.proofs.cut.cut_all_entries.Goals as goal

pub returns : goal.returns
returns g c = filter_same _ (at_path (λ q. not (covers c.args.paths.now q))) _ (λ x b f' h. search rules) _ _ c.retain.ensures.filtered
