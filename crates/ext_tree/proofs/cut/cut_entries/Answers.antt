use Rattle.std.proofs.Common.{rules, not}
use Rattle.std.proofs.lemmas.Fn.{filter_same}
use Rattle.ext_text.specs.Path.{is_prefix}
use Rattle.ext_tree.proofs.SlicesLemmas.{at_path}
use Rattle.ext_tree.proofs.cut.cut_entries.Goals as goal

pub returns : goal.returns
returns g c = filter_same _ (at_path (λ q. not (is_prefix c.args.names.now q))) _ (λ x b f' h. search rules) _ _ c.retain.ensures.filtered
