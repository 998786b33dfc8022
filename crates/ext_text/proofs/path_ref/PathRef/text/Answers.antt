use Rattle.std.proofs.Common.{sym, ap, ◌∙◌}
use Rattle.ext_text.specs.Path.{path_text}
use Rattle.ext_text.proofs.CutLemmas.{text_of_parts}
use Rattle.ext_text.proofs.path_ref.PathRef.text.Goals as goal

pub returns-clause-same : goal.returns-clause-same
returns-clause-same c = sym (text_of_parts c.self.inside.text.now) ∙ ap path_text c.self.view_is
