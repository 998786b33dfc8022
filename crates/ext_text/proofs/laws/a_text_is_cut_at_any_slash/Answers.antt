use Rattle.ext_text.proofs.CutLemmas.{cut_at_slash, text_of_names}
use Rattle.ext_text.proofs.laws.a_text_is_cut_at_any_slash.Goals as goal

pub returns-clause-names : goal.returns-clause-names
returns-clause-names c = λ upper lower all. (cut_at_slash upper lower all).names

pub returns-clause-both : goal.returns-clause-both
returns-clause-both c = λ upper lower all. let cut = cut_at_slash upper lower all in (cut.upper, cut.lower)

pub returns-clause-joined : goal.returns-clause-joined
returns-clause-joined c = text_of_names
