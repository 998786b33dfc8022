use Rattle.std.proofs.Common.{rules}
use Rattle.std.proofs.lemmas.Iterator.{YieldsList-from_slice}
use Rattle.std.proofs.lemmas.Iterator.Search.{all_from_yields_List}
use Rattle.ext_lines.specs.Plain.{is_plain_or_tab}
use Rattle.ext_lines.proofs.plain.are_plain_or_tabs.Goals as goal

pub returns : goal.returns
returns c = all_from_yields_List is_plain_or_tab _ _ c.all.result c.all.ensures.ran (YieldsList-from_slice c.args.bytes.now c.iter.ensures.rest) (λ x b q h. search rules)
