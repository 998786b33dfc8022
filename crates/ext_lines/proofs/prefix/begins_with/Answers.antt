use Rattle.ext_lines.proofs.PrefixLemmas.{prefix_taken, taken_prefix}
use Rattle.ext_lines.proofs.prefix.begins_with.Goals as goal

pub returns-then-prefix-text : goal.returns-then-prefix-text
returns-then-prefix-text c = (
  λ true. taken_prefix c.args.prefix.now c.args.text.now (c.has_first.ensures.0 true),
  λ prefix. c.has_first.ensures.1 (prefix_taken c.args.prefix.now c.args.text.now prefix),
)
