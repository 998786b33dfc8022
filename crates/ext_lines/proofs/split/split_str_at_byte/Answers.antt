use Rattle.std.proofs.Common.{eqb, sym}
use Rattle.ext_lines.proofs.SplitLemmas.{none_at_all, split_from_index, split_of-lacks, split_of-split}
use Rattle.ext_lines.proofs.split.split_str_at_byte.Goals as goal

pub returns-in-None-clause-value : goal.returns-in-None-clause-value
returns-in-None-clause-value c = sym (split_of-lacks c.args.byte c.args.text.now (none_at_all (λ x. eqb x c.args.byte) c.args.text.now (rw c.as_bytes.ensures.value at c.in-None.ensures)))

pub returns-in-Some-clause-value : goal.returns-in-Some-clause-value
returns-in-Some-clause-value c = sym (split_of-split c.args.byte c.args.text.now _ _ (split_from_index c.args.byte c.args.text.now c.as_bytes.result.now c.in-Some.index _ _ c.as_bytes.ensures.value c.in-Some.ensures c.split_around.ensures.prefix c.split_around.ensures.after))

pub returns-in-Some-clause-parts : goal.returns-in-Some-clause-parts
returns-in-Some-clause-parts c = split_from_index c.args.byte c.args.text.now c.as_bytes.result.now c.in-Some.index _ _ c.as_bytes.ensures.value c.in-Some.ensures c.split_around.ensures.prefix c.split_around.ensures.after
