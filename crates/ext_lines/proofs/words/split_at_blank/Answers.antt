use Rattle.std.proofs.Common.{◌+◌, ◌<◌, length, drop, arith}
use Rattle.std.proofs.lemmas.List.{length-drop, take_rest}
use Rattle.ext_lines.specs.Blanks.{is_blank}
use Rattle.ext_lines.proofs.SplitLemmas.{first_part_by, none_at_all, one_part_by, split_at_first}
use Rattle.ext_lines.proofs.words.split_at_blank.Goals as goal

pub returns-in-None : goal.returns-in-None
returns-in-None c = one_part_by is_blank c.args.text.now (none_at_all is_blank c.args.text.now c.in-None.ensures)

pub returns-in-Some : goal.returns-in-Some
returns-in-Some c =
    let within : c.in-Some.index < length c.args.text.now = c.in-Some.ensures.0.high in
    let shorter : length (drop (c.in-Some.index + 1) c.args.text.now) < length c.args.text.now = omega (arith, within, length-drop (c.in-Some.index + 1) c.args.text.now) in
    rw (take_rest c.args.text.now (c.in-Some.index + 1)) (first_part_by is_blank c.args.text.now _ _ _ (split_at_first is_blank c.args.text.now c.in-Some.index c.in-Some.ensures), shorter)
