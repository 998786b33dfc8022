use Rattle.std.proofs.Common.{arith, sym, ◌∙◌}
use Rattle.ext_walk.proofs.EndLemmas.{turns_barred, turns_root, turns_up}
use Rattle.ext_walk.proofs.walking.turn_up.Goals as goal

pub returns-then-depth : goal.returns-then-depth
returns-then-depth g c = λ at name is plain above.
    turns_root c.args.tree.now c.args.image.now at c.args.here.now name c.again.result is (omega arith) plain above c.again.ensures

pub returns-then-is_directory_or_root : goal.returns-then-is_directory_or_root
returns-then-is_directory_or_root g c = λ at name is plain above.
    turns_up c.args.tree.now c.args.image.now at c.args.here.now name c.parent.result is (omega arith) plain above (sym c.is_directory_or_root.ensures ∙ c.if-is_directory_or_root.true) c.parent.ensures

pub returns-else-is_directory_or_root : goal.returns-else-is_directory_or_root
returns-else-is_directory_or_root g c = λ at name is plain above.
    turns_barred c.args.tree.now c.args.image.now at c.args.here.now name is (omega arith) plain above (sym c.is_directory_or_root.ensures ∙ c.if-is_directory_or_root.false)
