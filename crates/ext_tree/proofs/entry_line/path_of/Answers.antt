use Rattle.std.proofs.Common.{sym, ⊎_elim}
use Rattle.std.proofs.lemmas.Bool.{eqb-true}
use Rattle.ext_text.proofs.ForCallers.{no_path, path_not_empty}
use Rattle.ext_tree.proofs.entry_line.path_of.Goals as goal

pub returns-then-is_empty : goal.returns-then-is_empty
returns-then-is_empty c = λ p is some e. path_not_empty p _ is some (eqb-true _ 0 (sym c.if-is_empty.ensures)) e

pub returns-in-TooLong : goal.returns-in-TooLong
returns-in-TooLong c = λ p is some e. no_path _ c.in-Err.refused c.in-Err.ensures (λ memory. ⊎_elim (λ long. (cc)) (λ other. ⊎_elim (λ deep. (cc)) (λ name. (cc)) other) c.in-TooLong.is) p is e
