use Rattle.std.proofs.Common.{arith}
use Rattle.std.proofs.lemmas.Fmt.{decimal_injective}
use Rattle.ext_lines.proofs.NumbersLemmas.{octal_injective}
use Rattle.ext_lines.proofs.laws.a_number_has_its_own_text.Goals as goal

pub returns-clause-decimal : goal.returns-clause-decimal
returns-clause-decimal c = decimal_injective

pub returns-clause-octal : goal.returns-clause-octal
returns-clause-octal c = λ m n p q e. octal_injective m n (omega arith) (omega arith) e
