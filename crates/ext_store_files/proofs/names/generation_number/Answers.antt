use Rattle.std.proofs.Common.{◌≡◌, sym, ◌∙◌, arith}
use Rattle.std.proofs.lemmas.Fmt.{decimal_injective}
use Rattle.ext_store_files.proofs.names.generation_number.Goals as goal

-- the one numeral of a number that is no generation's is that of 0
pub returns-in_default : goal.returns-in_default
returns-in_default c = λ n is same.
    let zero_read : n ≡ c.in-Some.number = decimal_injective n c.in-Some.number (omega (arith, is.1)) (omega (arith, c.in-Some.ensures.0)) (sym same ∙ c.in-Some.ensures.1) in
    omega (arith, zero_read, is.0)
