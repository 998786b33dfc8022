use Rattle.std.proofs.Common.{refl, sym, arith, ◌∙◌}
use Rattle.std.proofs.lemmas.Fmt.{decimal_injective}
use Rattle.ext_cmd.proofs.numbers.read_count.Goals as goal

-- the one numeral of nothing is that of 0
pub returns-in-Some-eq0 : goal.returns-in-Some-eq0
returns-in-Some-eq0 c =
    let read = c.in-Some-eq0.ensures in (
      refl,
      λ it.
          let same = decimal_injective it.value c.in-Some-eq0.field-0 (omega (arith, it.is.1, c.requires)) (omega (arith, read.0, c.requires)) (sym it.same ∙ read.1) in
          omega (arith, same, c.in-Some-eq0.field-0-is, it.is.0),
    )
