use Rattle.std.proofs.Common.{refl, sym, ◌∙◌, arith}
use Rattle.std.proofs.lemmas.Bool.{false≢true}
use Rattle.ext_units.proofs.NameLemmas.{prefix_nowhere, prefix_there}
use Rattle.ext_units.proofs.unit_names.has_prefix.Goals as goal

pub returns-then-has : goal.returns-then-has
returns-then-has c = (
  λ _. prefix_there c.args.prefixes.now c.args.name.now c.bytes.index c.bytes-test.true (sym c.is_unit_separator.ensures ∙ c.if-is_unit_separator.true, sym c.has.ensures ∙ c.if-has.true),
  λ _. refl,
)

pub returns : goal.returns
returns c = (
  λ yes. absurd (false≢true yes),
  λ has. absurd (prefix_nowhere c.args.prefixes.now c.args.name.now (λ k within. c.bytes.invariant k (let past = c.bytes-test.false in omega arith)) has),
)
