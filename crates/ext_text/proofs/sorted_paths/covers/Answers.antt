use Rattle.std.proofs.Common.{◌∙◌, ap, sym, arith}
use Rattle.ext_text.specs.SortedPaths.{is_among}
use Rattle.ext_text.proofs.SortedPathsLemmas.{covers_at, covers_last}
use Rattle.ext_text.proofs.sorted_paths.covers.Goals as goal

pub returns-then-is_among : goal.returns-then-is_among
returns-then-is_among c = sym (covers_at c.args.paths.now c.args.names.now c.prefixes.count (ap (is_among c.args.paths.now) (sym c.prefix.ensures) ∙ sym c.is_among.ensures ∙ c.if-is_among.true))

pub returns : goal.returns
returns c = c.is_among-2.ensures ∙ covers_last c.args.paths.now c.args.names.now (λ k proper. c.prefixes.invariant k (omega (arith, c.prefixes-test.false)))
