use Rattle.std.proofs.Common.{◌∙◌, ap, arith, refl}
use Rattle.std.specs.Option.{option_map}
use Rattle.ext_sums.specs.Entry.{name_of}
use Rattle.ext_sums.proofs.EntryLemmas.{listed_line, no_digits, short_line}
use Rattle.ext_sums.proofs.entry.entry_of.Goals as goal

pub returns-then-line-lt-DIGITS : goal.returns-then-line-lt-DIGITS
returns-then-line-lt-DIGITS c = short_line c.args.line.now (omega arith)

pub returns-in_err-digest : goal.returns-in_err-digest
returns-in_err-digest c =
    rw c.from_residual.ensures (no_digits c.args.line.now c.split_at.result.0.now c.split_at.ensures.front (λ are. let some = c.in_err-digest.ensures.some.1 are in cc))

pub returns : goal.returns
returns c =
    ap (option_map (λ name. (name, c.in_ok-digest.digest.0))) (c.in_ok-name.ensures ∙ ap name_of c.split_at.ensures.back)
    ∙ listed_line c.args.line.now c.split_at.result.0.now c.in_ok-digest.digest.0 c.split_at.ensures.front (c.in_ok-digest.ensures.some.0 refl) c.in_ok-digest.ensures.value
