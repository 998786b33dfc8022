use Rattle.std.proofs.Common.{◌≡◌, ◌<◌, ◌≤◌, length, refl, ap, ◌∙◌, arith}
use Rattle.std.specs.Option.{option_copied}
use Rattle.ext_index.specs.ValidIndex.{most_index_bytes}
use Rattle.ext_text.specs.declared.which.Which.TheVariants as whichs
use Rattle.ext_gen.specs.Preparing.{coming_number}
use Rattle.ext_gen.specs.PreparingIndex.{coming_index}
use Rattle.ext_gen.proofs.PreparingIndexLemmas.{index_shown, limit_is_generations, limit_is_index, limit_is_none}
use Rattle.ext_gen.proofs.preparing.limits.coming_generation.Goals as goal

pub returns-then-coming_size-clause-limit : goal.returns-then-coming_size-clause-limit
returns-then-coming_size-clause-limit c =
    let next = c.args.next.now in
    let same : length (coming_index c.at_most_last-shown.result next) ≡ length (coming_index (coming_number (option_copied c.args.from)) next) =
    ap (λ n. length (coming_index n next)) c.at_most_last-shown.ensures ∙ index_shown c.number_after-number.result next c.number_after-number.ensures.within
    ∙ ap (λ n. length (coming_index n next)) c.number_after-number.ensures.number in
    let long : most_index_bytes < length (coming_index (coming_number (option_copied c.args.from)) next) =
    omega (arith, same, c.coming_size.ensures, c.if-coming_size.true) in
    (whichs.Index, refl, limit_is_index (option_copied c.args.from) next long)

pub returns-then-number-gt-LAST_GENERATION-clause-limit : goal.returns-then-number-gt-LAST_GENERATION-clause-limit
returns-then-number-gt-LAST_GENERATION-clause-limit c =
    let next = c.args.next.now in
    let same : length (coming_index c.at_most_last-shown.result next) ≡ length (coming_index (coming_number (option_copied c.args.from)) next) =
    ap (λ n. length (coming_index n next)) c.at_most_last-shown.ensures ∙ index_shown c.number_after-number.result next c.number_after-number.ensures.within
    ∙ ap (λ n. length (coming_index n next)) c.number_after-number.ensures.number in
    let short : length (coming_index (coming_number (option_copied c.args.from)) next) ≤ most_index_bytes =
    omega (arith, same, c.coming_size.ensures, c.if-coming_size.false) in (
      whichs.Generations,
      refl,
      limit_is_generations (option_copied c.args.from) next short (omega (arith, c.if-number-gt-LAST_GENERATION.true, c.number_after-number.ensures.number)),
    )

pub returns : goal.returns
returns c =
    let next = c.args.next.now in
    let early : coming_number (option_copied c.args.from) ≤ 4294967295 = omega (arith, c.if-number-gt-LAST_GENERATION.false, c.number_after-number.ensures.number) in
    let number : c.at_most_last-shown.result ≡ coming_number (option_copied c.args.from) =
    omega (arith, c.at_most_last-shown.ensures, early, c.number_after-number.ensures.number) in
    let short : length (coming_index c.at_most_last-shown.result next) ≤ most_index_bytes =
    omega (arith, c.coming_size.ensures, c.if-coming_size.false) in
    let also : length (coming_index (coming_number (option_copied c.args.from)) next) ≤ most_index_bytes =
    omega (arith, short, ap (λ n. length (coming_index n next)) number) in
    record {
      number = (
        number,
        (omega (arith, number, c.number_after-number.ensures.number, c.number_after-number.ensures.positive), c.at_most_last-shown.type_inv),
        limit_is_none (option_copied c.args.from) next also early,
        short,
      );
      limit = tt;
    }
