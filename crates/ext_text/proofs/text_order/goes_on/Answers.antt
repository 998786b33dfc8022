use Rattle.std.proofs.Common.{◌∙◌, ap, length}
use Rattle.ext_text.specs.PathText.{is_border}
use Rattle.ext_text.proofs.TextOrderLemmas.{goes_apart, goes_from, rest_all}
use Rattle.ext_text.proofs.text_order.goes_on.Goals as goal

pub returns-then-starts_with-clause-same : goal.returns-then-starts_with-clause-same
returns-then-starts_with-clause-same c =
    goes_from c.args.prefix.now c.args.text.now c.starts_with.result c.is_border.result c.starts_with.ensures.value c.if-starts_with.true
    (c.is_border.ensures ∙ ap is_border (rest_all (length c.args.prefix.now) c.args.text.now))

pub returns-else-starts_with-clause-same : goal.returns-else-starts_with-clause-same
returns-else-starts_with-clause-same c = goes_apart c.args.prefix.now c.args.text.now c.starts_with.result c.starts_with.ensures.value c.if-starts_with.false
