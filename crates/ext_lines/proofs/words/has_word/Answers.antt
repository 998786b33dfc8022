use Rattle.std.proofs.Common.{rules, ◌∙◌, sym, ap, not}
use Rattle.std.specs.Str.{bytes_eq}
use Rattle.std.proofs.lemmas.Iterator.Search.{any_from_yields_List}
use Rattle.std.proofs.lemmas.Iterator.Splits.{YieldsList-from_slice_split}
use Rattle.ext_lines.specs.Blanks.{is_blank}
use Rattle.ext_lines.proofs.WordsLemmas.{has_word-pieces, has_word-none}
use Rattle.ext_lines.proofs.words.has_word.Goals as goal

pub returns-then-not-is_empty : goal.returns-then-not-is_empty
returns-then-not-is_empty c =
    any_from_yields_List (bytes_eq c.args.word.now) _ _ c.any.result c.any.ensures.ran (YieldsList-from_slice_split _ is_blank c.args.text.now c.split.ensures.rest c.split.ensures.done c.split.ensures.closure (λ x b q h. search rules)) (λ x q k. search rules)
    ∙ has_word-pieces c.args.word.now c.args.text.now (sym c.is_empty.ensures ∙ c.if-not-is_empty.true)

pub returns-else-not-is_empty : goal.returns-else-not-is_empty
returns-else-not-is_empty c =
    ap not c.if-not-is_empty.false ∙ sym (has_word-none c.args.word.now c.args.text.now (sym c.is_empty.ensures ∙ c.if-not-is_empty.false))
