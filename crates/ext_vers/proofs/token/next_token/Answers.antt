use Rattle.std.proofs.Common.{◌∙◌, sym, refl, arith}
use Rattle.ext_vers.specs.Version.{Tilde, Dash, Caret, Dot}
use Rattle.ext_vers.proofs.TokenLemmas.{end_next, mark_next, number_next, letters_next}
use Rattle.ext_vers.proofs.token.next_token.Goals as goal

pub returns-in_default : goal.returns-in_default
returns-in_default c = end_next c.args.text.now c.after_separators-start.result.now c.after_separators-start.ensures (omega arith)

pub returns-in-126 : goal.returns-in-126
returns-in-126 c = mark_next c.args.text.now c.after_separators-start.result.now Tilde 126 c.after_separators-start.ensures (omega arith) c.in-126.is (λ bs. refl) tt

pub returns-in-45 : goal.returns-in-45
returns-in-45 c = mark_next c.args.text.now c.after_separators-start.result.now Dash 45 c.after_separators-start.ensures (omega arith) c.in-45.is (λ bs. refl) tt

pub returns-in-94 : goal.returns-in-94
returns-in-94 c = mark_next c.args.text.now c.after_separators-start.result.now Caret 94 c.after_separators-start.ensures (omega arith) c.in-94.is (λ bs. refl) tt

pub returns-in-46 : goal.returns-in-46
returns-in-46 c = mark_next c.args.text.now c.after_separators-start.result.now Dot 46 c.after_separators-start.ensures (omega arith) c.in-46.is (λ bs. refl) tt

pub returns-in_default-first : goal.returns-in_default-first
returns-in_default-first c =
    number_next c.args.text.now c.after_separators-start.result.now c.split_at.result.0.now c.split_at.result.1.now c.digits_len.result c.after_separators-start.ensures (omega arith)
    (sym c.is_digit.ensures ∙ c.if-is_digit.true) c.digits_len.ensures.prefix c.split_at.ensures.front c.split_at.ensures.back

pub returns-in_default-2 : goal.returns-in_default-2
returns-in_default-2 c =
    letters_next c.args.text.now c.after_separators-start.result.now c.split_at-in_default-2.result.0.now c.split_at-in_default-2.result.1.now c.letters_len.result c.after_separators-start.ensures (omega arith)
    (sym c.is_digit.ensures ∙ c.if-is_digit.false) (λ e. omega arith) (λ e. omega arith) (λ e. omega arith) (λ e. omega arith) c.letters_len.ensures.prefix c.split_at-in_default-2.ensures.front c.split_at-in_default-2.ensures.back
