use Rattle.std.proofs.Common.{◌++◌, ◌∙◌, List, ℕ, arith, ap, get_or, lit<, sym}
use Rattle.std.specs.String.{string_bytes}
use Rattle.ext_release.proofs.ValueLemmas.{other_step, special_low, special_step}
use Rattle.ext_release.proofs.value.push_double_escape.Goals as goal

pub returns-then-is_special-clause-escaped : goal.returns-then-is_special-clause-escaped
returns-then-is_special-clause-escaped c =
    let special = sym c.is_special.ensures ∙ c.if-is_special.true in
    let e = c.in_ok-push.ensures in
    special_step (string_bytes c.args.value.now) (string_bytes c.push.new.self) c.args.text.now c.split_around.result.1.now (get_or c.as_bytes.result.now 0 0) (omega arith) (ap (λ (s : List ℕ). get_or s 0 0) c.as_bytes.ensures.value) special c.split_around.ensures.after
    (e.bytes ∙ ap (λ (xs : List ℕ). string_bytes c.args.value.now ++ xs) (e.ascii (special_low _ special)))

pub returns-clause-escaped : goal.returns-clause-escaped
returns-clause-escaped c =
    other_step (string_bytes c.args.value.now) (string_bytes c.push-2.new.self) c.args.text.now (get_or c.as_bytes.result.now 0 0) (omega arith) (ap (λ (s : List ℕ). get_or s 0 0) c.as_bytes.ensures.value) (sym c.is_special.ensures ∙ c.if-is_special.false) (c.in_ok-push-2.ensures.bytes ∙ ap (λ (xs : List ℕ). string_bytes c.args.value.now ++ xs) (c.in_ok-push-2.ensures.ascii (lit< tt)))
