use Rattle.std.proofs.Common.{◌≡◌, ℕ, ◌<◌, false, List, [], ◌∷◌, ◌++◌, length, sym, ap, ◌∙◌, arith}
use Rattle.std.specs.Prelude.{nat_eq}
use Rattle.std.proofs.lemmas.Bool.{eqb-true, true≢false}
use Rattle.std.proofs.lemmas.Result.{IfOk-weaker}
use Rattle.ext_find.proofs.TextLemmas.{names_below, parts_at_root, parts_below}
use Rattle.ext_find.proofs.pick.text_below.Goals as goal

some_text : (text : List ℕ) → nat_eq (length text) 0 ≡ false → 0 < length text
some_text [] other = absurd (true≢false other)
some_text (b ∷ text) other = omega arith

pub returns-then-is_empty-clause-parts : goal.returns-then-is_empty-clause-parts
returns-then-is_empty-clause-parts c =
    parts_at_root c.args.path.now c.text-upper.result.now c.args.name.now c.in_ok-from_slice.field-0.items c.text-upper.ensures.same c.text-upper.ensures.parts (eqb-true _ 0 (sym c.is_empty.ensures ∙ c.if-is_empty.true)) c.requires c.in_ok-from_slice.ensures.items

pub returns-then-is_empty-clause-names : goal.returns-then-is_empty-clause-names
returns-then-is_empty-clause-names c =
    names_below c.args.path.now c.args.name.now c.in_ok-from_slice.field-0.items c.text-upper.ensures.names c.requires
    (parts_at_root c.args.path.now c.text-upper.result.now c.args.name.now c.in_ok-from_slice.field-0.items c.text-upper.ensures.same c.text-upper.ensures.parts (eqb-true _ 0 (sym c.is_empty.ensures ∙ c.if-is_empty.true)) c.requires c.in_ok-from_slice.ensures.items)

pub returns-clause-parts : goal.returns-clause-parts
returns-clause-parts c =
    IfOk-weaker c.joined-2.result _ _
    (λ text is. parts_below c.args.path.now c.text-upper.result.now c.args.name.now text.items c.text-upper.ensures.same c.text-upper.ensures.names (some_text c.text-upper.result.now (sym c.is_empty.ensures ∙ c.if-is_empty.false)) c.requires
    (is ∙ ap (λ upper. upper ++ c.args.name.now) (c.as_slice.ensures.value ∙ c.in_ok-above.ensures)))
    c.joined-2.ensures

pub returns-clause-names : goal.returns-clause-names
returns-clause-names c =
    IfOk-weaker c.joined-2.result _ _
    (λ text is. names_below c.args.path.now c.args.name.now text.items c.text-upper.ensures.names c.requires
    (parts_below c.args.path.now c.text-upper.result.now c.args.name.now text.items c.text-upper.ensures.same c.text-upper.ensures.names (some_text c.text-upper.result.now (sym c.is_empty.ensures ∙ c.if-is_empty.false)) c.requires
    (is ∙ ap (λ upper. upper ++ c.args.name.now) (c.as_slice.ensures.value ∙ c.in_ok-above.ensures))))
    c.joined-2.ensures
