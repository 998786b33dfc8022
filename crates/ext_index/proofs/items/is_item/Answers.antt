use Rattle.std.proofs.Common.{sym, ap, ◌∙◌}
use Rattle.std.specs.Ordering.{is_eq}
use Rattle.std.proofs.lemmas.Bool.{true≢false, eqb-true, eq-eqb}
use Rattle.std.proofs.lemmas.Slice.Eq.{slice_eq-Decides}
use Rattle.ext_text.proofs.ForCallers.{same_path, tied_path}
use Rattle.ext_index.proofs.ItemsLemmas.{item_same}
use Rattle.ext_index.proofs.items.is_item.Goals as goal

pub returns-then-is_eq : goal.returns-then-is_eq
returns-then-is_eq c =
    let tied = sym (ap is_eq c.cmp.ensures) ∙ sym c.is_eq.ensures ∙ c.if-is_eq.true in
    let digests = slice_eq-Decides (λ a b. (eqb-true a b, eq-eqb a b)) c.args.item.now.digest.0 c.stamp.result.now.digest.0 c.eq.result c.eq.ensures in
    let stamp = ap (λ s. s.digest.0) c.stamp.ensures.same in (
      λ same. item_same c.args.item.now c.args.path.now c.args.held.now.stamp.digest (same_path _ _ tied) (digests.0 same ∙ stamp),
      λ is. digests.1 (ap (λ item. item.digest.0) is ∙ sym stamp),
    )

pub returns-else-is_eq : goal.returns-else-is_eq
returns-else-is_eq c = (
  λ yes. absurd (true≢false (sym yes ∙ c.if-is_eq.false)),
  λ is. c.is_eq.ensures ∙ ap is_eq c.cmp.ensures ∙ tied_path c.args.item.now.path c.args.path.now (ap (λ item. item.path) is),
)
