use Rattle.std.proofs.Common.{sym, ◌∙◌, subst}
use Rattle.std.proofs.lemmas.Bool.{false≢true}
use Rattle.ext_tree.specs.Fields.{IsTarget}
use Rattle.ext_lines.proofs.ForCallers.{split_same}
use Rattle.ext_tree.proofs.FieldsLemmas.{target_after}
use Rattle.ext_tree.proofs.fields.split_target.Goals as goal

pub returns-in_err-target : goal.returns-in_err-target
returns-in_err-target c =
    rw c.from_residual-in_err-target.ensures (λ o t rest io is e.
    let read = c.in_ok-count.ensures in
    let there = target_after _ _ _ _ t rest o read.0 read.1 io is read.2 e in
    c.in_err-target.ensures t rest there.0 there.1.1)

pub returns-else-is_target : goal.returns-else-is_target
returns-else-is_target c =
    λ o t rest io is e.
    let read = c.in_ok-count.ensures in
    let there = target_after _ _ _ _ t rest o read.0 read.1 io is read.2 e in
    let found = c.in_ok-target.ensures in
    let same = split_same _ t _ _ (found.0 ∙ sym there.0) (sym found.1 ∙ there.1.1) in
    false≢true (c.if-is_target.ensures.1 (subst IsTarget (sym same.0) is))
