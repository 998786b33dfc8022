use Rattle.std.proofs.Common.{◌≡◌, ◌++◌, ◌∙◌, ap, drop, length, List, Bool, subst, take}
use Rattle.std.proofs.Math.Seq.{take-append_seam}
use Rattle.ext_resources.specs.Steps.{marked}
use Rattle.ext_resources.proofs.LackingLemmas.{marked_more, no_marks}
use Rattle.ext_resources.proofs.lacking.which_have.Goals as goal

pub loop-item-init : goal.loop-item-init
loop-item-init c =
    let copies = rw c.in_ok-have.ensures at c.vec.ensures.items_if_clones_equal in
    copies (λ copy same. same) ∙ no_marks c.args.version.now c.args.count

pub loop-item-preserved : goal.loop-item-preserved
loop-item-preserved c =
    let new = c.mark.new.have in
    let old = c.loop-item.have.items in
    let item = c.item-item.result in
    let long : length new ≡ c.loop-item.have.len = c.mark.auto.have ∙ c.deref_mut.ensures.len in
    let whole : take c.loop-item.have.len (new ++ drop (length new) old) ≡ new =
    subst (λ k. take k (new ++ drop (length new) old) ≡ new) long (take-append_seam new (drop (length new) old)) in
    whole ∙ c.mark.ensures ∙ ap (λ (have : List Bool). marked c.args.version.now have item) c.deref_mut.ensures.value
    ∙ marked_more c.args.version.now c.args.items.now c.loop-item.item-index c.args.count item c.loop-item-test.true c.item-item.is old c.loop-item.invariant
