use Rattle.std.proofs.Common.{◌≤◌, ◌∙◌, length, sym, ap, arith}
use Rattle.std.proofs.lemmas.Bool.{ltb-false, ltb-true}
use Rattle.ext_tree.proofs.GraftingLemmas.{length-joined, seen_after, seen_before, spliced_joined}
use Rattle.ext_tree.proofs.graft.hang.Goals as goal

pub returns-then-is_over-clause-limit : goal.returns-then-is_over-clause-limit
returns-then-is_over-clause-limit g c =
    let first = seen_before c.span-from.result.0 c.as_slice.ensures.value c.names.ensures.same c.span-from.ensures.before in
    let last = seen_after c.span-from.result.1 c.as_slice.ensures.value c.names.ensures.same c.span-from.ensures.after in
    let high : c.span-from.result.1 ≤ length c.args.entries.now.items = omega (arith, ap length c.as_slice.ensures.value) in
    let low : c.span-from.result.0 ≤ length c.args.entries.now.items = omega arith in
    let whole = length-joined c.args.entries.now.items c.args.new.items c.args.path.now c.span-from.result.0 c.span-from.result.1 low high first last in
    omega (arith, whole, ltb-true _ _ (sym c.is_over.ensures ∙ c.if-is_over.true), c.args.entries.now.ok.0, c.args.new.ok.0)

pub returns-clause-ok : goal.returns-clause-ok
returns-clause-ok g c =
    c.in_ok-replace.ensures.ok
    ∙ spliced_joined c.args.entries.now.items c.args.new.items c.args.path.now c.span-from.result.0 c.span-from.result.1
    (seen_before c.span-from.result.0 c.as_slice.ensures.value c.names.ensures.same c.span-from.ensures.before)
    (seen_after c.span-from.result.1 c.as_slice.ensures.value c.names.ensures.same c.span-from.ensures.after)

pub returns-clause-limit : goal.returns-clause-limit
returns-clause-limit g c =
    let first = seen_before c.span-from.result.0 c.as_slice.ensures.value c.names.ensures.same c.span-from.ensures.before in
    let last = seen_after c.span-from.result.1 c.as_slice.ensures.value c.names.ensures.same c.span-from.ensures.after in
    let high : c.span-from.result.1 ≤ length c.args.entries.now.items = omega (arith, ap length c.as_slice.ensures.value) in
    let low : c.span-from.result.0 ≤ length c.args.entries.now.items = omega arith in
    let whole = length-joined c.args.entries.now.items c.args.new.items c.args.path.now c.span-from.result.0 c.span-from.result.1 low high first last in
    omega (arith, whole, ltb-false _ _ (sym c.is_over.ensures ∙ c.if-is_over.false), c.args.entries.now.ok.0, c.args.new.ok.0)
