use Rattle.std.proofs.Common.{[], ◌+◌, ◌<◌, cond, Some, sym, subst, ◌∙◌, arith}
use Rattle.std.proofs.lemmas.Bool.{leb-false}
use Rattle.std.proofs.lemmas.List.{append-nil}
use Rattle.ext_tree.specs.Part.{part}
use Rattle.ext_walk.specs.Upcoming.{upcoming}
use Rattle.ext_walk.specs.Walk.{walk, is_absolute, most_links}
use Rattle.ext_walk.specs.Steps.{Same}
use Rattle.ext_walk.proofs.WalkLemmas.{at_end, follow_none, follow_on, same_self, same_then, start_at}
use Rattle.ext_walk.proofs.walking.walk_end.Goals as goal

pub links-init : goal.links-init
links-init g c = ([], c.again-at.ensures ∙ sym (append-nil c.args.image.now), omega arith, same_self (part c.args.image.now c.args.tree.now) _)

pub returns-in-Done : goal.returns-in-Done
returns-in-Done g c =
    let inv = c.links.invariant in
    let stop = c.in-Done.ensures inv.0 inv.1 in
    (stop.0, stop.1, inv.3.back stop.0 ((stop.2 c.links.links).back stop.0 (at_end (part c.args.image.now c.args.tree.now) stop.0 c.links.links)))

pub returns-in-Nowhere : goal.returns-in-Nowhere
returns-in-Nowhere g c = λ end ends.
    let inv = c.links.invariant in
    c.in-Nowhere.ensures inv.0 inv.1 c.links.links end (inv.3.there end ends)

pub returns-then-are_most : goal.returns-then-are_most
returns-then-are_most g c = λ end ends.
    let inv = c.links.invariant in
    let stop = c.in-Into.ensures inv.0 inv.1 in
    follow_none (part c.args.image.now c.args.tree.now) _ c.in-Into.target.now stop.0 (upcoming c.to_link.new.left.items) c.links.links (stop.2 c.links.links) (sym c.are_most.ensures ∙ c.if-are_most.true) end (inv.3.there end ends)

pub links-preserved : goal.links-preserved
links-preserved g c =
    let inv = c.links.invariant in
    let stop = c.in-Into.ensures inv.0 inv.1 in
    let few : c.links.links < most_links = leb-false most_links c.links.links (sym c.are_most.ensures ∙ c.if-are_most.false) in (
      cond (is_absolute c.in-Into.target.now) [] stop.0,
      c.start_of-at.ensures ∙ start_at (is_absolute c.in-Into.target.now) c.args.image.now c.in-Into.from stop.0 stop.1,
      omega (arith, few),
      subst (λ left. Same (part c.args.image.now c.args.tree.now) (walk [] (upcoming c.args.names.items) 0) (walk (cond (is_absolute c.in-Into.target.now) [] stop.0) left (c.links.links + 1))) (sym c.in_ok-push_parts-in-Into.ensures)
          (same_then (part c.args.image.now c.args.tree.now) _ _ (Some _) inv.3
          (follow_on (part c.args.image.now c.args.tree.now) _ c.in-Into.target.now stop.0 (upcoming c.to_link.new.left.items) c.links.links (stop.2 c.links.links) (sym c.are_most.ensures ∙ c.if-are_most.false))),
    )
