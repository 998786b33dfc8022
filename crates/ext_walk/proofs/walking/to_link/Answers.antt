use Rattle.std.proofs.Common.{rules, Some, None}
use Rattle.ext_tree.specs.Part.{part}
use Rattle.ext_walk.specs.Upcoming.{upcoming}
use Rattle.ext_walk.specs.Walk.{follow}
use Rattle.ext_walk.proofs.WalkLemmas.{go_end, go_on}
use Rattle.ext_walk.proofs.PartsLemmas.{none_left, popped}
use Rattle.ext_walk.proofs.walking.to_link.Goals as goal

pub returns-in-None : goal.returns-in-None
returns-in-None g c = λ at is.
    let inv = c.names.invariant at is in
    (inv.0, inv.1, λ links. go_end (part c.args.image.now c.args.tree.now) _ inv.0 (upcoming c.names.left.items) links (inv.2 links) (none_left c.names.left.items (search rules)))

pub names-preserved : goal.names-preserved
names-preserved g c = λ at is.
    let inv = c.names.invariant at is in
    let turned = c.in-Moved.ensures inv.0 inv.1 in (
      turned.0,
      turned.1,
      λ links. go_on (part c.args.image.now c.args.tree.now) _ inv.0 c.in-Some.name.now (upcoming c.names.left.items) (upcoming c.pop.new.self.items) links (Some _) (inv.2 links)
          (popped c.names.left.items c.pop.new.self.items c.in-Some.name c.in-Some.ensures.items) (turned.2 (upcoming c.pop.new.self.items) links),
    )

pub returns-in-Met : goal.returns-in-Met
returns-in-Met g c = λ at is.
    let inv = c.names.invariant at is in (
      inv.0,
      inv.1,
      λ links. go_on (part c.args.image.now c.args.tree.now) _ inv.0 c.in-Some.name.now (upcoming c.names.left.items) (upcoming c.pop.new.self.items) links (follow c.in-Met.target.now inv.0 (upcoming c.pop.new.self.items) links) (inv.2 links)
          (popped c.names.left.items c.pop.new.self.items c.in-Some.name c.in-Some.ensures.items) (c.in-Met.ensures inv.0 inv.1 (upcoming c.pop.new.self.items) links),
    )

pub returns-in-Barred : goal.returns-in-Barred
returns-in-Barred g c = λ at is links.
    let inv = c.names.invariant at is in
    go_on (part c.args.image.now c.args.tree.now) _ inv.0 c.in-Some.name.now (upcoming c.names.left.items) (upcoming c.pop.new.self.items) links None (inv.2 links)
    (popped c.names.left.items c.pop.new.self.items c.in-Some.name c.in-Some.ensures.items) (c.in-Barred.ensures inv.0 inv.1 (upcoming c.pop.new.self.items) links)
