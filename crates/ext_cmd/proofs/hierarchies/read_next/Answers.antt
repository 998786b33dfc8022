use Rattle.std.proofs.Common.{◌∙◌, sym}
use Rattle.ext_cmd.proofs.HierarchyLemmas.{follow_refused, follows, hierarchy_of}
use Rattle.ext_cmd.proofs.hierarchies.read_next.Goals as goal

pub returns-then-may_follow : goal.returns-then-may_follow
returns-then-may_follow c =
    let name = c.in_ok-name.ensures in
    (follows c.args.before.now c.in_ok-name.name (hierarchy_of c.args.part.now c.in_ok-name.name c.requires name.1 name.0) (sym c.may_follow.ensures ∙ c.if-may_follow.true), name.1)

pub returns-else-may_follow : goal.returns-else-may_follow
returns-else-may_follow c =
    let name = c.in_ok-name.ensures in
    follow_refused c.args.before.now c.args.part.now c.in_ok-name.name c.args.place name.1 (sym c.may_follow.ensures ∙ c.if-may_follow.false)
