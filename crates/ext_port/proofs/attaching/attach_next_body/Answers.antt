use Rattle.std.proofs.Common.{sym, subst}
use Rattle.ext_host.specs.Planning.{IsBaseTree}
use Rattle.ext_port.specs.Given.{AreFilesOf, IsBodyIn}
use Rattle.ext_port.specs.Starting.{start_host}
use Rattle.ext_port.proofs.PlanLemmas.{body_given}
use Rattle.ext_port.proofs.StartLemmas.{attach_through, body_here}
use Rattle.ext_port.proofs.attaching.attach_next_body.Goals as goal

pub returns-clause-gives : goal.returns-clause-gives
returns-clause-gives c =
    let start = c.in_ok-start.start in
    let ensures = c.in_ok-start.ensures in
    body_given c.args.again c.args.host.now c.args.ask.now start ensures.host ensures.cut ensures.start c.args.body.now c.args.tree.now c.args.lines.now c.requires.fit c.attach_from.result c.attach_from.ensures.gives

pub returns-clause-next : goal.returns-clause-next
returns-clause-next c =
    attach_through c.args.host.now c.in_ok-start.start.host.now c.attach_from.result c.in_ok-start.ensures.planned c.attach_from.ensures.next

pub attach_from-requires-clause-body : goal.attach_from-requires-clause-body
attach_from-requires-clause-body c =
    let start = c.in_ok-start.start in
    let ensures = c.in_ok-start.ensures in
    subst (λ h. IsBodyIn h start.base c.args.ask.now.image c.args.body.now) (sym ensures.host)
    (body_here (start_host c.args.again c.args.ask.now.image c.args.host.now) start.base c.args.ask.now.image c.args.body.now (subst (λ h. IsBaseTree h start.base) ensures.host ensures.start.base) c.requires.body)

pub attach_from-requires-clause-files : goal.attach_from-requires-clause-files
attach_from-requires-clause-files c = subst (λ h. AreFilesOf h c.args.tree.now) (sym c.in_ok-start.ensures.host) c.requires.files
