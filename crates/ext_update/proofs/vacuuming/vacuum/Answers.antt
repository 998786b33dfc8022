use Rattle.std.proofs.Common.{sym, ap, ◌∙◌, subst, length, ◌==◌, List, ℕ}
use Rattle.ext_update.specs.Stages.{Writes, WritesWant}
use Rattle.ext_update.specs.Vacuum.{vacuum_of}
use Rattle.ext_update.proofs.UpdateLemmas.{gone_wants, vacuum_writes}
use Rattle.ext_update.proofs.vacuuming.vacuum.Goals as goal

pub returns-clause-wants : goal.returns-clause-wants
returns-clause-wants c =
    let planned = c.in_ok-planned.planned in
    let writes = vacuum_writes (record { arrivals = c.new.result; links = c.new-2.result }) c.args.division c.in_ok-items.items c.new.ensures.items c.new-2.ensures.items c.in_ok-items.ensures in
    gone_wants c.args.host.now c.args.division c.args.division.removed c.vacuum_of.result planned
    (sym (c.is_empty.ensures ∙ ap (λ (ps : List (List (List ℕ))). length ps == 0) c.as_slice.ensures.same) ∙ c.if-is_empty.false)
    (subst (λ (w : Writes). WritesWant c.args.host.now w planned) writes c.in_ok-planned.ensures.wants)
    (c.vacuum_of.ensures ∙ ap (λ (ps : List (List (List ℕ))). vacuum_of ps planned) c.in_ok-items.ensures.removed)
