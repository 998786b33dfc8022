use Rattle.std.proofs.Common.{◌∙◌}
use Rattle.std.proofs.lemmas.Result.{err_from_is_err_and}
use Rattle.ext_publish.proofs.StagesLemmas.{carries_through, carries_unclear, carries_unmade, carries_unwritten, may_be_switched, may_go_down, only_faults, opened_for, opens_down, text_moved, writes_out}
use Rattle.ext_publish.proofs.carrying.carry_out.Goals as goal

pub returns-in_err-clear_left-clause-carries : goal.returns-in_err-clear_left-clause-carries
returns-in_err-clear_left-clause-carries g c =
    let p = err_from_is_err_and c.from_residual.result c.from_residual.ensures.1 in
    rw (p.1, p.2)
    (carries_unclear (Unit {0}) (Unit {0}) _ (g.D.Disk.state c.args.store.now) (g.O.Disk.state c.args.out.now) (g.O.Disk.state c.clear_left.new.out) c.args.asked.now c.args.payload.now c.requires.asked
    (g.met.O.Disk.holds_a_tree c.args.out.now) c.requires.may c.in_err-clear_left.ensures.spares c.in_err-clear_left.ensures.ends c.in_err-clear_left.ensures.cause)

pub make_down-requires : goal.make_down-requires
make_down-requires g c =
    may_go_down c.args.asked.now c.args.payload.now c.root.result c.names.result (g.O.Disk.state c.args.out.now) (g.O.Disk.state c.clear_left.new.out) c.root.ensures (c.names.ensures.same ∙ c.folder.ensures.same) c.requires.asked
    (g.met.O.Disk.holds_a_tree c.clear_left.new.out) c.requires.may (record { spares = c.in_ok-clear_left.ensures.spares; ends = c.in_ok-clear_left.ensures.ends })

pub returns-in_err-make_down-clause-carries : goal.returns-in_err-make_down-clause-carries
returns-in_err-make_down-clause-carries g c =
    let p = err_from_is_err_and c.from_residual-in_err-make_down.result c.from_residual-in_err-make_down.ensures.1 in
    rw (p.1, p.2)
    (carries_unmade (Unit {0}) (Unit {0}) _ (g.D.Disk.state c.args.store.now) (g.O.Disk.state c.args.out.now) (g.O.Disk.state c.clear_left.new.out) (g.O.Disk.state c.make_down-2.new.out) c.args.asked.now c.args.payload.now
    c.root.result c.names.result c.root.ensures (c.names.ensures.same ∙ c.folder.ensures.same) c.requires.asked (g.met.O.Disk.holds_a_tree c.args.out.now)
    (record { spares = c.in_ok-clear_left.ensures.spares; ends = c.in_ok-clear_left.ensures.ends }) c.in_err-make_down.ensures.makes c.in_err-make_down.ensures.cause)

pub write_resource-requires-clause-open : goal.write_resource-requires-clause-open
write_resource-requires-clause-open g c =
    opened_for c.args.asked.now (g.O.Disk.state c.args.out.now) (g.O.Disk.state c.make_down-2.new.out)
    (opens_down (Unit {0}) (tt {0}) c.args.asked.now c.root.result c.names.result (g.O.Disk.state c.args.out.now) (g.O.Disk.state c.clear_left.new.out) (g.O.Disk.state c.make_down-2.new.out) c.root.ensures
    (c.names.ensures.same ∙ c.folder.ensures.same) c.requires.asked (record { spares = c.in_ok-clear_left.ensures.spares; ends = c.in_ok-clear_left.ensures.ends }) c.in_ok-make_down.ensures.makes)

pub returns-in_err-write_resource-clause-carries : goal.returns-in_err-write_resource-clause-carries
returns-in_err-write_resource-clause-carries g c =
    let p = err_from_is_err_and c.from_residual-in_err-write_resource.result c.from_residual-in_err-write_resource.ensures.1 in
    rw (p.1, p.2)
    (carries_unwritten (Unit {0}) _ (g.D.Disk.state c.args.store.now) (g.D.Disk.state c.write_resource.new.store) (g.O.Disk.state c.args.out.now) (g.O.Disk.state c.make_down-2.new.out) (g.O.Disk.state c.write_resource.new.out)
    c.args.asked.now c.args.payload.now c.requires.asked (g.met.O.Disk.holds_a_tree c.args.out.now)
    (opens_down (Unit {0}) (tt {0}) c.args.asked.now c.root.result c.names.result (g.O.Disk.state c.args.out.now) (g.O.Disk.state c.clear_left.new.out) (g.O.Disk.state c.make_down-2.new.out) c.root.ensures
    (c.names.ensures.same ∙ c.folder.ensures.same) c.requires.asked (record { spares = c.in_ok-clear_left.ensures.spares; ends = c.in_ok-clear_left.ensures.ends }) c.in_ok-make_down.ensures.makes)
    c.in_err-write_resource.ensures.spares c.in_err-write_resource.ensures.cause)

pub switch-requires-clause-may : goal.switch-requires-clause-may
switch-requires-clause-may g c =
    may_be_switched (g.D.Disk.state c.args.store.now) c.args.asked.now c.args.payload.now (g.O.Disk.state c.args.out.now) (g.O.Disk.state c.write_resource.new.out) c.requires.may
    (writes_out {T = Unit {0}} (tt {0}) (g.D.Disk.state c.args.store.now) c.args.asked.now c.args.payload.now (g.O.Disk.state c.args.out.now) (g.O.Disk.state c.make_down-2.new.out) (g.O.Disk.state c.write_resource.new.out) c.requires.asked
    (opens_down (Unit {0}) (tt {0}) c.args.asked.now c.root.result c.names.result (g.O.Disk.state c.args.out.now) (g.O.Disk.state c.clear_left.new.out) (g.O.Disk.state c.make_down-2.new.out) c.root.ensures
    (c.names.ensures.same ∙ c.folder.ensures.same) c.requires.asked (record { spares = c.in_ok-clear_left.ensures.spares; ends = c.in_ok-clear_left.ensures.ends }) c.in_ok-make_down.ensures.makes)
    c.in_ok-write_resource.ensures.spares c.in_ok-write_resource.ensures.written)

pub returns-clause-carries : goal.returns-clause-carries
returns-clause-carries g c =
    carries_through c.switch.result (g.D.Disk.state c.args.store.now) c.args.asked.now c.args.payload.now c.bytes.result.now (g.O.Disk.state c.args.out.now) (g.O.Disk.state c.write_resource.new.out) (g.O.Disk.state c.switch.new.out)
    c.requires.asked (g.met.O.Disk.holds_a_tree c.args.out.now) (g.met.O.Disk.holds_a_tree c.write_resource.new.out) c.requires.may
    (text_moved (g.O.Disk.state c.args.out.now) c.args.look.now.manifest c.bytes.result.now c.args.asked.now c.args.payload.now c.bytes.ensures c.requires.manifest)
    (writes_out {T = Unit {0}} (tt {0}) (g.D.Disk.state c.args.store.now) c.args.asked.now c.args.payload.now (g.O.Disk.state c.args.out.now) (g.O.Disk.state c.make_down-2.new.out) (g.O.Disk.state c.write_resource.new.out) c.requires.asked
    (opens_down (Unit {0}) (tt {0}) c.args.asked.now c.root.result c.names.result (g.O.Disk.state c.args.out.now) (g.O.Disk.state c.clear_left.new.out) (g.O.Disk.state c.make_down-2.new.out) c.root.ensures
    (c.names.ensures.same ∙ c.folder.ensures.same) c.requires.asked (record { spares = c.in_ok-clear_left.ensures.spares; ends = c.in_ok-clear_left.ensures.ends }) c.in_ok-make_down.ensures.makes)
    c.in_ok-write_resource.ensures.spares c.in_ok-write_resource.ensures.written)
    c.switch.ensures.spares.follows c.switch.ensures.spares.told c.switch.ensures.switches (only_faults _ _ c.switch.result c.switch.ensures.cause)
