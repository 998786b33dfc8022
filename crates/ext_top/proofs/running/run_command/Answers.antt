use Rattle.std.proofs.Common.{[], refl, rules}
use Rattle.ext_cmd.specs.declared.command.Command.TheVariants.{Compare}
use Rattle.ext_intents.specs.Compare.{compare_intent}
use Rattle.ext_top.proofs.RunsLemmas.{intent_ends, one_line_kind, sample_ends}
use Rattle.ext_top.proofs.running.run_command.Goals as goal

pub returns-in-Layer-clause-runs : goal.returns-in-Layer-clause-runs
returns-in-Layer-clause-runs g c = rw (c.in-Layer.is, c.told.ensures.same) (record { disk = refl; depot = refl; tells = c.told.ensures.tells; ends = c.run_layer-status.ensures.ends })

pub returns-in-Compare-clause-runs : goal.returns-in-Compare-clause-runs
returns-in-Compare-clause-runs g c =
    let a = c.in-Compare.a in
    let b = c.in-Compare.b in
    let source = g.S.Source.state c.args.devices.now.source in
    rw (c.in-Compare.is, c.told-in-Compare.ensures.same) (record {
      disk = refl;
      depot = refl;
      tells = c.told-in-Compare.ensures.tells;
      ends = intent_ends (Compare a b) [] source source (g.K.Sink.state c.args.devices.now.sink) (g.K.Sink.state c.run_compare-status.new.sink) (compare_intent a b) c.run_compare-status.result (refl, refl) refl c.run_compare-status.ensures.writes;
    })

pub returns-in-Sample-clause-runs : goal.returns-in-Sample-clause-runs
returns-in-Sample-clause-runs g c =
    let source = g.S.Source.state c.args.devices.now.source in
    rw (c.in-Sample.is, c.told-in-Sample.ensures.same) (record {
      disk = refl;
      depot = refl;
      tells = c.told-in-Sample.ensures.tells;
      ends = sample_ends c.in-Sample.images source (g.K.Sink.state c.args.devices.now.sink) (g.K.Sink.state c.run_sample-status.new.sink) c.run_sample-status.result c.run_sample-status.ensures.writes;
    })

pub returns-in_default : goal.returns-in_default
returns-in_default g c =
    let kind = one_line_kind c.args.command.now c.in_default.not-Compare c.in_default.not-Layer c.in_default.not-Batch c.in_default.not-Sample in
    record {
      runs = rw kind (record { source = refl; runs = c.run_single.ensures.runs });
      counts = search rules;
    }
