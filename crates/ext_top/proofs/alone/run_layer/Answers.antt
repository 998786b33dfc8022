use Rattle.ext_cmd.specs.declared.command.Command.TheVariants.{Layer}
use Rattle.ext_top.proofs.RunsLemmas.{intent_ends, layer_is_alone, layer_unread}
use Rattle.ext_top.proofs.alone.run_layer.Goals as goal

pub write_intent-requires : goal.write_intent-requires
write_intent-requires g c = layer_is_alone c.in-Ok.text c.in-Ok-layer_step.intent c.in-Ok-layer_step.ensures

pub returns-in-Ok-layer_step-clause-ends : goal.returns-in-Ok-layer_step-clause-ends
returns-in-Ok-layer_step-clause-ends g c =
    intent_ends Layer c.in-Ok.text (g.S.Source.state c.args.source.now) (g.S.Source.state c.read_to_end.new.source) (g.K.Sink.state c.args.sink.now) (g.K.Sink.state c.write_intent.new.sink)
    c.in-Ok-layer_step.intent c.write_intent.result c.in-Ok.ensures.ok c.in-Ok-layer_step.ensures c.write_intent.ensures.writes

pub returns-in-Err-clause-ends : goal.returns-in-Err-clause-ends
returns-in-Err-clause-ends g c =
    rw c.status_of_read.ensures (layer_unread c.in-Err.error (g.S.Source.state c.args.source.now) (g.S.Source.state c.read_to_end.new.source) (g.K.Sink.state c.args.sink.now) c.in-Err.ensures.err)
