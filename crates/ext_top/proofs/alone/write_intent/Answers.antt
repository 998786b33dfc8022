use Rattle.std.proofs.Common.{◌∙◌}
use Rattle.ext_top.proofs.RunsLemmas.{answer_starved, answer_written, refusal_starved, refusal_written}
use Rattle.ext_top.proofs.alone.write_intent.Goals as goal

pub returns-in-Ok-clause-writes : goal.returns-in-Ok-clause-writes
returns-in-Ok-clause-writes g c =
    rw c.in-Answers.is (answer_written c.in-Answers.answer c.bytes.result.now (g.K.Sink.state c.args.sink.now) (g.K.Sink.state c.write_last.new.sink) c.write_last.result (c.bytes.ensures ∙ c.in-Ok.ensures) c.write_last.ensures.writes)

pub returns-in-Err-clause-writes : goal.returns-in-Err-clause-writes
returns-in-Err-clause-writes g c = rw c.in-Answers.is (answer_starved c.in-Answers.answer (g.K.Sink.state c.args.sink.now))

pub returns-in-Ok-refusal_text-clause-writes : goal.returns-in-Ok-refusal_text-clause-writes
returns-in-Ok-refusal_text-clause-writes g c =
    rw c.in-Refuses.is
    (refusal_written c.in-Refuses.refusal c.bytes-in-Ok-refusal_text.result.now (g.K.Sink.state c.args.sink.now) (g.K.Sink.state c.write_last-in-Ok-refusal_text.new.sink) c.write_last-in-Ok-refusal_text.result
    (c.bytes-in-Ok-refusal_text.ensures ∙ c.in-Ok-refusal_text.ensures) c.write_last-in-Ok-refusal_text.ensures.writes)

pub returns-in-Err-refusal_text-clause-writes : goal.returns-in-Err-refusal_text-clause-writes
returns-in-Err-refusal_text-clause-writes g c = rw c.in-Refuses.is (refusal_starved c.in-Refuses.refusal (g.K.Sink.state c.args.sink.now))
