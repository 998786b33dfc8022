use Rattle.std.proofs.Common.{inl, inr, refl}
use Rattle.ext_top.proofs.batch.run_batch.Goals as goal

pub returns-in-Ok-clause-runs : goal.returns-in-Ok-clause-runs
returns-in-Ok-clause-runs g c = inl (record { bytes = c.in-Ok.text; taken = c.in-Ok.ensures.ok; runs = rw c.bytes.ensures at c.run_text.ensures.runs })

pub returns-in-Err-clause-runs : goal.returns-in-Err-clause-runs
returns-in-Err-clause-runs g c = inr (record { error = c.in-Err.error; status_is = c.status_of_read.ensures; stopped = c.in-Err.ensures.err; others = refl })
