use Rattle.ext_gen.proofs.StatesLemmas.{sound_now}
use Rattle.ext_gen.proofs.OpeningLemmas.{syncs_durably}
use Rattle.ext_gen.proofs.laws.a_synced_store_is_durable.Goals as goal

pub returns : goal.returns
returns c = λ d root sound. let one = sound_now d sound in (one.0, one.1, syncs_durably d root sound)
