use Rattle.ext_gen.proofs.StatesLemmas.{durably_left, sound_left}
use Rattle.ext_gen.proofs.laws.a_stop_leaves_a_state.Goals as goal

pub returns : goal.returns
returns c = record { sound = sound_left; durable = durably_left }
