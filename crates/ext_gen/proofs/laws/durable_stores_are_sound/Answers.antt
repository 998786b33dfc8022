use Rattle.ext_gen.proofs.StatesLemmas.{either_is_sound, durably_is_sound}
use Rattle.ext_gen.proofs.laws.durable_stores_are_sound.Goals as goal

pub returns : goal.returns
returns c = record { durably = durably_is_sound; either = either_is_sound }
