use Rattle.ext_gen.proofs.DurableLemmas.{fixed_is_durably}
use Rattle.ext_gen.proofs.laws.a_fixed_store_is_durable.Goals as goal

pub returns : goal.returns
returns c = λ s d m current base stands. fixed_is_durably s d m (record { current = current; base = base }) stands
