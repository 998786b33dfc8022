-- The lemmas on this crate's definitions that other crates cite.

-- what a tree stands for it points to
pub use Rattle.ext_gen.proofs.StatesLemmas.{stands_points}
-- a tree that has the same at `current`, and where the state rests, stands for it too
pub use Rattle.ext_gen.proofs.StatesLemmas.{stands_same}
-- a tree stands for a state just where it does with what it has at `current` put there; and no mark is at `current` in a durable store
pub use Rattle.ext_gen.proofs.StatesLemmas.{stands_with, stands_without, durably_marks}
-- a store that is durable, or stands for one of two states, is sound; and what a sound one stands for now
pub use Rattle.ext_gen.proofs.StatesLemmas.{durably_is_sound, either_is_sound, sound_now}
-- what a stop leaves of a sound store, of one that stands for one of two states, and of a durable one
pub use Rattle.ext_gen.proofs.StatesLemmas.{sound_left, either_left, durably_left}
-- one that is not broken
pub use Rattle.ext_gen.proofs.PointsLemmas.{sound_is_not_broken}
-- two states for which a tree stands have one generation, and a store points to one; a broken one points to nothing, and is broken in one line
pub use Rattle.ext_gen.proofs.PointsLemmas.{one_state, one_generation, broken_points_to_nothing, one_broken_line}
-- a durable store stands for one of two states, its own and another
pub use Rattle.ext_gen.proofs.StatesLemmas.{durably_is_either}
-- the host is valid and well formed, its files can be read; a store that points to a generation has it opened
pub use Rattle.ext_gen.proofs.OpenedLemmas.{opened_is_valid_for, opened_is_valid, opened_is_well_formed, opened_is_served, current_is_opened}
-- a store points to what it was opened as
pub use Rattle.ext_gen.proofs.OpeningLemmas.{opened_points}
-- where the disk is as a preparation left it, it may be switched
pub use Rattle.ext_gen.proofs.ChangesLemmas.{prepared_may_commit}
-- what a durable store rests on is fixed, and what is fixed is durable
pub use Rattle.ext_gen.proofs.DurableLemmas.{AreFixed, durably_is_fixed, fixed_is_durably}
-- a durable store stays durable where calls spare what it rests on, and where nothing, or one stretch after another, is done
pub use Rattle.ext_gen.proofs.DurableLemmas.{durably_unchanged, durably_kept, keeps_durably_itself, keeps_durably_then}
-- what stops leave of a durable store, of more states, and of two stretches
pub use Rattle.ext_gen.proofs.DurableLemmas.{durably_since, stands_since_wider, stands_since_then}
-- at most so many left-overs are gone where nothing changed, where few stood, and where so many are
pub use Rattle.ext_gen.proofs.PreparingLeftLemmas.{few_same, few_stood, few_lost}
-- the name of a generation that is needed is no left-over's
pub use Rattle.ext_gen.proofs.PreparingChangeLemmas.{needed_not_left}
-- the generation before is needed
pub use Rattle.ext_gen.proofs.PreparingFilesLemmas.{before_needed}
-- where the files of a host come from that was placed over another one: from a home that was listed before, or from a new one
pub use Rattle.ext_gen.proofs.PreparingOpenedLemmas.{IsFrom, before, coming, host_from}
-- the files of the first elements of a list and of one element more
pub use Rattle.ext_gen.proofs.CheckingLemmas.{files_next}
