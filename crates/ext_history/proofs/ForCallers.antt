-- The lemmas on this crate's definitions that other crates cite.

-- what comes of a host by a mark, by going back to one and by dropping one: it is valid, its files are the host's, and so are its
-- marks
pub use Rattle.ext_history.proofs.NextLemmas.{mark_comes, rollback_comes, forget_comes}
-- a mark is there, and a rollback to it changes nothing
pub use Rattle.ext_history.proofs.KeepingLemmas.{mark_is_there, back_at_once}
-- a rollback gives what was marked, from any host that has the mark, and after any changes that keep it
pub use Rattle.ext_history.proofs.KeepingLemmas.{back_from_any, back_after_all, mark_stays}
-- which calls keep a mark, and that forgetting undoes marking
pub use Rattle.ext_history.proofs.KeepingLemmas.{rollback_keeps, forget_keeps, mark_keeps, not_dropped_stays, forget_undoes_mark}
-- there is one mark of a generation, and one answer
pub use Rattle.ext_history.proofs.OneLemmas.{the_mark, one_rollback, one_forget, done_or_refused}
-- forgetting takes one mark
pub use Rattle.ext_history.proofs.OneLemmas.{forget_takes_one}
-- no more stay than may, the youngest do, and they come first in a list
pub use Rattle.ext_history.proofs.OneLemmas.{no_more_stay, youngest_stay, history_descends}
