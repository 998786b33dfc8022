-- What going back to a mark and dropping one answer. This project's own.
use Rattle.std.specs.Prelude.{◌≡◌, ℕ}
use Rattle.ext_host.specs.declared.past.Past.{Past}
use Rattle.ext_host.specs.declared.host.Host.{Host}
use Rattle.ext_history.specs.Marks.{HasMark, HasNoMark, IsMark, back_to, without_mark}
use Rattle.ext_history.specs.declared.history_err.HistoryErr.{HistoryErr}
use Rattle.ext_history.specs.declared.history_err.HistoryErr.TheVariants.{OutOfMemory, NoMark}

-- the host gone back to its mark of this generation
pub record RollsBack (host : Host) (to : ℕ) (next : Host) : Type 0 where
  pub mark : Past
  pub is_mark : IsMark host.past to mark
  pub is_back : next ≡ back_to mark host

-- the host without its mark of this generation
pub record Forgets (host : Host) (which : ℕ) (next : Host) : Type 0 where
  pub has : HasMark host.past which
  pub is_without : next ≡ without_mark which host

-- when each error comes: where there is no mark of this generation; memory may run out only where there is one
abbrev pub HistoryCause : Host → ℕ → HistoryErr → Type 0
HistoryCause host generation OutOfMemory = HasMark host.past generation
HistoryCause host generation (NoMark lacking) = (lacking ≡ generation) × HasNoMark host.past generation
