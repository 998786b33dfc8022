-- The commands of marks, this project's own: `mark` keeps what the host is now as a mark under the number of its generation, and of
-- all marks the youngest; `history` lists them, and tells what differs between one of them and what is seen now; `rollback` goes
-- back to one, and `forget` drops one. The last three are refused where there is no mark of the number. A mark is not changed by
-- what comes after it.
use Rattle.std.specs.Prelude.{◌≡◌, ℕ, List, [], ◌∷◌, Option, Some, None, nat_eq}
use Rattle.std.specs.List.{find}
use Rattle.ext_tree.specs.Tree.{Entries}
use Rattle.ext_host.specs.Held.{HeldFile}
use Rattle.ext_host.specs.declared.past.Past.{Past}
use Rattle.ext_host.specs.declared.host.Host.{Host}
use Rattle.ext_history.specs.History.{history_of}
use Rattle.ext_history.specs.Marks.{back_to, marked, with_mark, without_mark}
use Rattle.ext_history.specs.Next.{ComesOf}
use Rattle.ext_changes.specs.Changes as changes
use Rattle.ext_changes.specs.Changes.{AreChanges}
use Rattle.ext_cmd.specs.Marks.{kept_marks}
use Rattle.ext_cmd.specs.declared.answer.Answer.TheVariants as answers
use Rattle.ext_cmd.specs.declared.answer.Answer.TheVariants.{Done, Marked}
use Rattle.ext_cmd.specs.declared.refusal.Refusal.TheVariants.{NoMark}
use Rattle.ext_intents.specs.declared.intent.Intent.{Intent}
use Rattle.ext_intents.specs.declared.intent.Intent.TheVariants.{Changes, Answers, Refuses}
-- each mark of a host is of a generation before the host's own
pub use Rattle.ext_history.specs.Marks.{AreBefore}

-- the host with itself as a mark of its generation, which has this number
abbrev pub mark_intent : ℕ → Host → Option ℕ → Intent
mark_intent number host keep = Changes (with_mark number (kept_marks keep) host) (Marked number)

-- what `mark` wants of a host: that host, whose marks are those of the host and the new one, and whose files are the host's
abbrev pub MarkWants : ℕ → Host → Option ℕ → Intent → Type 0
MarkWants number host keep intent =
    ComesOf host (marked number host ∷ []) (with_mark number (kept_marks keep) host) × (intent ≡ mark_intent number host keep)

-- what `history` wants of a host: each mark, the youngest first, with how many entries and files were seen
abbrev pub history_intent : Host → Intent
history_intent host = Answers (answers.History (history_of host))

-- the mark of a generation, where there is one
abbrev pub mark_in : ℕ → List Past → Option Past
mark_in generation marks = find (λ mark. nat_eq mark.generation generation) marks

-- the changes from an earlier tree to a later one, told
abbrev pub AnswersChanges : Entries HeldFile → Entries HeldFile → Intent → Type 0
AnswersChanges earlier later intent =
    (list : changes.Changes) × AreChanges (λ held. held.stamp) (λ held. held.stamp) earlier later list × (intent ≡ Answers (answers.Changes list))

-- those from what was seen at a mark to what is seen now
abbrev pub AnswersChangesSince : Host → ℕ → Option Past → Intent → Type 0
AnswersChangesSince host number None intent = intent ≡ Refuses (NoMark number)
AnswersChangesSince host number (Some mark) intent = AnswersChanges mark.root host.root intent

-- what `history --changes` wants of a host
abbrev pub HistoryChangesWants : Host → ℕ → Intent → Type 0
HistoryChangesWants host number intent = AnswersChangesSince host number (mark_in number host.past) intent

-- the host gone back to a mark
abbrev pub rollback_to : Host → ℕ → Option Past → Intent
rollback_to host number None = Refuses (NoMark number)
rollback_to host number (Some mark) = Changes (back_to mark host) Done

-- what `rollback` wants of a host
abbrev pub rollback_intent : Host → ℕ → Intent
rollback_intent host number = rollback_to host number (mark_in number host.past)

-- the host without a mark
abbrev pub forget_of : Host → ℕ → Option Past → Intent
forget_of host number None = Refuses (NoMark number)
forget_of host number (Some mark) = Changes (without_mark number host) Done

-- what `forget` wants of a host
abbrev pub forget_intent : Host → ℕ → Intent
forget_intent host number = forget_of host number (mark_in number host.past)
