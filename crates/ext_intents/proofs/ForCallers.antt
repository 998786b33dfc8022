-- For the crates above: what a command wants of a store is fit for what is seen.
pub use Rattle.ext_intents.proofs.WantsLemmas.{wants_fit, first_wants_fit}
-- what the commands `sysupdate` want is a reply, but for updates and room
pub use Rattle.ext_intents.proofs.SysupdateLemmas.{IsReplying, components_reply, update_replies}
-- so is what `list`, `status`, `changes` and `explain` of a class want
pub use Rattle.ext_intents.proofs.ViewsLemmas.{IsReplyingView, view_replies}
-- and what `list`, `inspect` and `is-attached` of `portable` want
pub use Rattle.ext_intents.proofs.PortableLemmas.{IsReplyingPort, port_replies}
-- and what `history` and `history --changes` want
pub use Rattle.ext_intents.proofs.MarksLemmas.{history_reply, history_changes_reply}
-- and it is the same where the same is told of the host's files
pub use Rattle.ext_intents.proofs.AlikeLemmas.{wants_alike}
-- past trees of generations from 1 up to the one before a host's own are marks before it, as a step asks for
pub use Rattle.ext_intents.proofs.MarksLemmas.{marks_before}
-- the mark that is found is one of the generation, and where none is found there is none
pub use Rattle.ext_intents.proofs.MarksLemmas.{finds}
