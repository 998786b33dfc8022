use Rattle.std.proofs.Common.{ap, ◌∙◌}
use Rattle.ext_sums.specs.Sums.{entries_from, entries_of, said, said_first}
use Rattle.ext_sums.proofs.SumsLemmas.{find_from}
use Rattle.ext_sums.proofs.sums.Sums.digest_of.Goals as goal

pub returns : goal.returns
returns c =
    c.digest_at.ensures ∙ ap (said_first c.args.name.now) (c.names_from.ensures ∙ ap (λ ls. entries_from c.args.name.now (entries_of ls)) c.as_slice.ensures.value)
    ∙ find_from c.args.name.now (entries_of c.self.inside.listed.items) c.self.invariant ∙ ap (λ es. said es c.args.name.now) c.self.view_is
