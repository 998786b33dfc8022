use Rattle.ext_index.specs.Sections.{listed}
use Rattle.ext_index.proofs.WrongLemmas.{wrong_past}
use Rattle.ext_index.proofs.wrong.wrong_line_past.Goals as goal

pub returns-in-Some : goal.returns-in-Some
returns-in-Some c = λ g.
    wrong_past c.args.number g c.args.host.now (listed c.sections_of_past.result) c.index-pasts-at.result c.as_slice-pasts.result.now c.split_at.result.0.now c.pasts.at c.in-Some.index c.line_in_past.result
    c.as_slice-pasts.ensures c.pasts-test.true c.index-pasts-at.is c.split_at.ensures.front c.requires.now c.pasts.invariant c.sections_of_past.ensures c.in-Some.ensures.1 (c.line_in_past.ensures g)
