use Rattle.ext_disk.proofs.PiecesLemmas.{part_found}
use Rattle.ext_disk.proofs.pieces.part_at.Goals as goal

pub returns-in-Some-clause-same : goal.returns-in-Some-clause-same
returns-in-Some-clause-same c =
    let got = c.in-Some.ensures.lookup in
    part_found c.args.parts.now c.saturating_sub-last.result c.args.at c.in-Some.part.now c.requires got.3.0 got.1 c.if-part-at.true
