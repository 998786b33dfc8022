use Rattle.std.proofs.Common.{drop}
use Rattle.ext_available.proofs.CandidateLemmas.{OffersOn}
use Rattle.ext_available.proofs.candidates.candidates.Given as goal

-- what the lines that are left offer is what all offer, after what was found so far
abbrev pub invariant-loop-line : goal.invariant-loop-line
invariant-loop-line l = record {
  so_far : OffersOn l.transfer l.lines (drop l.line-index l.lines) l.found.items;
}
