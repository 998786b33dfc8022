use Rattle.std.proofs.Common.{subst, sym}
use Rattle.std.specs.Prelude.{IsTrue}
use Rattle.std.specs.FinMap.{is_sorted}
use Rattle.ext_lines.specs.ByteOrder.{bytes_cmp}
use Rattle.ext_sums.specs.Sums.{Entries}
use Rattle.ext_available.specs.Offers.{AreOffers}
use Rattle.ext_available.proofs.CandidateLemmas.{are_offers}
use Rattle.ext_available.proofs.least.offers_by.Goals as goal

pub returns : goal.returns
returns c =
    let all = c.in_ok-found.found.items in
    let least = c.least.result.items in
    let sorted = subst (λ (es : Entries). IsTrue (is_sorted bytes_cmp es)) (sym c.listed.ensures.same) c.listed.ensures.sorted in
    subst (AreOffers c.args.sums.now c.args.transfer.now) (sym c.of.ensures)
    (subst (λ (es : Entries). AreOffers es c.args.transfer.now least) c.listed.ensures.same (are_offers c.args.transfer.now c.listed.result.now all least sorted c.in_ok-found.ensures c.least.ensures))
