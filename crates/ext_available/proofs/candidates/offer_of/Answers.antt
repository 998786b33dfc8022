use Rattle.std.proofs.Common.{ℕ, List, Bor, ap}
use Rattle.std.specs.Option.{option_map}
use Rattle.ext_available.proofs.NameLemmas.{named_just}
use Rattle.ext_available.proofs.candidates.offer_of.Goals as goal

pub returns-in-Some-2 : goal.returns-in-Some-2
returns-in-Some-2 c =
    named_just c.args.transfer.now c.args.line.now c.bytes-listed.result.now c.in-Some.name.now c.in-Some-2.version.now c.resource_of.result c.in_ok-version.field-0
    c.bytes-listed.ensures (ap (option_map (λ (r : Bor (List ℕ)). r.now)) c.in-Some.is) (ap (option_map (λ (r : Bor (List ℕ)). r.now)) c.in-Some-2.is) c.resource_of.ensures c.in_ok-version.ensures c.named_offer.result c.named_offer.ensures
