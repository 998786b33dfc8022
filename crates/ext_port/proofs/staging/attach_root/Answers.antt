use Rattle.std.proofs.Common.{◌∙◌, ap, sym}
use Rattle.ext_units.specs.Units.{names_of}
use Rattle.ext_port.specs.Limits.{first_limit, new_bytes}
use Rattle.ext_port.proofs.PutLemmas.{root_limited, root_within}
use Rattle.ext_port.proofs.staging.attach_root.Goals as goal

pub returns-in-Some : goal.returns-in-Some
returns-in-Some c =
    let host = c.args.start.now.host.now in
    let made = c.args.made.now in
    root_limited host c.args.ask.now made c.args.tops c.args.root (first_limit (new_bytes made) c.args.root host.lower) c.in-Some.which
    (sym (λ i. first_limit (c.new_bytes-size.ensures i) (c.pairs.ensures.same i) (c.pairs-2.ensures.same i)) ∙ sym c.first_limit.ensures ∙ c.in-Some.is)

pub returns-in_ok-next-in-None : goal.returns-in_ok-next-in-None
returns-in_ok-next-in-None c =
    let host = c.args.start.now.host.now in
    let made = c.args.made.now in
    root_within host c.args.ask.now made c.args.tops c.args.root (first_limit (new_bytes made) c.args.root host.lower) c.in_ok-next-in-None.next c.in_ok-units-in-None.units
    (sym (λ i. first_limit (c.new_bytes-size.ensures i) (c.pairs.ensures.same i) (c.pairs-2.ensures.same i)) ∙ sym c.first_limit.ensures ∙ c.in-None.is)
    c.in_ok-next-in-None.ensures (c.in_ok-units-in-None.ensures ∙ ap names_of c.as_slice.ensures)
