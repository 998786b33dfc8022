use Rattle.std.proofs.Common.{◌≡◌, ◌∙◌}
use Rattle.ext_port.specs.NextHost.{attachment_of, with_attachment}
use Rattle.ext_port.proofs.next_host.attached_host.Goals as goal

pub returns : goal.returns
returns c =
    let attached : c.in_ok-next-2.field-0 ≡ with_attachment (attachment_of c.args.ask.now c.args.place.now c.args.tops) c.args.start.now.attached =
    c.in_ok-next-2.ensures ∙ (λ i. with_attachment (c.in_ok-attachment.ensures i) (c.as_slice.ensures i))
    in
    λ i. record (c.in_ok-next.ensures i) { attached = attached i }
