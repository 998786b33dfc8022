use Rattle.std.proofs.Common.{List, ap, ◌∙◌}
use Rattle.ext_host.specs.declared.attachment.Attachment.{Attachment}
use Rattle.ext_attached.specs.Going.{staying}
use Rattle.ext_attached.proofs.DetachedLemmas.{is_detached}
use Rattle.ext_attached.proofs.detached.detached.Goals as goal

pub returns : goal.returns
returns c =
    is_detached c.args.by c.args.text.now c.args.host.now c.args.cut.now c.in_ok-attached.attached
    (c.in_ok-attached.ensures ∙ ap (λ (l : List Attachment). staying c.args.by c.args.text.now l) c.as_slice.ensures) c.requires
    c.cut_host.result c.cut_host.ensures
