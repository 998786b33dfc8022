use Rattle.std.proofs.Common.{◌∙◌, sym, arith}
use Rattle.ext_tree.proofs.ForCallers.{number_once, digest_once}
use Rattle.ext_index_lines.proofs.homed.HomedLineContent.split_from.Goals as goal

pub returns-in_err-home : goal.returns-in_err-home
returns-in_err-home c =
    rw c.from_residual-in_err-home.ensures (λ h rest is e.
    let read = c.in_ok-stamp.ensures in
    let size = number_once _ h.stamp.size _ _ (omega (arith, read.0.size)) (omega (arith, is.stamp.size)) (sym read.1 ∙ e) in
    let digest = digest_once _ h.stamp.digest.0 _ _ read.0.digest is.stamp.digest size.1 in
    c.in_err-home.ensures h.home rest is.home digest.1)
