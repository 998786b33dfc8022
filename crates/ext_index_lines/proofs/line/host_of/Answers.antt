use Rattle.std.proofs.Common.{◌∙◌, sym, codes}
use Rattle.ext_text.specs.Arch.{arch_name}
use Rattle.ext_lines.proofs.ForCallers.{split_field, split_none}
use Rattle.ext_index_lines.proofs.LineLemmas.{after_once, arch_lacks}
use Rattle.ext_index_lines.proofs.line.host_of.Goals as goal

pub returns-in_err-arch : goal.returns-in_err-arch
returns-in_err-arch c =
    rw c.from_residual-in_err-arch.ensures (λ arch scope ne e. split_none 32 _ (arch_name arch) _ c.in_err-arch.ensures (after_once (codes "host") _ _ (sym c.in_ok-rest.ensures ∙ e)))

pub returns-in_err-arch-2 : goal.returns-in_err-arch-2
returns-in_err-arch-2 c =
    rw c.from_residual-in_err-arch-2.ensures (λ arch scope ne e.
    c.in_err-arch-2.ensures arch (split_field 32 _ _ _ (arch_name arch) _ c.in_ok-arch.ensures (arch_lacks arch) (after_once (codes "host") _ _ (sym c.in_ok-rest.ensures ∙ e))).0)
