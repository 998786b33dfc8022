use Rattle.std.proofs.Common.{arith, ◌∙◌, sym}
use Rattle.ext_tree.proofs.ForCallers.{number_once}
use Rattle.ext_index_lines.proofs.homed.split_home.Goals as goal

pub returns-in_err-file : goal.returns-in_err-file
returns-in_err-file c =
    rw c.from_residual-in_err-file.ensures (λ h rest is e.
    let read = c.in_ok-generation.ensures in
    let same = number_once _ h.generation _ _ read.0 is.last (sym read.1 ∙ e) in
    c.in_err-file.ensures h.file rest is.file same.1)

pub returns-then-generation-eq0 : goal.returns-then-generation-eq0
returns-then-generation-eq0 c = λ h rest is e.
    let read = c.in_ok-generation.ensures in
    let same = number_once _ h.generation _ _ read.0 is.last (sym read.1 ∙ e) in
    let first = is.first in
    omega arith
