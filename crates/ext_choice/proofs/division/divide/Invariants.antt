use Rattle.std.specs.Option.{option_copied}
use Rattle.ext_choice.proofs.DivisionLemmas.{Dividing}
use Rattle.ext_choice.proofs.division.divide.Given as goal

-- what goes and what stays of the transfers so far, and the instances of the others
abbrev pub invariant-transfers : goal.invariant-transfers
invariant-transfers l =
    Dividing l.transfers (option_copied l.coming) l.installed.items l.place l.rest l.removed.items l.staying.items
