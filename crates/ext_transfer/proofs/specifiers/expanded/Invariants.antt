use Rattle.std.proofs.Common.{◌≡◌, length}
use Rattle.ext_transfer.specs.Meaning.{letter_meaning}
use Rattle.ext_transfer.specs.Specifiers.{expanded, with_text}
use Rattle.ext_transfer.proofs.specifiers.expanded.Given as goal

abbrev pub invariant-specifiers : goal.invariant-specifiers
invariant-specifiers l = expanded (letter_meaning l.specifiers) l.text ≡ with_text l.made (expanded (letter_meaning l.specifiers) l.rest)

abbrev pub decreases-specifiers : goal.decreases-specifiers
decreases-specifiers l = length l.rest
