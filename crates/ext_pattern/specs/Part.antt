-- The parts of a pattern: wildcards, each with the literal after it. That a literal stands between two wildcards, and that none
-- stands twice, is this project's own.
use Rattle.std.specs.Prelude.{◌≡◌, ℕ, ◌+◌, ◌-◌, Bool, true, false, ◌==◌, List, [], ◌∷◌, ◌++◌, length}
use Rattle.std.specs.List.{list_any, slice_get}
use Rattle.std.specs.Option.{option_map_or}
use Rattle.ext_pattern.specs.declared.part.Part.{Part}
use Rattle.ext_pattern.specs.declared.wildcard.Wildcard.{Wildcard}
use Rattle.ext_pattern.specs.Literal.{is_literal}
use Rattle.ext_pattern.specs.Wildcard.{letter_of, most_of, same_wildcard}

-- whether a wildcard stands among the parts
abbrev pub has : Wildcard → List Part → Bool
has wildcard parts = list_any (λ p. same_wildcard wildcard p.wildcard) parts

-- whether the parts end with a wildcard, and no literal after it
abbrev pub ends_in_wildcard : List Part → Bool
ends_in_wildcard parts = option_map_or (λ p. length p.literal == 0) (slice_get parts (length parts - 1)) false

-- a part may come after these: a literal parts it from the wildcard before it, and its own wildcard is not among them
pub record IsNextPart (before : List Part) (part : Part) : Type 0 where
  pub apart : ends_in_wildcard before ≡ false
  pub once : has part.wildcard before ≡ false
  pub literal : is_literal part.literal ≡ true

-- each part may come after these and those before it
abbrev pub AreParts : List Part → List Part → Type 0
AreParts before [] = Unit {0}
AreParts before (part ∷ parts) = IsNextPart before part × AreParts (before ++ part ∷ []) parts

-- the most bytes that the parts of a name are, by these
abbrev pub most_of_parts : List Part → ℕ
most_of_parts [] = 0
most_of_parts (part ∷ parts) = most_of part.wildcard + length part.literal + most_of_parts parts

-- a part as it is written, after its `@`
abbrev pub part_text : Part → List ℕ
part_text part = letter_of part.wildcard ∷ part.literal
