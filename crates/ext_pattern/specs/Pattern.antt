-- What a pattern is: a literal, and parts of a wildcard and a literal each. That `@v` stands among them and how long a name may
-- get is this project's own.
use Rattle.std.specs.Prelude.{◌≡◌, ℕ, ◌+◌, ◌≤◌, true, List, [], ◌∷◌, ◌++◌, length}
use Rattle.std.specs.List.{flat_map}
use Rattle.ext_pattern.specs.declared.part.Part.{Part}
use Rattle.ext_pattern.specs.declared.wildcard.Wildcard.TheVariants.{Version}
use Rattle.ext_pattern.specs.Literal.{is_literal}
use Rattle.ext_pattern.specs.Part.{AreParts, has, most_of_parts, part_text}

-- a pattern as contracts see it: the literal before the first wildcard, then each wildcard with the literal after it
pub record PatternView : Type 0 where
  pub first : List ℕ
  pub parts : List Part

-- a pattern: its parts are such, a version is among them, and no name that it makes is longer than a name may be
pub record IsPattern (p : PatternView) : Type 0 where
  pub first : is_literal p.first ≡ true
  pub parts : AreParts [] p.parts
  pub version : has Version p.parts ≡ true
  pub short : length p.first + most_of_parts p.parts ≤ 255

-- a pattern as it is written
abbrev pub pattern_text : PatternView → List ℕ
pattern_text p = p.first ++ flat_map (λ part. 64 ∷ part_text part) p.parts
