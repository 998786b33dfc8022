-- The name that a pattern makes of a version and a digest.
use Rattle.std.specs.Prelude.{ℕ, List, ◌++◌}
use Rattle.std.specs.List.{flat_map}
use Rattle.hex.specs.Hex.{encode_lower}
use Rattle.ext_pattern.specs.declared.part.Part.{Part}
use Rattle.ext_pattern.specs.declared.wildcard.Wildcard.{Wildcard}
use Rattle.ext_pattern.specs.declared.wildcard.Wildcard.TheVariants.{Version, Digest}
use Rattle.ext_pattern.specs.Pattern.{PatternView}

-- what stands for a wildcard: the version, or the digits of the digest
abbrev pub text_for : Wildcard → List ℕ → List ℕ → List ℕ
text_for Version version digits = version
text_for Digest version digits = digits

-- a part filled
abbrev pub filled_part : List ℕ → List ℕ → Part → List ℕ
filled_part version digits part = text_for part.wildcard version digits ++ part.literal

-- a pattern filled with a version and the bytes of a digest
abbrev pub filled : PatternView → List ℕ → List ℕ → List ℕ
filled p version digest = p.first ++ flat_map (filled_part version (encode_lower digest)) p.parts
