-- What a text has exactly one of: a manifest, or a first faulty line.
use Rattle.std.specs.Prelude.{◌≡◌, ◌⊎◌, ◌↔◌, ℕ, List, Some}
use Rattle.std.specs.List.{Contains}
use Rattle.ext_text.specs.Digest.{IsDigest}
use Rattle.ext_sums.specs.Manifest.{IsFirstFault, IsManifest, OneDigest}
use Rattle.ext_sums.specs.Sums.{Entries, said}

-- a text has a manifest or a first faulty line
abbrev pub ManifestOrFault : Type 0
ManifestOrFault = (text : List ℕ) → ((sums : Entries) × IsManifest text sums) ⊎ ((line : ℕ) × IsFirstFault text line)

-- a text that has a manifest has no first faulty line
abbrev pub NoFaultInManifest : Type 0
NoFaultInManifest = (text : List ℕ) (sums : Entries) (line : ℕ) → IsManifest text sums → ¬ IsFirstFault text line

-- two lines that both are the first faulty one are the same
abbrev pub OneFault : Type 0
OneFault = (text : List ℕ) (a b : ℕ) → IsFirstFault text a → IsFirstFault text b → a ≡ b

-- two lists that both are what a text lists are equal
abbrev pub OneManifest : Type 0
OneManifest = (text : List ℕ) (a b : Entries) → IsManifest text a → IsManifest text b → a ≡ b

-- what is said of a name is what each entry of it has: entries have one digest a name where two entries of one name never
-- differ
abbrev pub OneDigestIsNoOther : Type 0
OneDigestIsNoOther = (entries : Entries) → OneDigest entries ↔ ((name a b : List ℕ) → Contains entries (name, a) → Contains entries (name, b) → a ≡ b)

-- each digest that a manifest lists is one
abbrev pub DigestsAreDigests : Type 0
DigestsAreDigests = (text : List ℕ) (sums : Entries) (name digest : List ℕ) → IsManifest text sums → said sums name ≡ Some digest → IsDigest digest
