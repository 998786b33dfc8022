-- Versions in the names of candidates, after systemd.v(7). That an architecture counts only where a version stands before
-- it is this project's own rule.
use Rattle.std.specs.Prelude.{◌≡◌, ◌⊎◌, ℕ, List, ◌∷◌, ◌++◌, Option, Some, None}
use Rattle.std.specs.Borrow.{Bor}
use Rattle.ext_text.specs.Arch.{arch_name}
use Rattle.ext_text.specs.declared.arch.Arch.{Arch}
use Rattle.ext_vers.specs.Version.{IsVersion}

-- the text is a version and, after a `_`, an architecture
pub record HasArch (text version : List ℕ) (arch : Arch) : Type 0 where
  pub whole : text ≡ version ++ 95 ∷ arch_name arch
  pub is_version : IsVersion version

-- the version for the architecture that a text names: before the architecture where it has one, the whole text otherwise
abbrev pub NamesVersion : Arch → List ℕ → List ℕ → Type 0
NamesVersion arch text version =
    HasArch text version arch
    ⊎ ((text ≡ version) × IsVersion version × ((before : List ℕ) (other : Arch) → ¬ HasArch text before other))

-- the one version that the text names, or that it names none
abbrev pub ReadsVersion : Arch → List ℕ → Option (Bor (List ℕ)) → Type 0
ReadsVersion arch text None = (version : List ℕ) → ¬ NamesVersion arch text version
ReadsVersion arch text (Some version) =
    NamesVersion arch text version.now × ((other : List ℕ) → NamesVersion arch text other → other ≡ version.now)

-- a version and, after a `_`, an architecture with which a text ends, or that it ends with none
abbrev pub EndsWithArch : List ℕ → Option (Bor (List ℕ) × Bor (List ℕ)) → Type 0
EndsWithArch text None = (version : List ℕ) (arch : Arch) → ¬ HasArch text version arch
EndsWithArch text (Some p) = (arch : Arch) × HasArch text p.0.now arch × (p.1.now ≡ arch_name arch)

-- the one version that the end of a name names, past its first bytes, or that it names none
abbrev pub ReadsVersionAfter : Arch → List ℕ → List ℕ → Option (Bor (List ℕ)) → Type 0
ReadsVersionAfter arch start name None = (text version : List ℕ) → name ≡ start ++ text → ¬ NamesVersion arch text version
ReadsVersionAfter arch start name (Some version) = (text : List ℕ) × (name ≡ start ++ text) × ReadsVersion arch text (Some version)
