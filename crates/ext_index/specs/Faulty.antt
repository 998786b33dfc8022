-- The first line of bytes that breaks a rule of an index; lines are counted from 1. An index that is too long is faulty at its
-- first line. Each other rule but one is asked line by line, given the lines before: the first line that may not stand where
-- it stands is the faulty one, and a missing line is counted where it should stand. Where all lines may stand, the items of the
-- kept manifests are compared with the base, the host's own first and then those of the past trees; a manifest that says other
-- than the base has is faulty at its first line.
use Rattle.std.specs.Prelude.{◌≡◌, ℕ, ◌+◌, ◌<◌, ◌≤◌, ◌⊎◌, List, [], ◌∷◌, ◌++◌, length, codes, Option, Some, None}
use Rattle.std.specs.List.{AllByRecursion, flat_map}
use Rattle.ext_host.specs.Host.{Hierarchies, HostTree, base_at, hierarchies_in, past_tree, present}
use Rattle.ext_host.specs.Valid.{HasItems}
use Rattle.ext_host.specs.declared.manifest.Manifest.{Manifest}
use Rattle.ext_host.specs.declared.past.Past.{Past}
use Rattle.ext_host.specs.declared.host.Host.{Host}
use Rattle.ext_index_lines.specs.Lines.{header_line, host_line, number_line}
use Rattle.ext_index_lines.specs.Out.{at_most_64_bits}
use Rattle.ext_index_lines.specs.declared.text_number.TextNumber.{TextNumber}
use Rattle.ext_index_lines.specs.declared.text_number.TextNumber.TheVariants.{One, Later}
use Rattle.ext_index_reader.specs.Reading.{IsSaid, StopsAtLine}
use Rattle.ext_index_reader.specs.declared.said.Said.{Said}
use Rattle.ext_index.specs.Index.{attachment_lines, machine_lines, manifest_lines, merged_lines, past_lines, section_lines}
use Rattle.ext_index.specs.ValidIndex.{most_index_bytes}

-- each manifest of the tree says what its base has
abbrev pub AreRight : Hierarchies → HostTree → Type 0
AreRight hierarchies tree = AllByRecursion (HasItems (base_at hierarchies tree)) tree.kept

-- the first that doesn't, after those before it
pub record IsFirstWrong (hierarchies : Hierarchies) (tree : HostTree) (before : List Manifest) : Type 0 where
  pub wrong : Manifest
  pub after : List Manifest
  pub parted : tree.kept ≡ before ++ wrong ∷ after
  pub right : AllByRecursion (HasItems (base_at hierarchies tree)) before
  pub differs : ¬ HasItems (base_at hierarchies tree) wrong

-- those of its tree
abbrev pub lines_to_kept : HostTree → List Manifest → List (List ℕ)
lines_to_kept tree before =
    merged_lines (codes "sysext") tree.sysext
    ++ (merged_lines (codes "confext") tree.confext
    ++ (number_line (codes "attached") (length tree.attached)
    ∷ (flat_map attachment_lines tree.attached ++ (number_line (codes "kept") (length tree.kept) ∷ flat_map manifest_lines before))))

-- those before the host's own sections
abbrev pub head_lines : TextNumber → Host → List (List ℕ)
head_lines One host = header_line One ∷ host_line host.arch host.scope ∷ []
head_lines (Later owners) host = machine_lines owners host

-- those before the sections of a past tree, with the past trees before it
abbrev pub lines_to_past : TextNumber → ℕ → Host → List Past → Past → List (List ℕ)
lines_to_past number g host before past =
    head_lines number host
    ++ (section_lines g (present host) ++ (number_line (codes "past") (length host.past) ∷ (flat_map (past_lines g) before ++ number_line (codes "g") past.generation ∷ [])))

-- one of the host's own
pub record IsWrongNow (number : TextNumber) (host : Host) (line : ℕ) : Type 0 where
  pub before : List Manifest
  pub wrong : IsFirstWrong (hierarchies_in host) (present host) before
  pub counted : line ≡ length (head_lines number host ++ lines_to_kept (present host) before) + 1

-- one of a past tree
pub record IsWrongPast (number : TextNumber) (g : ℕ) (host : Host) (line : ℕ) : Type 0 where
  pub now : AreRight (hierarchies_in host) (present host)
  pub trees : List Past
  pub tree : Past
  pub more : List Past
  pub parted : host.past ≡ trees ++ tree ∷ more
  pub right : AllByRecursion (λ past. AreRight (hierarchies_in host) (past_tree past)) trees
  pub before : List Manifest
  pub wrong : IsFirstWrong (hierarchies_in host) (past_tree tree) before
  pub counted : line ≡ length (lines_to_past number g host trees tree ++ lines_to_kept (past_tree tree) before) + 1

-- the line of the first manifest that says other than the base has, of the host or of a past tree
abbrev pub IsWrongAt : TextNumber → ℕ → Host → ℕ → Type 0
IsWrongAt number g host line = IsWrongNow number host line ⊎ IsWrongPast number g host line

-- each manifest of the host and of its past trees says what its base has
pub record IsRight (host : Host) : Type 0 where
  pub now : AreRight (hierarchies_in host) (present host)
  pub past : AllByRecursion (λ past. AreRight (hierarchies_in host) (past_tree past)) host.past

-- what a search for such a manifest finds: its line, as a count of 64 bits tells it, or that there is none
abbrev pub FindsWrong : TextNumber → ℕ → Host → Option ℕ → Type 0
FindsWrong number g host None = IsRight host
FindsWrong number g host (Some found) = (line : ℕ) × IsWrongAt number g host line × (found ≡ at_most_64_bits line)

-- the lines run through, and a manifest says other than the base has
pub record HasWrongManifest (g : ℕ) (bytes : List ℕ) (line : ℕ) : Type 0 where
  pub said : Said
  pub is_said : IsSaid g bytes said
  pub wrong : IsWrongAt said.text g said.host line

-- the first faulty line of bytes that are no index of the generation
abbrev pub IsFaulty : ℕ → List ℕ → ℕ → Type 0
IsFaulty g bytes line =
    ((most_index_bytes < length bytes) × (line ≡ 1))
    ⊎ ((length bytes ≤ most_index_bytes) × (StopsAtLine g bytes line ⊎ HasWrongManifest g bytes line))
