-- The pick among the versions of an image, after systemd.v(7).
use Rattle.std.specs.Prelude.{◌≡◌, ℕ, false, List, [], ◌∷◌, ◌++◌, if◌then◌else◌, Option, Some, None}
use Rattle.std.specs.Borrow.{Bor}
use Rattle.std.specs.Ordering.{ordering_then, is_gt}
use Rattle.std.specs.declared.cmp.Ordering.{Ordering}
use Rattle.ext_lines.specs.ByteOrder.{bytes_cmp}
use Rattle.ext_text.specs.declared.arch.Arch.{Arch}
use Rattle.ext_tree.specs.Tree.{Entries, lookup}
use Rattle.ext_walk.specs.Leads.{LeadsToDirectory}
use Rattle.ext_vers.specs.Version.{order_of}
use Rattle.ext_find.specs.Version.{NamesVersion}
use Rattle.ext_find.specs.declared.pick.Candidate.{Candidate}

-- below the path a directory has the name: the stem, a `_`, and a text that names the version
pub record IsCandidate {C : Type 0} (es : Entries C) (arch : Arch) (path : List (List ℕ)) (stem name version : List ℕ) : Type 0 where
  pub text : List ℕ
  pub named : name ≡ stem ++ 95 ∷ text
  pub names : NamesVersion arch text version
  pub leads : LeadsToDirectory es (path ++ name ∷ [])

-- versions with their names, by the order of versions, and of one version by the bytes of the names
abbrev pub candidate_cmp : List ℕ × List ℕ → List ℕ × List ℕ → Ordering
candidate_cmp a b = ordering_then (order_of a.0 b.0) (bytes_cmp a.1 b.1)

-- no other candidate exceeds it
pub record IsPick {C : Type 0} (es : Entries C) (arch : Arch) (path : List (List ℕ)) (stem name : List ℕ) : Type 0 where
  pub version : List ℕ
  pub candidate : IsCandidate es arch path stem name version
  pub greatest : (other other_version : List ℕ) → IsCandidate es arch path stem other other_version
      → is_gt (candidate_cmp (other_version, other) (version, name)) ≡ false

-- the picked name, or that there is no candidate
abbrev pub Picks : {C : Type 0} → Entries C → Arch → List (List ℕ) → List ℕ → Option (Bor (List ℕ)) → Type 0
Picks es arch path stem None = (name : List ℕ) → ¬ IsPick es arch path stem name
Picks es arch path stem (Some name) = IsPick es arch path stem name.now

-- the candidate of this name with its one version, or that the name is none
abbrev pub CandidateAt : {C : Type 0} → Entries C → Arch → List (List ℕ) → List ℕ → List ℕ → Option Candidate → Type 0
CandidateAt es arch path stem name None = (version : List ℕ) → ¬ IsCandidate es arch path stem name version
CandidateAt es arch path stem name (Some c) =
    (c.name.now ≡ name) × IsCandidate es arch path stem name c.version.now
    × ((version : List ℕ) → IsCandidate es arch path stem name version → version ≡ c.version.now)

-- the greatest candidate of those that are passed, once the entries of the directory are left
abbrev pub IsBest : {C : Type 0} → Entries C → Arch → List (List ℕ) → List ℕ → List (List ℕ) → Entries C → Option Candidate → Type 0
IsBest es arch path stem directory rest None =
    (name version : List ℕ) → IsCandidate es arch path stem name version → ¬ (lookup rest (directory ++ name ∷ []) ≡ None)
IsBest es arch path stem directory rest (Some c) =
    IsCandidate es arch path stem c.name.now c.version.now
    × ((name version : List ℕ) → IsCandidate es arch path stem name version → lookup rest (directory ++ name ∷ []) ≡ None
    → is_gt (candidate_cmp (version, name) (c.version.now, c.name.now)) ≡ false)

-- the greater of two candidates, the first where neither is
abbrev pub better_of : Option Candidate → Option Candidate → Option Candidate
better_of None found = found
better_of (Some best) None = Some best
better_of (Some best) (Some found) =
    if is_gt (candidate_cmp (found.version.now, found.name.now) (best.version.now, best.name.now)) then Some found else Some best
