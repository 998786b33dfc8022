-- Paths of entries: lists of names, from the root on. Their text is the names with `/` between each two.
use Rattle.std.specs.Prelude.{◌≡◌, ℕ, ◌<◌, ◌≤◌, ◌==◌, List, [], ◌∷◌, length, Result, Ok, Err}
use Rattle.std.specs.List.{AllByRecursion, join_with_byte, slice_split}
use Rattle.std.specs.Cmp.Lexicographic.{slice_cmp}
use Rattle.std.specs.declared.cmp.Ordering.{Ordering}
use Rattle.ext_text.specs.Name.{IsName, bytes_cmp}
use Rattle.ext_text.specs.declared.path.PathErr.{PathErr}
use Rattle.ext_text.specs.declared.path.PathErr.TheVariants.{OutOfMemory, TooLong, TooDeep, BadName}
pub use Rattle.ext_text.specs.Prefix.{parent, is_prefix, is_proper_prefix, are_related}

-- the names with a `/` between each two; the root's text is empty
abbrev pub path_text : List (List ℕ) → List ℕ
path_text names = join_with_byte 47 names

-- the parts of a text between its slashes; the empty text is the root
abbrev pub path_parts : List ℕ → List (List ℕ)
path_parts [] = []
path_parts (b ∷ bs) = slice_split (λ x. x == 47) (b ∷ bs)

-- at most 64 names, and at most 4,096 bytes with the slashes
pub record IsPath (names : List (List ℕ)) : Type 0 where
  pub each : AllByRecursion IsName names
  pub depth : length names ≤ 64
  pub size : length (path_text names) ≤ 4096

-- lists of names, names by their bytes, a proper prefix first
abbrev pub path_cmp : List (List ℕ) → List (List ℕ) → Ordering
path_cmp = slice_cmp bytes_cmp

-- what `Path::read` gives: the path of this text, or the first of the reasons against it
abbrev pub ReadsPath : List ℕ → Result (List (List ℕ)) PathErr → Type 0
ReadsPath bytes (Ok path) = IsPath path × (path ≡ path_parts bytes) × (path_text path ≡ bytes)
ReadsPath bytes (Err OutOfMemory) = Unit {0}
ReadsPath bytes (Err TooLong) = 4096 < length bytes
ReadsPath bytes (Err TooDeep) = (length bytes ≤ 4096) × (64 < length (path_parts bytes))
ReadsPath bytes (Err BadName) = (length bytes ≤ 4096) × (length (path_parts bytes) ≤ 64) × ¬ (AllByRecursion IsName (path_parts bytes))

-- what `child` and `join` give for the longer path: it is within the limits, or the first limit that it passes
abbrev pub Lengthens : List (List ℕ) → Result (List (List ℕ)) PathErr → Type 0
Lengthens longer (Ok path) = IsPath path × (path ≡ longer)
Lengthens longer (Err OutOfMemory) = Unit {0}
Lengthens longer (Err TooLong) = 4096 < length (path_text longer)
Lengthens longer (Err TooDeep) = (length (path_text longer) ≤ 4096) × (64 < length longer)
Lengthens longer (Err BadName) = ⊥
