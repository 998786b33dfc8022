-- A store whose `current`, or whose index, is none. This project's own.
use Rattle.std.specs.Prelude.{◌≡◌, ◌≢◌, ℕ, ◌⊎◌, Option, Some, None}
use Rattle.ext_disk.specs.Disk.{Node, Tree, folder, file}
use Rattle.ext_index.specs.Faulty.{IsFaulty}
use Rattle.ext_store_files.specs.Names.{IsGeneration, current_path, current_text, index_path}
use Rattle.ext_gen.specs.Opened.{Generation}
use Rattle.ext_gen.specs.Store.{Points}

-- `current` is there, and is not the file that names a generation
abbrev pub NamesNone : Option Node → Type 0
NamesNone None = ⊥
NamesNone (Some folder) = Unit {0}
NamesNone (Some (file bytes)) = (n : ℕ) → IsGeneration n → bytes ≢ current_text n

-- what stands where the generation's index should is none, from this line on: the first where it is no file
abbrev pub IsFaultyIndex : ℕ → Option Node → ℕ → Type 0
IsFaultyIndex n None line = line ≡ 1
IsFaultyIndex n (Some folder) line = line ≡ 1
IsFaultyIndex n (Some (file bytes)) line = IsFaulty n bytes line

-- `current` names a generation whose index is faulty in this line
pub record HasFaultyIndex (t : Tree) (line : ℕ) : Type 0 where
  pub number : ℕ
  pub is : IsGeneration number
  pub current : t current_path ≡ Some (file (current_text number))
  pub index : IsFaultyIndex number (t (index_path number)) line

-- The store is broken in this line: 0 where `current` names no generation, else the first line of the index that breaks a rule.
abbrev pub IsBroken : Tree → ℕ → Type 0
IsBroken t line = (NamesNone (t current_path) × (line ≡ 0)) ⊎ HasFaultyIndex t line

-- a store points to one generation, or to none
abbrev pub OneGeneration : Type 0
OneGeneration = (t : Tree) (a b : Option Generation) → Points t a → Points t b → a ≡ b

-- a broken store points to nothing, not even to none
abbrev pub BrokenPointsToNothing : Type 0
BrokenPointsToNothing = (t : Tree) (line : ℕ) (a : Option Generation) → IsBroken t line → ¬ (Points t a)

-- a store is broken in one line
abbrev pub OneBrokenLine : Type 0
OneBrokenLine = (t : Tree) (k l : ℕ) → IsBroken t k → IsBroken t l → k ≡ l
