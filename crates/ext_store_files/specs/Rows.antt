-- Worked rows of the names, and what the definitions by tests say in plain words.
use Rattle.std.specs.Prelude.{◌≡◌, ◌≢◌, ℕ, Bool, true, false, ◌==◌, ◌↔◌, ◌⊎◌, List, [], ◌∷◌, Some, None, MatchOption, codes}
use Rattle.ext_store_files.specs.Names.{IsGeneration, generation_name, generation_of, next_name, current_text, index_path, home_folder, home_path}
use Rattle.ext_store_files.specs.LeftOvers.{is_left_over}

-- the generation of a name is the one number whose generation has that name, and there is none exactly where no number has
abbrev pub NameOfOneGeneration : Type 0
NameOfOneGeneration = (name : List ℕ)
    → MatchOption (generation_of name) ((n : ℕ) → IsGeneration n → name ≢ generation_name n) (λ n. IsGeneration n × (name ≡ generation_name n))

-- the left-overs are `next` and the names of generations that are not needed
abbrev pub LeftOversAre : Type 0
LeftOversAre = (needed : ℕ → Bool) (name : List ℕ)
    → (is_left_over needed name ≡ true) ↔ ((name ≡ next_name) ⊎ ((n : ℕ) × IsGeneration n × (name ≡ generation_name n) × (needed n ≡ false)))

-- worked rows of paths
abbrev pub RowsOfPaths : Type 0
RowsOfPaths =
    (current_text 7 ≡ codes "g-7\n")
    × (index_path 12 ≡ codes "g-12" ∷ codes "index" ∷ [])
    × (home_path 2 0 ≡ codes "g-2" ∷ codes "000" ∷ codes "00" ∷ [])
    × (home_path 1 255 ≡ codes "g-1" ∷ codes "000" ∷ codes "ff" ∷ [])
    × (home_path 1 256 ≡ codes "g-1" ∷ codes "001" ∷ codes "00" ∷ [])
    × (home_folder 4294967295 262143 ≡ codes "g-4294967295" ∷ codes "3ff" ∷ [])
    × (home_path 4294967295 262143 ≡ codes "g-4294967295" ∷ codes "3ff" ∷ codes "ff" ∷ [])

-- worked rows of names
abbrev pub RowsOfNames : Type 0
RowsOfNames =
    (generation_of (codes "g-1") ≡ Some 1)
    × (generation_of (codes "g-4294967295") ≡ Some 4294967295)
    × (generation_of (codes "g-4294967296") ≡ None)
    × (generation_of (codes "g-0") ≡ None)
    × (generation_of (codes "g-01") ≡ None)
    × (generation_of (codes "g-") ≡ None)
    × (generation_of (codes "g-1\n") ≡ None)
    × (generation_of (codes "h-1") ≡ None)
    × (generation_of (codes "g1") ≡ None)

-- with generation 3 needed
abbrev pub RowsOfLeftOvers : Type 0
RowsOfLeftOvers =
    (is_left_over (λ n. n == 3) (codes "next") ≡ true)
    × (is_left_over (λ n. n == 3) (codes "g-2") ≡ true)
    × (is_left_over (λ n. n == 3) (codes "g-3") ≡ false)
    × (is_left_over (λ n. n == 3) (codes "current") ≡ false)
    × (is_left_over (λ n. n == 3) (codes "g-02") ≡ false)
    × (is_left_over (λ n. n == 3) (codes "next.old") ≡ false)
