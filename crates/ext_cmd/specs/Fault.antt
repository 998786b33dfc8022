-- Where words stop being words of a grammar, for any grammar: a kind of lists of words.
use Rattle.std.specs.Prelude.{◌≡◌, ℕ, ◌+◌, List, [], ◌∷◌, ◌++◌, length}

-- some words of the grammar begin with these
pub record BeginsWords (Is : List (List ℕ) → Type 0) (words : List (List ℕ)) : Type 0 where
  pub more : List (List ℕ)
  pub whole : Is (words ++ more)

-- after a prefix with which words of the grammar begin: with the next word too none begin; or no word is left, and the
-- prefix is none of them
abbrev pub IsStuck : (List (List ℕ) → Type 0) → List (List ℕ) → List (List ℕ) → Type 0
IsStuck Is prefix [] = ¬ Is prefix
IsStuck Is prefix (word ∷ rest) = ¬ BeginsWords Is (prefix ++ word ∷ [])

-- The words are none of the grammar, and this is the place of their first fault, where the first word has the place `first`:
-- the least place such that no words of the grammar begin with those up to it; where some begin with all of them, the place
-- after the last.
pub record IsFault (Is : List (List ℕ) → Type 0) (words : List (List ℕ)) (first place : ℕ) : Type 0 where
  pub prefix : List (List ℕ)
  pub rest : List (List ℕ)
  pub split : words ≡ prefix ++ rest
  pub after : place ≡ length prefix + first
  pub begins : BeginsWords Is prefix
  pub stuck : IsStuck Is prefix rest
