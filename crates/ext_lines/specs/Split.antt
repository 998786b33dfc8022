-- Splitting a text at the first of a byte, or at the first byte that passes a test.
use Rattle.std.specs.Prelude.{◌≡◌, ℕ, Bool, true, not, ◌==◌, if◌then◌else◌, List, [], ◌∷◌, ◌++◌, Option, Some, None, length, slice_index, take}
use Rattle.std.specs.List.{AllPass}
use Rattle.std.specs.Option.{option_map}

-- no byte of the text passes the test
abbrev pub NonePass : (ℕ → Bool) → List ℕ → Type 0
NonePass test bytes = AllPass (λ b. not (test b)) bytes

-- the byte stands nowhere in the text
abbrev pub Lacks : ℕ → List ℕ → Type 0
Lacks byte bytes = NonePass (λ b. b == byte) bytes

-- the text is a prefix without the byte, the byte, and the rest
pub record IsSplit (byte : ℕ) (bytes prefix rest : List ℕ) : Type 0 where
  pub whole : bytes ≡ prefix ++ byte ∷ rest
  pub prefix_lacks : Lacks byte prefix

-- the text is a prefix of which no byte passes the test, a byte that passes it, and the rest
pub record IsSplitBy (test : ℕ → Bool) (bytes prefix : List ℕ) (byte : ℕ) (rest : List ℕ) : Type 0 where
  pub whole : bytes ≡ prefix ++ byte ∷ rest
  pub none_before : NonePass test prefix
  pub passes : test byte ≡ true

-- the text before the first of a byte, and the text after it, as a function
abbrev pub split_of : ℕ → List ℕ → Option (List ℕ × List ℕ)
split_of byte [] = None
split_of byte (b ∷ bs) = if b == byte then Some ([], bs) else option_map (λ parts. (b ∷ parts.0, parts.1)) (split_of byte bs)

-- the text before its last byte, where that is this byte
abbrev pub before_last : ℕ → List ℕ → Option (List ℕ)
before_last byte [] = None
before_last byte (b ∷ bs) = if slice_index (b ∷ bs) (length bs) == byte then Some (take (length bs) (b ∷ bs)) else None
