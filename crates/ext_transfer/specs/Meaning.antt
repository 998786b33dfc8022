-- What the specifiers of a host stand for, and the next one of a text.
use Rattle.std.specs.Prelude.{◌≡◌, ℕ, List, [], ◌∷◌, Option, Some, None, MatchOption}
use Rattle.std.specs.Borrow.{Bor}
use Rattle.std.specs.Option.{option_copied}
use Rattle.ext_transfer.specs.declared.specifiers.Specifiers.{Specifiers}
use Rattle.ext_transfer.specs.Specifiers.{specified}

-- what letters stand for
abbrev pub letter_meaning : Specifiers → ℕ → Option (List ℕ)
letter_meaning specifiers = specified (option_copied specifiers.host) specifiers.arch

-- the meaning of the first letter if it has one
abbrev pub first_meaning : (ℕ → Option (List ℕ)) → List ℕ → Option (List ℕ)
first_meaning meaning [] = None
first_meaning meaning (b ∷ bs) = meaning b

-- what the first letter stands for, and the text after it, if it has a meaning
abbrev pub NextSpecified : (ℕ → Option (List ℕ)) → List ℕ → Option (Bor (List ℕ) × Bor (List ℕ)) → Type 0
NextSpecified meaning after found =
    MatchOption found (first_meaning meaning after ≡ None)
    (λ parts. (letter : ℕ) × (after ≡ letter ∷ parts.1.now) × (meaning letter ≡ Some parts.0.now))
