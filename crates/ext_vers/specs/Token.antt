-- Reading a text's tokens one after another.
use Rattle.std.specs.Prelude.{◌≡◌, ℕ, ◌<◌, Bool, true, false, if◌then◌else◌, not, ◌&&◌, ◌==◌, List, [], ◌∷◌, length}
use Rattle.std.specs.List.{AllPass}
use Rattle.std.specs.Char.{is_ascii_digit, is_ascii_alphabetic}
use Rattle.ext_vers.specs.Version as version
use Rattle.ext_vers.specs.Version.{Token, End, Number, tokens}
use Rattle.ext_vers.specs.declared.token.Token.{Token as Read}
use Rattle.ext_vers.specs.declared.token.Token.TheVariants as read

-- a token that the code reads, as that of the order
abbrev pub token_of : Read → Token
token_of read.Tilde = version.Tilde
token_of read.End = version.End
token_of read.Dash = version.Dash
token_of read.Caret = version.Caret
token_of read.Dot = version.Dot
token_of (read.Letters ls) = version.Letters ls.now
token_of (read.Number ds) = version.Number ds.now

-- the longest prefix whose bytes pass
abbrev pub longest_prefix : (ℕ → Bool) → List ℕ → List ℕ
longest_prefix p [] = []
longest_prefix p (b ∷ bs) = if p b then b ∷ longest_prefix p bs else []

-- what follows it
abbrev pub bytes_after : (ℕ → Bool) → List ℕ → List ℕ
bytes_after p [] = []
bytes_after p (b ∷ bs) = if p b then bytes_after p bs else b ∷ bs

-- no digit, no letter, and none of `~`, `-`, `^`, `.`
abbrev pub is_separator : ℕ → Bool
is_separator b = not (is_ascii_digit b) && not (is_ascii_alphabetic b) && not (b == 126) && not (b == 45) && not (b == 94) && not (b == 46)

-- the end of a text
abbrev pub is_end : Token → Bool
is_end End = true
is_end t = false

-- what follows a token: nothing after the end
abbrev pub tokens_after : Token → List ℕ → List Token
tokens_after End rest = []
tokens_after t rest = tokens rest

-- only digits in a number
abbrev pub HasDigits : Token → Type 0
HasDigits (Number ds) = AllPass is_ascii_digit ds
HasDigits t = Unit {0}

-- the token stands first in the text, and the rest after it
pub record IsNext (text : List ℕ) (token : Token) (rest : List ℕ) : Type 0 where
  pub first : tokens text ≡ token ∷ tokens_after token rest
  pub shorter : is_end token ≡ false → length rest < length text
  pub digits : HasDigits token
