-- Versions and their order. The order is this project's own, made after the Version Format Specification of the UAPI
-- group (UAPI.10); where the two differ, the rules below hold.
use Rattle.std.specs.Prelude.{◌≡◌, ℕ, ◌<◌, ◌≤◌, Bool, true, if◌then◌else◌, ◌||◌, ◌==◌, List, [], ◌∷◌, length}
use Rattle.std.specs.List.{AllPass, list_any}
use Rattle.std.specs.Char.{is_ascii_digit, is_ascii_alphabetic, is_ascii_alphanumeric}
use Rattle.std.specs.Str.Parse.{digits_value}
use Rattle.std.specs.Cmp.Lexicographic.{slice_cmp}
use Rattle.std.specs.Ordering.{nat_cmp, ordering_then}
use Rattle.std.specs.declared.cmp.Ordering.{Ordering}

-- what a text is read as: runs of letters and of digits, marks that stand alone, and an end; Skip is a byte that only
-- separates
pub data Token : Type 0 where
  Tilde : Token
  End : Token
  Dash : Token
  Caret : Token
  Dot : Token
  Letters : List ℕ → Token
  Number : List ℕ → Token
  Skip : Token

-- the digit joins the number that it stands before
abbrev pub with_digit : ℕ → List Token → List Token
with_digit b (Number ds ∷ ts) = Number (b ∷ ds) ∷ ts
with_digit b ts = Number (b ∷ []) ∷ ts

-- the letter joins the letters that it stands before
abbrev pub with_letter : ℕ → List Token → List Token
with_letter b (Letters ls ∷ ts) = Letters (b ∷ ls) ∷ ts
with_letter b ts = Letters (b ∷ []) ∷ ts

-- what any other byte is: `~`, `-`, `^` and `.` are tokens
abbrev pub mark : ℕ → Token
mark b =
    if b == 126 then Tilde
    else if b == 45 then Dash
    else if b == 94 then Caret
    else if b == 46 then Dot
    else Skip

-- the byte before what follows it
abbrev pub onto : ℕ → List Token → List Token
onto b ts =
    if is_ascii_digit b then with_digit b ts
    else if is_ascii_alphabetic b then with_letter b ts
    else mark b ∷ ts

-- all that a text is made of, and the end
abbrev pub pieces : List ℕ → List Token
pieces [] = End ∷ []
pieces (b ∷ bs) = onto b (pieces bs)

-- without what only separates
abbrev pub kept : List Token → List Token
kept [] = []
kept (Skip ∷ ts) = kept ts
kept (t ∷ ts) = t ∷ kept ts

-- what a text is read as
abbrev pub tokens : List ℕ → List Token
tokens bs = kept (pieces bs)

-- `~` < end < `-` < `^` < `.` < letters < numbers; no token is a Skip
abbrev pub token_rank : Token → ℕ
token_rank Tilde = 0
token_rank End = 1
token_rank Dash = 2
token_rank Caret = 3
token_rank Dot = 4
token_rank (Letters ls) = 5
token_rank (Number ds) = 6
token_rank Skip = 7

-- the number that the digits write, and 0 for every other token
abbrev pub value : Token → ℕ
value (Number ds) = digits_value 10 ds
value t = 0

-- the letters of a run, and none for every other token
abbrev pub letters : Token → List ℕ
letters (Letters ls) = ls
letters t = []

-- by rank, then numbers by their values and letters byte by byte, a prefix first
abbrev pub token_cmp : Token → Token → Ordering
token_cmp t u = ordering_then (nat_cmp (token_rank t) (token_rank u)) (ordering_then (nat_cmp (value t) (value u)) (slice_cmp nat_cmp (letters t) (letters u)))

-- by the first tokens that differ; both lists end with an End, so neither runs out first
abbrev pub version_cmp : List ℕ → List ℕ → Ordering
version_cmp a b = slice_cmp token_cmp (tokens a) (tokens b)

-- the order of versions, and of equal ones that of their bytes
abbrev pub order_of : List ℕ → List ℕ → Ordering
order_of a b = ordering_then (version_cmp a b) (slice_cmp nat_cmp a b)

-- a letter, a digit, or one of `.`, `_`, `-`, `+`, `~`, `^`
abbrev pub is_version_byte : ℕ → Bool
is_version_byte b = is_ascii_alphanumeric b || (b == 46) || (b == 95) || (b == 45) || (b == 43) || (b == 126) || (b == 94)

-- 1 to 128 such bytes, one of them a letter or a digit
pub record IsVersion (text : List ℕ) : Type 0 where
  pub non_empty : 0 < length text
  pub at_most_128 : length text ≤ 128
  pub allowed : AllPass is_version_byte text
  pub letter_or_digit : list_any is_ascii_alphanumeric text ≡ true
