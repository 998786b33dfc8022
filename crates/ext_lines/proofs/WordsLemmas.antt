-- A word is among the pieces that are not empty where it is among the pieces, since a word is not empty itself.
use Rattle.std.proofs.Common.{◌≡◌, ℕ, suc, true, false, not, eqb, List, [], ◌∷◌, length, refl, sym, ap, ◌∙◌, arith}
use Rattle.std.specs.List.{list_any, slice_split}
use Rattle.std.specs.Str.{bytes_eq}
use Rattle.std.proofs.lemmas.Bool.Decides.{nat_tests}
use Rattle.std.proofs.lemmas.Map.Views.{any-filter_same}
use mathlib.Core.Bool.{false≢true}
use Rattle.ext_lines.specs.Blanks.{is_blank}
use Rattle.ext_lines.specs.Words.{has_word}

more : (n : ℕ) → eqb (suc n) 0 ≡ false
more n = grind (arith, nat_tests)

some_piece : (word piece : List ℕ) → eqb (length word) 0 ≡ false → bytes_eq word piece ≡ true → not (eqb (length piece) 0) ≡ true
some_piece [] piece some same = absurd (false≢true (sym some))
some_piece (b ∷ word) [] some same = cc
some_piece (b ∷ word) (c ∷ piece) some same = ap not (more (length piece))

no_piece : (word piece : List ℕ) → eqb (length word) 0 ≡ true → bytes_eq word piece ≡ true → not (eqb (length piece) 0) ≡ false
no_piece [] [] none same = refl
no_piece [] (c ∷ piece) none same = cc
no_piece (b ∷ word) piece none same = absurd (false≢true (sym (more (length word)) ∙ none))

-- a word that isn't empty is looked for among all pieces
pub has_word-pieces : (word text : List ℕ) → eqb (length word) 0 ≡ false → list_any (bytes_eq word) (slice_split is_blank text) ≡ has_word word text
has_word-pieces word text some = sym (any-filter_same (bytes_eq word) (λ piece. not (eqb (length piece) 0)) true (λ piece same. some_piece word piece some same) (slice_split is_blank text))

-- the empty text is no word
pub has_word-none : (word text : List ℕ) → eqb (length word) 0 ≡ true → has_word word text ≡ false
has_word-none word text none = any-filter_same (bytes_eq word) (λ piece. not (eqb (length piece) 0)) false (λ piece same. no_piece word piece none same) (slice_split is_blank text)
