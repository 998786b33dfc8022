-- The texts of links.
use Rattle.std.proofs.Common.{◌≡◌, ℕ, ◌<◌, true, ◌++◌, List, [], ◌∷◌, refl, sym, ap, ◌∙◌, subst, arith}
use Rattle.std.specs.Prelude.{IsUtf8, not, ◌==◌}
use Rattle.std.specs.List.{AllByRecursion, AllPass, flat_map}
use Rattle.std.proofs.lemmas.Bool.{and_parts, leb-true}
use Rattle.std.proofs.lemmas.List.Elements.{All-append, All-cons, All-nil, All-weaker}
use Rattle.std.proofs.lemmas.Str.{IsUtf8-append, IsUtf8-from_ascii, IsUtf8-nil}
use Rattle.std.proofs.lemmas.Str.Ascii.{IsAscii-from_all}
use Rattle.ext_lines.specs.Plain.{is_plain_byte}
use Rattle.ext_text.specs.Absolute.{absolute}
use Rattle.ext_text.specs.Name.{IsName, is_name_byte}
use Rattle.ext_text.specs.Path.{IsPath, path_text}
use Rattle.ext_text.specs.PathText.{text_of_both}
use Rattle.ext_text.proofs.ForCallers.{all_append, path_text-cons, text_of_names}
use Rattle.ext_tree.specs.Fields.{IsTarget}
use Rattle.ext_added.specs.Limits.{fits_text}

-- plain text
abbrev IsPlainText : List ℕ → Type 0
IsPlainText bytes = AllPass is_plain_byte bytes × IsUtf8 bytes

both_plain : (xs ys : List ℕ) → IsPlainText xs → IsPlainText ys → IsPlainText (xs ++ ys)
both_plain xs ys p q = (All-append (λ b. is_plain_byte b ≡ true) xs ys p.0 q.0, IsUtf8-append xs ys p.1 q.1)

slash_plain : IsPlainText (47 ∷ [])
slash_plain = (
  All-cons (λ b. is_plain_byte b ≡ true) 47 [] refl (All-nil (λ b. is_plain_byte b ≡ true)),
  IsUtf8-from_ascii (47 ∷ []) (IsAscii-from_all (47 ∷ []) (All-cons (λ b. b < 128) 47 [] (omega arith) (All-nil (λ b. b < 128)))),
)

name_plain : (name : List ℕ) → IsName name → IsPlainText name
name_plain name is = (
  All-weaker (λ b. is_name_byte b ≡ true) (λ b. is_plain_byte b ≡ true)
      (λ b plain. (and_parts (is_plain_byte b) (not (b == 47)) plain).0) name is.plain,
  is.utf8,
)

-- each name after a `/`
abbrev slashed : List (List ℕ) → List ℕ
slashed names = flat_map (λ n. 47 ∷ n) names

slashed_plain : (names : List (List ℕ)) → AllByRecursion IsName names → IsPlainText (slashed names)
slashed_plain [] all = (All-nil (λ b. is_plain_byte b ≡ true), IsUtf8-nil)
slashed_plain (n ∷ names) all =
    both_plain (47 ∷ n) (slashed names) (both_plain (47 ∷ []) n slash_plain (name_plain n all.0)) (slashed_plain names all.1)

absolute_plain : (path : List (List ℕ)) → AllByRecursion IsName path → IsPlainText (absolute path)
absolute_plain [] all = slash_plain
absolute_plain (n ∷ path) all = subst IsPlainText (sym (ap (λ bytes. 47 ∷ bytes) (path_text-cons n path))) (slashed_plain (n ∷ path) all)

-- a path as it is written, where that is short enough, is the text of a link
pub absolute_target : (path : List (List ℕ)) → AllByRecursion IsName path → fits_text (absolute path) ≡ true → IsTarget (absolute path)
absolute_target path names fits =
    let plain = absolute_plain path names in
    record { non_empty = omega arith; at_most_4096 = leb-true _ _ fits; plain = plain.0; text = plain.1 }

pub both_target : (p q : List (List ℕ)) → IsPath p → IsPath q → fits_text (absolute (p ++ q)) ≡ true → IsTarget (absolute (p ++ q))
both_target p q first second fits = absolute_target (p ++ q) (all_append IsName p q first.each second.each) fits

-- the text of names below others, after a `/`
pub absolute_below : (p q : List (List ℕ)) (upper lower text : List ℕ) → IsPath p → IsPath q → upper ≡ path_text p → lower ≡ path_text q → text ≡ 47 ∷ text_of_both upper lower → text ≡ absolute (p ++ q)
absolute_below p q upper lower text above below up low is =
    is ∙ (λ i. 47 ∷ text_of_both (up i) (low i)) ∙ ap (λ t. 47 ∷ t) (text_of_names p q above.each below.each)
