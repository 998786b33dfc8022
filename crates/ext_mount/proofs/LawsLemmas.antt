-- Words of a run ask one thing, and have one first fault.
use Rattle.std.proofs.Common.{◌≡◌, ℕ, ◌+◌, ◌<◌, ◌^◌, List, [], ◌∷◌, ◌++◌, length, get_or, Option, None, Some, refl, sym, ap, ◌∙◌, subst, append_assoc, append-nil, arith, decimal}
use Rattle.std.proofs.lemmas.Fmt.{decimal_injective}
use Rattle.std.proofs.lemmas.List.{append_cancel_left}
use Rattle.std.specs.Prelude.{IfSome, slice_get}
use Rattle.ext_mount.specs.Asked.{AsksImage, BeginsImage, GoesImageWrong, IsGenerationNumber, IsImageAsk, IsImageTime, IsImageWrongAt, image_ask_words, mark_option, time_option}
use Rattle.ext_mount.specs.declared.asked.ImageAsk.{ImageAsk}
use Rattle.ext_mount.proofs.WordLemmas.{asked_of, some_same}

-- a part of a wrong beginning begins nothing
wrong_prefix : (p r q s : List (List ℕ)) → (front : List (List ℕ)) → p ++ r ≡ q ++ s → length p < length q → GoesImageWrong (front ++ p) r → BeginsImage (front ++ q) → ⊥
wrong_prefix [] [] [] s front same longer wrong begins = omega arith
wrong_prefix [] [] (y ∷ q) s front same longer wrong begins = cc
wrong_prefix [] (x ∷ r) [] s front same longer wrong begins = omega arith
wrong_prefix [] (x ∷ r) (y ∷ q) s front same longer wrong begins =
    let first : y ≡ x = cc in
    wrong (record {
      more = q ++ begins.more;
      whole = subst AsksImage
          (append_assoc front (y ∷ q) begins.more ∙ ap (λ (w : List ℕ). front ++ w ∷ (q ++ begins.more)) first ∙ sym (append_assoc front (x ∷ []) (q ++ begins.more)) ∙ ap (λ (l : List (List ℕ)). (l ++ x ∷ []) ++ (q ++ begins.more)) (sym (append-nil front)))
          begins.whole;
    })
wrong_prefix (x ∷ p) r [] s front same longer wrong begins = omega arith
wrong_prefix (x ∷ p) r (y ∷ q) s front same longer wrong begins =
    let first : y ≡ x = cc in
    let rest : p ++ r ≡ q ++ s = cc in
    wrong_prefix p r q s (front ++ x ∷ []) rest (omega arith)
    (subst (λ (l : List (List ℕ)). GoesImageWrong l r) (sym (append_assoc front (x ∷ []) p)) wrong)
    (subst BeginsImage (ap (λ (w : List ℕ). front ++ w ∷ q) first ∙ sym (append_assoc front (x ∷ []) q)) begins)

-- words have one first fault
pub one_wrong_place : (words : List (List ℕ)) (a b : ℕ) → IsImageWrongAt words a → IsImageWrongAt words b → a ≡ b
one_wrong_place words a b f g =
    let not_before : length f.prefix < length g.prefix → ⊥ = λ longer. wrong_prefix f.prefix f.rest g.prefix g.rest [] (sym f.split ∙ g.split) longer f.wrong g.begins in
    let not_after : length g.prefix < length f.prefix → ⊥ = λ longer. wrong_prefix g.prefix g.rest f.prefix f.rest [] (sym g.split ∙ f.split) longer g.wrong f.begins in
    let same : length f.prefix ≡ length g.prefix = omega arith in
    f.after ∙ ap (λ (n : ℕ). n + 1) same ∙ sym g.after

-- the word at an index tells one number
one_number : (option : List ℕ) (a b : ℕ) → a < 2 ^ 64 → b < 2 ^ 64 → Some (option ++ decimal a) ≡ Some (option ++ decimal b) → a ≡ b
one_number option a b small few same = decimal_injective a b small few (append_cancel_left option (decimal a) (decimal b) (some_same (option ++ decimal a) (option ++ decimal b) same))

first_word : (xs ys : List (List ℕ)) → xs ≡ ys → slice_get xs 0 ≡ slice_get ys 0
first_word xs ys same = ap (λ (ws : List (List ℕ)). slice_get ws 0) same

second_word : (xs ys : List (List ℕ)) → xs ≡ ys → slice_get xs 1 ≡ slice_get ys 1
second_word xs ys same = ap (λ (ws : List (List ℕ)). slice_get ws 1) same

-- the words of one number, of two
abbrev mark_word : ℕ → List ℕ
mark_word g = mark_option ++ decimal g

abbrev time_word : ℕ → List ℕ
time_word t = time_option ++ decimal t

-- they differ in their third byte
apart : (t g : ℕ) → time_word t ≡ mark_word g → ⊥
apart t g same = let third : 116 ≡ 109 = ap (λ (l : List ℕ). get_or l 2 0) same in omega (arith, third)

same_words : (m n s t : Option ℕ) → IfSome m IsGenerationNumber → IfSome n IsGenerationNumber → IfSome s IsImageTime → IfSome t IsImageTime
    → image_ask_words (asked_of m s) ≡ image_ask_words (asked_of n t) → (m ≡ n) × (s ≡ t)
same_words None None None None im jn js jt same = (refl, refl)
same_words None None None (Some t) im jn js jt same = absurd (cc)
same_words None None (Some s) None im jn js jt same = absurd (cc)
same_words None None (Some s) (Some t) im jn js jt same = (refl, ap Some (one_number time_option s t (omega (arith, js)) (omega (arith, jt)) (first_word (time_word s ∷ []) (time_word t ∷ []) same)))
same_words None (Some n) None None im jn js jt same = absurd (cc)
same_words None (Some n) None (Some t) im jn js jt same = absurd (cc)
same_words None (Some n) (Some s) None im jn js jt same = absurd (apart s n (some_same (time_word s) (mark_word n) (first_word (time_word s ∷ []) (mark_word n ∷ []) same)))
same_words None (Some n) (Some s) (Some t) im jn js jt same = absurd (cc (second_word (time_word s ∷ []) (mark_word n ∷ time_word t ∷ []) same))
same_words (Some m) None None None im jn js jt same = absurd (cc)
same_words (Some m) None None (Some t) im jn js jt same = absurd (apart t m (sym (some_same (mark_word m) (time_word t) (first_word (mark_word m ∷ []) (time_word t ∷ []) same))))
same_words (Some m) None (Some s) None im jn js jt same = absurd (cc)
same_words (Some m) None (Some s) (Some t) im jn js jt same = absurd (cc (second_word (mark_word m ∷ time_word s ∷ []) (time_word t ∷ []) same))
same_words (Some m) (Some n) None None im jn js jt same = (ap Some (one_number mark_option m n (omega (arith, im.1)) (omega (arith, jn.1)) (first_word (mark_word m ∷ []) (mark_word n ∷ []) same)), refl)
same_words (Some m) (Some n) None (Some t) im jn js jt same = absurd (cc (second_word (mark_word m ∷ []) (mark_word n ∷ time_word t ∷ []) same))
same_words (Some m) (Some n) (Some s) None im jn js jt same = absurd (cc (second_word (mark_word m ∷ time_word s ∷ []) (mark_word n ∷ []) same))
same_words (Some m) (Some n) (Some s) (Some t) im jn js jt same = (
  ap Some (one_number mark_option m n (omega (arith, im.1)) (omega (arith, jn.1)) (first_word (mark_word m ∷ time_word s ∷ []) (mark_word n ∷ time_word t ∷ []) same)),
  ap Some (one_number time_option s t (omega (arith, js)) (omega (arith, jt)) (second_word (mark_word m ∷ time_word s ∷ []) (mark_word n ∷ time_word t ∷ []) same)),
)

-- words ask one thing
pub one_asked : (a b : ImageAsk) → IsImageAsk a → IsImageAsk b → image_ask_words a ≡ image_ask_words b → a ≡ b
one_asked a b first second same =
    let both = same_words a.mark b.mark a.time b.time first.mark second.mark first.time second.time same in
    let mark : a.mark ≡ b.mark = both.0 in
    let time : a.time ≡ b.time = both.1 in
    λ i. record { mark = mark i; time = time i }
