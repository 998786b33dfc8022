-- The tokens of a text, from its first byte on.
use Rattle.std.proofs.Common.{◌≡◌, ℕ, ◌<◌, ◌≤◌, Bool, true, false, cond, not, ◌&&◌, List, [], ◌∷◌, length, take, drop, refl, sym, ap, subst, ◌≢◌, ◌∙◌, arith, inl, inr, eqb, get_or, ◌-◌}
use Rattle.std.specs.List.{AllPass, prefix_len}
use Rattle.std.specs.Char.{is_ascii_digit, is_ascii_alphabetic}
use Rattle.std.proofs.lemmas.Bool.{cases_Bool}
use Rattle.std.proofs.lemmas.Bool.Decides.{nat_tests}
use Rattle.std.proofs.lemmas.List.Elements.{All-cons}
use Rattle.std.proofs.lemmas.Grind.{common_steps}
use Rattle.std.proofs.lemmas.List.Sums.{prefix_len_is}
use Rattle.ext_vers.specs.Version.{Token, Tilde, End, Dash, Caret, Dot, Letters, Number, Skip, tokens, pieces, kept, with_digit, with_letter}
use Rattle.ext_vers.specs.Token.{HasDigits, IsNext, bytes_after, is_end, is_separator, longest_prefix, tokens_after}

-- a longest prefix has the length that std counts
prefix_is : (p : ℕ → Bool) (xs : List ℕ) → prefix_len p xs ≡ length (longest_prefix p xs)
prefix_is p [] = refl
prefix_is p (x ∷ xs) =
    elim (cases_Bool (p x)) [
      | inl h ↦ rw h (let k : prefix_len p xs ≡ length (longest_prefix p xs) = prefix_is p xs in omega arith)
      | inr h ↦ rw h refl
    ]

-- a longest prefix ends at the first byte that fails
pub prefix_ends : (p : ℕ → Bool) (xs : List ℕ) (n : ℕ) → n ≤ length xs → ((k : ℕ) → k < n → p (get_or xs k 0) ≡ true) → (n < length xs → p (get_or xs n 0) ≡ false) → n ≡ length (longest_prefix p xs)
prefix_ends p xs n within passes stops = sym (prefix_len_is p xs n 0 within passes stops) ∙ prefix_is p xs

pub take_prefix : (p : ℕ → Bool) (xs : List ℕ) → take (length (longest_prefix p xs)) xs ≡ longest_prefix p xs
take_prefix p [] = refl
take_prefix p (x ∷ xs) =
    elim (cases_Bool (p x)) [
      | inl h ↦ rw h (ap (λ ys. x ∷ ys) (take_prefix p xs))
      | inr h ↦ rw h refl
    ]

pub drop_prefix : (p : ℕ → Bool) (xs : List ℕ) → drop (length (longest_prefix p xs)) xs ≡ bytes_after p xs
drop_prefix p [] = refl
drop_prefix p (x ∷ xs) =
    elim (cases_Bool (p x)) [
      | inl h ↦ rw h (drop_prefix p xs)
      | inr h ↦ rw h refl
    ]

pub after_short : (p : ℕ → Bool) (xs : List ℕ) → length (bytes_after p xs) ≤ length xs
after_short p [] = omega arith
after_short p (x ∷ xs) =
    elim (cases_Bool (p x)) [
      | inl h ↦ rw h (let k : length (bytes_after p xs) ≤ length xs = after_short p xs in omega arith)
      | inr h ↦ rw h (omega arith)
    ]

-- the first byte fails the test
abbrev pub Fails : (ℕ → Bool) → List ℕ → Type 0
Fails p [] = Unit {0}
Fails p (b ∷ bs) = p b ≡ false

pub fails_after : (p : ℕ → Bool) (xs : List ℕ) → Fails p (bytes_after p xs)
fails_after p [] = tt
fails_after p (x ∷ xs) =
    elim (cases_Bool (p x)) [
      | inl h ↦ rw h (fails_after p xs)
      | inr h ↦ rw h h
    ]

-- letters are not digits
digit_before_letters : (b x : ℕ) (ts : List Token) → with_digit b (with_letter x ts) ≡ Number (b ∷ []) ∷ with_letter x ts
digit_before_letters b x [] = refl
digit_before_letters b x (Letters ls ∷ ts) = refl
digit_before_letters b x (t ∷ ts) = refl

letter_before_digits : (b x : ℕ) (ts : List Token) → with_letter b (with_digit x ts) ≡ Letters (b ∷ []) ∷ with_digit x ts
letter_before_digits b x [] = refl
letter_before_digits b x (Number ds ∷ ts) = refl
letter_before_digits b x (t ∷ ts) = refl

abbrev marked : Bool → Bool → Bool → Bool → Token
marked p q r s = cond p Tilde (cond q Dash (cond r Caret (cond s Dot Skip)))

digit_before_mark : (p q r s : Bool) (b : ℕ) (ts : List Token) → with_digit b (marked p q r s ∷ ts) ≡ Number (b ∷ []) ∷ marked p q r s ∷ ts
digit_before_mark true q r s b ts = refl
digit_before_mark false true r s b ts = refl
digit_before_mark false false true s b ts = refl
digit_before_mark false false false true b ts = refl
digit_before_mark false false false false b ts = refl

letter_before_mark : (p q r s : Bool) (b : ℕ) (ts : List Token) → with_letter b (marked p q r s ∷ ts) ≡ Letters (b ∷ []) ∷ marked p q r s ∷ ts
letter_before_mark true q r s b ts = refl
letter_before_mark false true r s b ts = refl
letter_before_mark false false true s b ts = refl
letter_before_mark false false false true b ts = refl
letter_before_mark false false false false b ts = refl

letter_no_digit : (b : ℕ) → is_ascii_alphabetic b ≡ true → is_ascii_digit b ≡ false
letter_no_digit b h = grind (arith, nat_tests)

abbrev separates : Bool → Bool → Bool → Bool → Bool → Bool → Bool
separates d l p q r s = not d && not l && not p && not q && not r && not s

abbrev read : Bool → Bool → Bool → Bool → Bool → Bool → ℕ → List Token → List Token
read d l p q r s b ts = cond d (with_digit b ts) (cond l (with_letter b ts) (marked p q r s ∷ ts))

digit_before : (d l p q r s : Bool) (b x : ℕ) (ts : List Token) → d ≡ false → with_digit b (read d l p q r s x ts) ≡ Number (b ∷ []) ∷ read d l p q r s x ts
digit_before true l p q r s b x ts h = cc
digit_before false true p q r s b x ts h = digit_before_letters b x ts
digit_before false false p q r s b x ts h = digit_before_mark p q r s b ts

letter_before : (d l p q r s : Bool) (b x : ℕ) (ts : List Token) → l ≡ false → with_letter b (read d l p q r s x ts) ≡ Letters (b ∷ []) ∷ read d l p q r s x ts
letter_before true l p q r s b x ts h = letter_before_digits b x ts
letter_before false true p q r s b x ts h = cc
letter_before false false p q r s b x ts h = letter_before_mark p q r s b ts

prefix_stop : (p : ℕ → Bool) (x : ℕ) (xs : List ℕ) → p x ≡ false → longest_prefix p (x ∷ xs) ≡ []
prefix_stop p x xs h = rw h refl

after_stop : (p : ℕ → Bool) (x : ℕ) (xs : List ℕ) → p x ≡ false → bytes_after p (x ∷ xs) ≡ x ∷ xs
after_stop p x xs h = rw h refl

number_then : (ds es rest left : List ℕ) → ds ≡ es → rest ≡ left → Number ds ∷ pieces rest ≡ Number es ∷ pieces left
number_then ds es rest left p q = ap (λ k. Number k ∷ pieces rest) p ∙ ap (λ k. Number es ∷ pieces k) q

letters_then : (ds es rest left : List ℕ) → ds ≡ es → rest ≡ left → Letters ds ∷ pieces rest ≡ Letters es ∷ pieces left
letters_then ds es rest left p q = ap (λ k. Letters k ∷ pieces rest) p ∙ ap (λ k. Letters es ∷ pieces k) q

-- digits are read as one number
number_run : (bs : List ℕ) (b : ℕ) → is_ascii_digit b ≡ true → pieces (b ∷ bs) ≡ Number (longest_prefix is_ascii_digit (b ∷ bs)) ∷ pieces (bytes_after is_ascii_digit (b ∷ bs))
number_run [] b h = rw h refl
number_run (x ∷ xs) b h =
    elim (cases_Bool (is_ascii_digit x)) [
      | inl k ↦ rw h (ap (with_digit b) (number_run xs x k))
      | inr k ↦ rw h (digit_before (is_ascii_digit x) (is_ascii_alphabetic x) (eqb x 126) (eqb x 45) (eqb x 94) (eqb x 46) b x (pieces xs) k
          ∙ sym (number_then (b ∷ longest_prefix is_ascii_digit (x ∷ xs)) (b ∷ []) (bytes_after is_ascii_digit (x ∷ xs)) (x ∷ xs) (ap (λ ys. b ∷ ys) (prefix_stop is_ascii_digit x xs k)) (after_stop is_ascii_digit x xs k)))
    ]

-- letters are read as one run
letters_run : (bs : List ℕ) (b : ℕ) → is_ascii_alphabetic b ≡ true → pieces (b ∷ bs) ≡ Letters (longest_prefix is_ascii_alphabetic (b ∷ bs)) ∷ pieces (bytes_after is_ascii_alphabetic (b ∷ bs))
letters_run [] b h = rw (letter_no_digit b h, h) refl
letters_run (x ∷ xs) b h =
    elim (cases_Bool (is_ascii_alphabetic x)) [
      | inl k ↦ rw (letter_no_digit b h, h) (ap (with_letter b) (letters_run xs x k))
      | inr k ↦ rw (letter_no_digit b h, h) (letter_before (is_ascii_digit x) (is_ascii_alphabetic x) (eqb x 126) (eqb x 45) (eqb x 94) (eqb x 46) b x (pieces xs) k
          ∙ sym (letters_then (b ∷ longest_prefix is_ascii_alphabetic (x ∷ xs)) (b ∷ []) (bytes_after is_ascii_alphabetic (x ∷ xs)) (x ∷ xs) (ap (λ ys. b ∷ ys) (prefix_stop is_ascii_alphabetic x xs k)) (after_stop is_ascii_alphabetic x xs k)))
    ]

skip_one : (d l p q r s : Bool) (b : ℕ) (ts : List Token) → separates d l p q r s ≡ true → kept (read d l p q r s b ts) ≡ kept ts
skip_one true l p q r s b ts h = cc
skip_one false true p q r s b ts h = cc
skip_one false false true q r s b ts h = cc
skip_one false false false true r s b ts h = cc
skip_one false false false false true s b ts h = cc
skip_one false false false false false true b ts h = cc
skip_one false false false false false false b ts h = refl

-- what is no separator, no digit and no mark is a letter
letter_left : (d l p q r s : Bool) → separates d l p q r s ≡ false → d ≡ false → p ≡ false → q ≡ false → r ≡ false → s ≡ false → l ≡ true
letter_left true l p q r s h hd hp hq hr hs = cc
letter_left false true p q r s h hd hp hq hr hs = refl
letter_left false false true q r s h hd hp hq hr hs = cc
letter_left false false false true r s h hd hp hq hr hs = cc
letter_left false false false false true s h hd hp hq hr hs = cc
letter_left false false false false false true h hd hp hq hr hs = cc
letter_left false false false false false false h hd hp hq hr hs = cc

other : (a b : ℕ) → a ≢ b → eqb a b ≡ false
other a b h = grind (arith, nat_tests)

-- separators are skipped
pub skipped : (xs : List ℕ) → tokens (bytes_after is_separator xs) ≡ tokens xs
skipped [] = refl
skipped (x ∷ xs) =
    elim (cases_Bool (is_separator x)) [
      | inl h ↦ rw h (skipped xs ∙ sym (skip_one (is_ascii_digit x) (is_ascii_alphabetic x) (eqb x 126) (eqb x 45) (eqb x 94) (eqb x 46) x (pieces xs) h))
      | inr h ↦ rw h refl
    ]

prefix_passes : (p : ℕ → Bool) (xs : List ℕ) → AllPass p (longest_prefix p xs)
prefix_passes p [] = λ k d h. absurd (omega arith)
prefix_passes p (x ∷ xs) =
    elim (cases_Bool (p x)) [
      | inl h ↦ rw h (All-cons (λ b. p b ≡ true) x (longest_prefix p xs) h (prefix_passes p xs))
      | inr h ↦ rw h (λ k d h. absurd (omega arith))
    ]

-- the first token of what is left after the separators is that of the text
next : (text start rest : List ℕ) (token : Token) → start ≡ bytes_after is_separator text → tokens start ≡ token ∷ tokens_after token rest → (is_end token ≡ false → length rest < length start) → HasDigits token → IsNext text token rest
next text start rest token e t short digits = record {
  first = sym (skipped text) ∙ ap tokens (sym e) ∙ t;
  shorter = λ n. let k : length (bytes_after is_separator text) ≤ length text = after_short is_separator text in let l : length start ≡ length (bytes_after is_separator text) = ap length e in let m : length rest < length start = short n in omega arith;
  digits = digits;
}

pub end_next : (text start : List ℕ) → start ≡ bytes_after is_separator text → length start < 1 → IsNext text End start
end_next text [] e h = next text [] [] End e refl (λ n. cc) tt
end_next text (b ∷ bs) e h = absurd (omega arith)

rest_is : (b : ℕ) (bs : List ℕ) → take (length (b ∷ bs) - 1) (drop 1 (b ∷ bs)) ≡ bs
rest_is b bs = grind (arith, common_steps)

pub mark_next : (text start : List ℕ) (token : Token) (b : ℕ) → start ≡ bytes_after is_separator text → 1 ≤ length start → get_or start 0 0 ≡ b → ((bs : List ℕ) → tokens (b ∷ bs) ≡ token ∷ tokens_after token bs) → HasDigits token → IsNext text token (take (length start - 1) (drop 1 start))
mark_next text [] token b e h first t digits = absurd (omega arith)
mark_next text (x ∷ xs) token b e h first t digits =
    rw (rest_is x xs) (next text (x ∷ xs) xs token e (ap (λ c. tokens (c ∷ xs)) first ∙ t xs) (λ n. omega arith) digits)

pub number_next : (text start run rest : List ℕ) (n : ℕ) → start ≡ bytes_after is_separator text → 1 ≤ length start → is_ascii_digit (get_or start 0 0) ≡ true → n ≡ length (longest_prefix is_ascii_digit start) → run ≡ take n start → rest ≡ drop n start → IsNext text (Number run) rest
number_next text [] run rest n e h d en er es = absurd (omega arith)
number_next text (x ∷ xs) run rest n e h d en er es =
    let run_is : run ≡ longest_prefix is_ascii_digit (x ∷ xs) = er ∙ ap (λ k. take k (x ∷ xs)) en ∙ take_prefix is_ascii_digit (x ∷ xs) in
    let rest_is : rest ≡ bytes_after is_ascii_digit (x ∷ xs) = es ∙ ap (λ k. drop k (x ∷ xs)) en ∙ drop_prefix is_ascii_digit (x ∷ xs) in
    let short : length (bytes_after is_ascii_digit xs) ≤ length xs = after_short is_ascii_digit xs in
    rw (run_is, rest_is) (next text (x ∷ xs) (bytes_after is_ascii_digit (x ∷ xs)) (Number (longest_prefix is_ascii_digit (x ∷ xs))) e (ap kept (number_run xs x d)) (λ n. rw d (omega arith)) (prefix_passes is_ascii_digit (x ∷ xs)))

pub letters_next : (text start run rest : List ℕ) (n : ℕ) → start ≡ bytes_after is_separator text → 1 ≤ length start → is_ascii_digit (get_or start 0 0) ≡ false → get_or start 0 0 ≢ 126 → get_or start 0 0 ≢ 45 → get_or start 0 0 ≢ 94 → get_or start 0 0 ≢ 46 → n ≡ length (longest_prefix is_ascii_alphabetic start) → run ≡ take n start → rest ≡ drop n start → IsNext text (Letters run) rest
letters_next text [] run rest n e h d p q r s en er es = absurd (omega arith)
letters_next text (x ∷ xs) run rest n e h d p q r s en er es =
    let run_is : run ≡ longest_prefix is_ascii_alphabetic (x ∷ xs) = er ∙ ap (λ k. take k (x ∷ xs)) en ∙ take_prefix is_ascii_alphabetic (x ∷ xs) in
    let rest_is : rest ≡ bytes_after is_ascii_alphabetic (x ∷ xs) = es ∙ ap (λ k. drop k (x ∷ xs)) en ∙ drop_prefix is_ascii_alphabetic (x ∷ xs) in
    let short : length (bytes_after is_ascii_alphabetic xs) ≤ length xs = after_short is_ascii_alphabetic xs in
    let fails : Fails is_separator (x ∷ xs) = subst (λ (ys : List ℕ). Fails is_separator ys) (sym e) (fails_after is_separator text) in
    let l : is_ascii_alphabetic x ≡ true = letter_left (is_ascii_digit x) (is_ascii_alphabetic x) (eqb x 126) (eqb x 45) (eqb x 94) (eqb x 46) fails d (other x 126 p) (other x 45 q) (other x 94 r) (other x 46 s) in
    rw (run_is, rest_is) (next text (x ∷ xs) (bytes_after is_ascii_alphabetic (x ∷ xs)) (Letters (longest_prefix is_ascii_alphabetic (x ∷ xs))) e (ap kept (letters_run xs x l)) (λ n. rw l (omega arith)) tt)
