-- Words that ask nothing: where they go wrong.
use Rattle.std.proofs.Common.{◌≡◌, ◌≢◌, ℕ, ◌+◌, ◌<◌, ◌≤◌, List, [], ◌∷◌, ◌++◌, length, Option, None, Some, refl, sym, ap, ◌∙◌, subst, append-nil, arith, decimal}
use Rattle.std.proofs.lemmas.Fmt.{decimal_injective}
use Rattle.std.proofs.lemmas.List.{append_cancel_left}
use Rattle.std.specs.Prelude.{IfSome, MatchOption, slice_get}
use Rattle.ext_mount.specs.Asked.{BeginsImage, IsGenerationNumber, IsImageAsk, IsImageTime, IsImageWrongAt, image_ask_words, mark_option, time_option}
use Rattle.ext_mount.specs.Reading.{FindsNumber, told}
use Rattle.ext_mount.specs.declared.asked.ImageAsk.{ImageAsk}

-- what is asked with these
abbrev pub asked_of : Option ℕ → Option ℕ → ImageAsk
asked_of mark time = record { mark = mark; time = time }

-- what is found is what is told, and may be
abbrev pub Finds : List (List ℕ) → Option ℕ → Option ℕ → Type 0
Finds words mark time = FindsNumber mark_option IsGenerationNumber (slice_get words 0) mark × FindsNumber time_option IsImageTime (slice_get words (told mark)) time

found_is : (option : List ℕ) (Is : ℕ → Type 0) (word : Option (List ℕ)) (found : Option ℕ) → FindsNumber option Is word found → IfSome found Is
found_is option Is word None h = tt
found_is option Is word (Some n) h = h.0

pub may_be : (words : List (List ℕ)) (mark time : Option ℕ) → Finds words mark time → IsImageAsk (asked_of mark time)
may_be words mark time h = record {
  mark = found_is mark_option IsGenerationNumber (slice_get words 0) mark h.0;
  time = found_is time_option IsImageTime (slice_get words (told mark)) time h.1;
}

same_one : (a b : List ℕ) → Some a ≡ Some b → a ∷ [] ≡ b ∷ []
same_one a b same = let one : a ≡ b = cc in ap (λ (w : List ℕ). w ∷ []) one

same_two : (a b c d : List ℕ) → Some a ≡ Some c → Some b ≡ Some d → a ∷ b ∷ [] ≡ c ∷ d ∷ []
same_two a b c d same next =
    let one : a ≡ c = cc in
    let two : b ≡ d = cc in
    ap (λ (w : List ℕ). w ∷ b ∷ []) one ∙ ap (λ (w : List ℕ). c ∷ w ∷ []) two

-- no word is left
pub whole_words : (words : List (List ℕ)) (mark time : Option ℕ) → Finds words mark time → length words ≤ told mark + told time → words ≡ image_ask_words (asked_of mark time)
whole_words [] None None h few = refl
whole_words [] None (Some t) h few = absurd (cc (h.1.1))
whole_words [] (Some g) time h few = absurd (cc (h.0.1))
whole_words (a ∷ []) None None h few = absurd (omega arith)
whole_words (a ∷ []) None (Some t) h few = same_one a (time_option ++ decimal t) h.1.1
whole_words (a ∷ []) (Some g) None h few = same_one a (mark_option ++ decimal g) h.0.1
whole_words (a ∷ []) (Some g) (Some t) h few = absurd (cc (h.1.1))
whole_words (a ∷ b ∷ []) None None h few = absurd (omega arith)
whole_words (a ∷ b ∷ []) None (Some t) h few = absurd (omega arith)
whole_words (a ∷ b ∷ []) (Some g) None h few = absurd (omega arith)
whole_words (a ∷ b ∷ []) (Some g) (Some t) h few = same_two a b (mark_option ++ decimal g) (time_option ++ decimal t) h.0.1 h.1.1
whole_words (a ∷ b ∷ c ∷ words) None None h few = absurd (omega arith)
whole_words (a ∷ b ∷ c ∷ words) None (Some t) h few = absurd (omega arith)
whole_words (a ∷ b ∷ c ∷ words) (Some g) None h few = absurd (omega arith)
whole_words (a ∷ b ∷ c ∷ words) (Some g) (Some t) h few = absurd (omega arith)

-- the word at an index is the same in both
at_index : (xs ys : List (List ℕ)) (i : ℕ) → xs ≡ ys → slice_get xs i ≡ slice_get ys i
at_index xs ys i same = ap (λ (ws : List (List ℕ)). slice_get ws i) same

-- nothing that is asked begins with a word that is none of a mark and none of a time
none_begins : (a : List ℕ) (more : List (List ℕ)) (mark time : Option ℕ) → IfSome mark IsGenerationNumber → IfSome time IsImageTime
    → FindsNumber mark_option IsGenerationNumber (Some a) None → FindsNumber time_option IsImageTime (Some a) None → a ∷ more ≡ image_ask_words (asked_of mark time) → ⊥
none_begins a more None None m t no_mark no_time same = cc
none_begins a more None (Some s) m t no_mark no_time same = no_time s t (at_index (a ∷ more) ((time_option ++ decimal s) ∷ []) 0 same)
none_begins a more (Some g) None m t no_mark no_time same = no_mark g m (at_index (a ∷ more) ((mark_option ++ decimal g) ∷ []) 0 same)
none_begins a more (Some g) (Some s) m t no_mark no_time same = no_mark g m (at_index (a ∷ more) ((mark_option ++ decimal g) ∷ (time_option ++ decimal s) ∷ []) 0 same)

-- nothing that is asked has a second word that is none of a time
no_second : (a b : List ℕ) (more : List (List ℕ)) (mark time : Option ℕ) → IfSome time IsImageTime → FindsNumber time_option IsImageTime (Some b) None → a ∷ b ∷ more ≡ image_ask_words (asked_of mark time) → ⊥
no_second a b more None None t no_time same = cc
no_second a b more None (Some s) t no_time same = cc (at_index (a ∷ b ∷ more) ((time_option ++ decimal s) ∷ []) 1 same)
no_second a b more (Some g) None t no_time same = cc (at_index (a ∷ b ∷ more) ((mark_option ++ decimal g) ∷ []) 1 same)
no_second a b more (Some g) (Some s) t no_time same = no_time s t (at_index (a ∷ b ∷ more) ((mark_option ++ decimal g) ∷ (time_option ++ decimal s) ∷ []) 1 same)

-- nothing that is asked has a second word where the first is none of a mark
no_more : (a b : List ℕ) (more : List (List ℕ)) (mark time : Option ℕ) → IfSome mark IsGenerationNumber → FindsNumber mark_option IsGenerationNumber (Some a) None → a ∷ b ∷ more ≡ image_ask_words (asked_of mark time) → ⊥
no_more a b more None None m no_mark same = cc
no_more a b more None (Some s) m no_mark same = cc (at_index (a ∷ b ∷ more) ((time_option ++ decimal s) ∷ []) 1 same)
no_more a b more (Some g) None m no_mark same = cc (at_index (a ∷ b ∷ more) ((mark_option ++ decimal g) ∷ []) 1 same)
no_more a b more (Some g) (Some s) m no_mark same = no_mark g m (at_index (a ∷ b ∷ more) ((mark_option ++ decimal g) ∷ (time_option ++ decimal s) ∷ []) 0 same)

-- nothing that is asked has a third word
no_third : (a b c : List ℕ) (more : List (List ℕ)) (mark time : Option ℕ) → a ∷ b ∷ c ∷ more ≡ image_ask_words (asked_of mark time) → ⊥
no_third a b c more None None same = cc
no_third a b c more None (Some s) same = cc (at_index (a ∷ b ∷ c ∷ more) ((time_option ++ decimal s) ∷ []) 2 same)
no_third a b c more (Some g) None same = cc (at_index (a ∷ b ∷ c ∷ more) ((mark_option ++ decimal g) ∷ []) 2 same)
no_third a b c more (Some g) (Some s) same = cc (at_index (a ∷ b ∷ c ∷ more) ((mark_option ++ decimal g) ∷ (time_option ++ decimal s) ∷ []) 2 same)

-- what asks something begins to
asks_begins : (words : List (List ℕ)) (mark time : Option ℕ) → Finds words mark time → (front : List (List ℕ)) → front ≡ image_ask_words (asked_of mark time) → BeginsImage front
asks_begins words mark time h front same = record { more = []; whole = record { asked = asked_of mark time; is = may_be words mark time h; same = append-nil front ∙ same } }

-- a word is left: the place after those that were read is that of the first fault
pub wrong_words : (words : List (List ℕ)) (mark time : Option ℕ) → Finds words mark time → told mark + told time < length words → IsImageWrongAt words (told mark + told time + 1)
wrong_words [] mark time h more = absurd (omega arith)
wrong_words (a ∷ words) None None h more = record {
  prefix = [];
  rest = a ∷ words;
  split = refl;
  after = refl;
  begins = asks_begins (a ∷ words) None None h [] refl;
  wrong = λ begins. none_begins a begins.more begins.whole.asked.mark begins.whole.asked.time begins.whole.is.mark begins.whole.is.time h.0 h.1 begins.whole.same;
}
wrong_words (a ∷ []) None (Some t) h more = absurd (omega arith)
wrong_words (a ∷ b ∷ words) None (Some t) h more = record {
  prefix = a ∷ [];
  rest = b ∷ words;
  split = refl;
  after = refl;
  begins = asks_begins (a ∷ b ∷ words) None (Some t) h (a ∷ []) (same_one a (time_option ++ decimal t) h.1.1);
  wrong = λ begins. no_more a b begins.more begins.whole.asked.mark begins.whole.asked.time begins.whole.is.mark h.0 begins.whole.same;
}
wrong_words (a ∷ []) (Some g) None h more = absurd (omega arith)
wrong_words (a ∷ b ∷ words) (Some g) None h more = record {
  prefix = a ∷ [];
  rest = b ∷ words;
  split = refl;
  after = refl;
  begins = asks_begins (a ∷ b ∷ words) (Some g) None h (a ∷ []) (same_one a (mark_option ++ decimal g) h.0.1);
  wrong = λ begins. no_second a b begins.more begins.whole.asked.mark begins.whole.asked.time begins.whole.is.time h.1 begins.whole.same;
}
wrong_words (a ∷ []) (Some g) (Some t) h more = absurd (omega arith)
wrong_words (a ∷ b ∷ []) (Some g) (Some t) h more = absurd (omega arith)
wrong_words (a ∷ b ∷ c ∷ words) (Some g) (Some t) h more = record {
  prefix = a ∷ b ∷ [];
  rest = c ∷ words;
  split = refl;
  after = refl;
  begins = asks_begins (a ∷ b ∷ c ∷ words) (Some g) (Some t) h (a ∷ b ∷ []) (same_two a b (mark_option ++ decimal g) (time_option ++ decimal t) h.0.1 h.1.1);
  wrong = λ begins. no_third a b c begins.more begins.whole.asked.mark begins.whole.asked.time begins.whole.same;
}

-- what the words at their places tell is what is found
pub finds : (words : List (List ℕ)) (mark time : Option ℕ) (first next : Option (List ℕ)) (at : ℕ) → first ≡ slice_get words 0 → next ≡ slice_get words at → at ≡ told mark
    → FindsNumber mark_option IsGenerationNumber first mark → FindsNumber time_option IsImageTime next time → Finds words mark time
finds words mark time first next at is_first then place h k = (
  subst (λ (w : Option (List ℕ)). FindsNumber mark_option IsGenerationNumber w mark) is_first h,
  subst (λ (w : Option (List ℕ)). FindsNumber time_option IsImageTime w time) (then ∙ ap (slice_get words) place) k,
)

-- words that are there alike are the same
pub some_same : (a b : List ℕ) → Some a ≡ Some b → a ≡ b
some_same a b same = cc

-- the number after an option is that of its digits
pub found_after : (option word digits : List ℕ) (most : ℕ) (found : Option ℕ) → word ≡ option ++ digits
    → MatchOption found ((n : ℕ) → n ≤ most → digits ≢ decimal n) (λ n. (n ≤ most) × (digits ≡ decimal n)) → FindsNumber option (λ n. n ≤ most) (Some word) found
found_after option word digits most None split h = λ n few same.
    h n few (append_cancel_left option digits (decimal n) (sym split ∙ some_same word (option ++ decimal n) same))
found_after option word digits most (Some n) split h = (h.0, ap Some (split ∙ ap (λ (l : List ℕ). option ++ l) h.1))

-- 0 is no generation's number
pub zero_is_none : (option : List ℕ) (word : Option (List ℕ)) (nought : ℕ) → nought ≡ 0 → word ≡ Some (option ++ decimal nought) → FindsNumber option IsGenerationNumber word None
zero_is_none option word nought is told n within same =
    let digits = append_cancel_left option (decimal nought) (decimal n) (some_same (option ++ decimal nought) (option ++ decimal n) (sym told ∙ same)) in
    let number : nought ≡ n = decimal_injective nought n (omega arith) (omega (arith, within.1)) digits in
    absurd (omega (arith, number, is, within.0))
