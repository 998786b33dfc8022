-- Numbers as text: that a number has one text, which bytes the text lacks, and what a reader of digits rests on.
use Rattle.std.proofs.Common.{◌≡◌, ◌≢◌, ℕ, zero, suc, ◌+◌, ◌*◌, ◌/◌, ◌%◌, ◌^◌, ◌<◌, ◌≤◌, false, List, [], ◌∷◌, ◌++◌, length, length-append, get_or, take, refl, sym, ap, ◌∙◌, subst, arith, append_assoc, Option, Some, None, ⊎_elim}
use Rattle.std.proofs.lemmas.Bool.{cases_lt}
use Rattle.std.proofs.lemmas.List.{append-nil}
use Rattle.std.proofs.lemmas.Int.Digits.{digits_value_more}
use Rattle.std.proofs.lemmas.Str.{digit_value_digit}
use Rattle.std.proofs.lemmas.Str.Parse.{digits_value-take-le, digit_from_value, numerals_by_value, tells_digits}
use Rattle.std.proofs.lemmas.Fmt.{decimal_is_IsNumeral, decimal-digits_value, digits_is_IsNumeral, first_decimal, decimal_digit}
use Rattle.std.specs.Prelude.{MatchOption}
use Rattle.std.specs.Char.{digit_value}
use Rattle.std.specs.Fmt.{decimal}
use Rattle.std.specs.Str.Parse.{AllDigits, IsNumeral, digits_value, digits_value_after}
use Rattle.ext_lines.specs.Split.{Lacks}
use Rattle.ext_lines.specs.Numbers.{octal}
use Rattle.ext_lines.proofs.SplitLemmas.{differs, lacks_cons, lacks_nil}
use Rattle.ext_lines.proofs.OctalSteps.{octal_digit, octal_step}

-- octal digits are a numeral of the number
pub octal_is_IsNumeral : (n : ℕ) → n < 8 ^ 64
    → IsNumeral 8 (octal n) × (digits_value 8 (octal n) ≡ n)
octal_is_IsNumeral n small = digits_is_IsNumeral 8 false (omega arith) (omega arith) n small

-- numbers with the same octal digits are equal
pub octal_injective : (m n : ℕ) → m < 8 ^ 64 → n < 8 ^ 64 → octal m ≡ octal n → m ≡ n
octal_injective m n p q e =
    sym (octal_is_IsNumeral m p).1 ∙ ap (digits_value 8) e ∙ (octal_is_IsNumeral n q).1

le_value_after : (n : ℕ) (ds : List ℕ) → n ≤ digits_value_after 8 n ds
le_value_after n [] = omega arith
le_value_after n (c ∷ cs) = omega (arith, le_value_after (n * 8 + digit_value c) cs)

octal_value_after : (n : ℕ) (ds : List ℕ) → 0 < n → AllDigits 8 ds → digits_value_after 8 n ds < 8 ^ 64
    → octal (digits_value_after 8 n ds) ≡ octal n ++ ds
octal_value_after n [] some d small = sym (append-nil (octal n))
octal_value_after n (c ∷ cs) some d small =
    let m : ℕ = n * 8 + digit_value c in
    let k = digit_value_digit c (digit_from_value c (omega (arith, d.0))) in
    let prefix : m / 8 ≡ n = omega (arith, d.0) in
    let end : 48 + m % 8 ≡ c = omega (arith, d.0) in
    octal_value_after m cs (omega arith) d.1 small
    ∙ ap (λ x. x ++ cs) (octal_step m (omega arith) (omega (arith, le_value_after m cs)) ∙ (λ i. octal (prefix i) ++ (end i ∷ [])))
    ∙ append_assoc (octal n) (c ∷ []) cs

-- octal digits without a leading zero are the text of their value
pub octal-digits_value : (ds : List ℕ) → AllDigits 8 ds → 0 < length ds
    → (get_or ds 0 0 ≡ 48 → length ds ≡ 1) → digits_value 8 ds < 8 ^ 64 → octal (digits_value 8 ds) ≡ ds
octal-digits_value [] d some lead small = absurd (omega arith)
octal-digits_value (c ∷ []) d some lead small =
    let k = digit_value_digit c (digit_from_value c (omega (arith, d.0))) in
    octal_digit (0 * 8 + digit_value c) (omega (arith, d.0)) ∙ ap (λ x. x ∷ []) (omega arith)
octal-digits_value (c ∷ e ∷ cs) d some lead small =
    let k = digit_value_digit c (digit_from_value c (omega (arith, d.0))) in
    let no : c ≡ 48 → ⊥ = λ z. omega (arith, lead z) in
    let is : 48 + (0 * 8 + digit_value c) ≡ c = omega arith in
    octal_value_after (0 * 8 + digit_value c) (e ∷ cs) (omega arith) d.1 small
    ∙ ap (λ x. x ++ (e ∷ cs)) (octal_digit (0 * 8 + digit_value c) (omega (arith, d.0)) ∙ ap (λ x. x ∷ []) is)

prefix_first : (ds es : List ℕ) → 0 < length ds → get_or (ds ++ es) 0 0 ≡ get_or ds 0 0
prefix_first [] es some = absurd (omega arith)
prefix_first (d ∷ ds) es some = refl

-- the first digit is not 0
abbrev pub BeginsHigh : List ℕ → Type 0
BeginsHigh ds = (0 < length ds) × (48 < get_or ds 0 0)

more_begins : (ds es : List ℕ) → BeginsHigh ds → BeginsHigh (ds ++ es)
more_begins ds es high = (omega (arith, length-append ds es, high.0), omega (arith, prefix_first ds es high.0, high.1))

-- the text of a number that is not 0 begins with another digit
octal_first : (k n : ℕ) → n ≤ k → 0 < n → n < 8 ^ 64 → BeginsHigh (octal n)
octal_first zero n le some small = absurd (omega arith)
octal_first (suc k) n le some small = ⊎_elim
    (λ l. subst BeginsHigh (sym (octal_digit n l)) (omega arith, omega arith))
    (λ l. subst BeginsHigh (sym (octal_step n l small)) (more_begins (octal (n / 8)) ((48 + n % 8) ∷ []) (octal_first k (n / 8) (omega arith) (omega arith) (omega arith))))
    (cases_lt n 8)

-- digits hold no byte before `0`
digits_lack : (base byte : ℕ) (ds : List ℕ) → base ≤ 10 → byte < 48 → AllDigits base ds → Lacks byte ds
digits_lack base byte [] small low d = lacks_nil byte
digits_lack base byte (c ∷ cs) small low d =
    lacks_cons byte c cs (differs byte c (λ e. omega (arith, digit_from_value c (omega (arith, d.0))))) (digits_lack base byte cs small low d.1)

-- decimal digits lack each byte before `0`, as a newline, a space, a slash
pub decimal_lacks : (byte n : ℕ) → byte < 48 → n < 2 ^ 64 → Lacks byte (decimal n)
decimal_lacks byte n low small = digits_lack 10 byte (decimal n) (omega arith) low (decimal_is_IsNumeral n small).0.1

-- and so do octal digits
pub octal_lacks : (byte n : ℕ) → byte < 48 → n < 8 ^ 64 → Lacks byte (octal n)
octal_lacks byte n low small =
    digits_lack 8 byte (octal n) (omega arith) low (octal_is_IsNumeral n small).0.1

-- a text that is not empty, and that only as a single digit begins with a zero
abbrev pub IsShort : List ℕ → Type 0
IsShort ds = (0 < length ds) × (get_or ds 0 0 ≡ 48 → length ds ≡ 1)

short_from_first : (ds : List ℕ) → BeginsHigh ds → IsShort ds
short_from_first ds high = (high.0, λ zero_first. absurd (omega (arith, high.1)))

short_zero : (m : ℕ) → m < 1 → (text_of : ℕ → List ℕ) → text_of 0 ≡ 48 ∷ [] → IsShort (text_of m)
short_zero m none text_of is =
    let e : 0 ≡ m = omega arith in
    subst IsShort (sym is ∙ ap text_of e) (omega arith, λ zero_first. refl)

pub octal_short : (n : ℕ) → n < 8 ^ 64 → IsShort (octal n)
octal_short n small = ⊎_elim
    (λ l. short_zero n l (λ k. octal k) (octal_digit 0 (omega arith)))
    (λ l. short_from_first (octal n) (octal_first n n (omega arith) l small))
    (cases_lt n 1)

pub decimal_short : (n : ℕ) → n < 2 ^ 64 → IsShort (decimal n)
decimal_short n small = ⊎_elim
    (λ l. short_zero n l (λ k. decimal k) (decimal_digit 0 (omega arith)))
    (λ l. short_from_first (decimal n) ((decimal_is_IsNumeral n small).0.0, first_decimal n l small))
    (cases_lt n 1)

-- each digit of a numeral is one
pub digit_within : (base : ℕ) (ds : List ℕ) (i : ℕ) → i < length ds → AllDigits base ds
    → digit_value (get_or ds i 0) < base
digit_within base [] i lt d = absurd (omega arith)
digit_within base (c ∷ cs) zero lt d = d.0
digit_within base (c ∷ cs) (suc i) lt d = digit_within base cs i (omega arith) d.1

-- one digit more
pub value_more : (base : ℕ) (ds : List ℕ) (i value digit byte : ℕ) → i < length ds
    → value ≡ digits_value base (take i ds) → digit ≡ digit_value byte → byte ≡ get_or ds i 0
    → value * base + digit ≡ digits_value base (take (i + 1) ds)
value_more base ds i value digit byte lt v d b =
    (λ k. v k * base + (d ∙ ap digit_value b) k) ∙ sym (digits_value_more base ds i lt)

-- the value of a prefix is within that of the whole
pub value_within : (base most : ℕ) (ds : List ℕ) (i value : ℕ) → 2 ≤ base
    → value ≡ digits_value base (take i ds) → digits_value base ds ≤ most → value ≤ most
value_within base most ds i value low v within = omega (arith, digits_value-take-le base ds i (omega arith))

no_number : (base : ℕ) (ds : List ℕ) (most : ℕ) (text_of : ℕ → List ℕ) → ((n : ℕ) → n ≤ most → IsNumeral base (text_of n) × (digits_value base (text_of n) ≡ n))
    → (AllDigits base ds → digits_value base ds ≤ most → ⊥) → (n : ℕ) → n ≤ most → ds ≡ text_of n → ⊥
no_number base ds most text_of numeral none n small e =
    let is = numeral n small in
    none (subst (AllDigits base) (sym e) is.0.1) (omega (arith, ap (digits_value base) e, is.1))

number_read : (base : ℕ) (text : List ℕ) (most : ℕ) (text_of : ℕ → List ℕ) (r : Option ℕ) → ((n : ℕ) → n ≤ most → IsNumeral base (text_of n) × (digits_value base (text_of n) ≡ n))
    → (AllDigits base text → digits_value base text ≤ most → text_of (digits_value base text) ≡ text)
    → MatchOption r (AllDigits base text → digits_value base text ≤ most → ⊥) (λ n. (n ≡ digits_value base text) × AllDigits base text × (n ≤ most))
    → MatchOption r ((n : ℕ) → n ≤ most → text ≢ text_of n) (λ n. (n ≤ most) × (text ≡ text_of n))
number_read base text most text_of None numeral is h = no_number base text most text_of numeral h
number_read base text most text_of (Some n) numeral is h =
    (h.2, sym (is h.1 (omega (arith, h.0, h.2))) ∙ ap text_of (sym h.0))

-- what the value of digits is, read as decimal or octal digits without leading zeros
pub decimal_read : (text : List ℕ) (most : ℕ) (r : Option ℕ) → most < 2 ^ 64 → IsShort text
    → MatchOption r (AllDigits 10 text → digits_value 10 text ≤ most → ⊥) (λ n. (n ≡ digits_value 10 text) × AllDigits 10 text × (n ≤ most))
    → MatchOption r ((n : ℕ) → n ≤ most → text ≢ decimal n) (λ n. (n ≤ most) × (text ≡ decimal n))
decimal_read text most r within short h =
    number_read 10 text most (λ n. decimal n) r (λ n small. decimal_is_IsNumeral n (omega arith))
    (λ d small. decimal-digits_value (numerals_by_value _ tells_digits) text d short.0 short.1 (omega arith)) h

pub octal_read : (text : List ℕ) (most : ℕ) (r : Option ℕ) → most < 2 ^ 64 → IsShort text
    → MatchOption r (AllDigits 8 text → digits_value 8 text ≤ most → ⊥) (λ n. (n ≡ digits_value 8 text) × AllDigits 8 text × (n ≤ most))
    → MatchOption r ((n : ℕ) → n ≤ most → text ≢ octal n) (λ n. (n ≤ most) × (text ≡ octal n))
octal_read text most r within short h =
    number_read 8 text most (λ n. octal n) r (λ n small. octal_is_IsNumeral n (omega arith))
    (λ d small. octal-digits_value text d short.0 short.1 (omega arith)) h
