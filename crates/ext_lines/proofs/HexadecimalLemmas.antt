-- Hexadecimal digits: that the bytes have one text, which bytes it lacks, and reading digits by their indices.
use Rattle.std.proofs.Common.{◌≡◌, ℕ, zero, suc, ◌+◌, ◌*◌, ◌/◌, ◌%◌, ◌<◌, ◌≤◌, List, [], ◌∷◌, Some, Ok, length, get_or, drop, set, true, eqb, refl, sym, ap, ◌∙◌, inl, inr, arith, get_or-set_same, get_or-set_other}
use Rattle.std.proofs.lemmas.Bool.{cases_eq, eqb-true, and_parts}
use Rattle.std.proofs.lemmas.List.Elements.{All-weaker}
use Rattle.std.specs.Option.{is_some}
use Rattle.std.specs.List.{AllByRecursion, AllPass, list_all}
use Rattle.hex.specs.Hex.{IsBytes, decode_of, encode_with, encode_lower, hex_digit_value, is_hex_digit, lower_digits}
use Rattle.hex.proofs.HexLemmas.{IsDigits-lower_digits, decode_of-encode_lower, decode_of-ok, decode_of-same}
use Rattle.ext_lines.specs.Hexadecimal.{Are32Bytes, five_digits, hex_digit}
use Rattle.ext_lines.specs.Split.{Lacks}
use Rattle.ext_lines.proofs.SplitLemmas.{Differs, differs, lacks_cons, lacks_nil}

-- numbers below 256 are bytes
pub bytes_below : (bs : List ℕ) → AllByRecursion (λ b. b < 256) bs → IsBytes bs
bytes_below [] each i = omega arith
bytes_below (b ∷ bs) each zero = each.0
bytes_below (b ∷ bs) each (suc i) = bytes_below bs each.1 i

-- each of some bytes is below 256
pub each_below : (bs : List ℕ) → IsBytes bs → AllByRecursion (λ b. b < 256) bs
each_below [] fits = tt
each_below (b ∷ bs) fits = (fits 0, each_below bs (λ i. fits (suc i)))

-- the digits of 32 bytes read back as the bytes
pub hex_reads : (bs : List ℕ) → Are32Bytes bs → decode_of (encode_lower bs) ≡ Ok bs
hex_reads bs is = decode_of-encode_lower bs (bytes_below bs is.each)

-- and are 64
pub hex_count : (bs : List ℕ) → Are32Bytes bs
    → (length (encode_lower bs) ≡ 64) × AllPass is_hex_digit (encode_lower bs)
hex_count bs is =
    let ok = decode_of-ok (encode_lower bs) bs (hex_reads bs is) in
    (omega (arith, ok.2, is.count), ok.1)

-- 32 bytes with the same digits are equal
pub hex_injective : (bs cs : List ℕ) → Are32Bytes bs → Are32Bytes cs → encode_lower bs ≡ encode_lower cs → bs ≡ cs
hex_injective bs cs p q e =
    decode_of-same (encode_lower bs) bs cs (hex_reads bs p) (ap decode_of e ∙ hex_reads cs q)

-- what 64 digits of either case decode to is 32 bytes
pub hex_decoded : (text bs : List ℕ) → length text ≡ 64 → decode_of text ≡ Ok bs → Are32Bytes bs
hex_decoded text bs count e =
    let ok = decode_of-ok text bs e in
    record { count = omega (arith, ok.2); each = each_below bs ok.3 }

hex_high : (c : ℕ) → is_hex_digit c ≡ true → 48 ≤ c
hex_high c is = grind (arith)

-- hexadecimal digits lack each byte before `0`, as a newline, a space, a slash
pub hex_lacks : (byte : ℕ) (bs : List ℕ) → byte < 48 → Are32Bytes bs → Lacks byte (encode_lower bs)
hex_lacks byte bs low is =
    All-weaker (λ c. is_hex_digit c ≡ true) (λ c. Differs byte c) (λ c hex. differs byte c (λ e. omega (arith, hex_high c hex))) (encode_lower bs) (hex_count bs is).1

-- the first digit of a byte stands at twice its index
high_digit : (bs : List ℕ) (k : ℕ) → k < length bs → get_or (encode_lower bs) (2 * k) 0 ≡ get_or lower_digits (get_or bs k 0 / 16) 0
unfolding encode_with
high_digit [] k lt = absurd (omega arith)
high_digit (b ∷ bs) zero lt = refl
high_digit (b ∷ bs) (suc k) lt =
    let two : 2 * suc k ≡ suc (suc (2 * k)) = omega arith in
    rw two (high_digit bs k (omega arith))

-- and the second one after it
low_digit : (bs : List ℕ) (k : ℕ) → k < length bs → get_or (encode_lower bs) (2 * k + 1) 0 ≡ get_or lower_digits (get_or bs k 0 % 16) 0
unfolding encode_with
low_digit [] k lt = absurd (omega arith)
low_digit (b ∷ bs) zero lt = refl
low_digit (b ∷ bs) (suc k) lt =
    let two : 2 * suc k + 1 ≡ suc (suc (2 * k + 1)) = omega arith in
    rw two (low_digit bs k (omega arith))

-- the values of both are the byte
pub digits_give : (digits bs : List ℕ) (at high low : ℕ) → Are32Bytes bs → digits ≡ encode_lower bs → at < 32
    → ((n : ℕ) → hex_digit_value (get_or digits (2 * at) 0) ≡ Some n → high ≡ n)
    → ((n : ℕ) → hex_digit_value (get_or digits (2 * at + 1) 0) ≡ Some n → low ≡ n)
    → high * 16 + low ≡ get_or bs at 0
digits_give digits bs at high low is e lt of_high of_low =
    let byte : get_or bs at 0 < 256 = bytes_below bs is.each at in
    let within : at < length bs = omega (arith, is.count) in
    let first : high ≡ get_or bs at 0 / 16 = of_high _ (ap (λ (text : List ℕ). hex_digit_value (get_or text (2 * at) 0)) e ∙ ap hex_digit_value (high_digit bs at within) ∙ IsDigits-lower_digits _ (omega arith)) in
    let second : low ≡ get_or bs at 0 % 16 = of_low _ (ap (λ (text : List ℕ). hex_digit_value (get_or text (2 * at + 1) 0)) e ∙ ap hex_digit_value (low_digit bs at within) ∙ IsDigits-lower_digits _ (omega arith)) in
    omega arith

-- a list with one element written has it there, and keeps the others
pub set_below : (bytes : List ℕ) (at byte most : ℕ) → at < length bytes → ((k : ℕ) → get_or bytes k 0 < most) → byte < most → (k : ℕ) → get_or (set bytes at byte) k 0 < most
set_below bytes at byte most within each small k =
    elim (cases_eq k at) [
      | inl here ↦ rw (here, get_or-set_same bytes at byte 0 within) small
      | inr other ↦ rw (get_or-set_other bytes at k byte 0 other) (each k)
    ]

pub set_reads : (bytes ds : List ℕ) (at byte : ℕ) → at < length bytes → ((k : ℕ) → k < at → get_or bytes k 0 ≡ get_or ds k 0) → byte ≡ get_or ds at 0 → (k : ℕ) → k < at + 1 → get_or (set bytes at byte) k 0 ≡ get_or ds k 0
set_reads bytes ds at byte within below here k lt =
    elim (cases_eq k at) [
      | inl same ↦ rw (same, get_or-set_same bytes at byte 0 within) here
      | inr other ↦ rw (get_or-set_other bytes at k byte 0 other) (below k (omega arith))
    ]

-- zeros alone
pub zeros_below : (bytes : List ℕ) → list_all (λ b. eqb b 0) bytes ≡ true → (k : ℕ) → get_or bytes k 0 < 256
zeros_below [] zeros k = omega arith
zeros_below (b ∷ bytes) zeros zero = omega (arith, eqb-true b 0 (and_parts _ _ zeros).0)
zeros_below (b ∷ bytes) zeros (suc k) = zeros_below bytes (and_parts _ _ zeros).1 k

-- the values of the five digits make the number
pub five_give : (n v w x y z : ℕ) → n < 1048576 → v ≡ n / 65536 → w ≡ n / 4096 % 16 → x ≡ n / 256 % 16 → y ≡ n / 16 % 16 → z ≡ n % 16
    → ((v * 16 + w) * 256 + (x * 16 + y)) * 16 + z ≡ n
five_give n v w x y z small a b c d e = omega arith

some_same : {v w : ℕ} → Some v ≡ Some w → v ≡ w
some_same e = cc e

value_of_hex_digit : (v : ℕ) → v < 16 → hex_digit_value (hex_digit v) ≡ Some v
value_of_hex_digit v small = IsDigits-lower_digits v small

digit_high : (v : ℕ) → v < 16 → 48 ≤ hex_digit v
digit_high v small = hex_high (hex_digit v) (ap is_some (value_of_hex_digit v small))

-- five digits lack each byte before `0`
pub five_lacks : (byte n : ℕ) → byte < 48 → n < 1048576 → Lacks byte (five_digits n)
five_lacks byte n low small =
    let other : (v : ℕ) → v < 16 → Differs byte (hex_digit v) = λ v lt. differs byte (hex_digit v) (λ e. omega (arith, digit_high v lt)) in
    lacks_cons byte (hex_digit (n / 65536)) (hex_digit (n / 4096 % 16) ∷ hex_digit (n / 256 % 16) ∷ hex_digit (n / 16 % 16) ∷ hex_digit (n % 16) ∷ []) (other (n / 65536) (omega arith))
    (lacks_cons byte (hex_digit (n / 4096 % 16)) (hex_digit (n / 256 % 16) ∷ hex_digit (n / 16 % 16) ∷ hex_digit (n % 16) ∷ []) (other (n / 4096 % 16) (omega arith))
    (lacks_cons byte (hex_digit (n / 256 % 16)) (hex_digit (n / 16 % 16) ∷ hex_digit (n % 16) ∷ []) (other (n / 256 % 16) (omega arith))
    (lacks_cons byte (hex_digit (n / 16 % 16)) (hex_digit (n % 16) ∷ []) (other (n / 16 % 16) (omega arith))
    (lacks_cons byte (hex_digit (n % 16)) [] (other (n % 16) (omega arith)) (lacks_nil byte)))))

-- the value that is read from the digit of a value
pub read_digit : (v byte r : ℕ) → v < 16 → byte ≡ hex_digit v → ((k : ℕ) → hex_digit_value byte ≡ Some k → r ≡ k) → r ≡ v
read_digit v byte r small is reads = reads v (ap hex_digit_value is ∙ value_of_hex_digit v small)

-- numbers with the same five digits are equal
pub five_injective : (m n : ℕ) → m < 1048576 → n < 1048576 → five_digits m ≡ five_digits n → m ≡ n
five_injective m n p q e =
    let digit : (k v w : ℕ) → v < 16 → w < 16 → get_or (five_digits m) k 0 ≡ hex_digit v → get_or (five_digits n) k 0 ≡ hex_digit w → v ≡ w =
    λ k v w a b at_m at_n. some_same (sym (value_of_hex_digit v a) ∙ ap hex_digit_value (sym at_m ∙ ap (λ (l : List ℕ). get_or l k 0) e ∙ at_n) ∙ value_of_hex_digit w b) in
    omega (
      arith,
      digit 0 (m / 65536) (n / 65536) (omega arith) (omega arith) refl refl,
      digit 1 (m / 4096 % 16) (n / 4096 % 16) (omega arith) (omega arith) refl refl,
      digit 2 (m / 256 % 16) (n / 256 % 16) (omega arith) (omega arith) refl refl,
      digit 3 (m / 16 % 16) (n / 16 % 16) (omega arith) (omega arith) refl refl,
      digit 4 (m % 16) (n % 16) (omega arith) (omega arith) refl refl,
    )

-- the five digits are those of the number's three bytes, without the first
pub five_of_three : (n : ℕ) → n < 1048576 → five_digits n ≡ drop 1 (encode_lower (n / 65536 ∷ n / 256 % 256 ∷ n % 256 ∷ []))
unfolding encode_with
five_of_three n small =
    let first : n / 65536 ≡ n / 65536 % 16 = omega arith in
    let second : n / 4096 % 16 ≡ n / 256 % 256 / 16 = omega arith in
    let third : n / 256 % 16 ≡ n / 256 % 256 % 16 = omega arith in
    let fourth : n / 16 % 16 ≡ n % 256 / 16 = omega arith in
    let fifth : n % 16 ≡ n % 256 % 16 = omega arith in
    λ i. hex_digit (first i) ∷ hex_digit (second i) ∷ hex_digit (third i) ∷ hex_digit (fourth i) ∷ hex_digit (fifth i) ∷ []
