-- The lines of a manifest: which are entries.
use Rattle.std.proofs.Common.{◌≡◌, ℕ, ◌<◌, ◌&&◌, Bool, true, false, cond, List, length, take, drop, None, Ok, sym, ap, ◌∙◌, arith}
use Rattle.std.specs.List.{AllPass}
use Rattle.std.specs.Option.{option_map}
use Rattle.std.proofs.lemmas.Bool.{and_parts, eq-eqb, eqb-true, false_from_ne_true}
use Rattle.std.proofs.lemmas.List.{take_all}
use Rattle.std.proofs.lemmas.List.Sums.{AllPass-from_list_all, list_all-from_AllPass}
use Rattle.hex.specs.Hex.{decode_of, is_hex_digit}
use Rattle.ext_sums.specs.Entry.{bytes_of, decoded, entry_of, is_digest_text, name_of}

pub both_true : (a b : Bool) → a ≡ true → b ≡ true → (a && b) ≡ true
both_true true b one two = two
both_true false b one two = one

no_digest : (text : List ℕ) → ¬ ((length text ≡ 64) × AllPass is_hex_digit text) → is_digest_text text ≡ false
no_digest text unlike =
    false_from_ne_true _ (λ is. let parts = and_parts _ _ is in unlike (eqb-true _ _ parts.0, AllPass-from_list_all is_hex_digit text parts.1))

unlisted : (line : List ℕ) → is_digest_text (take 64 line) ≡ false → None ≡ entry_of line
unlisted line other = sym (ap (λ b. cond b (option_map (λ name. (name, bytes_of (take 64 line))) (name_of (drop 64 line))) None) other)

-- a line is no entry where it is too short for a digest
pub short_line : (line : List ℕ) → length line < 64 → None ≡ entry_of line
short_line line short =
    let whole : take 64 line ≡ line = take_all 64 line (omega arith) in
    unlisted line (no_digest (take 64 line) (λ is. let count : length line ≡ 64 = sym (ap length whole) ∙ is.0 in absurd (omega arith)))

-- and where it does not begin with one
pub no_digits : (line digits : List ℕ) → digits ≡ take 64 line → ¬ ((length digits ≡ 64) × AllPass is_hex_digit digits) → None ≡ entry_of line
no_digits line digits front unlike = unlisted line (ap is_digest_text (sym front) ∙ no_digest digits unlike)

-- a line that begins with a digest lists what follows that
pub listed_line : (line digits bytes : List ℕ) → digits ≡ take 64 line → (length digits ≡ 64) × AllPass is_hex_digit digits → decode_of digits ≡ Ok bytes → option_map (λ name. (name, bytes)) (name_of (drop 64 line)) ≡ entry_of line
listed_line line digits bytes front are is =
    let digest : is_digest_text (take 64 line) ≡ true = ap is_digest_text (sym front) ∙ both_true _ _ (eq-eqb _ _ are.0) (list_all-from_AllPass is_hex_digit digits are.1) in
    let value : bytes_of (take 64 line) ≡ bytes = ap bytes_of (sym front) ∙ ap decoded is in
    sym (ap (λ b. cond b (option_map (λ name. (name, bytes_of (take 64 line))) (name_of (drop 64 line))) None) digest
    ∙ ap (λ v. option_map (λ name. (name, v)) (name_of (drop 64 line))) value)
