-- Name bytes of ASCII are text, and names of plain ASCII are told by their length and their dots.
use Rattle.std.proofs.Common.{ℕ, List, [], ◌∷◌, ◌++◌, ◌∙◌, sym, ◌<◌, true, false, not, eqb, ◌≡◌, ◌&&◌, ap, arith}
use Rattle.std.specs.Prelude.{nat_le, nat_lt}
use Rattle.std.specs.List.{AllPass, list_all, list_any}
use Rattle.std.specs.Str.{IsUtf8}
use Rattle.std.proofs.lemmas.Bool.{and_from, and_parts, lt-ltb, ltb-true, ne_eqb, not-true, or_parts}
use Rattle.std.proofs.lemmas.List.Elements.{All-cons, All-nil, All-tail, All-weaker}
use Rattle.std.proofs.lemmas.List.Folds.{list_all-append}
use Rattle.std.proofs.lemmas.Str.{IsUtf8-from_ascii}
use Rattle.std.proofs.lemmas.Str.Ascii.{IsAscii-from_all}
use Rattle.ext_lines.specs.Split.{Lacks}
use Rattle.ext_text.specs.Name.{HasNameShape, IsName, is_name_byte, is_plain_ascii}

ascii_name : (bytes : List ℕ) → AllPass (λ b. is_name_byte b && nat_lt b 128) bytes → AllPass is_name_byte bytes × IsUtf8 bytes
ascii_name bytes all =
    let low = All-weaker (λ b. (is_name_byte b && nat_lt b 128) ≡ true) (λ b. b < 128) (λ b is. ltb-true b 128 (and_parts (is_name_byte b) (nat_lt b 128) is).1) bytes all in (
      All-weaker (λ b. (is_name_byte b && nat_lt b 128) ≡ true) (λ b. is_name_byte b ≡ true) (λ b is. (and_parts (is_name_byte b) (nat_lt b 128) is).0) bytes all,
      IsUtf8-from_ascii bytes (IsAscii-from_all bytes low),
    )

-- a byte of plain ASCII other than `/` is a name byte
ascii_byte : (b : ℕ) → is_plain_ascii b ≡ true → eqb b 47 ≡ false → (is_name_byte b && nat_lt b 128) ≡ true
ascii_byte b plain other =
    let both = and_parts (nat_le 32 b) (nat_lt b 127) plain in
    let low : b < 127 = ltb-true b 127 both.1 in
    let not_del : eqb b 127 ≡ false = ne_eqb b 127 (λ e. omega arith) in
    and_from _ _ (and_from _ _ (and_from _ _ both.0 (ap not not_del)) (ap not other)) (lt-ltb b 128 (omega arith))

ascii_bytes : (bytes : List ℕ) → list_all is_plain_ascii bytes ≡ true → Lacks 47 bytes → AllPass (λ b. is_name_byte b && nat_lt b 128) bytes
ascii_bytes [] plain lacks = All-nil (λ b. (is_name_byte b && nat_lt b 128) ≡ true)
ascii_bytes (b ∷ bytes) plain lacks =
    let both = and_parts (is_plain_ascii b) (list_all is_plain_ascii bytes) plain in
    All-cons (λ x. (is_name_byte x && nat_lt x 128) ≡ true) b bytes
    (ascii_byte b both.0 (not-true (eqb b 47) (lacks 0 0 (omega arith))))
    (ascii_bytes bytes both.1 (All-tail (λ x. not (eqb x 47) ≡ true) b bytes lacks))

-- plain ASCII without a slash is text of name bytes
pub plain_text : (bytes : List ℕ) → list_all is_plain_ascii bytes ≡ true → Lacks 47 bytes → AllPass is_name_byte bytes × IsUtf8 bytes
plain_text bytes plain lacks = ascii_name bytes (ascii_bytes bytes plain lacks)

-- a name of plain ASCII is one by its length and its dots
pub plain_name : (bytes : List ℕ) → HasNameShape bytes → list_all is_plain_ascii bytes ≡ true → Lacks 47 bytes → IsName bytes
plain_name bytes shape plain lacks =
    let both = plain_text bytes plain lacks in
    record { non_empty = shape.non_empty; at_most_255 = shape.at_most_255; not_dot = shape.not_dot; not_dot_dot = shape.not_dot_dot; plain = both.0; utf8 = both.1 }

pub shape_of_name : (bytes : List ℕ) → IsName bytes → HasNameShape bytes
shape_of_name bytes is = record { non_empty = is.non_empty; at_most_255 = is.at_most_255; not_dot = is.not_dot; not_dot_dot = is.not_dot_dot }

-- where no byte is a slash, the text lacks it
pub no_slash : (bytes : List ℕ) → list_any (λ b. eqb b 47) bytes ≡ false → Lacks 47 bytes
no_slash [] none = All-nil (λ x. not (eqb x 47) ≡ true)
no_slash (b ∷ bytes) none =
    let both = or_parts (eqb b 47) (list_any (λ x. eqb x 47) bytes) none in
    All-cons (λ x. not (eqb x 47) ≡ true) b bytes (ap not both.0) (no_slash bytes both.1)

-- what follows a slash in plain text is plain
pub plain_after : (text part after : List ℕ) → text ≡ part ++ 47 ∷ after → list_all is_plain_ascii text ≡ true → list_all is_plain_ascii after ≡ true
plain_after text part after whole plain =
    (and_parts (is_plain_ascii 47) (list_all is_plain_ascii after)
    (and_parts (list_all is_plain_ascii part) (list_all is_plain_ascii (47 ∷ after))
    (sym (list_all-append is_plain_ascii part (47 ∷ after)) ∙ ap (list_all is_plain_ascii) (sym whole) ∙ plain)).1).1
