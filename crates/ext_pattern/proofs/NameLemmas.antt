-- The name that a pattern makes is one.
use Rattle.std.proofs.Common.{◌≡◌, ℕ, ◌<◌, ◌≤◌, ◌≢◌, Bool, true, false, ◌||◌, not, eqb, List, [], ◌∷◌, ◌++◌, length, length-append, refl, sym, ap, ◌∙◌, arith}
use Rattle.std.specs.Char.{is_ascii_alphanumeric}
use Rattle.std.specs.List.{AllPass, flat_map, list_all, list_any}
use Rattle.std.specs.Str.{IsUtf8, is_utf8}
use Rattle.std.proofs.lemmas.Bool.{and_from, and_parts, both_ways, or_left, or_right}
use Rattle.std.proofs.lemmas.List.Elements.{All-append, All-cons, All-nil, All-weaker}
use Rattle.std.proofs.lemmas.List.Folds.{list_any-append}
use Rattle.std.proofs.lemmas.Str.{IsUtf8-append, IsUtf8-from_ascii, IsUtf8-from_is_utf8, IsUtf8-nil}
use Rattle.std.proofs.lemmas.Str.Ascii.{IsAscii-from_all}
use Rattle.hex.specs.Hex.{encode_lower, is_hex_digit}
use Rattle.ext_lines.specs.Plain.{is_plain_byte, is_plain_text}
use Rattle.ext_lines.proofs.ForCallers.{hex_count}
use Rattle.ext_text.specs.Digest.{IsDigest}
use Rattle.ext_text.specs.Name.{IsName, is_name_byte}
use Rattle.ext_vers.specs.Version.{IsVersion, is_version_byte}
use Rattle.ext_pattern.specs.declared.part.Part.{Part}
use Rattle.ext_pattern.specs.declared.wildcard.Wildcard.{Wildcard}
use Rattle.ext_pattern.specs.declared.wildcard.Wildcard.TheVariants.{Version, Digest}
use Rattle.ext_pattern.specs.Filling.{filled, filled_part, text_for}
use Rattle.ext_pattern.specs.Literal.{is_literal, is_literal_byte}
use Rattle.ext_pattern.specs.Part.{AreParts, has, most_of_parts}
use Rattle.ext_pattern.specs.Pattern.{IsPattern, PatternView}
use Rattle.ext_pattern.specs.Wildcard.{most_of, same_wildcard}

-- text of bytes that a name may have
abbrev IsNameText : List ℕ → Type 0
IsNameText bytes = AllPass is_name_byte bytes × IsUtf8 bytes

both_texts : (xs ys : List ℕ) → IsNameText xs → IsNameText ys → IsNameText (xs ++ ys)
both_texts xs ys p q = (All-append (λ b. is_name_byte b ≡ true) xs ys p.0 q.0, IsUtf8-append xs ys p.1 q.1)

no_text : IsNameText []
no_text = (All-nil (λ b. is_name_byte b ≡ true), IsUtf8-nil)

literal_bytes : (text : List ℕ) → list_all is_plain_byte text ≡ true → list_all is_literal_byte text ≡ true → AllPass is_name_byte text
literal_bytes [] plain other = All-nil (λ b. is_name_byte b ≡ true)
literal_bytes (b ∷ text) plain other =
    let here = and_parts (is_plain_byte b) (list_all is_plain_byte text) plain in
    let there = and_parts (is_literal_byte b) (list_all is_literal_byte text) other in
    All-cons (λ x. is_name_byte x ≡ true) b text (and_from (is_plain_byte b) (not (eqb b 47)) here.0 (and_parts (not (eqb b 47)) (not (eqb b 64)) there.0).0) (literal_bytes text here.1 there.1)

-- a literal
literal_text : (text : List ℕ) → is_literal text ≡ true → IsNameText text
literal_text text is =
    let parts = and_parts (is_plain_text text) (list_all is_literal_byte text) is in
    let plain = and_parts (list_all is_plain_byte text) (is_utf8 text) parts.0 in
    (literal_bytes text plain.0 parts.1, IsUtf8-from_is_utf8 text plain.1)

ascii_text : (test : ℕ → Bool) → ((b : ℕ) → test b ≡ true → (is_name_byte b ≡ true) × (b < 128)) → (text : List ℕ) → AllPass test text → IsNameText text
ascii_text test gives text all = (
  All-weaker (λ b. test b ≡ true) (λ b. is_name_byte b ≡ true) (λ b is. (gives b is).0) text all,
  IsUtf8-from_ascii text (IsAscii-from_all text (All-weaker (λ b. test b ≡ true) (λ b. b < 128) (λ b is. (gives b is).1) text all)),
)

version_byte_name : (b : ℕ) → is_version_byte b ≡ true → is_name_byte b ≡ true
version_byte_name b is = grind (arith)

version_byte_low : (b : ℕ) → is_version_byte b ≡ true → b < 128
version_byte_low b is = grind (arith)

hex_byte_name : (b : ℕ) → is_hex_digit b ≡ true → is_name_byte b ≡ true
hex_byte_name b is = grind (arith)

hex_byte_low : (b : ℕ) → is_hex_digit b ≡ true → b < 128
hex_byte_low b is = grind (arith)

version_text : (version : List ℕ) → IsVersion version → IsNameText version
version_text version is = ascii_text is_version_byte (λ b h. (version_byte_name b h, version_byte_low b h)) version is.allowed

digest_text : (digest : List ℕ) → IsDigest digest → IsNameText (encode_lower digest)
digest_text digest is = ascii_text is_hex_digit (λ b h. (hex_byte_name b h, hex_byte_low b h)) (encode_lower digest) (hex_count digest is).1

wildcard_text : (w : Wildcard) (version digest : List ℕ) → IsVersion version → IsDigest digest → IsNameText (text_for w version (encode_lower digest))
wildcard_text Version version digest v d = version_text version v
wildcard_text Digest version digest v d = digest_text digest d

wildcard_short : (w : Wildcard) (version digest : List ℕ) → IsVersion version → IsDigest digest → length (text_for w version (encode_lower digest)) ≤ most_of w
wildcard_short Version version digest v d = v.at_most_128
wildcard_short Digest version digest v d = omega (arith, (hex_count digest d).0)

-- parts filled
parts_text : (before parts : List Part) (version digest : List ℕ) → IsVersion version → IsDigest digest → AreParts before parts → IsNameText (flat_map (filled_part version (encode_lower digest)) parts)
parts_text before [] version digest v d may = no_text
parts_text before (part ∷ parts) version digest v d may =
    both_texts (filled_part version (encode_lower digest) part) (flat_map (filled_part version (encode_lower digest)) parts)
    (both_texts (text_for part.wildcard version (encode_lower digest)) part.literal (wildcard_text part.wildcard version digest v d) (literal_text part.literal may.0.literal))
    (parts_text (before ++ part ∷ []) parts version digest v d may.1)

parts_short : (parts : List Part) (version digest : List ℕ) → IsVersion version → IsDigest digest → length (flat_map (filled_part version (encode_lower digest)) parts) ≤ most_of_parts parts
parts_short [] version digest v d = omega arith
parts_short (part ∷ parts) version digest v d =
    let text = text_for part.wildcard version (encode_lower digest) in
    let others = flat_map (filled_part version (encode_lower digest)) parts in
    omega (arith, length-append (text ++ part.literal) others, length-append text part.literal, wildcard_short part.wildcard version digest v d, parts_short parts version digest v d)

-- a version has a letter or a digit, and so have parts with one
wildcard_sounds : (w : Wildcard) (version digits : List ℕ) → IsVersion version → same_wildcard Version w ≡ true → list_any is_ascii_alphanumeric (text_for w version digits) ≡ true
wildcard_sounds Version version digits v is = v.letter_or_digit
wildcard_sounds Digest version digits v is = absurd (cc is)

parts_sound : (parts : List Part) (version digits : List ℕ) → IsVersion version → has Version parts ≡ true → list_any is_ascii_alphanumeric (flat_map (filled_part version digits) parts) ≡ true
parts_sound [] version digits v stands = absurd (cc stands)
parts_sound (part ∷ parts) version digits v stands =
    let text = text_for part.wildcard version digits in
    let others = flat_map (filled_part version digits) parts in
    list_any-append is_ascii_alphanumeric (text ++ part.literal) others
    ∙ elim (same_wildcard Version part.wildcard) as (λ t. same_wildcard Version part.wildcard ≡ t → (t || has Version parts) ≡ true → (list_any is_ascii_alphanumeric (text ++ part.literal) || list_any is_ascii_alphanumeric others) ≡ true) [
      | true ↦ λ is _. or_left _ (list_any is_ascii_alphanumeric others) (list_any-append is_ascii_alphanumeric text part.literal ∙ or_left _ (list_any is_ascii_alphanumeric part.literal) (wildcard_sounds part.wildcard version digits v is))
      | false ↦ λ _ later. or_right (list_any is_ascii_alphanumeric (text ++ part.literal)) _ (parts_sound parts version digits v later)
    ] refl stands

-- text with a letter or a digit is no row of dots
no_dots : (text dots : List ℕ) → list_any is_ascii_alphanumeric text ≡ true → list_any is_ascii_alphanumeric dots ≡ false → text ≢ dots
no_dots text dots some none same = both_ways (list_any is_ascii_alphanumeric dots) none (sym (ap (list_any is_ascii_alphanumeric) same) ∙ some)

some_bytes : (text : List ℕ) → list_any is_ascii_alphanumeric text ≡ true → 0 < length text
some_bytes [] some = absurd (cc some)
some_bytes (b ∷ text) some = omega arith

-- what a pattern makes is a name
pub filled_name : (p : PatternView) (version digest : List ℕ) → IsPattern p → IsVersion version → IsDigest digest → IsName (filled p version digest)
filled_name p version digest is v d =
    let others = flat_map (filled_part version (encode_lower digest)) p.parts in
    let text = both_texts p.first others (literal_text p.first is.first) (parts_text [] p.parts version digest v d is.parts) in
    let some : list_any is_ascii_alphanumeric (p.first ++ others) ≡ true =
    list_any-append is_ascii_alphanumeric p.first others ∙ or_right (list_any is_ascii_alphanumeric p.first) (list_any is_ascii_alphanumeric others) (parts_sound p.parts version (encode_lower digest) v is.version)
    in
    record {
      non_empty = some_bytes (p.first ++ others) some;
      at_most_255 = omega (arith, length-append p.first others, parts_short p.parts version digest v d, is.short);
      not_dot = no_dots (p.first ++ others) (46 ∷ []) some refl;
      not_dot_dot = no_dots (p.first ++ others) (46 ∷ 46 ∷ []) some refl;
      plain = text.0;
      utf8 = text.1;
    }
