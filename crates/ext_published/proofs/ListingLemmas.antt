-- A manifest with one line more: its lines, and what it lists.
use Rattle.std.proofs.Common.{◌≡◌, ℕ, zero, suc, ◌+◌, ◌<◌, Bool, true, false, cond, ◌&&◌, List, [], ◌∷◌, ◌++◌, length, map, take, drop, Option, Some, None, refl, sym, ap, subst, ◌∙◌, arith, append_assoc, append-nil, length-append, eqb, get_or, ◌-◌, inl, inr, not}
use Rattle.std.specs.Prelude.{◌⊎◌, codes}
use Rattle.std.specs.List.{AllByRecursion, list_all}
use Rattle.std.proofs.Math.Seq.{drop-append_seam, take-append_seam}
use Rattle.std.proofs.lemmas.Option.{none-some}
use Rattle.std.specs.Option.{option_map}
use Rattle.std.specs.Str.{is_utf8}
use Rattle.std.specs.Ordering.{eq_by_cmp}
use Rattle.std.specs.FinMap.{put}
use Rattle.std.specs.FinMap.Entries.{find-append, find-put, is_sorted-put}
use Rattle.std.proofs.lemmas.Bool.{and_parts, cond-false, cond-true, eq-eqb, ne_eqb, not-true}
use Rattle.std.proofs.lemmas.Float.{T_from_true}
use Rattle.std.proofs.lemmas.List.{map_push}
use Rattle.std.proofs.lemmas.List.Elements.{All-head, All-tail, All-weaker}
use Rattle.std.proofs.lemmas.List.Sums.{AllPass-from_list_all, list_all-from_AllPass}
use Rattle.std.proofs.lemmas.Str.{is_utf8-from_IsUtf8}
use Rattle.hex.specs.Hex.{encode_lower, is_hex_digit}
use Rattle.ext_lines.specs.ByteOrder.{bytes_cmp, bytes_total}
use Rattle.ext_lines.specs.Lines.{lines_text, text_lines}
use Rattle.ext_lines.specs.Plain.{is_plain_byte, is_plain_text}
use Rattle.ext_lines.specs.Split.{Lacks, IsSplit}
use Rattle.ext_lines.proofs.ForCallers.{hex_count, hex_lacks, hex_reads, lacks_append, lines_text-append, plain_lacks, split_or_lacks, text_lines-lacks, text_lines-split}
use Rattle.ext_text.specs.Digest.{IsDigest}
use Rattle.ext_text.specs.Name.{IsName, is_name_byte}
use Rattle.ext_text.proofs.ForCallers.{all_append, all_weaker, true_from_T, tied_name}
use Rattle.ext_sums.specs.Entry.{Entry, bytes_of, decoded, entry_of, is_digest_text, is_listed_name, name_of}
use Rattle.ext_sums.specs.Manifest.{IsManifest}
use Rattle.ext_sums.specs.Sums.{Entries, said}
use Rattle.ext_published.specs.Manifest.{ends_line, listing_line, with_last_newline, with_listing}

both_true : (a b : Bool) → a ≡ true → b ≡ true → (a && b) ≡ true
both_true true b one two = two
both_true false b one two = one

-- a name is one that a manifest may list
plain_name : (b : ℕ) → is_name_byte b ≡ true → is_plain_byte b ≡ true
plain_name b is = (and_parts _ _ is).0

pub name_is_listed : (name : List ℕ) → IsName name → is_listed_name name ≡ true
name_is_listed name is =
    let some = is.non_empty in
    let plain = list_all-from_AllPass is_plain_byte name (All-weaker (λ c. is_name_byte c ≡ true) (λ c. is_plain_byte c ≡ true) plain_name name is.plain) in
    both_true (not (eqb (length name) 0)) (is_plain_text name) (ap not (ne_eqb (length name) 0 (λ e. omega arith)))
    (both_true (list_all is_plain_byte name) (is_utf8 name) plain (is_utf8-from_IsUtf8 name is.utf8))

-- what follows tells whether a text ends in a newline
ends_after : (text : List ℕ) (c : ℕ) (more : List ℕ) → ends_line (text ++ c ∷ more) ≡ ends_line (c ∷ more)
ends_after [] c more = refl
ends_after (b ∷ []) c more = refl
ends_after (b ∷ d ∷ text) c more = ends_after (d ∷ text) c more

ends_newline : (after : List ℕ) → ends_line (10 ∷ after) ≡ ends_line after
ends_newline [] = refl
ends_newline (c ∷ after) = refl

no_newline : (b : ℕ) → not (eqb b 10) ≡ true → eqb b 10 ≡ false
no_newline b other = not-true (eqb b 10) other

-- a text without a newline that is not empty does not end in one
ends_lacks : (text : List ℕ) → Lacks 10 text → 0 < length text → ends_line text ≡ false
ends_lacks [] lacks some = absurd (omega arith)
ends_lacks (b ∷ []) lacks some = no_newline b (All-head (λ c. not (eqb c 10) ≡ true) b [] lacks)
ends_lacks (b ∷ c ∷ text) lacks some = ends_lacks (c ∷ text) (All-tail (λ d. not (eqb d 10) ≡ true) b (c ∷ text) lacks) (omega arith)

-- a text up to a newline, and the newline
with_newline_after : (line after : List ℕ) → with_last_newline (line ++ 10 ∷ after) ≡ line ++ 10 ∷ with_last_newline after
with_newline_after line after =
    ap (λ (b : Bool). cond b (line ++ 10 ∷ after) ((line ++ 10 ∷ after) ++ 10 ∷ [])) (ends_after line 10 after ∙ ends_newline after)
    ∙ by_ending (ends_line after)
  where
    by_ending : (b : Bool) → cond b (line ++ 10 ∷ after) ((line ++ 10 ∷ after) ++ 10 ∷ []) ≡ line ++ 10 ∷ cond b after (after ++ 10 ∷ [])
    by_ending true = refl
    by_ending false = append_assoc line (10 ∷ after) (10 ∷ [])

-- what a text is to its lines, by the lines of shorter texts
lines_split : (text : List ℕ) → ((after : List ℕ) → length after < length text → lines_text (text_lines after) ≡ with_last_newline after)
    → (Lacks 10 text) ⊎ ((line : List ℕ) × (after : List ℕ) × IsSplit 10 text line after) → lines_text (text_lines text) ≡ with_last_newline text
lines_split [] shorter parts = refl
lines_split (b ∷ text) shorter (inl lacks) =
    ap lines_text (text_lines-lacks (b ∷ text) lacks (omega arith)) ∙ append-nil ((b ∷ text) ++ 10 ∷ [])
    ∙ sym (cond-false (ends_line (b ∷ text)) (b ∷ text) ((b ∷ text) ++ 10 ∷ []) (ends_lacks (b ∷ text) lacks (omega arith)))
lines_split (b ∷ text) shorter (inr parts) =
    let line = parts.0 in
    let after = parts.1 in
    let split = parts.2 in
    let first = text_lines-split (b ∷ text) line after split in
    ap lines_text first.0 ∙ append_assoc line (10 ∷ []) (lines_text (text_lines after))
    ∙ ap (λ (t : List ℕ). line ++ 10 ∷ t) (shorter after first.1)
    ∙ sym (with_newline_after line after) ∙ ap with_last_newline (sym split.whole)

-- the lines of a text, each with its newline, are the text with its last newline
lines_ended : (n : ℕ) (text : List ℕ) → length text < n → lines_text (text_lines text) ≡ with_last_newline text
lines_ended zero text few = absurd (omega arith)
lines_ended (suc n) text few = lines_split text (λ after lt. lines_ended n after (omega arith)) (split_or_lacks 10 text)

lack_split : (text : List ℕ) → ((after : List ℕ) → length after < length text → AllByRecursion (Lacks 10) (text_lines after))
    → (Lacks 10 text) ⊎ ((line : List ℕ) × (after : List ℕ) × IsSplit 10 text line after) → AllByRecursion (Lacks 10) (text_lines text)
lack_split [] shorter parts = tt
lack_split (b ∷ text) shorter (inl lacks) = subst (AllByRecursion (Lacks 10)) (sym (text_lines-lacks (b ∷ text) lacks (omega arith))) (lacks, tt)
lack_split (b ∷ text) shorter (inr parts) =
    let first = text_lines-split (b ∷ text) parts.0 parts.1 parts.2 in
    let line_lacks = parts.2.prefix_lacks in
    subst (AllByRecursion (Lacks 10)) (sym first.0) (line_lacks, shorter parts.1 first.1)

-- no line of a text has a newline
lines_lack : (n : ℕ) (text : List ℕ) → length text < n → AllByRecursion (Lacks 10) (text_lines text)
lines_lack zero text few = absurd (omega arith)
lines_lack (suc n) text few = lack_split text (λ after lt. lines_lack n after (omega arith)) (split_or_lacks 10 text)

-- lines without newlines are the lines of their text
lines_again : (lines : List (List ℕ)) → AllByRecursion (Lacks 10) lines → text_lines (lines_text lines) ≡ lines
lines_again [] lack = refl
lines_again (l ∷ lines) lack =
    (text_lines-split (lines_text (l ∷ lines)) l (lines_text lines) (record { whole = append_assoc l (10 ∷ []) (lines_text lines); prefix_lacks = lack.0 })).0
    ∙ ap (λ (ls : List (List ℕ)). l ∷ ls) (lines_again lines lack.1)

-- the line of a listing has no newline
line_lacks_newline : (digest name : List ℕ) → IsDigest digest → is_listed_name name ≡ true → Lacks 10 (listing_line digest name)
line_lacks_newline digest name is named =
    let plain : is_plain_text name ≡ true = (and_parts _ _ named).1 in
    lacks_append 10 (encode_lower digest ++ codes "  ") name
    (lacks_append 10 (encode_lower digest) (codes "  ") (hex_lacks 10 digest (omega arith) is) (AllPass-from_list_all (λ b. not (eqb b 10)) (codes "  ") refl))
    (plain_lacks 10 name (omega arith) (AllPass-from_list_all is_plain_byte name (and_parts _ _ plain).0))

-- the old lines stay, and the new one follows
pub lines_stay : (old digest name : List ℕ) → IsDigest digest → is_listed_name name ≡ true → text_lines (with_listing old digest name) ≡ text_lines old ++ listing_line digest name ∷ []
lines_stay old digest name is named =
    lines_again (text_lines old ++ listing_line digest name ∷ [])
    (all_append (Lacks 10) (text_lines old) (listing_line digest name ∷ []) (lines_lack (length old + 1) old (omega arith)) (line_lacks_newline digest name is named, tt))

-- as a text: the old one with its last newline, and the new line with its own
pub listing_text : (old line : List ℕ) → lines_text (text_lines old ++ line ∷ []) ≡ with_last_newline old ++ (line ++ 10 ∷ [])
listing_text old line =
    lines_text-append (text_lines old) (line ∷ [])
    ∙ ap (λ (t : List ℕ). t ++ lines_text (line ∷ [])) (lines_ended (length old + 1) old (omega arith))
    ∙ ap (λ (t : List ℕ). with_last_newline old ++ t) (append-nil (line ++ 10 ∷ []))

-- what the line lists
line_lists : (digest name : List ℕ) → IsDigest digest → is_listed_name name ≡ true → entry_of (listing_line digest name) ≡ Some (name, digest)
line_lists digest name is named =
    let hex = encode_lower digest in
    let count : length hex ≡ 64 = (hex_count digest is).0 in
    let tail : List ℕ = 32 ∷ 32 ∷ name in
    let whole : listing_line digest name ≡ hex ++ tail = append_assoc hex (codes "  ") name in
    let front : take 64 (listing_line digest name) ≡ hex = ap (take 64) whole ∙ ap (λ (k : ℕ). take k (hex ++ tail)) (sym count) ∙ take-append_seam hex tail in
    let back : drop 64 (listing_line digest name) ≡ tail = ap (drop 64) whole ∙ ap (λ (k : ℕ). drop k (hex ++ tail)) (sym count) ∙ drop-append_seam hex tail in
    let digits : is_digest_text hex ≡ true = both_true (eqb (length hex) 64) (list_all is_hex_digit hex) (eq-eqb _ _ count) (list_all-from_AllPass is_hex_digit hex (hex_count digest is).1) in
    let value : bytes_of hex ≡ digest = ap decoded (hex_reads digest is) in
    let listed : name_of tail ≡ Some name = cond-true (is_listed_name name) (Some name) None named in
    cond-true (is_digest_text (take 64 (listing_line digest name))) _ None (ap is_digest_text front ∙ digits)
    ∙ ap (λ (o : Option (List ℕ)). option_map (λ n. (n, bytes_of (take 64 (listing_line digest name)))) o) (ap name_of back ∙ listed)
    ∙ ap (λ (v : List ℕ). Some (name, v)) (ap bytes_of front ∙ value)

found_by : (b : Bool) (digest : List ℕ) (x : Option (List ℕ)) (rest all : Option (List ℕ)) → (rest ≡ Some digest → all ≡ Some digest) → cond b x rest ≡ Some digest → cond b x all ≡ Some digest
found_by true digest x rest all still found = found
found_by false digest x rest all still found = still found

-- what is found among entries is found where more follow
found_first : (es more : Entries) (name digest : List ℕ) → said es name ≡ Some digest → said (es ++ more) name ≡ Some digest
found_first [] more name digest found = absurd (none-some digest found)
found_first (e ∷ es) more name digest found = found_by (eq_by_cmp bytes_cmp name e.0) digest (Some e.1) (said es name) (said (es ++ more) name) (found_first es more name digest) found

one_digest_stays : (es more all : Entries) → AllByRecursion (λ e. said all e.0 ≡ Some e.1) es → AllByRecursion (λ e. said (all ++ more) e.0 ≡ Some e.1) es
one_digest_stays es more all one = all_weaker (λ e. said all e.0 ≡ Some e.1) (λ e. said (all ++ more) e.0 ≡ Some e.1) (λ e is. found_first all more e.0 e.1 is) es one

-- a manifest lists one name more
pub listing_adds : (old digest name : List ℕ) (before : Entries) → IsDigest digest → is_listed_name name ≡ true → IsManifest old before → said before name ≡ None
    → IsManifest (with_listing old digest name) (put bytes_cmp name digest before)
listing_adds old digest name before is named manifest none =
    let es = manifest.entries in
    let new : Entry = (name, digest) in
    let absent : said es name ≡ None = sym (manifest.names name) ∙ none in
    let added : (q : List ℕ) → said (es ++ new ∷ []) q ≡ cond (eq_by_cmp bytes_cmp q name) (Some digest) (said es q) = λ q. find-append bytes_cmp bytes_total es name digest q absent in
    record {
      entries = es ++ new ∷ [];
      lines = ap (map entry_of) (lines_stay old digest name is named) ∙ map_push entry_of (text_lines old) (listing_line digest name)
          ∙ ap (λ (os : List (Option Entry)). os ++ entry_of (listing_line digest name) ∷ []) manifest.lines
          ∙ ap (λ (o : Option Entry). map Some es ++ o ∷ []) (line_lists digest name is named) ∙ sym (map_push Some es new);
      one_digest = all_append (λ e. said (es ++ new ∷ []) e.0 ≡ Some e.1) es (new ∷ []) (one_digest_stays es (new ∷ []) es manifest.one_digest)
          (added name ∙ cond-true (eq_by_cmp bytes_cmp name name) (Some digest) (said es name) (tied_name name name refl), tt);
      sorted = true_from_T _ (is_sorted-put bytes_cmp bytes_total name digest before (T_from_true _ manifest.sorted));
      names = λ q. find-put bytes_cmp bytes_total q name digest before ∙ ap (cond (eq_by_cmp bytes_cmp q name) (Some digest)) (manifest.names q) ∙ sym (added q);
    }

-- how many bytes it has
pub listing_length : (old digest name : List ℕ) → IsDigest digest → length (with_listing old digest name) ≡ length (with_last_newline old) + (67 + length name)
listing_length old digest name is =
    let hex = encode_lower digest in
    let count : length hex ≡ 64 = (hex_count digest is).0 in
    omega (
      arith,
      ap length (listing_text old (listing_line digest name)),
      length-append (with_last_newline old) (listing_line digest name ++ 10 ∷ []),
      length-append (listing_line digest name) (10 ∷ []),
      length-append (hex ++ codes "  ") name,
      length-append hex (codes "  "),
      count,
    )

-- the last byte tells it
pub ends_last : (text : List ℕ) → 0 < length text → ends_line text ≡ eqb (get_or text (length text - 1) 0) 10
ends_last [] some = absurd (omega arith)
ends_last (b ∷ []) some = refl
ends_last (b ∷ c ∷ text) some =
    let last : length (b ∷ c ∷ text) - 1 ≡ suc (length (c ∷ text) - 1) = omega arith in
    ends_last (c ∷ text) (omega arith) ∙ ap (λ (k : ℕ). eqb (get_or (b ∷ c ∷ text) k 0) 10) (sym last)

ended_length : (text : List ℕ) (b : Bool) → ends_line text ≡ b → length (with_last_newline text) ≡ cond b (length text) (length text + 1)
ended_length text true ends = ap length (cond-true (ends_line text) text (text ++ 10 ∷ []) ends)
ended_length text false ends = ap length (cond-false (ends_line text) text (text ++ 10 ∷ []) ends) ∙ length-append text (10 ∷ [])

-- how many bytes a manifest has with one line more, by whether it ends in a newline
pub listing_size : (old name : List ℕ) (b : Bool) → ends_line old ≡ b → (digest : List ℕ) → IsDigest digest → cond b (length old) (length old + 1) + (67 + length name) ≡ length (with_listing old digest name)
listing_size old name b ends digest is = sym (listing_length old digest name is ∙ ap (λ (k : ℕ). k + (67 + length name)) (ended_length old b ends))
