-- A text has a manifest or a first faulty line, and one of them.
use Rattle.std.proofs.Common.{◌≡◌, ◌⊎◌, inl, inr, ℕ, suc, ◌+◌, ◌<◌, true, false, cond, List, [], ◌∷◌, ◌++◌, length, map, take, drop, Option, Some, None, is_some, refl, sym, ap, subst, ◌∙◌, arith, append_assoc, append-nil}
use Rattle.std.specs.List.{AllByRecursion, Contains}
use Rattle.std.specs.FinMap.{FinMap, entries, entries_sorted, from_entries, get-entries, get-from_entries}
use Rattle.std.specs.FinMap.Entries.{same_entries}
use Rattle.std.specs.Option.{option_map}
use Rattle.std.specs.Ordering.{eq_by_cmp}
use Rattle.std.specs.Str.{bytes_eq}
use Rattle.std.proofs.lemmas.Bool.{and_parts, cases_lt, eqb-true}
use Rattle.std.proofs.lemmas.Float.{T_from_true}
use Rattle.std.proofs.lemmas.List.Elements.{All-contains, All-contains_itself, All-from_recursion, All-weaker, recursion_from_All}
use Rattle.std.proofs.lemmas.List.Sums.{AllPass-from_list_all}
use Rattle.std.proofs.lemmas.Option.{none-some, same_Some}
use Rattle.hex.specs.Hex.{is_hex_digit}
use Rattle.hex.proofs.HexLemmas.{decode_of-digits}
use Rattle.ext_lines.specs.ByteOrder.{bytes_cmp, bytes_exact, bytes_total}
use Rattle.ext_lines.specs.Lines.{text_lines}
use Rattle.ext_lines.proofs.ForCallers.{hex_decoded}
use Rattle.ext_text.specs.Digest.{IsDigest}
use Rattle.ext_text.proofs.ForCallers.{all_append, all_back, all_weaker, is_equal, true_from_T}
use Rattle.ext_sums.specs.Entry.{Entry, bytes_of, decoded, entry_of, is_digest_text, name_of}
use Rattle.ext_sums.specs.Sums.{Entries, said}
use Rattle.ext_sums.specs.Manifest.{AreEntries, IsFaulty, IsFirstFault, OneDigest}
use Rattle.ext_sums.specs.Laws.{DigestsAreDigests, ManifestOrFault, NoFaultInManifest, OneDigestIsNoOther, OneFault, OneManifest}
use Rattle.ext_sums.proofs.FoundLemmas.{each_found, found_last, found_stays}
use Rattle.ext_sums.proofs.MergingLemmas.{equal_bytes, other_bytes}
use Rattle.ext_sums.proofs.ReadingLemmas.{entries_push}

-- one more entry, with the digest that is said of its name
one_more_digest : (es : Entries) (e : Entry) → OneDigest es → said (es ++ e ∷ []) e.0 ≡ Some e.1 → OneDigest (es ++ e ∷ [])
one_more_digest es e one is =
    all_append (λ x. said (es ++ e ∷ []) x.0 ≡ Some x.1) es (e ∷ [])
    (all_weaker (λ x. said es x.0 ≡ Some x.1) (λ x. said (es ++ e ∷ []) x.0 ≡ Some x.1) (λ x h. found_stays bytes_cmp x.0 es (e ∷ []) x.1 h) es one) (is, tt)

abbrev SoundOrFault : List ℕ → Type 0
SoundOrFault text = ((es : Entries) × AreEntries (text_lines text) es × OneDigest es) ⊎ ((line : ℕ) × IsFirstFault text line)

-- the lines after sound ones are sound, or one of them is the first faulty one
sound_or_fault : (text : List ℕ) (before rest : List (List ℕ)) (es : Entries) → text_lines text ≡ before ++ rest → AreEntries before es → OneDigest es → SoundOrFault text
sound_or_fault text before [] es parted sound one = inl (es, ap (map entry_of) (parted ∙ append-nil before) ∙ sound, one)
sound_or_fault text before (l ∷ rest) es parted sound one =
    elim (entry_of l) as (λ o. entry_of l ≡ o → SoundOrFault text) [
      | None ↦ λ p. inr (length before + 1, fault (subst (IsFaulty es) (sym p) tt))
      | Some e ↦ λ p.
          let more : said (es ++ e ∷ []) e.0 ≡ Some e.1 → SoundOrFault text = λ is.
          sound_or_fault text (before ++ l ∷ []) rest (es ++ e ∷ []) (parted ∙ sym (append_assoc before (l ∷ []) rest)) (entries_push before l es e sound p) (one_more_digest es e one is)
          in
          elim (said es e.0) as (λ f. said es e.0 ≡ f → SoundOrFault text) [
            | None ↦ λ q. more (found_last bytes_cmp bytes_total es e.0 e.1 q)
            | Some d ↦ λ q. elim (bytes_eq d e.1) as (λ b. bytes_eq d e.1 ≡ b → SoundOrFault text) [
              | true ↦ λ r. more (found_stays bytes_cmp e.0 es (e ∷ []) d q ∙ ap Some (equal_bytes d e.1 r))
              | false ↦ λ r. inr (length before + 1, fault (subst (IsFaulty es) (sym p) (d, q, other_bytes d e.1 r)))
            ] refl
          ] refl
    ] refl
  where
    fault : IsFaulty es (entry_of l) → IsFirstFault text (length before + 1)
    fault is = record { before = before; line = l; after = rest; entries = es; parted = parted; sound = sound; one_digest = one; faulty = is; count = refl }

pub manifest_or_fault : ManifestOrFault
manifest_or_fault text =
    elim (sound_or_fault text [] (text_lines text) [] refl refl tt) [
      | inl all ↦
          let m : FinMap bytes_cmp (List ℕ) = from_entries all.0 in
          inl (
            entries m,
            record {
              entries = all.0;
              lines = all.1;
              one_digest = all.2;
              sorted = true_from_T _ (entries_sorted m);
              names = λ name. sym (get-entries m name) ∙ get-from_entries bytes_total all.0 name;
            },
          )
      | inr fault ↦ inr fault
    ]

-- a line among sound ones is the line of an entry among theirs
entry_at : (before after : List (List ℕ)) (line : List ℕ) (es bs : Entries) → AreEntries (before ++ line ∷ after) es → AreEntries before bs → (e : Entry) × (fs : Entries) × (es ≡ bs ++ e ∷ fs) × (entry_of line ≡ Some e)
entry_at [] after line [] bs whole first = cc
entry_at [] after line (e ∷ es) [] whole first = (e, es, refl, cc)
entry_at [] after line (e ∷ es) (b ∷ bs) whole first = cc
entry_at (l ∷ before) after line [] bs whole first = cc
entry_at (l ∷ before) after line (x ∷ es) [] whole first = cc
entry_at (l ∷ before) after line (x ∷ es) (b ∷ bs) whole first =
    let tail : AreEntries (before ++ line ∷ after) es = cc in
    let front : AreEntries before bs = cc in
    let same : x ≡ b = cc in
    let rest = entry_at before after line es bs tail front in
    let parted = rest.2 in
    (rest.0, rest.1, cc, rest.3)

-- none of them is faulty
none_faulty : (before after : List (List ℕ)) (line : List ℕ) (es bs : Entries) → AreEntries (before ++ line ∷ after) es → OneDigest es → AreEntries before bs → ¬ IsFaulty bs (entry_of line)
none_faulty before after line es bs whole one first faulty =
    let at = entry_at before after line es bs whole first in
    let e = at.0 in
    let differs : IsFaulty bs (Some e) = subst (IsFaulty bs) at.3 faulty in
    let all : OneDigest (bs ++ e ∷ at.1) = subst OneDigest at.2 one in
    let own = (all_back (λ x. said (bs ++ e ∷ at.1) x.0 ≡ Some x.1) bs (e ∷ at.1) all).0 in
    differs.2 (same_Some differs.0 e.1 (sym (found_stays bytes_cmp e.0 bs (e ∷ at.1) differs.0 differs.1) ∙ own))

pub no_fault_in_manifest : NoFaultInManifest
no_fault_in_manifest text sums line is fault =
    none_faulty fault.before fault.after fault.line is.entries fault.entries (ap (map entry_of) (sym fault.parted) ∙ is.lines) is.one_digest fault.sound fault.faulty

-- the shorter of two beginnings of one list begins the other
begins : {X : Type 0} (xs ys zs ws : List X) (y : X) → xs ++ y ∷ ys ≡ zs ++ ws → length xs < length zs → (vs : List X) × (zs ≡ xs ++ y ∷ vs)
begins xs ys [] ws y is lt = absurd (omega arith)
begins [] ys (z ∷ zs) ws y is lt = (zs, cc)
begins (x ∷ xs) ys (z ∷ zs) ws y is lt =
    let tail : xs ++ y ∷ ys ≡ zs ++ ws = cc in
    let rest = begins xs ys zs ws y tail (omega arith) in
    let whole = rest.1 in
    (rest.0, cc)

not_sooner : (text : List ℕ) (a b : ℕ) → IsFirstFault text a → IsFirstFault text b → ¬ (a < b)
not_sooner text a b first second lt =
    let one = first.count in
    let two = second.count in
    let at = begins first.before first.after second.before (second.line ∷ second.after) first.line (sym first.parted ∙ second.parted) (omega arith) in
    none_faulty first.before at.0 first.line second.entries first.entries (ap (map entry_of) (sym at.1) ∙ second.sound) second.one_digest first.sound first.faulty

pub one_fault : OneFault
one_fault text a b first second =
    elim (cases_lt a b) [
      | inl lt ↦ absurd (not_sooner text a b first second lt)
      | inr le ↦ elim (cases_lt b a) [
        | inl lt ↦ absurd (not_sooner text b a second first lt)
        | inr ge ↦ omega arith
      ]
    ]

same_somes : {X : Type 0} (xs ys : List X) → map Some xs ≡ map Some ys → xs ≡ ys
same_somes [] [] is = refl
same_somes [] (y ∷ ys) is = cc
same_somes (x ∷ xs) [] is = cc
same_somes {X} (x ∷ xs) (y ∷ ys) is =
    let heads : ◌≡◌ {A = Option X} (Some x) (Some y) = cc in
    let tails : map Some xs ≡ map Some ys = cc in
    let rest = same_somes xs ys tails in
    let head = same_Some x y heads in
    cc

pub one_manifest : OneManifest
one_manifest text a b first second =
    let same = same_somes first.entries second.entries (sym first.lines ∙ second.lines) in
    same_entries bytes_cmp bytes_total bytes_exact a b (T_from_true _ first.sorted) (T_from_true _ second.sorted)
    (λ name. first.names name ∙ ap (λ es. said es name) same ∙ sym (second.names name))

-- what is found is an entry
found_entry : (name digest : List ℕ) (es : Entries) → said es name ≡ Some digest → Contains es (name, digest)
found_entry name digest [] is = absurd (none-some digest is)
found_entry name digest (e ∷ es) is =
    elim (eq_by_cmp bytes_cmp name e.0) as (λ b. eq_by_cmp bytes_cmp name e.0 ≡ b → cond b (Some e.1) (said es name) ≡ Some digest → Contains (e ∷ es) (name, digest)) [
      | true ↦ λ p h.
          let key : name ≡ e.0 = bytes_exact name e.0 (is_equal _ p) in
          let value : e.1 ≡ digest = same_Some e.1 digest h in
          (0, omega arith, λ i. (sym key i, value i))
      | false ↦ λ p h. let at = found_entry name digest es h in (suc at.0, omega (arith, at.1), at.2)
    ] refl is

pub one_digest_is_no_other : OneDigestIsNoOther
one_digest_is_no_other es = (
  λ one name a b first second.
      let all = All-from_recursion (λ e. said es e.0 ≡ Some e.1) es one in
      same_Some a b (sym (All-contains (λ e. said es e.0 ≡ Some e.1) es (name, a) all first) ∙ All-contains (λ e. said es e.0 ≡ Some e.1) es (name, b) all second),
  λ same.
      let some = All-from_recursion (λ e. is_some (said es e.0) ≡ true) es (each_found bytes_cmp bytes_total es) in
      recursion_from_All (λ e. said es e.0 ≡ Some e.1) es (All-weaker (Contains es) (λ e. said es e.0 ≡ Some e.1) (λ e at. own es same e at (All-contains (λ e. is_some (said es e.0) ≡ true) es e some at)) es (All-contains_itself es)),
)
  where
    own : (es : Entries) → ((name a b : List ℕ) → Contains es (name, a) → Contains es (name, b) → a ≡ b) → (e : Entry) → Contains es e → is_some (said es e.0) ≡ true → said es e.0 ≡ Some e.1
    own es same e at some =
        elim (said es e.0) as (λ o. said es e.0 ≡ o → is_some o ≡ true → o ≡ Some e.1) [
          | None ↦ λ p h. cc
          | Some d ↦ λ p h. ap Some (same e.0 d e.1 (found_entry e.0 d es p) at)
        ] refl some

read_digest : (text : List ℕ) → is_digest_text text ≡ true → IsDigest (bytes_of text)
read_digest text is =
    let parts = and_parts _ _ is in
    let count : length text ≡ 64 = eqb-true _ _ parts.0 in
    let read = decode_of-digits text (omega arith) (AllPass-from_list_all is_hex_digit text parts.1) in
    subst IsDigest (sym (ap decoded read.1)) (hex_decoded text read.0 count read.1)

named_digest : (bytes : List ℕ) (name : Option (List ℕ)) (e : Entry) → IsDigest bytes → option_map (λ name. (name, bytes)) name ≡ Some e → IsDigest e.1
named_digest bytes None e digest is = absurd (none-some e is)
named_digest bytes (Some name) e digest is = subst (λ x. IsDigest x.1) (same_Some (name, bytes) e is) digest

-- the digest of an entry is one
entry_digest : (line : List ℕ) (e : Entry) → entry_of line ≡ Some e → IsDigest e.1
entry_digest line e =
    elim (is_digest_text (take 64 line)) as (λ b. is_digest_text (take 64 line) ≡ b → cond b (option_map (λ name. (name, bytes_of (take 64 line))) (name_of (drop 64 line))) None ≡ Some e → IsDigest e.1) [
      | true ↦ λ p is. named_digest (bytes_of (take 64 line)) (name_of (drop 64 line)) e (read_digest (take 64 line) p) is
      | false ↦ λ p is. absurd (none-some e is)
    ] refl

entry_digests : (lines : List (List ℕ)) (es : Entries) → AreEntries lines es → AllByRecursion (λ e. IsDigest e.1) es
entry_digests lines [] is = tt
entry_digests [] (e ∷ es) is = cc
entry_digests (l ∷ lines) (e ∷ es) is =
    let head : entry_of l ≡ Some e = cc in
    let tail : AreEntries lines es = cc in
    (entry_digest l e head, entry_digests lines es tail)

pub digests_are_digests : DigestsAreDigests
digests_are_digests text sums name digest is found =
    All-contains (λ e. IsDigest e.1) is.entries (name, digest) (All-from_recursion (λ e. IsDigest e.1) is.entries (entry_digests (text_lines text) is.entries is.lines))
    (found_entry name digest is.entries (sym (is.names name) ∙ found))
