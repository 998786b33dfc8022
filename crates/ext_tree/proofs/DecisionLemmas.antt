-- Whether a line is that of an entry, decided: the values that it may hold are tried, or read back.
use Rattle.std.proofs.Common.{◌≡◌, ◌≢◌, ℕ, zero, suc, ◌<◌, ◌≤◌, Bool, true, false, List, [], ◌∷◌, ◌++◌, length, take, drop, get_or, refl, sym, ap, ◌∙◌, subst, arith, codes, decimal, Option, Some, None, Result, Ok, Err}
use Rattle.std.specs.Prelude.{◌⊎◌}
use mathlib.Core.Logic.{inl, inr}
use Rattle.std.proofs.lemmas.Bool.{cases_lt, cases_eq, false≢true}
use Rattle.std.proofs.lemmas.List.{append_cancel_left, take_at}
use Rattle.std.proofs.lemmas.List.Sums.{AllPass-from_list_all, list_all-from_AllPass}
use Rattle.std.proofs.lemmas.Str.{IsUtf8-from_is_utf8, is_utf8-from_IsUtf8}
use Rattle.std.specs.List.{AllByRecursion, AllPass, list_all}
use Rattle.std.specs.Ordering.{eq_by_cmp}
use Rattle.std.specs.Str.{IsUtf8, is_utf8}
use Rattle.hex.specs.Hex.{decode_of, encode_lower}
use Rattle.hex.proofs.HexLemmas.{decode_of-same}
use Rattle.ext_text.specs.Digest.{IsDigest}
use Rattle.ext_lines.proofs.ForCallers.{hex_count, hex_reads}
use Rattle.ext_text.specs.Name.{IsName, bytes_cmp, is_name_byte}
use Rattle.ext_lines.specs.Plain.{is_plain_byte}
use Rattle.ext_text.specs.Path.{IsPath, path_parts, path_text}
use Rattle.ext_text.proofs.ForCallers.{same_name, tied_name, parts_text}
use Rattle.ext_tree.specs.Fields.{IsTarget, spaced}
use Rattle.ext_attributes.specs.declared.attributes.Attributes.{Attributes}
use Rattle.ext_attributes.specs.declared.capability.Capability.{Capability}
use Rattle.ext_attributes.specs.declared.owner.Owner.{Owner}
use Rattle.ext_attributes.specs.Attributes.{IsAttributes, IsCapability, IsOfFile, IsOptional, IsOwner, OfFile, file_attributes_text, owned_number, with_capability}
use Rattle.ext_tree.specs.EntryLine.{entry_fields}
use Rattle.ext_tree.specs.TreeText.{HasTreeLine, stamp_form, tree_line}
use Rattle.ext_tree.specs.declared.entry.Entry.{Entry}
use Rattle.ext_tree.specs.declared.entry.Entry.TheVariants.{Dir, Opaque, File, Link, Hide}
use Rattle.ext_tree.specs.declared.stamp.Stamp.{Stamp}
use Rattle.ext_tree.proofs.FieldsLemmas.{spaced-append}

abbrev pub Decided : Type 0 → Type 0
Decided P = P ⊎ (P → ⊥)

by_both_ways : {P Q : Type 0} → (P → Q) → (Q → P) → Decided P → Decided Q
by_both_ways there back (inl p) = inl (there p)
by_both_ways there back (inr none) = inr (λ q. none (back q))

both : {P Q : Type 0} → Decided P → Decided Q → Decided (P × Q)
both (inl p) (inl q) = inl (p, q)
both (inl p) (inr none) = inr (λ pq. none pq.1)
both (inr none) q = inr (λ pq. none pq.0)

opposite : {P : Type 0} → Decided P → Decided (P → ⊥)
opposite (inl p) = inr (λ none. none p)
opposite (inr none) = inl none

by_test : {P : Type 0} (b : Bool) → (b ≡ true → P) → (P → b ≡ true) → Decided P
by_test true there back = inl (there refl)
by_test false there back = inr (λ p. false≢true (back p))

less : (m n : ℕ) → Decided (m < n)
less m n = elim (cases_lt m n) [
  | inl is ↦ inl is
  | inr not_less ↦ inr (λ is. omega arith)
]

pub no_more : (m n : ℕ) → Decided (m ≤ n)
no_more m n = elim (cases_lt n m) [
  | inl more ↦ inr (λ is. omega arith)
  | inr is ↦ inl is
]

pub same_text : (xs ys : List ℕ) → Decided (xs ≡ ys)
same_text xs ys = by_test (eq_by_cmp bytes_cmp xs ys) (same_name xs ys) (tied_name xs ys)

each : {X : Type 0} (P : X → Type 0) → ((x : X) → Decided (P x)) → (xs : List X) → Decided (AllByRecursion P xs)
each P decide [] = inl tt
each P decide (x ∷ xs) = both (decide x) (each P decide xs)

all_pass : (test : ℕ → Bool) (xs : List ℕ) → Decided (AllPass test xs)
all_pass test xs = by_test (list_all test xs) (AllPass-from_list_all test xs) (list_all-from_AllPass test xs)

utf8 : (xs : List ℕ) → Decided (IsUtf8 xs)
utf8 xs = by_test (is_utf8 xs) (IsUtf8-from_is_utf8 xs) (is_utf8-from_IsUtf8 xs)

-- some number below the limit
first_below : (P : ℕ → Type 0) → ((k : ℕ) → Decided (P k)) → (most : ℕ) → Decided ((k : ℕ) × (k < most) × P k)
first_below P decide zero = inr (λ found. too_small found.0 found.1)
  where
    too_small : (k : ℕ) → k < 0 → ⊥
    too_small k below = omega arith
first_below P decide (suc most) = elim (decide most) [
  | inl here ↦ inl (most, omega arith, here)
  | inr not_here ↦ elim (first_below P decide most) [
    | inl found ↦ inl (found.0, lower found.0 found.1, found.2)
    | inr none ↦ inr (λ found. elim (cases_eq found.0 most) [
      | inl same ↦ not_here (subst P same found.2)
      | inr other ↦ none (found.0, nearer found.0 found.1 other, found.2)
    ])
  ]
]
  where
    lower : (k : ℕ) → k < most → k < suc most
    lower k below = omega arith

    nearer : (k : ℕ) → k < suc most → (k ≡ most → ⊥) → k < most
    nearer k below other = omega arith

-- a prefix of a text, and the rest
rest_of : (prefix text : List ℕ) → Decided ((rest : List ℕ) × (text ≡ prefix ++ rest))
rest_of [] text = inl (text, refl)
rest_of (p ∷ prefix) [] = inr (λ found. no_text found.0 found.1)
  where
    no_text : (rest : List ℕ) → [] ≡ p ∷ (prefix ++ rest) → ⊥
    no_text rest e = cc
rest_of (p ∷ prefix) (t ∷ text) = elim (cases_eq t p) [
  | inl same ↦ elim (rest_of prefix text) [
    | inl found ↦ inl (found.0, (λ i. same i ∷ found.1 i))
    | inr none ↦ inr (λ found. none (found.0, ap (drop 1) found.1))
  ]
  | inr other ↦ inr (λ found. other (ap (λ (l : List ℕ). get_or l 0 0) found.1))
]

name : (bytes : List ℕ) → Decided (IsName bytes)
name bytes = by_both_ways
    (λ (p : (0 < length bytes) × ((length bytes ≤ 255) × ((bytes ≢ 46 ∷ []) × ((bytes ≢ 46 ∷ 46 ∷ []) × (AllPass is_name_byte bytes × IsUtf8 bytes))))). record { non_empty = p.0; at_most_255 = p.1.0; not_dot = p.1.1.0; not_dot_dot = p.1.1.1.0; plain = p.1.1.1.1.0; utf8 = p.1.1.1.1.1 })
    (λ is. (is.non_empty, (is.at_most_255, (is.not_dot, (is.not_dot_dot, (is.plain, is.utf8))))))
    (both (less 0 (length bytes)) (both (no_more (length bytes) 255) (both (opposite (same_text bytes (46 ∷ []))) (both (opposite (same_text bytes (46 ∷ 46 ∷ []))) (both (all_pass is_name_byte bytes) (utf8 bytes))))))

path : (names : List (List ℕ)) → Decided (IsPath names)
path names = by_both_ways
    (λ (p : AllByRecursion IsName names × ((length names ≤ 64) × (length (path_text names) ≤ 4096))). record { each = p.0; depth = p.1.0; size = p.1.1 })
    (λ is. (is.each, (is.depth, is.size)))
    (both (each IsName name names) (both (no_more (length names) 64) (no_more (length (path_text names)) 4096)))

target : (bytes : List ℕ) → Decided (IsTarget bytes)
target bytes = by_both_ways
    (λ (p : (0 < length bytes) × ((length bytes ≤ 4096) × (AllPass is_plain_byte bytes × IsUtf8 bytes))). record { non_empty = p.0; at_most_4096 = p.1.0; plain = p.1.1.0; text = p.1.1.1 })
    (λ is. (is.non_empty, (is.at_most_4096, (is.plain, is.text))))
    (both (less 0 (length bytes)) (both (no_more (length bytes) 4096) (both (all_pass is_plain_byte bytes) (utf8 bytes))))

digest : (bytes : List ℕ) → Decided (IsDigest bytes)
digest bytes = by_both_ways
    (λ (p : (length bytes ≡ 32) × AllByRecursion (λ b. b < 256) bytes). record { count = p.0; each = p.1 })
    (λ is. (is.count, is.each))
    (both (cases_eq (length bytes) 32) (each (λ b. b < 256) (λ b. less b 256) bytes))

-- a path below the root whose text this is
abbrev PathOf : List ℕ → List (List ℕ) → Type 0
PathOf text p = IsPath p × ((0 < length p) × (text ≡ path_text p))

path_of : (text : List ℕ) → Decided ((p : List (List ℕ)) × PathOf text p)
path_of text = elim (both (path (path_parts text)) (both (less 0 (length (path_parts text))) (same_text text (path_text (path_parts text))))) [
  | inl found ↦ inl (path_parts text, found)
  | inr none ↦ inr (λ found. none (subst (PathOf text) (sym (ap path_parts found.1.1.1 ∙ parts_text found.0 found.1.0.each)) found.1))
]

-- the line is that of this entry at some path
abbrev LineAt : Entry Stamp → List ℕ → Type 0
LineAt e line = (p : List (List ℕ)) × (IsPath p × ((0 < length p) × (line ≡ tree_line (p, e))))

line_at : (e : Entry Stamp) (line : List ℕ) → Decided (LineAt e line)
line_at e line = elim (rest_of (spaced (entry_fields stamp_form e) []) line) [
  | inl found ↦ elim (path_of found.0) [
    | inl p ↦ inl (p.0, (p.1.0, (p.1.1.0, found.1 ∙ ap (λ xs. spaced (entry_fields stamp_form e) [] ++ xs) p.1.1.1 ∙ spaced-append (entry_fields stamp_form e) (path_text p.0))))
    | inr none ↦ inr (λ p. none (p.0, (p.1.0, (p.1.1.0, append_cancel_left (spaced (entry_fields stamp_form e) []) found.0 (path_text p.0) (sym found.1 ∙ p.1.1.1 ∙ sym (spaced-append (entry_fields stamp_form e) (path_text p.0)))))))
  ]
  | inr none ↦ inr (λ p. none (path_text p.0, p.1.1.1 ∙ sym (spaced-append (entry_fields stamp_form e) (path_text p.0))))
]

at_most : (n most : ℕ) → n < suc most → n ≤ most
at_most n most below = omega arith

below : (n most : ℕ) → n ≤ most → n < suc most
below n most within = omega arith

abbrev owner : ℕ → ℕ → Owner
owner user group = record { user = user; group = group }

-- some owner
some_owner : (P : Owner → Type 0) → ((o : Owner) → Decided (P o)) → Decided ((o : Owner) × IsOwner o × P o)
some_owner P decide = by_both_ways there back (first_below (λ u. (g : ℕ) × (g < 4294967295) × P (owner u g)) (λ u. first_below (λ g. P (owner u g)) (λ g. decide (owner u g)) 4294967295) 4294967295)
  where
    there : ((u : ℕ) × (u < 4294967295) × ((g : ℕ) × (g < 4294967295) × P (owner u g))) → (o : Owner) × IsOwner o × P o
    there f = (owner f.0 f.2.0, record { user = at_most f.0 4294967294 f.1; group = at_most f.2.0 4294967294 f.2.1 }, f.2.2)

    back : ((o : Owner) × IsOwner o × P o) → (u : ℕ) × (u < 4294967295) × ((g : ℕ) × (g < 4294967295) × P (owner u g))
    back f = (f.0.user, below f.0.user 4294967294 f.1.user, (f.0.group, below f.0.group 4294967294 f.1.group, f.2))

some_flag : (P : Bool → Type 0) → ((b : Bool) → Decided (P b)) → Decided ((b : Bool) × P b)
some_flag P decide = elim (decide true) [
  | inl is ↦ inl (true, is)
  | inr no_true ↦ elim (decide false) [
    | inl is ↦ inl (false, is)
    | inr no_false ↦ inr (λ found. neither no_true no_false found.0 found.1)
  ]
]
  where
    neither : (P true → ⊥) → (P false → ⊥) → (b : Bool) → P b → ⊥
    neither no_true no_false true is = no_true is
    neither no_true no_false false is = no_false is

abbrev capability : Bool → ℕ → ℕ → ℕ → Capability
capability effective permitted inheritable root = record { effective = effective; permitted = permitted; inheritable = inheritable; root = root }

-- some capability
some_capability : (P : Capability → Type 0) → ((k : Capability) → Decided (P k)) → Decided ((k : Capability) × IsCapability k × P k)
some_capability P decide =
    by_both_ways there back
    (some_flag Of (λ e. first_below (OfFlag e) (λ p. first_below (OfPermitted e p) (λ i. first_below (λ r. P (capability e p i r)) (λ r. decide (capability e p i r)) 4294967295) 18446744073709551616) 18446744073709551616))
  where
    OfPermitted : Bool → ℕ → ℕ → Type 0
    OfPermitted e p i = (r : ℕ) × (r < 4294967295) × P (capability e p i r)

    OfFlag : Bool → ℕ → Type 0
    OfFlag e p = (i : ℕ) × (i < 18446744073709551616) × OfPermitted e p i

    Of : Bool → Type 0
    Of e = (p : ℕ) × (p < 18446744073709551616) × OfFlag e p

    there : ((e : Bool) × Of e) → (k : Capability) × IsCapability k × P k
    there (e, (p, low_p, (i, low_i, (r, low_r, is)))) = (capability e p i r, record { permitted = at_most p 18446744073709551615 low_p; inheritable = at_most i 18446744073709551615 low_i; root = at_most r 4294967294 low_r }, is)

    back : ((k : Capability) × IsCapability k × P k) → (e : Bool) × Of e
    back (k, ik, is) = (k.effective, (k.permitted, below k.permitted 18446744073709551615 ik.permitted, (k.inheritable, below k.inheritable 18446744073709551615 ik.inheritable, (k.root, below k.root 4294967294 ik.root, is))))

-- some capability or none
some_optional : (P : Option Capability → Type 0) → ((c : Option Capability) → Decided (P c)) → Decided ((c : Option Capability) × IsOptional c × P c)
some_optional P decide = elim (decide None) [
  | inl is ↦ inl (None, tt, is)
  | inr not_none ↦ elim (some_capability (λ k. P (Some k)) (λ k. decide (Some k))) [
    | inl found ↦ inl (Some found.0, found.1, found.2)
    | inr not_some ↦ inr (λ found. neither not_none not_some found.0 found.1 found.2)
  ]
]
  where
    neither : (P None → ⊥) → (((k : Capability) × IsCapability k × P (Some k)) → ⊥) → (c : Option Capability) → IsOptional c → P c → ⊥
    neither not_none not_some None known is = not_none is
    neither not_none not_some (Some k) known is = not_some (k, known, is)

abbrev attributes : ℕ → Owner → Attributes
attributes mode owner = record { mode = mode; owner = owner }

-- some attributes
some_attributes : (P : Attributes → Type 0) → ((a : Attributes) → Decided (P a)) → Decided ((a : Attributes) × IsAttributes a × P a)
some_attributes P decide = by_both_ways there back (first_below Of (λ m. some_owner (λ o. P (attributes m o)) (λ o. decide (attributes m o))) 4096)
  where
    Of : ℕ → Type 0
    Of m = (o : Owner) × IsOwner o × P (attributes m o)

    there : ((m : ℕ) × (m < 4096) × Of m) → (a : Attributes) × IsAttributes a × P a
    there (m, low, (o, io, is)) = (attributes m o, record { mode = at_most m 4095 low; owner = io }, is)

    back : ((a : Attributes) × IsAttributes a × P a) → (m : ℕ) × (m < 4096) × Of m
    back (a, ia, is) = (a.mode, below a.mode 4095 ia.mode, (a.owner, ia.owner, is))

-- some attributes of a file
some_of_file : (P : OfFile → Type 0) → ((a : OfFile) → Decided (P a)) → Decided ((a : OfFile) × IsOfFile a × P a)
some_of_file P decide =
    by_both_ways there back (some_attributes Of (λ a. some_optional (λ c. P (with_capability a c)) (λ c. decide (with_capability a c))))
  where
    Of : Attributes → Type 0
    Of a = (c : Option Capability) × IsOptional c × P (with_capability a c)

    there : ((a : Attributes) × IsAttributes a × Of a) → (f : OfFile) × IsOfFile f × P f
    there (a, ia, (c, ic, is)) = (with_capability a c, record { attributes = ia; capability = ic }, is)

    back : ((f : OfFile) × IsOfFile f × P f) → (a : Attributes) × IsAttributes a × Of a
    back (f, known, is) = (f.attributes, known.attributes, (f.capability, known.capability, is))

dir_line : (line : List ℕ) → Decided ((a : Attributes) × IsAttributes a × LineAt (Dir a) line)
dir_line line = some_attributes (λ a. LineAt (Dir a) line) (λ a. line_at (Dir a) line)

opaque_line : (line : List ℕ) → Decided ((a : Attributes) × IsAttributes a × LineAt (Opaque a) line)
opaque_line line = some_attributes (λ a. LineAt (Opaque a) line) (λ a. line_at (Opaque a) line)

-- a link of this owner whose target has so many bytes
abbrev LinkLine : List ℕ → Owner → ℕ → Type 0
LinkLine line o n = (t : List ℕ) × ((length t ≡ n) × (IsTarget t × LineAt (Link o t) line))

link_of : (line : List ℕ) (o : Owner) (n : ℕ) → Decided (LinkLine line o n)
link_of line o n = elim (rest_of (spaced (codes "l" ∷ owned_number n o ∷ []) []) line) [
  | inl found ↦ elim (both (cases_eq (length (take n found.0)) n) (both (target (take n found.0)) (line_at (Link o (take n found.0)) line))) [
    | inl is ↦ inl (take n found.0, is)
    | inr none ↦ inr (λ link. none (subst (λ t. (length t ≡ n) × (IsTarget t × LineAt (Link o t) line)) (sym (taken link found.0 found.1)) link.1))
  ]
  | inr none ↦ inr (λ link. none (link.0 ++ 32 ∷ path_text link.1.1.1.0, begins link))
]
  where
    begins : (link : LinkLine line o n) → line ≡ spaced (codes "l" ∷ owned_number n o ∷ []) [] ++ (link.0 ++ 32 ∷ path_text link.1.1.1.0)
    begins link =
        link.1.1.1.1.1.1 ∙ ap (λ (k : ℕ). 108 ∷ 32 ∷ (owned_number k o ++ 32 ∷ (link.0 ++ 32 ∷ path_text link.1.1.1.0))) link.1.0
        ∙ sym (spaced-append (codes "l" ∷ owned_number n o ∷ []) (link.0 ++ 32 ∷ path_text link.1.1.1.0))

    taken : (link : LinkLine line o n) (rest : List ℕ) → line ≡ spaced (codes "l" ∷ owned_number n o ∷ []) [] ++ rest → take n rest ≡ link.0
    taken link rest is =
        ap (take n) (append_cancel_left (spaced (codes "l" ∷ owned_number n o ∷ []) []) rest (link.0 ++ 32 ∷ path_text link.1.1.1.0) (sym is ∙ begins link))
        ∙ take_at link.0 (32 ∷ path_text link.1.1.1.0) n link.1.0

link_line : (line : List ℕ) → Decided ((o : Owner) × IsOwner o × ((n : ℕ) × (n < 4097) × LinkLine line o n))
link_line line = some_owner (λ o. (n : ℕ) × (n < 4097) × LinkLine line o n) (λ o. first_below (LinkLine line o) (link_of line o) 4097)

abbrev stamp : ℕ → List ℕ → Stamp
stamp size ds = record { size = size; digest = record { 0 = ds } }

no_value : {E : Type 0} (r : Result (List ℕ) E) (a : List ℕ) (x : E) → r ≡ Ok a → r ≡ Err x → ⊥
no_value r a x ok err = cc

-- a file with these attributes, of this size
abbrev FileLine : List ℕ → OfFile → ℕ → Type 0
FileLine line m size = (ds : List ℕ) × (IsDigest ds × LineAt (File m (stamp size ds)) line)

file_of : (line : List ℕ) (m : OfFile) (size : ℕ) → Decided (FileLine line m size)
file_of line m size = elim (rest_of (spaced (codes "f" ∷ file_attributes_text m ∷ decimal size ∷ []) []) line) [
  | inl found ↦ decoded found.0 found.1 (decode_of (take 64 found.0)) refl
  | inr none ↦ inr (λ file. none (encode_lower file.0 ++ 32 ∷ path_text file.1.1.0, begins file))
]
  where
    begins : (file : FileLine line m size) → line ≡ spaced (codes "f" ∷ file_attributes_text m ∷ decimal size ∷ []) [] ++ (encode_lower file.0 ++ 32 ∷ path_text file.1.1.0)
    begins file =
        file.1.1.1.1.1 ∙ sym (spaced-append (codes "f" ∷ file_attributes_text m ∷ decimal size ∷ []) (encode_lower file.0 ++ 32 ∷ path_text file.1.1.0))

    reads : (file : FileLine line m size) (rest : List ℕ) → line ≡ spaced (codes "f" ∷ file_attributes_text m ∷ decimal size ∷ []) [] ++ rest → decode_of (take 64 rest) ≡ Ok file.0
    reads file rest is =
        ap (λ xs. decode_of (take 64 xs)) (append_cancel_left (spaced (codes "f" ∷ file_attributes_text m ∷ decimal size ∷ []) []) rest (encode_lower file.0 ++ 32 ∷ path_text file.1.1.0) (sym is ∙ begins file))
        ∙ ap decode_of (take_at (encode_lower file.0) (32 ∷ path_text file.1.1.0) 64 (hex_count file.0 file.1.0).0)
        ∙ hex_reads file.0 file.1.0

    decoded : (rest : List ℕ) → line ≡ spaced (codes "f" ∷ file_attributes_text m ∷ decimal size ∷ []) [] ++ rest → (r : Result (List ℕ) _) → decode_of (take 64 rest) ≡ r → Decided (FileLine line m size)
    decoded rest is (Ok ds) read = elim (both (digest ds) (line_at (File m (stamp size ds)) line)) [
      | inl found ↦ inl (ds, found)
      | inr none ↦ inr (λ file. none (subst (λ xs. IsDigest xs × LineAt (File m (stamp size xs)) line) (decode_of-same (take 64 rest) file.0 ds (reads file rest is) read) file.1))
    ]
    decoded rest is (Err e) read = inr (λ file. no_value (decode_of (take 64 rest)) file.0 e (reads file rest is) read)

file_line : (line : List ℕ) → Decided ((m : OfFile) × IsOfFile m × ((n : ℕ) × (n < 1073741825) × FileLine line m n))
file_line line = some_of_file (λ m. (n : ℕ) × (n < 1073741825) × FileLine line m n) (λ m. first_below (FileLine line m) (file_of line m) 1073741825)

-- an entry of this line
abbrev pub EntryOf : List ℕ → Type 0
EntryOf line = (x : List (List ℕ) × Entry Stamp) × (HasTreeLine x × (line ≡ tree_line x))

dir_entry : (line : List ℕ) → ((m : Attributes) × IsAttributes m × LineAt (Dir m) line) → EntryOf line
dir_entry line d = ((d.2.0, Dir d.0), (record { path = d.2.1.0; non_empty = d.2.1.1.0; writable = d.1 }, d.2.1.1.1))

opaque_entry : (line : List ℕ) → ((m : Attributes) × IsAttributes m × LineAt (Opaque m) line) → EntryOf line
opaque_entry line d = ((d.2.0, Opaque d.0), (record { path = d.2.1.0; non_empty = d.2.1.1.0; writable = d.1 }, d.2.1.1.1))

hide_entry : (line : List ℕ) → LineAt Hide line → EntryOf line
hide_entry line d = ((d.0, Hide), (record { path = d.1.0; non_empty = d.1.1.0; writable = tt }, d.1.1.1))

link_entry : (line : List ℕ) → ((o : Owner) × IsOwner o × ((n : ℕ) × (n < 4097) × LinkLine line o n)) → EntryOf line
link_entry line l =
    let at : LineAt (Link l.0 l.2.2.0) line = l.2.2.1.1.1 in
    ((at.0, Link l.0 l.2.2.0), (record { path = at.1.0; non_empty = at.1.1.0; writable = (l.1, l.2.2.1.1.0) }, at.1.1.1))

file_entry : (line : List ℕ) → ((m : OfFile) × IsOfFile m × ((n : ℕ) × (n < 1073741825) × FileLine line m n)) → EntryOf line
file_entry line f =
    let file : FileLine line f.0 f.2.0 = f.2.2 in
    let at : LineAt (File f.0 (stamp f.2.0 file.0)) line = file.1.1 in (
      (at.0, File f.0 (stamp f.2.0 file.0)),
      (
        record {
          path = at.1.0;
          non_empty = at.1.1.0;
          writable = (f.1, record { size = at_most f.2.0 1073741824 f.2.1; digest = file.1.0 });
        },
        at.1.1.1,
      ),
    )

-- the entry of this line, or that no entry has it
pub entry_of : (line : List ℕ) → Decided (EntryOf line)
entry_of line = elim (dir_line line) [
  | inl d ↦ inl (dir_entry line d)
  | inr no_dir ↦ elim (opaque_line line) [
    | inl o ↦ inl (opaque_entry line o)
    | inr no_opaque ↦ elim (line_at Hide line) [
      | inl w ↦ inl (hide_entry line w)
      | inr no_hide ↦ elim (link_line line) [
        | inl l ↦ inl (link_entry line l)
        | inr no_link ↦ elim (file_line line) [
          | inl f ↦ inl (file_entry line f)
          | inr no_file ↦ inr (λ found. none no_dir no_opaque no_hide no_link no_file found.0 found.1.0 found.1.1)
        ]
      ]
    ]
  ]
]
  where
    none : (((m : Attributes) × IsAttributes m × LineAt (Dir m) line) → ⊥) → (((m : Attributes) × IsAttributes m × LineAt (Opaque m) line) → ⊥) → (LineAt Hide line → ⊥) → (((o : Owner) × IsOwner o × ((n : ℕ) × (n < 4097) × LinkLine line o n)) → ⊥)
        → (((m : OfFile) × IsOfFile m × ((n : ℕ) × (n < 1073741825) × FileLine line m n)) → ⊥) → (x : List (List ℕ) × Entry Stamp) → HasTreeLine x → line ≡ tree_line x → ⊥
    none no_dir no_opaque no_hide no_link no_file (p, Dir m) has is = no_dir (m, has.writable, (p, (has.path, (has.non_empty, is))))
    none no_dir no_opaque no_hide no_link no_file (p, Opaque m) has is = no_opaque (m, has.writable, (p, (has.path, (has.non_empty, is))))
    none no_dir no_opaque no_hide no_link no_file (p, Hide) has is = no_hide (p, (has.path, (has.non_empty, is)))
    none no_dir no_opaque no_hide no_link no_file (p, Link o t) has is =
        no_link (o, has.writable.0, (length t, below (length t) 4096 has.writable.1.at_most_4096, (t, (refl, (has.writable.1, (p, (has.path, (has.non_empty, is))))))))
    none no_dir no_opaque no_hide no_link no_file (p, File m s) has is =
        no_file (m, has.writable.0, (s.size, below s.size 1073741824 has.writable.1.size, (s.digest.0, (has.writable.1.digest, (p, (has.path, (has.non_empty, is)))))))
