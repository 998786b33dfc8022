-- How long an index is: it is no longer where files have homes in earlier generations.
use Rattle.std.proofs.Common.{◌≡◌, ◌⊎◌, ℕ, ◌+◌, ◌/◌, ◌%◌, ◌^◌, ◌<◌, ◌≤◌, min, Bool, true, false, List, [], ◌∷◌, ◌++◌, length, get_or, Option, Some, None, refl, sym, ap, ◌∙◌, subst, inl, inr, arith, length-append, codes}
use Rattle.std.specs.Prelude.{map, decimal, nat_lt}
use Rattle.std.specs.Fmt.{digits}
use Rattle.std.specs.List.{flat_map}
use Rattle.std.proofs.lemmas.Bool.{cases_lt, cond-true, cond-false, lt-ltb, ltb-true}
use Rattle.ext_attributes.specs.Attributes.{OfFile, file_attributes_text}
use Rattle.ext_text.specs.declared.which.Which.TheVariants as whichs
use Rattle.std.proofs.lemmas.Fmt.{decimal_by_steps, decimal_digit, decimal_step}
use Rattle.ext_lines.specs.Lines.{lines_text}
use Rattle.ext_lines.proofs.ForCallers.{lines_text-append}
use Rattle.ext_text.specs.Path.{path_text}
use Rattle.ext_tree.specs.Tree.{Entries}
use Rattle.ext_tree.specs.Fields.{spaced, stamp_fields}
use Rattle.ext_tree.specs.declared.entry.Entry.{Entry}
use Rattle.ext_tree.specs.declared.entry.Entry.TheVariants.{Dir, Opaque, File, Link, Hide}
use Rattle.ext_tree.specs.declared.stamp.Stamp.{Stamp}
use Rattle.ext_host.specs.Held.{HeldFile}
use Rattle.ext_host.specs.Host.{HostTree, past_tree, present}
use Rattle.ext_host.specs.declared.body.Body.{Body}
use Rattle.ext_host.specs.declared.body.Body.TheVariants.{Here, Kept, Depot}
use Rattle.ext_host.specs.declared.host.Host.{Host}
use Rattle.ext_host.specs.declared.past.Past.{Past}
use Rattle.ext_index_lines.specs.Homed.{file_digits}
use Rattle.ext_index_lines.specs.Homes.{home_of, line_of_entry}
use Rattle.ext_index_lines.specs.Lines.{header_line, host_line, number_line}
use Rattle.ext_index_lines.specs.declared.text_number.TextNumber.TheVariants.{Later}
use Rattle.ext_index.specs.Index.{hierarchy_lines, machine_lines, merged_lines, past_lines, record_lines, section_lines, listed_tree_lines}
use Rattle.ext_index.specs.ValidIndex.{host_has_owners, most_index_bytes}
use Rattle.ext_gen.specs.Opened.{Generation}
use Rattle.ext_gen.specs.Preparing.{coming_number, limit_of}
use Rattle.ext_gen.specs.PreparingIndex.{coming_index}
use Rattle.ext_gen.proofs.PreparingPathsLemmas.{not_true}

digits_within : (b : ℕ) (ds : List ℕ) → ((a : ℕ) → a ≤ b → length (decimal a) ≤ length ds) → (a : ℕ) → a ≤ b → length (decimal a) ≤ length ds
digits_within b ds gives a within = gives a within

-- a smaller number has no more digits
pub fewer_digits : (a b : ℕ) → a ≤ b → b < 2 ^ 64 → length (decimal a) ≤ length (decimal b)
fewer_digits a b within small = decimal_by_steps (λ n ds. n < 2 ^ 64 → (m : ℕ) → m ≤ n → length (decimal m) ≤ length ds) one more b small small a within
  where
    one : (n : ℕ) → n < 10 → n < 2 ^ 64 → (m : ℕ) → m ≤ n → length (decimal m) ≤ length ((48 + n) ∷ [])
    one n few low m within = omega (arith, ap length (decimal_digit m (omega arith)))

    either : (n : ℕ) (ds : List ℕ) (m : ℕ) → n < 2 ^ 64 → (n / 10 < 2 ^ 64 → (m : ℕ) → m ≤ n / 10 → length (decimal m) ≤ length ds) → m ≤ n → (m < 10) ⊎ (10 ≤ m)
        → length (decimal m) ≤ length (ds ++ ((48 + n % 10) ∷ []))
    either n ds m low before within (inl few) = omega (arith, ap length (decimal_digit m few), length-append ds ((48 + n % 10) ∷ []))
    either n ds m low before within (inr many) =
        let step : length (decimal m) ≡ length (decimal (m / 10)) + 1 = ap length (decimal_step m many (omega arith)) ∙ length-append (decimal (m / 10)) ((48 + m % 10) ∷ []) in
        let shorter : length (decimal (m / 10)) ≤ length ds = before (omega arith) (m / 10) (omega arith) in
        omega (arith, length-append ds ((48 + n % 10) ∷ []))

    more : (n : ℕ) (ds : List ℕ) → 10 ≤ n → (n / 10 < 2 ^ 64 → (m : ℕ) → m ≤ n / 10 → length (decimal m) ≤ length ds) → n < 2 ^ 64 → (m : ℕ) → m ≤ n
        → length (decimal m) ≤ length (ds ++ ((48 + n % 10) ∷ []))
    more n ds many before low m within = either n ds m low before within (cases_lt m 10)

text_append : (xs ys : List (List ℕ)) → length (lines_text (xs ++ ys)) ≡ length (lines_text xs) + length (lines_text ys)
text_append xs ys = ap length (lines_text-append xs ys) ∙ length-append (lines_text xs) (lines_text ys)

text_cons : (line : List ℕ) (lines : List (List ℕ)) → length (lines_text (line ∷ lines)) ≡ (length line + 1) + length (lines_text lines)
text_cons line lines = length-append (line ++ 10 ∷ []) (lines_text lines) ∙ ap (λ k. k + length (lines_text lines)) (length-append line (10 ∷ []))

-- both texts of lines, the one no longer than the other
both_texts : (vs ws xs ys : List (List ℕ)) → length (lines_text vs) ≤ length (lines_text ws) → length (lines_text xs) ≤ length (lines_text ys) → length (lines_text (vs ++ xs)) ≤ length (lines_text (ws ++ ys))
both_texts vs ws xs ys one two = omega (arith, text_append vs xs, text_append ws ys)

and_line : (line : List ℕ) (xs ys : List (List ℕ)) → length (lines_text xs) ≤ length (lines_text ys) → length (lines_text (line ∷ xs)) ≤ length (lines_text (line ∷ ys))
and_line line xs ys one = omega (arith, text_cons line xs, text_cons line ys)

same_text : (xs : List (List ℕ)) → length (lines_text xs) ≤ length (lines_text xs)
same_text xs = omega arith

-- the file has a home with no more digits, and the same stamp
pub record IsNoLonger (n m : ℕ) (a b : HeldFile) : Type 0 where
  pub stamp : a.stamp ≡ b.stamp
  pub digits : length (decimal (home_of n a.body).generation) ≤ length (decimal (home_of m b.body).generation)

abbrev pub EntryNoLonger : ℕ → ℕ → Entry HeldFile → Entry HeldFile → Type 0
EntryNoLonger n m (Dir attributes) f = f ≡ Dir attributes
EntryNoLonger n m (Opaque attributes) f = f ≡ Opaque attributes
EntryNoLonger n m (File attributes a) f = (b : HeldFile) × (f ≡ File attributes b) × IsNoLonger n m a b
EntryNoLonger n m (Link owner target) f = f ≡ Link owner target
EntryNoLonger n m Hide f = f ≡ Hide

abbrev pub AreNoLonger : ℕ → ℕ → Entries HeldFile → Entries HeldFile → Type 0
AreNoLonger n m [] fs = fs ≡ []
AreNoLonger n m (x ∷ es) fs = (f : Entry HeldFile) × (rest : Entries HeldFile) × (fs ≡ (x.0, f) ∷ rest) × EntryNoLonger n m x.1 f × AreNoLonger n m es rest

spaced_length : (field rest : List ℕ) (fields : List (List ℕ)) → length (spaced (field ∷ fields) rest) ≡ length field + (1 + length (spaced fields rest))
spaced_length field rest fields = omega (arith, length-append field (32 ∷ spaced fields rest))

five_long : (k : ℕ) → length (file_digits k) ≡ 5
unfolding file_digits
five_long k = refl

home_line : (rest gen : List ℕ) (file : ℕ) → length (spaced (gen ∷ file_digits file ∷ []) rest) ≡ length gen + (1 + (5 + (1 + length rest)))
home_line rest gen file =
    spaced_length gen rest (file_digits file ∷ [])
    ∙ ap (λ k. length gen + (1 + k)) (spaced_length (file_digits file) rest [] ∙ ap (λ k. k + (1 + length rest)) (five_long file))

-- one line with the same stamp
same_stamp_line : (n m : ℕ) (attributes : OfFile) (p : List (List ℕ)) (stamp : Stamp) (one two : Body) → length (decimal (home_of n one).generation) ≤ length (decimal (home_of m two).generation)
    → length (line_of_entry n (p, File attributes (record { stamp = stamp; body = one }))) ≤ length (line_of_entry m (p, File attributes (record { stamp = stamp; body = two })))
same_stamp_line n m attributes p stamp one two few =
    let rest = path_text p in
    let size = decimal stamp.size in
    let hex = get_or (stamp_fields stamp) 1 [] in
    let ours = decimal (home_of n one).generation ∷ file_digits (home_of n one).file ∷ [] in
    let theirs = decimal (home_of m two).generation ∷ file_digits (home_of m two).file ∷ [] in
    omega (
      arith,
      spaced_length (codes "f") rest (file_attributes_text attributes ∷ size ∷ hex ∷ ours),
      spaced_length (file_attributes_text attributes) rest (size ∷ hex ∷ ours),
      spaced_length size rest (hex ∷ ours),
      spaced_length hex rest ours,
      spaced_length (codes "f") rest (file_attributes_text attributes ∷ size ∷ hex ∷ theirs),
      spaced_length (file_attributes_text attributes) rest (size ∷ hex ∷ theirs),
      spaced_length size rest (hex ∷ theirs),
      spaced_length hex rest theirs,
      home_line rest (decimal (home_of n one).generation) (home_of n one).file,
      home_line rest (decimal (home_of m two).generation) (home_of m two).file,
      few,
    )

file_line : (n m : ℕ) (attributes : OfFile) (p : List (List ℕ)) (a b : HeldFile) → IsNoLonger n m a b → length (line_of_entry n (p, File attributes a)) ≤ length (line_of_entry m (p, File attributes b))
file_line n m attributes p a b is =
    subst (λ s. length (line_of_entry n (p, File attributes (record { stamp = s; body = a.body }))) ≤ length (line_of_entry m (p, File attributes b))) (sym is.stamp)
    (same_stamp_line n m attributes p b.stamp a.body b.body is.digits)

entry_line_within : (n m : ℕ) (p : List (List ℕ)) (e f : Entry HeldFile) → EntryNoLonger n m e f → length (line_of_entry n (p, e)) ≤ length (line_of_entry m (p, f))
entry_line_within n m p (Dir attributes) f is = subst (λ x. length (line_of_entry n (p, Dir attributes)) ≤ length (line_of_entry m (p, x))) (sym is) (omega arith)
entry_line_within n m p (Opaque attributes) f is = subst (λ x. length (line_of_entry n (p, Opaque attributes)) ≤ length (line_of_entry m (p, x))) (sym is) (omega arith)
entry_line_within n m p (File attributes a) f (b, same, is) = subst (λ x. length (line_of_entry n (p, File attributes a)) ≤ length (line_of_entry m (p, x))) (sym same) (file_line n m attributes p a b is)
entry_line_within n m p (Link owner target) f is = subst (λ x. length (line_of_entry n (p, Link owner target)) ≤ length (line_of_entry m (p, x))) (sym is) (omega arith)
entry_line_within n m p Hide f is = subst (λ x. length (line_of_entry n (p, Hide)) ≤ length (line_of_entry m (p, x))) (sym is) (omega arith)

entries_within : (n m : ℕ) (es fs : Entries HeldFile) → AreNoLonger n m es fs → length (lines_text (map (line_of_entry n) es)) ≤ length (lines_text (map (line_of_entry m) fs))
entries_within n m [] fs is = omega arith
entries_within n m (x ∷ es) fs (f, rest, same, one, more) =
    let here = entry_line_within n m x.0 x.1 f one in
    let there = entries_within n m es rest more in
    subst (λ l. length (lines_text (map (line_of_entry n) (x ∷ es))) ≤ length (lines_text (map (line_of_entry m) l))) (sym same)
    (omega (arith, here, there, text_cons (line_of_entry n x) (map (line_of_entry n) es), text_cons (line_of_entry m (x.0, f)) (map (line_of_entry m) rest)))

entries_count : (n m : ℕ) (es fs : Entries HeldFile) → AreNoLonger n m es fs → length es ≡ length fs
entries_count n m [] fs is = sym (ap length is)
entries_count n m (x ∷ es) fs (f, rest, same, one, more) = omega (arith, entries_count n m es rest more, ap length same)

tree_within : (word : List ℕ) (n m : ℕ) (es fs : Entries HeldFile) → AreNoLonger n m es fs → length (lines_text (listed_tree_lines word n es)) ≤ length (lines_text (listed_tree_lines word m fs))
tree_within word n m es fs is =
    subst (λ k. length (lines_text (number_line word (length es) ∷ map (line_of_entry n) es)) ≤ length (lines_text (number_line word k ∷ map (line_of_entry m) fs))) (entries_count n m es fs is)
    (and_line (number_line word (length es)) (map (line_of_entry n) es) (map (line_of_entry m) fs) (entries_within n m es fs is))

section_within : (n m : ℕ) (s : HostTree) (root lower : Entries HeldFile) → AreNoLonger n m root s.root → AreNoLonger n m lower s.lower
    → length (lines_text (section_lines n (record s { root = root; lower = lower }))) ≤ length (lines_text (section_lines m s))
section_within n m s root lower one two =
    both_texts (merged_lines (codes "sysext") s.sysext) (merged_lines (codes "sysext") s.sysext) _ _ (same_text (merged_lines (codes "sysext") s.sysext))
    (both_texts (merged_lines (codes "confext") s.confext) (merged_lines (codes "confext") s.confext) _ _ (same_text (merged_lines (codes "confext") s.confext))
    (both_texts (record_lines s.attached s.kept) (record_lines s.attached s.kept) _ _ (same_text (record_lines s.attached s.kept))
    (both_texts (listed_tree_lines (codes "root") n root) (listed_tree_lines (codes "root") m s.root) (listed_tree_lines (codes "lower") n lower) (listed_tree_lines (codes "lower") m s.lower)
    (tree_within (codes "root") n m root s.root one) (tree_within (codes "lower") n m lower s.lower two))))

-- a generation with no more digits, for the same entries
body_itself : (n m : ℕ) (body : Body) → length (decimal n) ≤ length (decimal m) → length (decimal (home_of n body).generation) ≤ length (decimal (home_of m body).generation)
body_itself n m (Here bytes) few = few
body_itself n m (Kept home) few = omega arith
body_itself n m (Depot path) few = few

pub entries_themselves : (n m : ℕ) (es : Entries HeldFile) → length (decimal n) ≤ length (decimal m) → AreNoLonger n m es es
entries_themselves n m [] few = refl
entries_themselves n m (x ∷ es) few = (x.1, es, refl, one x.1, entries_themselves n m es few)
  where
    one : (e : Entry HeldFile) → EntryNoLonger n m e e
    one (Dir attributes) = refl
    one (Opaque attributes) = refl
    one (File attributes a) = (a, refl, record { stamp = refl; digits = body_itself n m a.body few })
    one (Link owner target) = refl
    one Hide = refl

past_within : (n m : ℕ) (past : Past) → length (decimal n) ≤ length (decimal m) → length (lines_text (past_lines n past)) ≤ length (lines_text (past_lines m past))
past_within n m past few =
    and_line (number_line (codes "g") past.generation) (section_lines n (past_tree past)) (section_lines m (past_tree past))
    (section_within n m (past_tree past) past.root past.lower (entries_themselves n m past.root few) (entries_themselves n m past.lower few))

pasts_within : (n m : ℕ) (pasts : List Past) → length (decimal n) ≤ length (decimal m) → length (lines_text (flat_map (past_lines n) pasts)) ≤ length (lines_text (flat_map (past_lines m) pasts))
pasts_within n m [] few = omega arith
pasts_within n m (past ∷ pasts) few =
    both_texts (past_lines n past) (past_lines m past) (flat_map (past_lines n) pasts) (flat_map (past_lines m) pasts) (past_within n m past few) (pasts_within n m pasts few)

-- the first lines of texts 2 and 3 are equally long
same_head : (a b : Bool) (host : Host) → length (lines_text (machine_lines a host)) ≤ length (lines_text (machine_lines b host))
same_head true true host = same_text (machine_lines true host)
same_head true false host = omega (arith, text_cons (header_line (Later true)) (host_line host.arch host.scope ∷ hierarchy_lines host), text_cons (header_line (Later false)) (host_line host.arch host.scope ∷ hierarchy_lines host))
same_head false true host = omega (arith, text_cons (header_line (Later true)) (host_line host.arch host.scope ∷ hierarchy_lines host), text_cons (header_line (Later false)) (host_line host.arch host.scope ∷ hierarchy_lines host))
same_head false false host = same_text (machine_lines false host)

-- an index is no longer where the generation has no more digits, and where the files of what is seen and of what lies under it
-- have homes of no more digits
pub index_within : (n m : ℕ) (host : Host) (root lower : Entries HeldFile) → length (decimal n) ≤ length (decimal m) → AreNoLonger n m root host.root → AreNoLonger n m lower host.lower
    → length (coming_index n (record host { root = root; lower = lower })) ≤ length (coming_index m host)
unfolding coming_index
index_within n m host root lower few one two =
    both_texts (machine_lines (host_has_owners (record host { root = root; lower = lower })) host) (machine_lines (host_has_owners host) host) _ _
    (same_head (host_has_owners (record host { root = root; lower = lower })) (host_has_owners host) host)
    (both_texts (section_lines n (record (present host) { root = root; lower = lower })) (section_lines m (present host)) _ _ (section_within n m (present host) root lower one two)
    (and_line (number_line (codes "past") (length host.past)) (flat_map (past_lines n) host.past ++ codes "end" ∷ []) (flat_map (past_lines m) host.past ++ codes "end" ∷ [])
    (both_texts (flat_map (past_lines n) host.past) (flat_map (past_lines m) host.past) (codes "end" ∷ []) (codes "end" ∷ []) (pasts_within n m host.past few) (same_text (codes "end" ∷ [])))))

not_less : (a b : ℕ) → b ≤ a → nat_lt a b ≡ false
not_less a b within = not_true (nat_lt a b) (λ is. let less = ltb-true a b is in absurd (omega arith))

same_digits : length (decimal 4294967295) ≡ length (decimal 4294967296)
unfolding digits
same_digits = refl

-- of the number past the last one, and of the last one
pub index_past_last : (host : Host) → length (coming_index 4294967295 host) ≡ length (coming_index 4294967296 host)
index_past_last host =
    let few : length (decimal 4294967295) ≤ length (decimal 4294967296) = omega (arith, same_digits) in
    let many : length (decimal 4294967296) ≤ length (decimal 4294967295) = omega (arith, same_digits) in
    let one = index_within 4294967295 4294967296 host host.root host.lower few (entries_themselves 4294967295 4294967296 host.root few) (entries_themselves 4294967295 4294967296 host.lower few) in
    let two = index_within 4294967296 4294967295 host host.root host.lower many (entries_themselves 4294967296 4294967295 host.root many) (entries_themselves 4294967296 4294967295 host.lower many) in
    omega (arith, one, two)

-- so the index is as long where the last number stands for the one past it
pub index_shown : (number : ℕ) (host : Host) → number ≤ 4294967296 → length (coming_index (min number 4294967295) host) ≡ length (coming_index number host)
index_shown number host within = elim (cases_lt 4294967295 number) [
  | inl past ↦
      let last : number ≡ 4294967296 = omega arith in
      let shown : min number 4294967295 ≡ 4294967295 = omega arith in
      ap (λ n. length (coming_index n host)) shown ∙ index_past_last host ∙ ap (λ n. length (coming_index n host)) (sym last)
  | inr before ↦
      let same : min number 4294967295 ≡ number = omega arith in
      ap (λ n. length (coming_index n host)) same
]

pub limit_is_index : (from : Option Generation) (next : Host) → most_index_bytes < length (coming_index (coming_number from) next) → limit_of from next ≡ Some whichs.Index
limit_is_index from next long = cond-true _ _ _ (lt-ltb most_index_bytes (length (coming_index (coming_number from) next)) long)

pub limit_is_generations : (from : Option Generation) (next : Host) → length (coming_index (coming_number from) next) ≤ most_index_bytes → 4294967295 < coming_number from
    → limit_of from next ≡ Some whichs.Generations
limit_is_generations from next short last =
    cond-false _ _ _ (not_less most_index_bytes (length (coming_index (coming_number from) next)) short) ∙ cond-true _ _ _ (lt-ltb 4294967295 (coming_number from) last)

pub limit_is_none : (from : Option Generation) (next : Host) → length (coming_index (coming_number from) next) ≤ most_index_bytes → coming_number from ≤ 4294967295 → limit_of from next ≡ None
limit_is_none from next short early =
    cond-false _ _ _ (not_less most_index_bytes (length (coming_index (coming_number from) next)) short) ∙ cond-false _ _ _ (not_less 4294967295 (coming_number from) early)
