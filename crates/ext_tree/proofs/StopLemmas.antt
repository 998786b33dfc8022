-- Where the reading of a text stops, no sequence goes on: what the readers give there.
use Rattle.std.proofs.Common.{◌≡◌, ◌≢◌, ℕ, ◌+◌, ◌<◌, ◌≤◌, Bool, true, false, eqb, List, [], ◌∷◌, ◌++◌, length, take, refl, sym, ap, ◌∙◌, subst, arith, append_assoc, length-append}
use Rattle.std.proofs.lemmas.List.{append-nil, length-map}
use Rattle.std.specs.Prelude.{codes, map, ◌⊎◌, Err}
use mathlib.Core.Logic.{inl, inr}
use Rattle.std.proofs.lemmas.Bool.{eqb-false, eqb-true}
use Rattle.std.proofs.lemmas.List.Concat.{flat_map-append}
use Rattle.std.specs.List.{AllByRecursion, flat_map}
use Rattle.ext_lines.specs.Split.{Lacks, IsSplit}
use Rattle.ext_text.proofs.ForCallers.{all_append}
use Rattle.ext_tree.specs.declared.stamp.Stamp.{Stamp}
use Rattle.ext_tree.specs.declared.reading.TreeTextErr.{TreeTextErr}
use Rattle.ext_tree.specs.declared.reading.TreeTextErr.TheVariants.{OutOfMemory, BadTree}
use Rattle.ext_tree.specs.Tree.{Entries}
use Rattle.ext_tree.specs.TreeText.{HasText, IsLoose, IsSequence, header, loose_lines, version_of, printed_lines, tree_line, tree_lines, tree_text}
use Rattle.ext_lines.specs.Lines.{lines_text}
use Rattle.ext_tree.specs.FirstFault.{Begins, EndsIdle, IsFirstFault, IsOne, AtLeastOne, ReadsTree, ReadsSequence}
use Rattle.ext_tree.specs.Reading.{IsHeader, MayStand, NoneNext, StopsBody, StopsText, BeginsText, TextFault}
use Rattle.ext_tree.proofs.TreeTextLemmas.{lines_of, empty_text, loose_version, version_high}
use Rattle.ext_lines.proofs.ForCallers.{lines_text-append}
use Rattle.ext_tree.proofs.ReadingLemmas.{line_more, length-text_lines}
use Rattle.ext_tree.proofs.SequenceLemmas.{Next, ended, head_of, loosely, loosely_each, loosely_lines, loosely_peeled, loosely_push, next_line, open_body, sequence_peeled}
use Rattle.ext_tree.proofs.IdleLemmas.{none_ends_idle, open_unended}
use Rattle.ext_tree.proofs.TreeLineLemmas.{one_version}
use Rattle.ext_tree.proofs.DecisionLemmas.{same_text}
use Rattle.ext_tree.proofs.FirstFaultLemmas.{IsStuck, stuck_fault, sequence_text, sequence_lacks, tree_lacks, header_lacks, entries_lack}

one_more : (done : List (Entries Stamp)) (t : ℕ × Entries Stamp) → flat_map loose_lines (map loosely done ++ t ∷ []) ≡ flat_map tree_lines done ++ loose_lines t
one_more done t =
    flat_map-append loose_lines (map loosely done) (t ∷ []) ∙ ap (λ xs. xs ++ flat_map loose_lines (t ∷ [])) (loosely_lines done)
    ∙ ap (λ xs. flat_map tree_lines done ++ xs) (append-nil (loose_lines t))

-- the lines of trees, and of texts of which some versions may not fit
peeled : (done : List (Entries Stamp)) (texts : List (ℕ × Entries Stamp)) (a : List (List ℕ)) → AllByRecursion HasText done → AllByRecursion IsLoose texts → flat_map tree_lines done ++ a ≡ flat_map loose_lines texts
    → (more : List (ℕ × Entries Stamp)) × (texts ≡ map loosely done ++ more) × (a ≡ flat_map loose_lines more) × AllByRecursion IsLoose more
peeled done texts a hd ht same = loosely_peeled (map loosely done) texts a (loosely_each done hd) ht (ap (λ xs. xs ++ a) (loosely_lines done) ∙ same)

-- what follows whole trees in a sequence is a header, or nothing
next_header : (done : List (Entries Stamp)) (texts : List (ℕ × Entries Stamp)) (l : List ℕ) (a : List (List ℕ)) → AllByRecursion HasText done → AllByRecursion IsLoose texts → (flat_map tree_lines done ++ l ∷ []) ++ a ≡ flat_map loose_lines texts → IsHeader l
next_header done texts l a hd ht same =
    let rest = peeled done texts (l ∷ a) hd ht (sym (append_assoc (flat_map tree_lines done) (l ∷ []) a) ∙ same) in
    header_of rest.0 rest.3 rest.2
  where
    header_of : (more : List (ℕ × Entries Stamp)) → AllByRecursion IsLoose more → l ∷ a ≡ flat_map loose_lines more → IsHeader l
    header_of [] hm is = absurd (cc)
    header_of (t ∷ more) hm is = (t.0, loose_version t hm.0, head (sym (ended t.0 t.1 (flat_map loose_lines more)) ∙ sym is))
      where
        head : header t.0 ∷ (map tree_line t.1 ++ codes "end" ∷ flat_map loose_lines more) ≡ l ∷ a → l ≡ header t.0
        head both = cc

-- the lines of whole trees, and those of a tree that has not ended
abbrev open_lines : List (Entries Stamp) → ℕ → Entries Stamp → List (List ℕ)
open_lines done v es = flat_map tree_lines done ++ header v ∷ map tree_line es

-- what follows a header and entries
next_entry : (done : List (Entries Stamp)) (texts : List (ℕ × Entries Stamp)) (v : ℕ) (es : Entries Stamp) (l : List ℕ) (a : List (List ℕ)) → AllByRecursion HasText done → AllByRecursion IsLoose texts → HasText es
    → (open_lines done v es ++ l ∷ []) ++ a ≡ flat_map loose_lines texts → Next v es l
next_entry done texts v es l a hd ht text same =
    let rest = peeled done texts (header v ∷ (map tree_line es ++ l ∷ a)) hd ht (sym regrouped ∙ same) in
    entry_of rest.0 rest.3 rest.2
  where
    regrouped : (open_lines done v es ++ l ∷ []) ++ a ≡ flat_map tree_lines done ++ (header v ∷ (map tree_line es ++ l ∷ a))
    regrouped =
        ap (λ xs. xs ++ a) (append_assoc (flat_map tree_lines done) (header v ∷ map tree_line es) (l ∷ []))
        ∙ append_assoc (flat_map tree_lines done) (header v ∷ (map tree_line es ++ l ∷ [])) a
        ∙ ap (λ xs. flat_map tree_lines done ++ (header v ∷ xs)) (append_assoc (map tree_line es) (l ∷ []) a)

    entry_of : (more : List (ℕ × Entries Stamp)) → AllByRecursion IsLoose more → header v ∷ (map tree_line es ++ l ∷ a) ≡ flat_map loose_lines more → Next v es l
    entry_of [] hm is = absurd (cc)
    entry_of (u ∷ more) hm is =
        let parts = head_of (header v) (header u.0) (map tree_line es ++ l ∷ a) (map tree_line u.1 ++ codes "end" ∷ flat_map loose_lines more) (is ∙ ended u.0 u.1 (flat_map loose_lines more)) in
        let version : u.0 ≡ v = sym (one_version v u.0 parts.0) in
        next_line v [] es u.1 l a (flat_map loose_lines more) (lines_of es text) (lines_of u.1 hm.0.tree) hm.0.tree (omega (arith, version, hm.0.version)) parts.1

-- a header and entries are no whole tree
unended_entries : (done trees : List (Entries Stamp)) (v : ℕ) (es : Entries Stamp) → AllByRecursion HasText done → AllByRecursion HasText trees → open_lines done v es ≡ flat_map tree_lines trees → ⊥
unended_entries done trees v es hd ht same =
    let rest = sequence_peeled done trees (header v ∷ map tree_line es) hd ht same in
    never rest.0 rest.2
  where
    never : (more : List (Entries Stamp)) → header v ∷ map tree_line es ≡ flat_map tree_lines more → ⊥
    never [] is = cc
    never (u ∷ more) is =
        let parts = head_of (header v) (header (version_of u)) (map tree_line es) (map tree_line u ++ codes "end" ∷ flat_map tree_lines more) (is ∙ ended (version_of u) u (flat_map tree_lines more)) in
        open_body es u (flat_map tree_lines more) parts.1

stuck_header : (wanted : List (Entries Stamp) → Type 0) (bytes : List ℕ) (done : List (Entries Stamp)) (rest : List ℕ) → AllByRecursion HasText done → ((t : Entries Stamp) → wanted (done ++ t ∷ [])) → (wanted [] → ⊥) → bytes ≡ flat_map tree_text done ++ rest
    → (done ≡ []) ⊎ (0 < length rest) → NoneNext IsHeader rest → IsStuck wanted bytes (flat_map tree_lines done) rest
stuck_header wanted bytes done rest hd longer none text unended stop = record {
  text = text ∙ ap (λ xs. xs ++ rest) (sequence_text done);
  lacks = sequence_lacks done hd;
  before = record {
    texts = map loosely done ++ (1, []) ∷ [];
    more = printed_lines 1 [];
    as_many = subst wanted (sym (loosely_push done (1, []))) (longer []);
    each = all_append IsLoose (map loosely done) ((1, []) ∷ []) (loosely_each done hd) (record { tree = empty_text; version = omega arith; known = omega arith }, tt);
    text = sym (one_more done (1, []));
  };
  not_before = λ k idle. none_ends_idle done [] hd tt k (subst (λ xs. EndsIdle (take k xs)) (sym (append-nil (flat_map tree_lines done))) idle);
  stop = λ l more split. inr (λ begins. stop l more split (next_header done begins.texts l begins.more hd begins.each begins.text));
  unended = λ trees as_many each same empty. elim unended [
    | inl first ↦ none (subst wanted (no_trees trees (sym same ∙ ap (flat_map tree_lines) first)) as_many)
    | inr some ↦ nothing rest empty some
  ];
}
  where
    nothing : (xs : List ℕ) → xs ≡ [] → 0 < length xs → ⊥
    nothing xs empty some = omega (arith, ap length empty)

    no_trees : (trees : List (Entries Stamp)) → flat_map tree_lines trees ≡ [] → trees ≡ []
    no_trees [] is = refl
    no_trees (t ∷ trees) is = absurd (cc)

-- where the next line may not stand, it ends a text of version 2 that needs none, or nothing begins so
stuck_line : (wanted : List (Entries Stamp) → Type 0) (done : List (Entries Stamp)) (v : ℕ) (es : Entries Stamp) (l : List ℕ) → AllByRecursion HasText done → HasText es → (version_of es ≤ v) → (MayStand v es l → ⊥)
    → EndsIdle (open_lines done v es ++ l ∷ []) ⊎ (Begins wanted (open_lines done v es ++ l ∷ []) → ⊥)
stuck_line wanted done v es l hd text version stop = elim (same_text l (codes "end")) [
  | inl end ↦
      let other : version_of es ≡ v → ⊥ = λ same. stop (inl (end, same)) in
      inl (record {
        before = flat_map tree_lines done;
        entries = es;
        version = v;
        tree = text;
        none = omega arith;
        text = append_assoc (flat_map tree_lines done) (header v ∷ map tree_line es) (l ∷ [])
            ∙ ap (λ x. flat_map tree_lines done ++ (header v ∷ (map tree_line es ++ x ∷ []))) end;
      })
  | inr not_end ↦ inr (λ begins. elim (next_entry done begins.texts v es l begins.more hd begins.each text begins.text) [
    | inl end ↦ not_end end
    | inr found ↦ stop (inr found)
  ])
]

stuck_entries : (wanted : List (Entries Stamp) → Type 0) (bytes : List ℕ) (done : List (Entries Stamp)) (rest body : List ℕ) (v : ℕ) (first line : ℕ) → AllByRecursion HasText done → ((t : Entries Stamp) → wanted (done ++ t ∷ [])) → bytes ≡ flat_map tree_text done ++ rest
    → v ≤ 3 → IsSplit 10 rest (header v) body → (stops : StopsBody v body first line) → IsStuck wanted bytes (open_lines done v stops.entries) stops.rest
stuck_entries wanted bytes done rest body v first line hd longer text known split stops = record {
  text = read;
  lacks = all_append (Lacks 10) (flat_map tree_lines done) (header v ∷ map tree_line stops.entries) (sequence_lacks done hd) (header_lacks v, entries_lack stops.entries (lines_of stops.entries stops.tree));
  before = record {
    texts = map loosely done ++ (v, stops.entries) ∷ [];
    more = codes "end" ∷ [];
    as_many = subst wanted (sym (loosely_push done (v, stops.entries))) (longer stops.entries);
    each = all_append IsLoose (map loosely done) ((v, stops.entries) ∷ []) (loosely_each done hd) (record { tree = stops.tree; version = stops.needed; known = known }, tt);
    text = append_assoc (flat_map tree_lines done) (header v ∷ map tree_line stops.entries) (codes "end" ∷ []) ∙ sym (one_more done (v, stops.entries));
  };
  not_before = none_ends_idle done (header v ∷ map tree_line stops.entries) hd (open_unended v stops.entries);
  stop = λ l more end. stuck_line wanted done v stops.entries l hd stops.tree stops.needed (stops.stop l more end);
  unended = λ trees as_many each same _. unended_entries done trees v stops.entries hd each same;
}
  where
    read : bytes ≡ lines_text (open_lines done v stops.entries) ++ stops.rest
    read =
        line_more bytes (flat_map tree_lines done) rest (header v) body (text ∙ ap (λ xs. xs ++ rest) (sequence_text done)) split
        ∙ ap (λ xs. lines_text (flat_map tree_lines done ++ header v ∷ []) ++ xs) stops.text
        ∙ sym (append_assoc (lines_text (flat_map tree_lines done ++ header v ∷ [])) (lines_text (map tree_line stops.entries)) stops.rest)
        ∙ ap (λ xs. xs ++ stops.rest) (sym (lines_text-append (flat_map tree_lines done ++ header v ∷ []) (map tree_line stops.entries)))
        ∙ ap (λ ls. lines_text ls ++ stops.rest) (append_assoc (flat_map tree_lines done) (header v ∷ []) (map tree_line stops.entries))

sequence_stops : (wanted : List (Entries Stamp) → Type 0) (bytes : List ℕ) (done : List (Entries Stamp)) (rest : List ℕ) (line : ℕ) → AllByRecursion HasText done → ((t : Entries Stamp) → wanted (done ++ t ∷ [])) → (wanted [] → ⊥) → bytes ≡ flat_map tree_text done ++ rest
    → (done ≡ []) ⊎ (0 < length rest) → StopsText rest (1 + length (flat_map tree_lines done)) line → IsFirstFault wanted bytes line
sequence_stops wanted bytes done rest line hd longer none text unended (inl (is, stop)) =
    stuck_fault wanted bytes (flat_map tree_lines done) rest line (stuck_header wanted bytes done rest hd longer none text unended stop) (omega (arith, is))
sequence_stops wanted bytes done rest line hd longer none text unended (inr (v, body, is, split, stops)) =
    stuck_fault wanted bytes (open_lines done v stops.entries) stops.rest line (stuck_entries wanted bytes done rest body v (1 + length (flat_map tree_lines done) + 1) line hd longer text is.high split stops)
    (omega (arith, stops.counted, length-append (flat_map tree_lines done) (header v ∷ map tree_line stops.entries), length-map stops.entries tree_line))

-- what `read_tree` gives where no text goes on
pub tree_err : (bytes : List ℕ) (e : TreeTextErr) → TextFault bytes 1 e → ReadsTree bytes (Err e)
tree_err bytes OutOfMemory fault = tt
tree_err bytes (BadTree line) stops = sequence_stops IsOne bytes [] bytes line tt (λ t. omega arith) (λ one. omega arith) refl (inl refl) stops

-- and what it gives where something follows a text
pub tree_more : (bytes : List ℕ) (es : Entries Stamp) (rest : List ℕ) (next : ℕ) → BeginsText bytes 1 es rest next → (rest ≢ []) → ReadsTree bytes (Err (BadTree next))
tree_more bytes es rest next begins some =
    stuck_fault IsOne bytes (tree_lines es) rest next (record {
      text = begins.text;
      lacks = tree_lacks es begins.tree;
      before = record { texts = loosely es ∷ []; more = []; as_many = omega arith; each = (record { tree = begins.tree; version = omega arith; known = version_high es }, tt); text = refl };
      not_before = λ k idle. none_ends_idle (es ∷ []) [] (begins.tree, tt) tt k
          (subst (λ xs. EndsIdle (take k xs)) (sym (append-nil (tree_lines es ++ []) ∙ append-nil (tree_lines es))) idle);
      stop = λ l more split. inr (λ b. one_more_line b.texts l b.more b.as_many b.each b.text);
      unended = λ trees one each same. some;
    }) (omega (arith, begins.counted))
  where
    -- after the lines of one tree there is none
    one_more_line : (texts : List (ℕ × Entries Stamp)) (l : List ℕ) (a : List (List ℕ)) → length (map (λ t. t.1) texts) ≡ 1 → AllByRecursion IsLoose texts → (tree_lines es ++ l ∷ []) ++ a ≡ flat_map loose_lines texts → ⊥
    one_more_line texts l a one each same =
        let found = peeled (es ∷ []) texts (l ∷ a) (begins.tree, tt) each
        (ap (λ xs. xs ++ l ∷ a) (append-nil (tree_lines es)) ∙ sym (append_assoc (tree_lines es) (l ∷ []) a) ∙ same) in
        alone found.0 (omega (arith, one, length-map texts (λ t. t.1), ap length found.1)) found.2
      where
        alone : (more : List (ℕ × Entries Stamp)) → length more ≡ 0 → l ∷ a ≡ flat_map loose_lines more → ⊥
        alone [] none is = cc
        alone (t ∷ more) none is = omega arith

-- what `read_trees` gives where no text goes on after the texts of trees
pub sequence_err : (bytes : List ℕ) (done : List (Entries Stamp)) (rest : List ℕ) (first : ℕ) (e : TreeTextErr) → AllByRecursion HasText done → bytes ≡ flat_map tree_text done ++ rest → first ≡ 1 + length (flat_map tree_lines done) → (done ≡ []) ⊎ (0 < length rest)
    → TextFault rest first e → ReadsSequence bytes (Err e)
sequence_err bytes done rest first OutOfMemory each text counted unended fault = tt
sequence_err bytes done rest first (BadTree line) each text counted unended stops =
    sequence_stops AtLeastOne bytes done rest line each (λ t. omega (arith, length-append done (t ∷ []))) (λ some. omega arith) text unended (subst (λ n. StopsText rest n line) counted stops)

one_tree_more : (done : List (Entries Stamp)) (t : Entries Stamp) → flat_map tree_lines (done ++ t ∷ []) ≡ flat_map tree_lines done ++ tree_lines t
one_tree_more done t = flat_map-append tree_lines done (t ∷ []) ∙ ap (λ xs. flat_map tree_lines done ++ xs) (append-nil (tree_lines t))

-- the list with one more item, which is the tree
pub grown_by : (done longer : List (Entries Stamp)) (item t : Entries Stamp) → longer ≡ done ++ item ∷ [] → item ≡ t → longer ≡ done ++ t ∷ []
grown_by done longer item t grown same = grown ∙ ap (λ x. done ++ x ∷ []) same

-- the texts of the trees so far, and one more
pub texts_more : (bytes : List ℕ) (done longer : List (Entries Stamp)) (t : Entries Stamp) (rest : List ℕ) (first : ℕ) (after : List ℕ) (next : ℕ) → bytes ≡ flat_map tree_text done ++ rest → BeginsText rest first t after next → longer ≡ done ++ t ∷ [] → bytes ≡ flat_map tree_text longer ++ after
texts_more bytes done longer t rest first after next text begins grown =
    text ∙ ap (λ xs. flat_map tree_text done ++ xs) begins.text
    ∙ sym (append_assoc (flat_map tree_text done) (tree_text t) after)
    ∙ ap (λ xs. (flat_map tree_text done ++ xs) ++ after) (sym (append-nil (tree_text t)))
    ∙ ap (λ xs. xs ++ after) (sym (flat_map-append tree_text done (t ∷ [])))
    ∙ ap (λ ts. flat_map tree_text ts ++ after) (sym grown)

pub each_more : (done longer : List (Entries Stamp)) (t : Entries Stamp) → AllByRecursion HasText done → HasText t → longer ≡ done ++ t ∷ [] → AllByRecursion HasText longer
each_more done longer t each text grown = subst (AllByRecursion HasText) (sym grown) (all_append HasText done (t ∷ []) each (text, tt))

pub counted_more : (done longer : List (Entries Stamp)) (t : Entries Stamp) (rest : List ℕ) (first : ℕ) (after : List ℕ) (next : ℕ) → first ≡ 1 + length (flat_map tree_lines done) → BeginsText rest first t after next → longer ≡ done ++ t ∷ [] → next ≡ 1 + length (flat_map tree_lines longer)
counted_more done longer t rest first after next counted begins grown =
    let lines : length (flat_map tree_lines longer) ≡ length (flat_map tree_lines done) + length (tree_lines t) =
    ap (λ ts. length (flat_map tree_lines ts)) grown ∙ ap length (one_tree_more done t) ∙ length-append (flat_map tree_lines done) (tree_lines t) in
    omega (arith, begins.counted)

-- no more lines than bytes
lines_short : (lines : List (List ℕ)) → length lines ≤ length (lines_text lines)
lines_short [] = omega arith
lines_short (l ∷ lines) = omega (arith, lines_short lines, length-append (l ++ 10 ∷ []) (lines_text lines), length-append l (10 ∷ []))

pub text_room : (rest : List ℕ) (first : ℕ) (t : Entries Stamp) (after : List ℕ) (next : ℕ) → BeginsText rest first t after next → next + length after ≤ first + length rest
text_room rest first t after next begins =
    omega (arith, begins.counted, lines_short (tree_lines t), ap length begins.text, length-append (tree_text t) after)

pub text_next : (rest : List ℕ) (first : ℕ) (t : Entries Stamp) (after : List ℕ) (next : ℕ) → BeginsText rest first t after next → first + 2 ≤ next
text_next rest first t after next begins = omega (arith, begins.counted, length-text_lines (version_of t) t)

nothing_left : (xs : List ℕ) → length xs ≤ 0 → xs ≡ []
nothing_left [] empty = refl
nothing_left (x ∷ xs) empty = absurd (omega arith)

-- the texts of the trees so far and one more are a sequence, where nothing follows
pub sequence_ends : (bytes : List ℕ) (done longer : List (Entries Stamp)) (t : Entries Stamp) (rest : List ℕ) (first : ℕ) (after : List ℕ) (next : ℕ) → AllByRecursion HasText done → bytes ≡ flat_map tree_text done ++ rest
    → BeginsText rest first t after next → longer ≡ done ++ t ∷ [] → length after ≤ 0 → IsSequence bytes longer
sequence_ends bytes done longer t rest first after next each text begins grown empty = record {
  non_empty = omega (arith, ap length grown, length-append done (t ∷ []));
  each = each_more done longer t each begins.tree grown;
  text = texts_more bytes done longer t rest first after next text begins grown
      ∙ ap (λ xs. flat_map tree_text longer ++ xs) (nothing_left after empty)
      ∙ append-nil (flat_map tree_text longer);
}

pub some_bytes : (bytes : List ℕ) (test : Bool) → test ≡ eqb (length bytes) 0 → test ≡ false → 0 < length bytes
some_bytes bytes test is fails =
    let other : length bytes ≡ 0 → ⊥ = eqb-false (length bytes) 0 (sym is ∙ fails) in
    omega arith

pub not_empty : (bytes : List ℕ) (test : Bool) → test ≡ eqb (length bytes) 0 → test ≡ false → bytes ≢ []
not_empty bytes test is fails = λ empty. absurd (nothing (some_bytes bytes test is fails) empty)
  where
    nothing : 0 < length bytes → bytes ≡ [] → ⊥
    nothing some empty = omega (arith, ap length empty)

pub nothing_after : (bytes : List ℕ) (test : Bool) → test ≡ eqb (length bytes) 0 → test ≡ true → length bytes ≤ 0
nothing_after bytes test is holds =
    let none : length bytes ≡ 0 = eqb-true (length bytes) 0 (sym is ∙ holds) in
    omega arith
