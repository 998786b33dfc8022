-- Bytes that are no text have a first faulty line: their lines are read one by one, each decided by those before it.
use Rattle.std.proofs.Common.{◌≡◌, ℕ, zero, suc, ◌+◌, ◌-◌, ◌<◌, ◌≤◌, Bool, List, [], ◌∷◌, ◌++◌, length, get_or, refl, sym, ap, ◌∙◌, subst, arith, length-append, codes, true, false}
use Rattle.std.specs.Prelude.{◌⊎◌, map, nat_eq, IsTrue, ◌↔◌}
use mathlib.Core.Logic.{inl, inr}
use Rattle.std.proofs.lemmas.Bool.{cases_eq, cases_lt, cases_Bool, false≢true}
use Rattle.std.proofs.lemmas.List.{append-nil, get_or_default}
use Rattle.std.specs.List.{AllByRecursion, flat_map}
use Rattle.ext_lines.specs.Split.{IsSplit}
use Rattle.ext_lines.proofs.ForCallers.{split_or_lacks}
use Rattle.ext_text.specs.Path.{IsPath}
use Rattle.ext_tree.specs.Tree.{Entries, IsTree}
use Rattle.ext_tree.specs.Following.{stands_after}
use Rattle.ext_tree.specs.TreeText.{HasText, HasTreeLine, IsVersion, header, needed_version, version_of, IsSequence, tree_line, tree_lines, tree_text}
use Rattle.ext_lines.specs.Lines.{lines_text}
use Rattle.ext_tree.specs.FirstFault.{AtLeastOne, IsFirstFault, IsOne}
use Rattle.ext_tree.specs.Reading.{BeginsBody, BeginsText, MayStand, StopsBody, StopsText}
use Rattle.ext_tree.specs.Laws.{FaultOfNoSequence, FaultOfNoText}
use Rattle.ext_tree.specs.declared.entry.Entry.{Entry}
use Rattle.ext_tree.specs.declared.reading.TreeTextErr.TheVariants.{BadTree}
use Rattle.ext_tree.specs.declared.stamp.Stamp.{Stamp}
use Rattle.ext_tree.proofs.ReadingLemmas.{split_short, line_more, entry_more, none_split, none_lacks, no_header, no_line, text_begins}
use Rattle.ext_tree.proofs.DecisionLemmas.{Decided, entry_of, no_more, same_text}
use Rattle.ext_tree.proofs.StopLemmas.{counted_more, each_more, sequence_ends, sequence_err, text_next, text_room, texts_more, tree_err, tree_more}
use Rattle.ext_tree.proofs.FollowingLemmas.{may_first, may_next}
use Rattle.ext_tree.proofs.TreeTextLemmas.{adds, empty_text, last_line, not_ended, version_more}
use Rattle.ext_tree.proofs.TreeLineLemmas.{line_injective}

-- the last of entries that are not none
last_of : (es : Entries Stamp) → 0 < length es → (last : List (List ℕ) × Entry Stamp) × (last ≡ get_or es (length es - 1) last)
last_of [] some = absurd (omega arith)
last_of (x ∷ es) some =
    let within : length (x ∷ es) - 1 < length (x ∷ es) = omega arith in
    let last : List (List ℕ) × Entry Stamp = get_or (x ∷ es) (length (x ∷ es) - 1) x in
    (last, get_or_default (x ∷ es) (length (x ∷ es) - 1) x last within)

-- whether entries with one more at this path are a tree
follows : (es : Entries Stamp) (p : List (List ℕ)) → IsTree es → IsPath p → (test : Bool) × ((e : Entry Stamp) → (IsTrue test ↔ IsTree (es ++ (p, e) ∷ [])))
follows es p tree path = elim (cases_lt 0 (length es)) [
  | inl some ↦
      let last = last_of es some in
      (stands_after last.0 p, may_next es last.0 p (stands_after last.0 p) some last.1 tree path refl)
  | inr none ↦ (nat_eq (length p) 1, may_first es p p (none_below none) refl path)
]
  where
    none_below : length es ≤ 0 → length es < 1
    none_below none = omega arith

longer : (es : Entries Stamp) (x : List (List ℕ) × Entry Stamp) → HasText es → HasTreeLine x → Decided (HasText (es ++ x ∷ []))
longer es x text line = elim (cases_lt (length es) 262144) [
  | inl room ↦
      let test = follows es x.0 text.within.tree line.path in
      let both = adds es x.0 test.0 text room test.1 x.1 line in
      elim (cases_Bool test.0) [
        | inl passed ↦ inl (both.0 passed)
        | inr failed ↦ inr (λ has. false≢true (sym failed ∙ both.1 has))
      ]
  | inr full ↦ inr (λ has. too_many has.within.count full)
]
  where
    too_many : length (es ++ x ∷ []) ≤ 262144 → 262144 ≤ length es → ⊥
    too_many within full = omega (arith, length-append es (x ∷ []))

-- a line may stand after entries, as the last one or as that of one more entry, or may not
abbrev Judged : ℕ → Entries Stamp → List ℕ → Type 0
Judged v es line = MayStand v es line ⊎ (MayStand v es line → ⊥)

judged : (v : ℕ) (es : Entries Stamp) (line : List ℕ) → HasText es → Judged v es line
judged v es line text = elim (same_text line (codes "end")) [
  | inl end ↦ elim (cases_eq (version_of es) v) [
    | inl same ↦ inl (inl (end, same))
    | inr other ↦ inr (not_ended v (version_of es) es line end refl (λ same. other (sym same)))
  ]
  | inr not_end ↦ elim (entry_of line) [
    | inr none ↦ inr (λ may. elim may [
      | inl end ↦ not_end end.0
      | inr found ↦ none (found.0, (last_line es found.0 found.1.longer, found.2))
    ])
    | inl x ↦ elim (longer es x.0 text x.1.0) [
      | inl has ↦ elim (no_more (needed_version x.0.1) v) [
        | inl fit ↦ inl (inr (x.0, record { longer = has; needed = fit }, x.1.1))
        | inr unfit ↦ inr (λ may. elim may [
          | inl end ↦ not_end end.0
          | inr found ↦ unfit (subst (λ z. needed_version z.1 ≤ v) (line_injective found.0 x.0 (last_line es found.0 found.1.longer) x.1.0 (sym found.2 ∙ x.1.1)) found.1.needed)
        ])
      ]
      | inr not_longer ↦ inr (λ may. elim may [
        | inl end ↦ not_end end.0
        | inr found ↦ not_longer (subst (λ z. HasText (es ++ z ∷ [])) (line_injective found.0 x.0 (last_line es found.0 found.1.longer) x.1.0 (sym found.2 ∙ x.1.1)) found.1.longer)
      ])
    ]
  ]
]

abbrev BodyOrStop : ℕ → List ℕ → ℕ → Type 0
BodyOrStop v bytes first = ((es : Entries Stamp) × ((rest : List ℕ) × ((next : ℕ) × BeginsBody v bytes first es rest next))) ⊎ ((line : ℕ) × StopsBody v bytes first line)

body_or_stop : (v : ℕ) (most : ℕ) (bytes : List ℕ) (first : ℕ) (es : Entries Stamp) (rest : List ℕ) → length rest < most → HasText es → (version_of es ≤ v) → bytes ≡ lines_text (map tree_line es) ++ rest → BodyOrStop v bytes first
body_or_stop v zero bytes first es rest short tree version text = absurd (omega arith)
body_or_stop v (suc most) bytes first es rest short tree version text = elim (split_or_lacks 10 rest) [
  | inl lacks ↦ inr (first + length es, record { entries = es; rest = rest; tree = tree; needed = version; text = text; counted = refl; stop = none_lacks (MayStand v es) rest lacks })
  | inr (line, more, split) ↦ elim (judged v es line tree) [
    | inl (inl end) ↦ inl (
      es,
      (
        more,
        (
          first + (length es + 1),
          record {
            tree = tree;
            exact = end.1;
            text = line_more bytes (map tree_line es) rest line more text split
                ∙ ap (λ l. lines_text (map tree_line es ++ l ∷ []) ++ more) end.0;
            counted = refl;
          },
        ),
      ),
    )
    | inl (inr item) ↦
        body_or_stop v most bytes first (es ++ item.0 ∷ []) more (shorter line more split) item.1.longer
        (version_more v es (es ++ item.0 ∷ []) item.0 version item.1.needed refl)
        (entry_more bytes es (es ++ item.0 ∷ []) item.0 rest line more text split item.2 refl)
    | inr fault ↦ inr (first + length es, record { entries = es; rest = rest; tree = tree; needed = version; text = text; counted = refl; stop = none_split (MayStand v es) rest line more split fault })
  ]
]
  where
    shorter : (line more : List ℕ) → IsSplit 10 rest line more → length more < most
    shorter line more split = omega (arith, split_short rest line more split)

abbrev TextOrStop : List ℕ → ℕ → Type 0
TextOrStop bytes first = ((es : Entries Stamp) × ((rest : List ℕ) × ((next : ℕ) × BeginsText bytes first es rest next))) ⊎ ((line : ℕ) × StopsText bytes first line)

text_or_stop : (bytes : List ℕ) (first : ℕ) → TextOrStop bytes first
text_or_stop bytes first = elim (split_or_lacks 10 bytes) [
  | inl lacks ↦ inr (first, no_line bytes first lacks)
  | inr (line, body, split) ↦ elim (same_text line (header 1)) [
    | inl initial ↦ after_header 1 body (record { low = omega arith; high = omega arith }) (subst (λ l. IsSplit 10 bytes l body) initial split)
    | inr not_first ↦ elim (same_text line (header 2)) [
      | inl second ↦ after_header 2 body (record { low = omega arith; high = omega arith }) (subst (λ l. IsSplit 10 bytes l body) second split)
      | inr not_second ↦ elim (same_text line (header 3)) [
        | inl third ↦ after_header 3 body (record { low = omega arith; high = omega arith }) (subst (λ l. IsSplit 10 bytes l body) third split)
        | inr not_third ↦ inr (first, no_header bytes line body first split (λ is. neither line not_first not_second not_third is.0 is.1 is.2))
      ]
    ]
  ]
]
  where
    neither : (line : List ℕ) → (line ≡ header 1 → ⊥) → (line ≡ header 2 → ⊥) → (line ≡ header 3 → ⊥) → (v : ℕ) → IsVersion v → line ≡ header v → ⊥
    neither line not_first not_second not_third v known is = elim (cases_eq v 1) [
      | inl one ↦ not_first (is ∙ ap header one)
      | inr other ↦ elim (cases_eq v 2) [
        | inl second ↦ not_second (is ∙ ap header second)
        | inr more ↦ let third : v ≡ 3 = omega (arith, known.low, known.high) in not_third (is ∙ ap header third)
      ]
    ]

    after_header : (v : ℕ) (body : List ℕ) → IsVersion v → IsSplit 10 bytes (header v) body → TextOrStop bytes first
    after_header v body known split = elim (body_or_stop v (suc (length body)) body (first + 1) [] body (omega arith) empty_text known.low refl) [
      | inl found ↦ inl (found.0, (found.1.0, (found.1.1.0, text_begins v bytes body first found.0 found.1.0 found.1.1.0 split found.1.1.1)))
      | inr stops ↦ inr (stops.0, inr (v, body, known, split, stops.1))
    ]

pub fault_of_no_text : FaultOfNoText
fault_of_no_text bytes none = elim (text_or_stop bytes 1) [
  | inl found ↦ ended found.0 found.1.0 found.1.1.0 found.1.1.1
  | inr stops ↦ (stops.0, tree_err bytes (BadTree stops.0) stops.1)
]
  where
    ended : (es : Entries Stamp) (rest : List ℕ) (next : ℕ) → BeginsText bytes 1 es rest next → (line : ℕ) × IsFirstFault IsOne bytes line
    ended es [] next begins = absurd (none es (record { tree = begins.tree; text = begins.text ∙ append-nil (tree_text es) }))
    ended es (b ∷ rest) next begins = (next, tree_more bytes es (b ∷ rest) next begins (λ empty. cc))

-- the texts of trees, and a rest that is not empty after one of them
sequence_fault : (most : ℕ) (bytes : List ℕ) (done : List (Entries Stamp)) (rest : List ℕ) (first : ℕ) → length rest < most → AllByRecursion HasText done → bytes ≡ flat_map tree_text done ++ rest → first ≡ 1 + length (flat_map tree_lines done)
    → (done ≡ []) ⊎ (0 < length rest) → ((trees : List (Entries Stamp)) → ¬ IsSequence bytes trees) → (line : ℕ) × IsFirstFault AtLeastOne bytes line
sequence_fault zero bytes done rest first short each text counted unended none = absurd (omega arith)
sequence_fault (suc most) bytes done rest first short each text counted unended none = elim (text_or_stop rest first) [
  | inr stops ↦ (stops.0, sequence_err bytes done rest first (BadTree stops.0) each text counted unended stops.1)
  | inl (es, (after, (next, begins))) ↦ elim (cases_lt 0 (length after)) [
    | inl some ↦
        sequence_fault most bytes (done ++ es ∷ []) after next (fewer es after next begins)
        (each_more done (done ++ es ∷ []) es each begins.tree refl)
        (texts_more bytes done (done ++ es ∷ []) es rest first after next text begins refl)
        (counted_more done (done ++ es ∷ []) es rest first after next counted begins refl)
        (inr some) none
    | inr empty ↦ absurd (none (done ++ es ∷ []) (sequence_ends bytes done (done ++ es ∷ []) es rest first after next each text begins refl empty))
  ]
]
  where
    fewer : (es : Entries Stamp) (after : List ℕ) (next : ℕ) → BeginsText rest first es after next → length after < most
    fewer es after next begins = omega (arith, text_room rest first es after next begins, text_next rest first es after next begins)

pub fault_of_no_sequence : FaultOfNoSequence
fault_of_no_sequence bytes none = sequence_fault (suc (length bytes)) bytes [] bytes 1 (omega arith) tt refl refl (inl refl) none
