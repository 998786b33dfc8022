-- Reading the lines of one text: what a line more makes of the bytes read so far, and where the reading stops.
use Rattle.std.proofs.Common.{◌≡◌, ℕ, ◌+◌, ◌≤◌, List, [], ◌∷◌, ◌++◌, length, refl, sym, ap, ◌∙◌, subst, arith, append_assoc, length-append}
use Rattle.std.specs.Prelude.{codes, map, Result, Ok, Err, MatchResult}
use mathlib.Core.Logic.{inl, inr}
use Rattle.std.proofs.lemmas.List.{map-append, length-map}
use Rattle.ext_lines.specs.Split.{Lacks, IsSplit}
use Rattle.ext_lines.proofs.ForCallers.{split_once, split_none, lines_text-append, lines_text-push}
use Rattle.ext_tree.specs.declared.entry.Entry.{Entry}
use Rattle.ext_tree.specs.declared.stamp.Stamp.{Stamp}
use Rattle.ext_tree.specs.Tree.{Entries}
use Rattle.ext_tree.specs.TreeText.{HasText, IsVersion, header, needed_version, version_of, printed_lines, tree_line}
use Rattle.ext_lines.specs.Lines.{lines_text}
use Rattle.ext_tree.specs.Reading.{MayStand, Judges, NoneNext, BodyFault, BeginsBody, BeginsText, IsHeader, StopsText, TextFault}
use Rattle.ext_tree.specs.declared.reading.TreeTextErr.{TreeTextErr}
use Rattle.ext_tree.specs.declared.reading.TreeTextErr.TheVariants.{OutOfMemory, BadTree}
use Rattle.ext_tree.specs.declared.reading.Line.{Line}
use Rattle.ext_tree.specs.declared.reading.Line.TheVariants.{End, Item, Fault}

-- after a line there are fewer bytes
pub split_short : (bytes line more : List ℕ) → IsSplit 10 bytes line more → length more + 1 ≤ length bytes
split_short bytes line more split = omega (arith, ap length split.whole, length-append line (10 ∷ more))

-- the lines before, and one more line
pub line_more : (bytes : List ℕ) (lines : List (List ℕ)) (rest line more : List ℕ) → bytes ≡ lines_text lines ++ rest → IsSplit 10 rest line more → bytes ≡ lines_text (lines ++ line ∷ []) ++ more
line_more bytes lines rest line more text split = text ∙ ap (λ xs. lines_text lines ++ xs) split.whole ∙ sym (lines_text-push lines line more)

-- the lines of the entries so far, and one more entry
pub entry_more : (bytes : List ℕ) (es longer : Entries Stamp) (x : List (List ℕ) × Entry Stamp) (rest line more : List ℕ) → bytes ≡ lines_text (map tree_line es) ++ rest → IsSplit 10 rest line more → line ≡ tree_line x → longer ≡ es ++ x ∷ []
    → bytes ≡ lines_text (map tree_line longer) ++ more
entry_more bytes es longer x rest line more text split is grown =
    line_more bytes (map tree_line es) rest line more text split
    ∙ ap (λ l. lines_text (map tree_line es ++ l ∷ []) ++ more) is
    ∙ ap (λ ls. lines_text ls ++ more) (sym (map-append tree_line es (x ∷ [])) ∙ ap (map tree_line) (sym grown))

-- where the first line may not stand, none may
pub none_split : (May : List ℕ → Type 0) (bytes line more : List ℕ) → IsSplit 10 bytes line more → ¬ May line → NoneNext May bytes
none_split May bytes line more split not_may = λ l m other may.
    not_may (subst May (split_once 10 l line m more other.prefix_lacks split.prefix_lacks (sym other.whole ∙ split.whole)).0 may)

-- nor where there is no line
pub none_lacks : (May : List ℕ → Type 0) (bytes : List ℕ) → Lacks 10 bytes → NoneNext May bytes
none_lacks May bytes lacks = λ l m split _. split_none 10 bytes l m lacks split.whole

pub judged_item : (v : ℕ) (slice es longer : Entries Stamp) (line : List ℕ) (j : Line) (p : List (List ℕ)) (e : Entry Stamp) → slice ≡ es → Judges v slice line j → j ≡ Item p e → longer ≡ es ++ (p, e) ∷ []
    → HasText longer × ((needed_version e ≤ v) × (line ≡ tree_line (p, e)))
judged_item v slice es longer line j p e same judged is grown =
    let found : Judges v es line (Item p e) = subst (λ i. Judges v es line i) is (subst (λ xs. Judges v xs line j) same judged) in
    (subst HasText (sym grown) found.0.longer, (found.0.needed, found.1))

pub judged_end : (v : ℕ) (slice es : Entries Stamp) (line : List ℕ) (j : Line) → slice ≡ es → Judges v slice line j → j ≡ End → (line ≡ codes "end") × (version_of es ≡ v)
judged_end v slice es line j same judged is = subst (λ i. Judges v es line i) is (subst (λ xs. Judges v xs line j) same judged)

pub judged_fault : (v : ℕ) (slice es : Entries Stamp) (line : List ℕ) (j : Line) → slice ≡ es → Judges v slice line j → j ≡ Fault → ¬ MayStand v es line
judged_fault v slice es line j same judged is = subst (λ i. Judges v es line i) is (subst (λ xs. Judges v xs line j) same judged)

pub length-text_lines : (v : ℕ) (es : Entries Stamp) → length (printed_lines v es) ≡ length es + 2
length-text_lines v es = omega (arith, length-append (map tree_line es) (codes "end" ∷ []), length-map es tree_line)

pub text_begins : (v : ℕ) (bytes body : List ℕ) (first : ℕ) (es : Entries Stamp) (rest : List ℕ) (next : ℕ) → IsSplit 10 bytes (header v) body → BeginsBody v body (first + 1) es rest next → BeginsText bytes first es rest next
text_begins v bytes body first es rest next split begins = record {
  tree = begins.tree;
  text = line_more bytes [] bytes (header v) body refl split ∙ ap (λ xs. lines_text (header v ∷ []) ++ xs) begins.text
      ∙ sym (append_assoc (lines_text (header v ∷ [])) (lines_text (map tree_line es ++ codes "end" ∷ [])) rest)
      ∙ ap (λ t. t ++ rest) (sym (lines_text-append (header v ∷ []) (map tree_line es ++ codes "end" ∷ [])))
      ∙ ap (λ v. lines_text (printed_lines v es) ++ rest) (sym begins.exact);
  counted = omega (arith, begins.counted, length-text_lines (version_of es) es);
}

text_fault : (v : ℕ) (bytes body : List ℕ) (first : ℕ) (e : TreeTextErr) → IsVersion v → IsSplit 10 bytes (header v) body → BodyFault v body (first + 1) e → TextFault bytes first e
text_fault v bytes body first OutOfMemory known split fault = fault
text_fault v bytes body first (BadTree line) known split fault = inr (v, body, known, split, fault)

pub text_read : {T : Type 0} (entries : T → Entries Stamp) (rest : T → List ℕ) (next : T → ℕ) (r : Result T TreeTextErr) (v : ℕ) (bytes body line : List ℕ) (first : ℕ) → IsVersion v → IsSplit 10 bytes line body → line ≡ header v
    → MatchResult r (λ t. BeginsBody v body (first + 1) (entries t) (rest t) (next t)) (BodyFault v body (first + 1)) → MatchResult r (λ t. BeginsText bytes first (entries t) (rest t) (next t)) (TextFault bytes first)
text_read entries rest next (Ok t) v bytes body line first known split is begins = text_begins v bytes body first (entries t) (rest t) (next t) (subst (λ h. IsSplit 10 bytes h body) is split) begins
text_read entries rest next (Err e) v bytes body line first known split is fault = text_fault v bytes body first e known (subst (λ h. IsSplit 10 bytes h body) is split) fault

-- no header
pub no_header : (bytes line more : List ℕ) (first : ℕ) → IsSplit 10 bytes line more → (IsHeader line → ⊥) → StopsText bytes first first
no_header bytes line more first split other = inl (refl, none_split IsHeader bytes line more split other)

pub no_line : (bytes : List ℕ) (first : ℕ) → Lacks 10 bytes → StopsText bytes first first
no_line bytes first lacks = inl (refl, none_lacks IsHeader bytes lacks)
