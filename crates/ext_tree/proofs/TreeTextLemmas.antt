-- Trees that have a text: their entries have lines, their prefixes have texts, and which entry may be added.
use Rattle.std.proofs.Common.{◌≡◌, ◌≢◌, ℕ, ◌<◌, ◌≤◌, max, Bool, true, false, List, [], ◌∷◌, ◌++◌, length, Option, Some, None, sym, ap, ◌∙◌, subst, arith, append_assoc, length-append}
use Rattle.std.specs.Prelude.{codes, IsTrue, ◌↔◌}
use mathlib.Core.Logic.{inl, inr}
use Rattle.std.proofs.lemmas.Bool.{cases_Bool, false≢true}
use Rattle.std.proofs.Math.Nat.{le-max_left, le-max_right, max-eq_left, max-eq_right, max-le}
use Rattle.std.specs.List.{AllByRecursion}
use Rattle.std.proofs.lemmas.List.{append-nil}
use Rattle.ext_text.specs.Order.{paths_total}
use Rattle.ext_text.specs.Path.{IsPath, path_cmp}
use Rattle.ext_text.proofs.ForCallers.{all_append, all_prefix, all_back, all_both, all_weaker}
use Rattle.ext_attributes.specs.Attributes.{is_plain, is_plain_file, is_root_owner}
use Rattle.ext_tree.specs.declared.entry.Entry.{Entry}
use Rattle.ext_tree.specs.declared.entry.Entry.TheVariants.{Dir, Opaque, File, Link, Hide}
use Rattle.ext_tree.specs.declared.stamp.Stamp.{Stamp}
use Rattle.ext_tree.specs.Tree.{Entries, IsTree}
use Rattle.ext_tree.specs.EntryLine.{IsWritable, ReadsLine}
use Rattle.ext_tree.specs.TreeText.{HasTreeLine, HasText, IsLoose, IsVersion, needed_version, version_of, stamp_form}
use Rattle.ext_tree.specs.Reading.{MayStand}
use Rattle.ext_tree.proofs.TreeLineLemmas.{line_injective, line_not_end}
use Rattle.ext_tree.proofs.OrderLemmas.{each_found}
use Rattle.ext_tree.proofs.PrefixLemmas.{root_none}
use Rattle.ext_tree.proofs.FollowingLemmas.{pop_tree, empty_tree}

-- an entry needs a version of the format
pub needed_known : {C : Type 0} (e : Entry C) → (1 ≤ needed_version e) × (needed_version e ≤ 3)
needed_known (Dir a) = elim (cases_Bool (is_plain a)) [
  | inl is ↦ rw is (omega arith, omega arith)
  | inr other ↦ rw other (omega arith, omega arith)
]
needed_known (Opaque a) = elim (cases_Bool (is_plain a)) [
  | inl is ↦ rw is (omega arith, omega arith)
  | inr other ↦ rw other (omega arith, omega arith)
]
needed_known (File a c) = elim (cases_Bool (is_plain_file a)) [
  | inl is ↦ rw is (omega arith, omega arith)
  | inr other ↦ rw other (omega arith, omega arith)
]
needed_known (Link o t) = elim (cases_Bool (is_root_owner o)) [
  | inl is ↦ rw is (omega arith, omega arith)
  | inr other ↦ rw other (omega arith, omega arith)
]
needed_known Hide = (omega arith, omega arith)

pub version_low : {C : Type 0} (es : Entries C) → 1 ≤ version_of es
version_low [] = omega arith
version_low (x ∷ es) = omega (arith, version_low es, le-max_right (needed_version x.1) (version_of es))

pub version_high : {C : Type 0} (es : Entries C) → version_of es ≤ 3
version_high [] = omega arith
version_high (x ∷ es) = max-le (needed_known x.1).1 (version_high es)

pub version_known : {C : Type 0} (es : Entries C) → IsVersion (version_of es)
version_known es = record { low = version_low es; high = version_high es }

pub loose_version : (t : ℕ × Entries Stamp) → IsLoose t → IsVersion t.0
loose_version t is = record { low = omega (arith, version_low t.1, is.version); high = is.known }

max_one : (n : ℕ) → 1 ≤ n → max n 1 ≡ max 1 n
max_one n some = max-eq_left some ∙ sym (max-eq_right some)

max_assoc : (a b c : ℕ) → max a (max b c) ≡ max (max a b) c
max_assoc a b c =
    let ab = le-max_left (max a b) c in
    let left : max a (max b c) ≤ max (max a b) c = max-le (omega (arith, ab, le-max_left a b)) (max-le (omega (arith, ab, le-max_right a b)) (le-max_right (max a b) c)) in
    let bc = le-max_right a (max b c) in
    let right : max (max a b) c ≤ max a (max b c) = max-le (max-le (le-max_left a (max b c)) (omega (arith, bc, le-max_left b c))) (omega (arith, bc, le-max_right b c)) in
    omega (arith, left, right)

-- one entry more
pub version_push : {C : Type 0} (es : Entries C) (x : List (List ℕ) × Entry C) → version_of (es ++ x ∷ []) ≡ max (version_of es) (needed_version x.1)
version_push [] x = max_one (needed_version x.1) (needed_known x.1).0
version_push (y ∷ es) x = ap (max (needed_version y.1)) (version_push es x) ∙ (max_assoc (needed_version y.1) (version_of es) (needed_version x.1))

-- the tree without entries has a text
pub empty_text : HasText []
empty_text = record { within = record { tree = empty_tree; count = omega arith }; each = tt }

-- each entry has a line
pub lines_of : (es : Entries Stamp) → HasText es → AllByRecursion HasTreeLine es
lines_of es text =
    let paths : AllByRecursion (λ x. IsPath x.0 × (0 < length x.0)) es =
    each_found path_cmp paths_total (λ p. IsPath p × (0 < length p)) es (λ p found. (text.within.tree.paths p found, root_none es text.within.tree p found)) in
    all_weaker (λ x. (IsPath x.0 × (0 < length x.0)) × IsWritable stamp_form x.1) HasTreeLine
    (λ x (path, writable). record { path = path.0; non_empty = path.1; writable = writable }) es
    (all_both (λ x. IsPath x.0 × (0 < length x.0)) (λ x. IsWritable stamp_form x.1) es paths text.each)

-- its last entry has a line
pub last_line : (es : Entries Stamp) (x : List (List ℕ) × Entry Stamp) → HasText (es ++ x ∷ []) → HasTreeLine x
last_line es x text = (all_back HasTreeLine es (x ∷ []) (lines_of (es ++ x ∷ []) text)).0

-- without its last entry a tree with a text has a text
pop_text : (es : Entries Stamp) (x : List (List ℕ) × Entry Stamp) → HasText (es ++ x ∷ []) → HasText es
pop_text es x text = record {
  within = record {
    tree = pop_tree es x.0 x.1 text.within.tree;
    count = omega (arith, length-append es (x ∷ []), text.within.count);
  };
  each = all_prefix (λ y. IsWritable stamp_form y.1) es (x ∷ []) text.each;
}

regrouped : (es : Entries Stamp) (x : List (List ℕ) × Entry Stamp) (more : Entries Stamp) → es ++ (x ∷ more) ≡ (es ++ x ∷ []) ++ more
regrouped es x more = sym (append_assoc es (x ∷ []) more)

-- and so has each prefix
pub prefix_text : (es more : Entries Stamp) → HasText (es ++ more) → HasText es
prefix_text es [] text = subst HasText (append-nil es) text
prefix_text es (x ∷ more) text = pop_text es x (prefix_text (es ++ x ∷ []) more (subst HasText (regrouped es x more) text))

-- the prefix up to the next entry
pub prefix_next : (es : Entries Stamp) (x : List (List ℕ) × Entry Stamp) (more : Entries Stamp) → HasText (es ++ (x ∷ more)) → HasText (es ++ x ∷ [])
prefix_next es x more text = prefix_text (es ++ x ∷ []) more (subst HasText (regrouped es x more) text)

push_text : (es : Entries Stamp) (x : List (List ℕ) × Entry Stamp) → HasText es → HasTreeLine x → length es < 262144 → IsTree (es ++ x ∷ []) → HasText (es ++ x ∷ [])
push_text es x text line room tree = record {
  within = record { tree = tree; count = omega (arith, length-append es (x ∷ [])) };
  each = all_append (λ y. IsWritable stamp_form y.1) es (x ∷ []) text.each (line.writable, tt);
}

-- where there is room, an entry may be added exactly where the longer list is a tree
pub adds : (es : Entries Stamp) (p : List (List ℕ)) (follows : Bool) → HasText es → length es < 262144 → ((e : Entry Stamp) → (IsTrue follows ↔ IsTree (es ++ (p, e) ∷ [])))
    → (e : Entry Stamp) → HasTreeLine (p, e) → (IsTrue follows ↔ HasText (es ++ (p, e) ∷ []))
adds es p follows text room tree e line = (
  (λ passed. push_text es (p, e) text line room ((tree e).0 passed)),
  (λ longer. (tree e).1 longer.within.tree),
)

-- the last line where the entries and the version do not fit
pub not_ended : (v needed : ℕ) (es : Entries Stamp) (line : List ℕ) → line ≡ codes "end" → needed ≡ version_of es → (v ≡ needed → ⊥) → MayStand v es line → ⊥
not_ended v needed es line end is other (inl last) = other (sym last.1 ∙ sym is)
not_ended v needed es line end is other (inr (x, add, same)) = line_not_end x (sym same ∙ end)

-- a line that is neither the last one nor an entry's
pub no_entry : (v : ℕ) (es : Entries Stamp) (line : List ℕ) (found : Option (List (List ℕ) × Entry Stamp)) → (line ≢ codes "end") → ReadsLine stamp_form line found → found ≡ None → MayStand v es line → ⊥
no_entry v es line (Some y) not_end read none is = absurd (cc)
no_entry v es line None not_end none is (inl end) = not_end end.0
no_entry v es line None not_end none is (inr (x, add, same)) = none x (last_line es x add.longer) same

-- the line of an entry that may not be added
pub not_added : (v : ℕ) (es : Entries Stamp) (line : List ℕ) (found : Option (List (List ℕ) × Entry Stamp)) (p : List (List ℕ)) (e : Entry Stamp) (test : Bool) → ReadsLine stamp_form line found → found ≡ Some (p, e)
    → ((x : Entry Stamp) → HasTreeLine (p, x) → (IsTrue test ↔ HasText (es ++ (p, x) ∷ []))) → test ≡ false → MayStand v es line → ⊥
not_added v es line found p e test read is adds failed may =
    let line_read : ReadsLine stamp_form line (Some (p, e)) = subst (ReadsLine stamp_form line) is read in
    not_longer line_read may
  where
    not_longer : ReadsLine stamp_form line (Some (p, e)) → MayStand v es line → ⊥
    not_longer read (inl end) = line_not_end (p, e) (sym read.1 ∙ end.0)
    not_longer read (inr (y, add, same)) =
        let longer : HasText (es ++ (p, e) ∷ []) = subst (λ z. HasText (es ++ z ∷ [])) (line_injective y (p, e) (last_line es y add.longer) read.0 (sym same ∙ read.1)) add.longer in
        false≢true (sym failed ∙ (adds e read.0).1 longer)

-- the line of an entry that the version has no line for
pub not_of_version : (v : ℕ) (es : Entries Stamp) (line : List ℕ) (found : Option (List (List ℕ) × Entry Stamp)) (p : List (List ℕ)) (e : Entry Stamp) (test : Bool) → ReadsLine stamp_form line found → found ≡ Some (p, e)
    → (IsTrue test ↔ (needed_version e ≤ v)) → test ≡ false → MayStand v es line → ⊥
not_of_version v es line found p e test read is fits failed may =
    let line_read : ReadsLine stamp_form line (Some (p, e)) = subst (ReadsLine stamp_form line) is read in
    not_fitting line_read may
  where
    not_fitting : ReadsLine stamp_form line (Some (p, e)) → MayStand v es line → ⊥
    not_fitting read (inl end) = line_not_end (p, e) (sym read.1 ∙ end.0)
    not_fitting read (inr (y, add, same)) =
        let entry : y ≡ (p, e) = line_injective y (p, e) (last_line es y add.longer) read.0 (sym same ∙ read.1) in
        false≢true (sym failed ∙ fits.1 (subst (λ z. needed_version z.1 ≤ v) entry add.needed))

-- the version that entries and one more need
pub needs_more : (es longer : Entries Stamp) (x : List (List ℕ) × Entry Stamp) (needed more : ℕ) → needed ≡ version_of es → more ≡ max needed (needed_version x.1) → longer ≡ es ++ x ∷ [] → more ≡ version_of longer
needs_more es longer x needed more is grown_by grown =
    grown_by ∙ ap (λ (n : ℕ). max n (needed_version x.1)) is ∙ sym (version_push es x) ∙ ap version_of (sym grown)

pub version_more : (v : ℕ) (es longer : Entries Stamp) (x : List (List ℕ) × Entry Stamp) → version_of es ≤ v → needed_version x.1 ≤ v → longer ≡ es ++ x ∷ [] → version_of longer ≤ v
version_more v es longer x first one grown =
    subst (λ (n : ℕ). n ≤ v) (sym (ap version_of grown ∙ version_push es x)) (max-le first one)
