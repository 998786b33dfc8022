-- What the lines that were read tell of a text: its manifest, or its first faulty line.
use Rattle.std.proofs.Common.{◌≡◌, ℕ, zero, suc, ◌+◌, ◌<◌, ◌≤◌, List, [], ◌∷◌, ◌++◌, length, map, get_or, Option, Some, None, refl, sym, ap, subst, ◌∙◌, arith, append_assoc, append-nil, length-append}
use Rattle.std.specs.List.{AllByRecursion}
use Rattle.std.proofs.lemmas.List.{length-map, map-append, map_push}
use Rattle.std.proofs.lemmas.List.Elements.{All-weaker, recursion_from_All}
use Rattle.std.proofs.lemmas.List.Sorted.{All-permutation, Contains-permutation, IsPermutation-sym}
use Rattle.ext_lines.specs.ByteOrder.{bytes_cmp, bytes_total}
use Rattle.ext_lines.specs.Lines.{text_lines}
use Rattle.ext_sums.specs.declared.merging.Numbered.{Numbered}
use Rattle.ext_sums.specs.Entry.{Entry, entry_of}
use Rattle.ext_sums.specs.Sums.{Entries, said}
use Rattle.ext_sums.specs.Manifest.{AreEntries, IsFaulty, IsFirstFault, IsManifest, OneDigest}
use Rattle.ext_sums.specs.Merging.{Agrees, AreNumbered, AreSortedFrom, IsConflict, IsMerge, entries_in, numbered_entry}
use Rattle.ext_sums.specs.Reading.{AreRead, IsSoFar, StopsAt}
use Rattle.ext_sums.proofs.FoundLemmas.{differs_before, one_before}

numbered_push : (number : ℕ) (ns : List Numbered) (n : Numbered) → AreNumbered number ns → n.line ≡ number + length ns → AreNumbered number (ns ++ n ∷ [])
numbered_push number [] n h is = (omega arith, tt)
numbered_push number (m ∷ ns) n h is = (h.0, numbered_push (suc number) ns n h.1 (omega arith))

-- as many lines as entries
count_of : (lines : List (List ℕ)) (ns : List Numbered) → AreEntries lines (entries_in ns) → length lines ≡ length ns
count_of lines ns sound =
    sym (length-map lines entry_of) ∙ ap length sound ∙ length-map (entries_in ns) Some ∙ length-map ns numbered_entry

pub entries_push : (lines : List (List ℕ)) (line : List ℕ) (entries : Entries) (e : Entry) → AreEntries lines entries → entry_of line ≡ Some e → AreEntries (lines ++ line ∷ []) (entries ++ e ∷ [])
entries_push lines line entries e sound is =
    map_push entry_of lines line ∙ ap (λ os. os ++ entry_of line ∷ []) sound ∙ ap (λ o. map Some entries ++ o ∷ []) is ∙ sym (map_push Some entries e)

-- one more line that is an entry
pub one_more : (text rest line after : List ℕ) (number : ℕ) (ns : List Numbered) (n : Numbered) → IsSoFar text rest number ns → (text_lines rest ≡ line ∷ text_lines after) × (length after < length rest) → entry_of line ≡ Some (numbered_entry n) → n.line ≡ number + 1 → IsSoFar text after (number + 1) (ns ++ n ∷ [])
one_more text rest line after number ns n so next entry is =
    let count = so.count in
    let size = so.size in
    let same = count_of so.done ns so.sound in record {
      done = so.done ++ line ∷ [];
      whole = so.whole ∙ ap (λ (ls : List (List ℕ)). so.done ++ ls) next.0 ∙ sym (append_assoc so.done (line ∷ []) (text_lines after));
      sound = entries_push so.done line (entries_in ns) (numbered_entry n) so.sound entry ∙ ap (map Some) (sym (map_push numbered_entry ns n));
      numbers = numbered_push 1 ns n so.numbers (omega arith);
      count = length-append so.done (line ∷ []) ∙ ap (λ (k : ℕ). k + 1) count;
      size = omega (arith, next.1);
    }

module _ (ns sorted : List Numbered) (sort : AreSortedFrom ns sorted) where
  agrees_back : (n : Numbered) → Agrees (entries_in sorted) n → Agrees (entries_in ns) n
  agrees_back n is = sym (sort.first n.listed.name) ∙ is

  -- the least conflict of the sorted lines is that of the lines
  conflict_back : (conflict : Option ℕ) → IsConflict sorted conflict → IsConflict ns conflict
  conflict_back None is =
      All-permutation (Agrees (entries_in ns)) sorted ns (IsPermutation-sym ns sorted sort.same) (All-weaker (Agrees (entries_in sorted)) (Agrees (entries_in ns)) agrees_back sorted is)
  conflict_back (Some line) is =
      let any = is.0 in
      let at = Contains-permutation sorted ns any.1 (IsPermutation-sym ns sorted sort.same) (any.0, any.2, any.3) in
      let differs = any.4.1 in (
        (at.0, any.1, at.1, at.2, (any.4.0, (differs.0, sym (sort.first any.1.listed.name) ∙ differs.1, differs.2))),
        All-permutation (λ n. n.line < line → Agrees (entries_in ns) n) sorted ns (IsPermutation-sym ns sorted sort.same)
            (All-weaker (λ n. n.line < line → Agrees (entries_in sorted) n) (λ n. n.line < line → Agrees (entries_in ns) n) (λ n h lt. agrees_back n (h lt)) sorted is.1),
      )

-- a list around one of its elements
around : {X : Type 0} (xs : List X) (k : ℕ) (x : X) → k < length xs → get_or xs k x ≡ x → (before : List X) × (after : List X) × (xs ≡ before ++ x ∷ after)
around [] k x lt at = absurd (omega arith)
around (y ∷ ys) zero x lt at = ([], ys, ap (λ z. z ∷ ys) at)
around (y ∷ ys) (suc k) x lt at = let rest = around ys k x (omega arith) at in (y ∷ rest.0, rest.1, ap (λ l. y ∷ l) rest.2)

-- the number of a line is how many stand before it, and one
number_at : (number : ℕ) (before : List Numbered) (n : Numbered) (after : List Numbered) → AreNumbered number (before ++ n ∷ after) → n.line ≡ number + length before
number_at number [] n after h = omega (arith, h.0)
number_at number (m ∷ before) n after h = let rest = number_at (suc number) before n after h.1 in omega arith

-- what holds of the lines below a number holds of the first ones
first_ones : (P : Numbered → Type 0) (line number : ℕ) (before after : List Numbered) → AreNumbered number (before ++ after) → AllByRecursion (λ n. n.line < line → P n) (before ++ after) → number + length before ≤ line → AllByRecursion P before
first_ones P line number [] after h all le = tt
first_ones P line number (n ∷ before) after h all le = (all.0 (omega (arith, h.0)), first_ones P line (suc number) before after h.1 all.1 (omega arith))

all_entries : (P : Entry → Type 0) (ns : List Numbered) → AllByRecursion (λ n. P (numbered_entry n)) ns → AllByRecursion P (entries_in ns)
all_entries P [] all = tt
all_entries P (n ∷ ns) all = (all.0, all_entries P ns all.1)

-- the line of an entry, with the lines before it
line_at : (lines : List (List ℕ)) (es fs : Entries) (e : Entry) → AreEntries lines (es ++ e ∷ fs) → (before : List (List ℕ)) × (line : List ℕ) × (after : List (List ℕ)) × (lines ≡ before ++ line ∷ after) × AreEntries before es × (entry_of line ≡ Some e)
line_at [] [] fs e is = cc
line_at [] (x ∷ es) fs e is = cc
line_at (l ∷ lines) [] fs e is = ([], l, lines, refl, refl, cc)
line_at (l ∷ lines) (x ∷ es) fs e is =
    let tail : AreEntries lines (es ++ e ∷ fs) = cc in
    let head : entry_of l ≡ Some x = cc in
    let rest = line_at lines es fs e tail in
    (l ∷ rest.0, rest.1, rest.2, ap (λ ls. l ∷ ls) rest.3, ap (λ os. entry_of l ∷ os) rest.4 ∙ ap (λ o. o ∷ map Some es) head, rest.5)

-- entries that all agree have one digest a name
agreeing : (ns : List Numbered) → IsConflict ns None → OneDigest (entries_in ns)
agreeing ns is = all_entries (λ e. said (entries_in ns) e.0 ≡ Some e.1) ns (recursion_from_All (Agrees (entries_in ns)) ns is)

-- the first line that conflicts is the first faulty one
first_conflict : (text : List ℕ) (ns : List Numbered) (stop : Option ℕ) (line : ℕ) → AreRead text ns stop → IsConflict ns (Some line) → IsFirstFault text line
first_conflict text ns stop line read is =
    let any = is.0 in
    let n = any.1 in
    let parted = around ns any.0 n any.2 any.3 in
    let before = parted.0 in
    let es = entries_in before in
    let fs = entries_in parted.1 in
    let split : entries_in ns ≡ es ++ numbered_entry n ∷ fs = ap entries_in parted.2 ∙ map-append numbered_entry before (n ∷ parted.1) in
    let at = line_at read.before es fs (numbered_entry n) (read.sound ∙ ap (map Some) split) in
    let numbers : AreNumbered 1 (before ++ n ∷ parted.1) = subst (AreNumbered 1) parted.2 read.numbers in
    let number = number_at 1 before n parted.1 numbers in
    let here = any.4.0 in
    let count = count_of at.0 before at.4 in
    let all : AllByRecursion (λ m. m.line < line → Agrees (entries_in ns) m) (before ++ n ∷ parted.1) =
    subst (AllByRecursion (λ m. m.line < line → Agrees (entries_in ns) m)) parted.2 (recursion_from_All (λ m. m.line < line → Agrees (entries_in ns) m) ns is.1)
    in
    let agree = all_entries (λ e. said (entries_in ns) e.0 ≡ Some e.1) before (first_ones (Agrees (entries_in ns)) line 1 before (n ∷ parted.1) numbers all (omega arith)) in
    let differs = any.4.1 in record {
      before = at.0;
      line = at.1;
      after = at.2 ++ read.rest;
      entries = es;
      parted = read.parted ∙ ap (λ (ls : List (List ℕ)). ls ++ read.rest) at.3 ∙ append_assoc at.0 (at.1 ∷ at.2) read.rest;
      sound = at.4;
      one_digest = one_before bytes_cmp bytes_total es (numbered_entry n ∷ fs) (subst (λ all. AllByRecursion (λ e. said all e.0 ≡ Some e.1) es) split agree);
      faulty = subst (IsFaulty es) (sym at.5)
          (differs.0, differs_before bytes_cmp bytes_total n.listed.name n.listed.digest.0 differs.0 es fs (sym (ap (λ all. said all n.listed.name) split) ∙ differs.1) differs.2, differs.2);
      count = omega arith;
    }

module _ (text : List ℕ) (ns sorted : List Numbered) (stop conflict : Option ℕ) where
  pub conflict_fault : (line : ℕ) → AreRead text ns stop → AreSortedFrom ns sorted → IsConflict sorted conflict → conflict ≡ Some line → IsFirstFault text line
  conflict_fault line read sort least is = first_conflict text ns stop line read (conflict_back ns sorted sort (Some line) (subst (IsConflict sorted) is least))

  none_conflicts : AreSortedFrom ns sorted → IsConflict sorted conflict → conflict ≡ None → OneDigest (entries_in ns)
  none_conflicts sort least is = agreeing ns (conflict_back ns sorted sort None (subst (IsConflict sorted) is least))

  -- where no line conflicts, the line that is no entry is the first faulty one
  pub stop_fault : (line : ℕ) → AreRead text ns stop → AreSortedFrom ns sorted → IsConflict sorted conflict → conflict ≡ None → stop ≡ Some line → IsFirstFault text line
  stop_fault line read sort least is stops =
      let at : StopsAt (Some line) (length read.before + 1) read.rest = subst (λ o. StopsAt o (length read.before + 1) read.rest) stops read.stops in record {
        before = read.before;
        line = at.0;
        after = at.1;
        entries = entries_in ns;
        parted = read.parted ∙ ap (λ (ls : List (List ℕ)). read.before ++ ls) at.2;
        sound = read.sound;
        one_digest = none_conflicts sort least is;
        faulty = subst (IsFaulty (entries_in ns)) (sym at.3) tt;
        count = at.4;
      }

  -- and where there is none, the names are what the text lists
  pub manifest : (sums : Entries) → AreRead text ns stop → AreSortedFrom ns sorted → IsMerge sorted sums conflict → conflict ≡ None → stop ≡ None → IsManifest text sums
  manifest sums read sort merge is stops =
      let at : read.rest ≡ [] = subst (λ o. StopsAt o (length read.before + 1) read.rest) stops read.stops in
      let whole : text_lines text ≡ read.before = read.parted ∙ ap (λ (ls : List (List ℕ)). read.before ++ ls) at ∙ append-nil read.before in record {
        entries = entries_in ns;
        lines = ap (map entry_of) whole ∙ read.sound;
        one_digest = none_conflicts sort merge.least is;
        sorted = merge.sorted;
        names = λ name. merge.names name ∙ sort.first name;
      }
