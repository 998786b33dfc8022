-- The lines of what is seen and of what lies under it, read and printed.
use Rattle.std.proofs.Common.{◌≡◌, ℕ, zero, suc, ◌+◌, ◌≤◌, List, [], ◌∷◌, ◌++◌, length, IsTrue, refl, sym, ap, ◌∙◌, subst, arith, codes, append_assoc, append-nil, add_assoc, add-zero, length-append}
use Rattle.std.specs.Prelude.{map}
use Rattle.std.proofs.lemmas.List.{length-map}
use Rattle.std.proofs.lemmas.List.Sums.{sum_by-cons}
use Rattle.std.specs.List.{AllByRecursion}
use Rattle.ext_tree.specs.Tree.{Entries, IsTree, most_entries}
use Rattle.ext_tree.specs.declared.entry.Entry.{Entry}
use Rattle.ext_tree.specs.declared.entry.Entry.TheVariants.{Dir, Opaque, File, Link, Hide}
use Rattle.ext_tree.proofs.ForCallers.{pop_tree}
use Rattle.ext_host.specs.Held.{HeldFile}
use Rattle.ext_host.specs.Host.{is_in}
use Rattle.ext_host.specs.Valid.{all_bytes, bytes_of, most_bytes}
use Rattle.ext_index_lines.specs.Homed.{HasHomedLine, homed_line}
use Rattle.ext_index_lines.specs.Homes.{kept_entry, line_of_entry, listed_entry}
use Rattle.ext_index_lines.specs.Lines.{may_tell, number_line}
use Rattle.ext_index_lines.specs.declared.homed.Homed.{Homed}
use Rattle.ext_index_reader.specs.Index.{listed_tree_lines}
use Rattle.ext_index_reader.specs.Homes.{Agrees, Stamps, noted}
use Rattle.ext_index_reader.specs.State.{after_parts, at_part, merged_so_far, row_of, then_lower, then_root, with_lower, with_root}
use Rattle.ext_index_reader.specs.Step.{IsUpTo, MayEnter, most_count}
use Rattle.ext_index_reader.specs.declared.state.PartStage.TheVariants as parts
use Rattle.ext_index_reader.specs.declared.state.SoFar.{SoFar}
use Rattle.ext_index_reader.proofs.MergedLemmas.{flat_single}
use Rattle.ext_index_reader.proofs.SectionLemmas.{AllMay, Opened, ToEnd, after, again, first_line_of, peel}

-- entries as their lines have them
abbrev pub Row : Type 0
Row = List (List ℕ) × Entry Homed

abbrev pub rows_of : List Row → Entries HeldFile
rows_of xs = map row_of xs

-- the homes of entries are noted
abbrev pub noted_all : Stamps → List Row → Stamps
noted_all stamps [] = stamps
noted_all stamps (x ∷ xs) = noted_all (noted stamps x.1) xs

-- each file is kept up to this generation, and has the stamp of its home, if one before it has it
abbrev pub AllAgree : ℕ → Stamps → List Row → Type 0
AllAgree g stamps [] = Unit {0}
AllAgree g stamps (x ∷ xs) = (IsUpTo g x.1 × Agrees stamps x.1) × AllAgree g (noted stamps x.1) xs

-- a tree without its last entries
pub tree_prefix : (es more : Entries HeldFile) → IsTree (es ++ more) → IsTree es
tree_prefix es [] tree = subst (λ (fs : Entries HeldFile). IsTree fs) (append-nil es) tree
tree_prefix es (x ∷ more) tree = pop_tree es x.0 x.1 (tree_prefix (es ++ x ∷ []) more (subst (λ (fs : Entries HeldFile). IsTree fs) (sym (append_assoc es (x ∷ []) more)) tree))

-- an entry that was read is listed as it was
listed_kept : (g : ℕ) (e : Entry Homed) → listed_entry g (kept_entry e) ≡ e
listed_kept g (Dir attributes) = refl
listed_kept g (Opaque attributes) = refl
listed_kept g (File attributes file) = refl
listed_kept g (Link owner target) = refl
listed_kept g Hide = refl

pub lines_of_rows : (g : ℕ) (xs : List Row) → map homed_line xs ≡ map (line_of_entry g) (rows_of xs)
lines_of_rows g [] = refl
lines_of_rows g (x ∷ xs) = λ i. homed_line (x.0, sym (listed_kept g x.1) i) ∷ lines_of_rows g xs i

bytes_cons : (x : Row) (xs : List Row) → all_bytes (rows_of (x ∷ xs)) ≡ bytes_of (kept_entry x.1) + all_bytes (rows_of xs)
bytes_cons x xs = sum_by-cons (λ (e : List (List ℕ) × Entry HeldFile). bytes_of e.1) (row_of x) (rows_of xs)

abbrev pub row_lines : Row → List (List ℕ)
row_lines x = homed_line x ∷ []

module _ (g : ℕ) (e : SoFar) where
  abbrev pub MayRoot : SoFar → Row → Type 0
  MayRoot s x = HasHomedLine x × MayEnter g s x.1 × IsTree (s.parts.root ++ row_of x ∷ [])

  root_opens : (s : SoFar) (n : ℕ) (lines : List (List ℕ)) → ToEnd g e (then_root s (suc n)) lines → Opened g e with_root MayRoot row_lines then_root s n lines
  root_opens s n lines run =
      let first = first_line_of g e (at_part s (parts.RootEntry n)) lines (λ z. cc) run in
      record {
        item = first.step.0;
        may = (first.step.1, first.step.2, first.step.3);
        rest = first.rest;
        text = first.text ∙ ap (λ l. l ∷ first.rest) first.step.4;
        run = subst (λ r. ToEnd g e r first.rest) first.step.5 first.run;
      }

  root_closes : (s : SoFar) (n : ℕ) (x : Row) (rest : List (List ℕ)) → MayRoot s x → ToEnd g e (then_root (with_root s x) n) rest → ToEnd g e (then_root s (suc n)) (row_lines x ++ rest)
  root_closes s n x rest may run = (then_root (with_root s x) n, (x, may.0, may.1, may.2, refl, refl), run)

  -- what is read after them
  abbrev pub with_roots : SoFar → List Row → SoFar
  with_roots s xs = record s { homes = noted_all s.homes xs; parts = record s.parts { root = s.parts.root ++ rows_of xs; bytes = s.parts.bytes + all_bytes (rows_of xs) } }

  after_root : (s : SoFar) (xs : List Row) → after with_root s xs ≡ with_roots s xs
  after_root s [] = λ i. record s { parts = record s.parts { root = sym (append-nil s.parts.root) i; bytes = sym (add-zero s.parts.bytes) i } }
  after_root s (x ∷ xs) =
      after_root (with_root s x) xs
      ∙ (λ i. record s {
        homes = noted_all (noted s.homes x.1) xs;
        parts = record s.parts { root = append_assoc s.parts.root (row_of x ∷ []) (rows_of xs) i; bytes = (add_assoc s.parts.bytes (bytes_of (kept_entry x.1)) (all_bytes (rows_of xs)) ∙ ap (λ n. s.parts.bytes + n) (sym (bytes_cons x xs))) i };
      })

  -- what holds of them
  pub record RootFacts (s : SoFar) (xs : List Row) : Type 0 where
    pub tree : IsTree (s.parts.root ++ rows_of xs)
    pub entries : length (s.parts.root ++ rows_of xs) + length s.parts.lower ≤ most_entries
    pub bytes : s.parts.bytes + all_bytes (rows_of xs) ≤ most_bytes
    pub lines : AllByRecursion HasHomedLine xs
    pub agree : AllAgree g s.homes xs
    pub told : AllByRecursion (λ (x : Row). IsTrue (may_tell s.text x.1)) xs

  root_facts : (s : SoFar) (xs : List Row) → IsTree s.parts.root → length s.parts.root + length s.parts.lower ≤ most_entries → s.parts.bytes ≤ most_bytes → AllMay with_root MayRoot s xs → RootFacts s xs
  root_facts s [] tree entries bytes may = record {
    tree = subst (λ (es : Entries HeldFile). IsTree es) (sym (append-nil s.parts.root)) tree;
    entries = let same : length (s.parts.root ++ []) ≡ length s.parts.root = ap length (append-nil s.parts.root) in omega arith;
    bytes = omega arith;
    lines = tt;
    agree = tt;
    told = tt;
  }
  root_facts s (x ∷ xs) tree entries bytes may =
      let room = may.0.1.room in
      let long = length-append s.parts.root (row_of x ∷ []) in
      let rest = root_facts (with_root s x) xs may.0.2 (omega (arith, room.entries)) room.bytes may.1 in
      record {
        tree = subst (λ (es : Entries HeldFile). IsTree es) (append_assoc s.parts.root (row_of x ∷ []) (rows_of xs)) rest.tree;
        entries = subst (λ (es : Entries HeldFile). length es + length s.parts.lower ≤ most_entries) (append_assoc s.parts.root (row_of x ∷ []) (rows_of xs)) rest.entries;
        bytes = omega (arith, rest.bytes, bytes_cons x xs);
        lines = (may.0.0, rest.lines);
        agree = ((may.0.1.up_to, may.0.1.agrees), rest.agree);
        told = (may.0.1.told, rest.told);
      }

  -- of what that holds they may be read
  root_may : (s : SoFar) (xs : List Row) → RootFacts s xs → AllMay with_root MayRoot s xs
  root_may s [] facts = tt
  root_may s (x ∷ xs) facts =
      let shape = append_assoc s.parts.root (row_of x ∷ []) (rows_of xs) in
      let tree = subst (λ (es : Entries HeldFile). IsTree es) (sym shape) facts.tree in
      let long = length-append s.parts.root (row_of x ∷ rows_of xs) in
      let entries = facts.entries in
      let bytes = facts.bytes in
      let sum = bytes_cons x xs in (
        (facts.lines.0, record { told = facts.told.0; up_to = facts.agree.0.0; agrees = facts.agree.0.1; room = record { entries = omega arith; bytes = omega arith } }, tree_prefix (s.parts.root ++ row_of x ∷ []) (rows_of xs) tree),
        root_may (with_root s x) xs (record {
          tree = tree;
          entries = subst (λ (es : Entries HeldFile). length es + length s.parts.lower ≤ most_entries) (sym shape) facts.entries;
          bytes = omega arith;
          lines = facts.lines.1;
          agree = facts.agree.1;
          told = facts.told.1;
        }),
      )

  pub record RootRead (s : SoFar) (lines : List (List ℕ)) : Type 0 where
    pub items : List Row
    pub rest : List (List ℕ)
    pub text : lines ≡ listed_tree_lines (codes "root") g (rows_of items) ++ rest
    pub run : ToEnd g e (at_part (with_roots s items) parts.Lower) rest
    pub facts : RootFacts s items

  -- the entries of lines that lead to the end
  pub root_read : (s : SoFar) (lines : List (List ℕ)) → IsTree s.parts.root → length s.parts.root + length s.parts.lower ≤ most_entries → s.parts.bytes ≤ most_bytes → ToEnd g e (at_part s parts.Root) lines → RootRead s lines
  root_read s lines tree entries bytes run =
      let first = first_line_of g e (at_part s parts.Root) lines (λ z. cc) run in
      let run1 = subst (λ r. ToEnd g e r first.rest) first.step.3 first.run in
      let all = peel g e with_root MayRoot row_lines then_root root_opens s first.step.0 first.rest run1 in
      record {
        items = all.items;
        rest = all.rest;
        text = first.text
            ∙ (λ i. first.step.2 i ∷ all.text i)
            ∙ (λ i. number_line (codes "root") ((sym all.count ∙ sym (length-map all.items row_of)) i) ∷ ((flat_single homed_line all.items ∙ lines_of_rows g all.items) i ++ all.rest));
        run = subst (λ r. ToEnd g e r all.rest) (ap (λ (z : SoFar). then_root z zero) (after_root s all.items)) all.run;
        facts = root_facts s all.items tree entries bytes all.may;
      }

  -- and their lines lead on
  pub root_run : (s : SoFar) (items : List Row) (rest : List (List ℕ)) → RootFacts s items → ToEnd g e (at_part (with_roots s items) parts.Lower) rest → ToEnd g e (at_part s parts.Root) (listed_tree_lines (codes "root") g (rows_of items) ++ rest)
  root_run s items rest facts run =
      let end = subst (λ r. ToEnd g e r rest) (sym (ap (λ (z : SoFar). then_root z zero) (after_root s items))) run in
      let all = again g e with_root MayRoot row_lines then_root root_closes s items rest (root_may s items facts) end in
      let shown = subst (λ (ls : List (List ℕ)). ToEnd g e (then_root s (length items)) (ls ++ rest)) (flat_single homed_line items ∙ lines_of_rows g items) all in
      let many : length (rows_of items) ≡ length items = length-map items row_of in
      let few : length (rows_of items) ≤ most_count =
      let whole = length-append s.parts.root (rows_of items) in let entries = facts.entries in omega arith in
      (then_root s (length (rows_of items)), (length (rows_of items), few, refl, refl), subst (λ n. ToEnd g e (then_root s n) (map (line_of_entry g) (rows_of items) ++ rest)) (sym many) shown)

module _ (g : ℕ) (e : SoFar) where
  abbrev pub MayLower : SoFar → Row → Type 0
  MayLower s x = HasHomedLine x × MayEnter g s x.1 × IsTree (s.parts.lower ++ row_of x ∷ []) × IsTrue (is_in (merged_so_far s) x.0)

  lower_opens : (s : SoFar) (n : ℕ) (lines : List (List ℕ)) → ToEnd g e (then_lower s (suc n)) lines → Opened g e with_lower MayLower row_lines then_lower s n lines
  lower_opens s n lines run =
      let first = first_line_of g e (at_part s (parts.LowerEntry n)) lines (λ z. cc) run in
      record {
        item = first.step.0;
        may = (first.step.1, first.step.2, first.step.3, first.step.4);
        rest = first.rest;
        text = first.text ∙ ap (λ l. l ∷ first.rest) first.step.5;
        run = subst (λ r. ToEnd g e r first.rest) first.step.6 first.run;
      }

  lower_closes : (s : SoFar) (n : ℕ) (x : Row) (rest : List (List ℕ)) → MayLower s x → ToEnd g e (then_lower (with_lower s x) n) rest → ToEnd g e (then_lower s (suc n)) (row_lines x ++ rest)
  lower_closes s n x rest may run = (then_lower (with_lower s x) n, (x, may.0, may.1, may.2, may.3, refl, refl), run)

  -- what is read after them
  abbrev pub with_lowers : SoFar → List Row → SoFar
  with_lowers s xs = record s { homes = noted_all s.homes xs; parts = record s.parts { lower = s.parts.lower ++ rows_of xs; bytes = s.parts.bytes + all_bytes (rows_of xs) } }

  after_lower : (s : SoFar) (xs : List Row) → after with_lower s xs ≡ with_lowers s xs
  after_lower s [] = λ i. record s { parts = record s.parts { lower = sym (append-nil s.parts.lower) i; bytes = sym (add-zero s.parts.bytes) i } }
  after_lower s (x ∷ xs) =
      after_lower (with_lower s x) xs
      ∙ (λ i. record s {
        homes = noted_all (noted s.homes x.1) xs;
        parts = record s.parts { lower = append_assoc s.parts.lower (row_of x ∷ []) (rows_of xs) i; bytes = (add_assoc s.parts.bytes (bytes_of (kept_entry x.1)) (all_bytes (rows_of xs)) ∙ ap (λ n. s.parts.bytes + n) (sym (bytes_cons x xs))) i };
      })

  -- what holds of them
  pub record LowerFacts (s : SoFar) (xs : List Row) : Type 0 where
    pub tree : IsTree (s.parts.lower ++ rows_of xs)
    pub entries : length (s.parts.lower ++ rows_of xs) + length s.parts.root ≤ most_entries
    pub bytes : s.parts.bytes + all_bytes (rows_of xs) ≤ most_bytes
    pub lines : AllByRecursion HasHomedLine xs
    pub agree : AllAgree g s.homes xs
    pub told : AllByRecursion (λ (x : Row). IsTrue (may_tell s.text x.1)) xs
    pub within : AllByRecursion (λ (x : Row). IsTrue (is_in (merged_so_far s) x.0)) xs

  lower_facts : (s : SoFar) (xs : List Row) → IsTree s.parts.lower → length s.parts.lower + length s.parts.root ≤ most_entries → s.parts.bytes ≤ most_bytes → AllMay with_lower MayLower s xs → LowerFacts s xs
  lower_facts s [] tree entries bytes may = record {
    tree = subst (λ (es : Entries HeldFile). IsTree es) (sym (append-nil s.parts.lower)) tree;
    entries = let same : length (s.parts.lower ++ []) ≡ length s.parts.lower = ap length (append-nil s.parts.lower) in omega arith;
    bytes = omega arith;
    lines = tt;
    agree = tt;
    told = tt;
    within = tt;
  }
  lower_facts s (x ∷ xs) tree entries bytes may =
      let room = may.0.1.room in
      let long = length-append s.parts.lower (row_of x ∷ []) in
      let rest = lower_facts (with_lower s x) xs may.0.2 (omega (arith, room.entries)) room.bytes may.1 in
      record {
        tree = subst (λ (es : Entries HeldFile). IsTree es) (append_assoc s.parts.lower (row_of x ∷ []) (rows_of xs)) rest.tree;
        entries = subst (λ (es : Entries HeldFile). length es + length s.parts.root ≤ most_entries) (append_assoc s.parts.lower (row_of x ∷ []) (rows_of xs)) rest.entries;
        bytes = omega (arith, rest.bytes, bytes_cons x xs);
        lines = (may.0.0, rest.lines);
        agree = ((may.0.1.up_to, may.0.1.agrees), rest.agree);
        told = (may.0.1.told, rest.told);
        within = (may.0.3, rest.within);
      }

  -- of what that holds they may be read
  lower_may : (s : SoFar) (xs : List Row) → LowerFacts s xs → AllMay with_lower MayLower s xs
  lower_may s [] facts = tt
  lower_may s (x ∷ xs) facts =
      let shape = append_assoc s.parts.lower (row_of x ∷ []) (rows_of xs) in
      let tree = subst (λ (es : Entries HeldFile). IsTree es) (sym shape) facts.tree in
      let long = length-append s.parts.lower (row_of x ∷ rows_of xs) in
      let entries = facts.entries in
      let bytes = facts.bytes in
      let sum = bytes_cons x xs in (
        (facts.lines.0, record { told = facts.told.0; up_to = facts.agree.0.0; agrees = facts.agree.0.1; room = record { entries = omega arith; bytes = omega arith } }, tree_prefix (s.parts.lower ++ row_of x ∷ []) (rows_of xs) tree, facts.within.0),
        lower_may (with_lower s x) xs (record {
          tree = tree;
          entries = subst (λ (es : Entries HeldFile). length es + length s.parts.root ≤ most_entries) (sym shape) facts.entries;
          bytes = omega arith;
          lines = facts.lines.1;
          agree = facts.agree.1;
          told = facts.told.1;
          within = facts.within.1;
        }),
      )

  pub record LowerRead (s : SoFar) (lines : List (List ℕ)) : Type 0 where
    pub items : List Row
    pub rest : List (List ℕ)
    pub text : lines ≡ listed_tree_lines (codes "lower") g (rows_of items) ++ rest
    pub run : ToEnd g e (after_parts (with_lowers s items) s.whose) rest
    pub facts : LowerFacts s items

  -- the entries of lines that lead to the end
  pub lower_read : (s : SoFar) (lines : List (List ℕ)) → IsTree s.parts.lower → length s.parts.lower + length s.parts.root ≤ most_entries → s.parts.bytes ≤ most_bytes → ToEnd g e (at_part s parts.Lower) lines → LowerRead s lines
  lower_read s lines tree entries bytes run =
      let first = first_line_of g e (at_part s parts.Lower) lines (λ z. cc) run in
      let run1 = subst (λ r. ToEnd g e r first.rest) first.step.3 first.run in
      let all = peel g e with_lower MayLower row_lines then_lower lower_opens s first.step.0 first.rest run1 in
      record {
        items = all.items;
        rest = all.rest;
        text = first.text
            ∙ (λ i. first.step.2 i ∷ all.text i)
            ∙ (λ i. number_line (codes "lower") ((sym all.count ∙ sym (length-map all.items row_of)) i) ∷ ((flat_single homed_line all.items ∙ lines_of_rows g all.items) i ++ all.rest));
        run = subst (λ r. ToEnd g e r all.rest) (ap (λ (z : SoFar). then_lower z zero) (after_lower s all.items)) all.run;
        facts = lower_facts s all.items tree entries bytes all.may;
      }

  -- and their lines lead on
  pub lower_run : (s : SoFar) (items : List Row) (rest : List (List ℕ)) → LowerFacts s items → ToEnd g e (after_parts (with_lowers s items) s.whose) rest → ToEnd g e (at_part s parts.Lower) (listed_tree_lines (codes "lower") g (rows_of items) ++ rest)
  lower_run s items rest facts run =
      let end = subst (λ r. ToEnd g e r rest) (sym (ap (λ (z : SoFar). then_lower z zero) (after_lower s items))) run in
      let all = again g e with_lower MayLower row_lines then_lower lower_closes s items rest (lower_may s items facts) end in
      let shown = subst (λ (ls : List (List ℕ)). ToEnd g e (then_lower s (length items)) (ls ++ rest)) (flat_single homed_line items ∙ lines_of_rows g items) all in
      let many : length (rows_of items) ≡ length items = length-map items row_of in
      let few : length (rows_of items) ≤ most_count =
      let whole = length-append s.parts.lower (rows_of items) in let entries = facts.entries in omega arith in
      (then_lower s (length (rows_of items)), (length (rows_of items), few, refl, refl), subst (λ n. ToEnd g e (then_lower s n) (map (line_of_entry g) (rows_of items) ++ rest)) (sym many) shown)
