-- A text tells no count that is higher than the number of its bytes: each of what is counted has a line.
use Rattle.std.proofs.Common.{ℕ, ◌+◌, ◌≤◌, List, [], ◌∷◌, ◌++◌, length, Option, Some, None, IfSome, arith, codes, length-append}
use Rattle.std.proofs.lemmas.List.{length-map}
use Rattle.std.specs.List.{AllByRecursion, flat_map}
use Rattle.ext_lines.specs.Lines.{lines_text}
use Rattle.ext_host.specs.Host.{HostTree, past_tree}
use Rattle.ext_host.specs.declared.attachment.Attachment.{Attachment}
use Rattle.ext_host.specs.declared.manifest.Manifest.{Manifest}
use Rattle.ext_host.specs.declared.past.Past.{Past}
use Rattle.ext_index_lines.specs.Lines.{number_line, path_line, worded}
use Rattle.ext_index_reader.specs.Index.{attachment_lines, line_of_item, manifest_lines, merged_lines, past_lines, record_lines, section_lines, listed_tree_lines}
use Rattle.ext_index_reader.proofs.PartsLemmas.{AreFew}

-- lines are not more than the bytes of their text
pub lines_below_bytes : (lines : List (List ℕ)) → length lines ≤ length (lines_text lines)
lines_below_bytes [] = omega arith
lines_below_bytes (line ∷ lines) =
    let rest = lines_below_bytes lines in
    let one = length-append line (10 ∷ []) in
    let both = length-append (line ++ 10 ∷ []) (lines_text lines) in
    omega arith

-- where each has at least one, they are not more than these
module _ {X : Type 0} (lines : X → List (List ℕ)) where
  pub flat_more : (some : (x : X) → 1 ≤ length (lines x)) (xs : List X) → length xs ≤ length (flat_map lines xs)
  flat_more some [] = omega arith
  flat_more some (x ∷ xs) =
      let first = some x in
      let rest = flat_more some xs in
      let both = length-append (lines x) (flat_map lines xs) in
      omega arith

  -- and no item has more than all of them
  pub flat_each : (most : ℕ) (count : X → ℕ) (few : (x : X) → count x ≤ length (lines x)) (xs : List X) → length (flat_map lines xs) ≤ most → AllByRecursion (λ x. count x ≤ most) xs
  flat_each most count few [] short = tt
  flat_each most count few (x ∷ xs) short =
      let first = few x in
      let both = length-append (lines x) (flat_map lines xs) in
      (omega arith, flat_each most count few xs (omega arith))

added_few : (a : Attachment) → length a.added ≤ length (attachment_lines a)
added_few a = let same = length-map a.added (path_line (codes "p")) in omega arith

items_few : (m : Manifest) → length m.items ≤ length (manifest_lines m)
items_few m = let same = length-map m.items line_of_item in omega arith

merged_few : (most : ℕ) (word : List ℕ) (names : Option (List (List ℕ))) → length (merged_lines word names) ≤ most → IfSome names (λ ns. length ns ≤ most)
merged_few most word None short = tt
merged_few most word (Some names) short = let same = length-map names (worded (codes "n")) in omega arith

-- how many lines each part has
record PartLengths (g most : ℕ) (tree : HostTree) : Type 0 where
  sysext : length (merged_lines (codes "sysext") tree.sysext) ≤ most
  confext : length (merged_lines (codes "confext") tree.confext) ≤ most
  attached : length (flat_map attachment_lines tree.attached) ≤ most
  kept : length (flat_map manifest_lines tree.kept) ≤ most

part_lengths : (g most : ℕ) (tree : HostTree) → length (section_lines g tree) ≤ most → PartLengths g most tree
part_lengths g most tree short =
    let one = length-append (merged_lines (codes "sysext") tree.sysext) (merged_lines (codes "confext") tree.confext ++ (record_lines tree.attached tree.kept ++ (listed_tree_lines (codes "root") g tree.root ++ listed_tree_lines (codes "lower") g tree.lower))) in
    let two = length-append (merged_lines (codes "confext") tree.confext) (record_lines tree.attached tree.kept ++ (listed_tree_lines (codes "root") g tree.root ++ listed_tree_lines (codes "lower") g tree.lower)) in
    let three = length-append (record_lines tree.attached tree.kept) (listed_tree_lines (codes "root") g tree.root ++ listed_tree_lines (codes "lower") g tree.lower) in
    let four = record_length tree.attached tree.kept in
    record { sysext = omega arith; confext = omega arith; attached = omega arith; kept = omega arith }
  where
    record_length : (attached : List Attachment) (kept : List Manifest) → length (flat_map attachment_lines attached) + length (flat_map manifest_lines kept) ≤ length (record_lines attached kept)
    record_length attached kept = let both = length-append (flat_map attachment_lines attached) (number_line (codes "kept") (length kept) ∷ flat_map manifest_lines kept) in omega arith

pub few_of_lines : (g most : ℕ) (tree : HostTree) → most ≤ 1073741824 → length (section_lines g tree) ≤ most → AreFew tree
few_of_lines g most tree low short =
    let parts = part_lengths g most tree short in
    let attached = parts.attached in
    let kept = parts.kept in
    let high = low in
    let more_attached = flat_more attachment_lines (λ a. omega arith) tree.attached in
    let more_kept = flat_more manifest_lines (λ m. omega arith) tree.kept in
    record {
      sysext = merged_few 1073741824 (codes "sysext") tree.sysext (let first = parts.sysext in omega arith);
      confext = merged_few 1073741824 (codes "confext") tree.confext (let second = parts.confext in omega arith);
      attached = omega arith;
      added = flat_each attachment_lines 1073741824 (λ (a : Attachment). length a.added) added_few tree.attached (omega arith);
      kept = omega arith;
      items = flat_each manifest_lines 1073741824 (λ (m : Manifest). length m.items) items_few tree.kept (omega arith);
    }

pub few_of_pasts : (g most : ℕ) (pasts : List Past) → most ≤ 1073741824 → length (flat_map (past_lines g) pasts) ≤ most → AllByRecursion (λ (past : Past). AreFew (past_tree past)) pasts
few_of_pasts g most [] low short = tt
few_of_pasts g most (past ∷ pasts) low short =
    let both = length-append (past_lines g past) (flat_map (past_lines g) pasts) in
    (few_of_lines g most (past_tree past) low (omega arith), few_of_pasts g most pasts low (omega arith))
