-- The lines of a tree's text.
use Rattle.std.proofs.Common.{◌≡◌, ◌≢◌, ℕ, ◌+◌, List, drop, get_or, ap, arith, codes}
use Rattle.ext_lines.specs.Split.{Lacks}
use Rattle.ext_tree.specs.StampLaws.{stamps_lack, stamps_once}
use Rattle.ext_tree.specs.TreeText.{HasTreeLine, header, stamp_form, tree_line}
use Rattle.ext_tree.specs.declared.entry.Entry.{Entry}
use Rattle.ext_tree.specs.declared.stamp.Stamp.{Stamp}
use Rattle.ext_tree.proofs.EntryLineLemmas as lines

pub line_injective : (x y : List (List ℕ) × Entry Stamp) → HasTreeLine x → HasTreeLine y → tree_line x ≡ tree_line y → x ≡ y
line_injective x y hx hy e = lines.line_injective stamp_form stamps_once x y hx hy e

pub line_not_end : (x : List (List ℕ) × Entry Stamp) → tree_line x ≢ codes "end"
line_not_end x e = lines.line_not_end stamp_form x e

pub line_lacks : (x : List (List ℕ) × Entry Stamp) → HasTreeLine x → Lacks 10 (tree_line x)
line_lacks x h = lines.line_lacks stamp_form stamps_lack x h

-- no entry's line is a header, and `end` is none
pub line_not_header : (x : List (List ℕ) × Entry Stamp) (v : ℕ) → tree_line x ≢ header v
line_not_header x v e = lines.line_not_h stamp_form x _ e

pub end_not_header : (v : ℕ) → codes "end" ≢ header v
end_not_header v e = lines.other_kind 101 104 _ _ (λ z. omega arith) e

-- a header tells its version
pub one_version : (v w : ℕ) → header v ≡ header w → v ≡ w
one_version v w e = let last : 48 + v ≡ 48 + w = ap (λ (l : List ℕ). get_or (drop 13 l) 0 0) e in omega arith
