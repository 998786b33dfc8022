-- A search by halves among names in order.
use Rattle.std.proofs.Common.{◌≡◌, ℕ, zero, suc, ◌<◌, ◌≤◌, true, false, cond, List, [], ◌∷◌, length, drop, get_or, Some, None, refl, sym, ap, ◌∙◌, arith}
use Rattle.std.specs.Prelude.{IsTrue}
use Rattle.std.specs.List.Sorted.{IsPartitionedBy, IsPartitionPoint}
use Rattle.std.specs.Ordering.{is_eq, is_lt, ordering_reverse}
use Rattle.std.specs.declared.cmp.Ordering.TheVariants.{Less, Equal, Greater}
use Rattle.std.specs.FinMap.{is_sorted}
use Rattle.std.specs.FinMap.Entries.{below_all}
use Rattle.std.specs.Str.{bytes_eq}
use Rattle.std.proofs.lemmas.Bool.{and_parts}
use Rattle.std.proofs.lemmas.Map.Text.{is_eq-slice_cmp}
use Rattle.ext_lines.specs.ByteOrder.{bytes_cmp, bytes_total}
use Rattle.ext_text.proofs.ForCallers.{is_less}
use Rattle.ext_sums.specs.declared.sums.Listed.{Listed}
use Rattle.ext_sums.specs.Sums.{Entries, comes_before, entries_from, entries_of, said, said_first}

below_at : (x : List ℕ) (ls : List Listed) (j : ℕ) (d : Listed) → below_all bytes_cmp x (entries_of ls) ≡ true → j < length ls → bytes_cmp x (get_or ls j d).name ≡ Less
below_at x [] j d h lt = absurd (omega arith)
below_at x (l ∷ ls) zero d h lt = is_less _ (and_parts _ _ h).0
below_at x (l ∷ ls) (suc j) d h lt = below_at x ls j d (and_parts _ _ h).1 (omega arith)

-- names in order are parted by each name
pub partitioned : (name : List ℕ) (ls : List Listed) → IsTrue (is_sorted bytes_cmp (entries_of ls)) → IsPartitionedBy (comes_before name) ls
partitioned name [] h i j d le lt p = absurd (omega arith)
partitioned name (l ∷ ls) h zero zero d le lt p = p
partitioned name (l ∷ ls) h (suc i) zero d le lt p = absurd (omega arith)
partitioned name (l ∷ ls) h zero (suc j) d le lt p =
    ap is_lt (bytes_total.trans l.name (get_or ls j d).name name (below_at l.name ls j d (and_parts _ _ h).0 (omega arith)) (is_less _ p))
partitioned name (l ∷ ls) h (suc i) (suc j) d le lt p = partitioned name ls (and_parts _ _ h).1 i j d (omega arith) (omega arith) p

-- what stands from where the names are parted
pub from_split : (name : List ℕ) (ls : List Listed) (i : ℕ) → i ≤ length ls → IsPartitionPoint (λ l. comes_before name l ≡ true) (λ l. comes_before name l ≡ false) ls i → entries_of (drop i ls) ≡ entries_from name (entries_of ls)
from_split name [] zero h at = refl
from_split name [] (suc i) h at = absurd (omega arith)
from_split name (l ∷ ls) zero h at =
    sym (ap (λ b. cond b (entries_from name (entries_of ls)) (entries_of (l ∷ ls))) (at.1 zero l (omega arith) (omega arith)))
from_split name (l ∷ ls) (suc i) h at =
    from_split name ls i (omega arith) ((λ j d low high. at.0 (suc j) d (omega arith) (omega arith)), (λ j d low high. at.1 (suc j) d (omega arith) (omega arith)))
    ∙ sym (ap (λ b. cond b (entries_from name (entries_of ls)) (entries_of (l ∷ ls))) (at.0 zero l (omega arith) (omega arith)))

-- a name below all of the entries is not found
unfound : (k x : List ℕ) (es : Entries) → bytes_cmp k x ≡ Less → below_all bytes_cmp x es ≡ true → said es k ≡ None
unfound k x [] h below = refl
unfound k x (e ∷ es) h below =
    ap (λ r. cond (is_eq r) (Some e.1) (said es k)) (bytes_total.trans k x e.0 h (is_less _ (and_parts _ _ below).0)) ∙ unfound k x es h (and_parts _ _ below).1

-- a name is found at the first entry that does not come before it, or nowhere
pub find_from : (name : List ℕ) (es : Entries) → IsTrue (is_sorted bytes_cmp es) → said_first name (entries_from name es) ≡ said es name
find_from name [] h = refl
find_from name (e ∷ es) h =
    let turned : bytes_cmp name e.0 ≡ ordering_reverse (bytes_cmp e.0 name) = bytes_total.antisymm name e.0 in
    let same : is_eq (bytes_cmp e.0 name) ≡ bytes_eq e.0 name = is_eq-slice_cmp e.0 name in
    let rest = find_from name es (and_parts _ _ h).1 in
    elim (bytes_cmp e.0 name) as (λ r. bytes_cmp e.0 name ≡ r → said_first name (cond (is_lt r) (entries_from name es) (e ∷ es)) ≡ said (e ∷ es) name) [
      | Less ↦ λ p. rest ∙ sym (ap (λ r. cond (is_eq r) (Some e.1) (said es name)) (turned ∙ ap ordering_reverse p))
      | Equal ↦ λ p. ap (λ b. cond b (Some e.1) None) (sym same ∙ ap is_eq p) ∙ sym (ap (λ r. cond (is_eq r) (Some e.1) (said es name)) (turned ∙ ap ordering_reverse p))
      | Greater ↦ λ p. ap (λ b. cond b (Some e.1) None) (sym same ∙ ap is_eq p)
          ∙ sym (ap (λ r. cond (is_eq r) (Some e.1) (said es name)) (turned ∙ ap ordering_reverse p) ∙ unfound name e.0 es (turned ∙ ap ordering_reverse p) (and_parts _ _ h).0)
    ] refl
