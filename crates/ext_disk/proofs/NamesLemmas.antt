-- What stands directly in a folder.
use Rattle.std.proofs.Common.{◌≡◌, ℕ, zero, suc, ◌+◌, ◌-◌, ◌<◌, ◌≤◌, Bool, true, false, cond, List, [], ◌∷◌, ◌++◌, length, take, get_or, Some, None, refl, sym, ap, ◌∙◌, subst, inl, inr, arith, add-one}
use Rattle.std.specs.declared.cmp.Ordering.{Ordering}
use Rattle.std.specs.declared.cmp.Ordering.TheVariants.{Less, Equal, Greater}
use Rattle.std.specs.Ordering.{is_eq, eq_by_cmp, ordering_then}
use Rattle.ext_text.specs.Name.{bytes_cmp}
use Rattle.ext_text.specs.Path.{path_cmp}
use Rattle.std.proofs.lemmas.Bool.{cases_lt, and_parts, and_from}
use Rattle.std.proofs.lemmas.List.{take_all, take_more}
use Rattle.ext_text.proofs.ForCallers.{same_path}
use Rattle.ext_disk.specs.Disk.{at_prefixes}
use Rattle.ext_disk.specs.Calls.{child_name}
use Rattle.ext_disk.proofs.Paths.{contrapose}

then_eq : (r s : Ordering) → is_eq (ordering_then r s) ≡ cond (is_eq r) (is_eq s) false
then_eq Less s = refl
then_eq Equal s = refl
then_eq Greater s = refl

cond_same : {X : Type 0} (b : Bool) (x : X) → cond b x x ≡ x
cond_same true x = refl
cond_same false x = refl

child_none : (dir : List (List ℕ)) → child_name dir [] ≡ None
child_none [] = refl
child_none (k ∷ dir) = refl

two_conds : {X : Type 0} (a b : Bool) (x y : X) → cond a (cond b x y) y ≡ cond (cond a b false) x y
two_conds true b x y = refl
two_conds false b x y = refl

-- a path is directly in the folder of all its names but the last, and in no other
pub child_last : (dir first : List (List ℕ)) (n : List ℕ) → child_name dir (first ++ n ∷ []) ≡ cond (eq_by_cmp path_cmp dir first) (Some n) None
child_last [] [] n = refl
child_last [] (m ∷ []) n = refl
child_last [] (m ∷ k ∷ first) n = refl
child_last (k ∷ dir) [] n = ap (λ o. cond (eq_by_cmp bytes_cmp k n) o None) (child_none dir) ∙ cond_same (eq_by_cmp bytes_cmp k n) None
child_last (k ∷ dir) (m ∷ first) n =
    ap (λ o. cond (eq_by_cmp bytes_cmp k m) o None) (child_last dir first n)
    ∙ two_conds (eq_by_cmp bytes_cmp k m) (eq_by_cmp path_cmp dir first) (Some n) None
    ∙ ap (λ b. cond b (Some n) None) (sym (then_eq (bytes_cmp k m) (path_cmp dir first)))

-- a path whose names but the last are the folder
pub in_folder : (dir path above : List (List ℕ)) (n : List ℕ) → path ≡ above ++ n ∷ [] → true ≡ eq_by_cmp path_cmp dir above → (Some n ≡ child_name dir path) × (path ≡ dir ++ n ∷ [])
in_folder dir path above n whole tied = (
  sym (ap (child_name dir) whole ∙ child_last dir above n ∙ ap (λ b. cond b (Some n) None) (sym tied)),
  whole ∙ ap (λ d. d ++ n ∷ []) (sym (same_path dir above (sym tied))),
)

-- a path whose names but the last are another folder
pub not_in_folder : (dir path above : List (List ℕ)) (n : List ℕ) → path ≡ above ++ n ∷ [] → false ≡ eq_by_cmp path_cmp dir above → None ≡ child_name dir path
not_in_folder dir path above n whole apart =
    sym (ap (child_name dir) whole ∙ child_last dir above n ∙ ap (λ b. cond b (Some n) None) (sym apart))

-- the root is in no folder
pub root_in_none : (dir path : List (List ℕ)) → path ≡ [] → None ≡ child_name dir path
root_in_none dir path root = sym (ap (child_name dir) root ∙ child_none dir)

-- a prefix of one name or more is not the root
pub some_prefix : (k : ℕ) (p : List (List ℕ)) → k < length p → take (k + 1) p ≡ [] → ⊥
some_prefix k [] within none = omega arith
some_prefix k (n ∷ p) within none = cc (rw add-one at none)

pub each_more : (f : List (List ℕ) → Bool) (p : List (List ℕ)) (i : ℕ) → ((k : ℕ) → k ≤ i → f (take k p) ≡ true) → f (take (i + 1) p) ≡ true → (k : ℕ) → k ≤ i + 1 → f (take k p) ≡ true
each_more f p i each last k upto = elim (cases_lt i k) [
  | inl more ↦ let same : i + 1 ≡ k = omega arith in subst (λ j. f (take j p) ≡ true) same last
  | inr less ↦ each k less
]

pub prefix_passes : (f : List (List ℕ) → Bool) (p : List (List ℕ)) (k : ℕ) → at_prefixes f p ≡ true → f (take k p) ≡ true
prefix_passes f [] zero all = all
prefix_passes f [] (suc k) all = all
prefix_passes f (n ∷ p) zero all = (and_parts (f []) _ all).0
prefix_passes f (n ∷ p) (suc k) all = prefix_passes (λ q. f (n ∷ q)) p k (and_parts (f []) _ all).1

pub all_pass : (f : List (List ℕ) → Bool) (p : List (List ℕ)) → ((k : ℕ) → k ≤ length p → f (take k p) ≡ true) → at_prefixes f p ≡ true
all_pass f [] each = each 0 (omega arith)
all_pass f (n ∷ p) each = and_from _ _ (each 0 (omega arith)) (all_pass (λ q. f (n ∷ q)) p (λ k upto. each (suc k) (omega arith)))

pub one_fails : (f : List (List ℕ) → Bool) (p : List (List ℕ)) (k : ℕ) → f (take k p) ≡ false → false ≡ at_prefixes f p
one_fails f p k out = sym (contrapose _ _ (prefix_passes f p k) out)
