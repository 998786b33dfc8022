-- The last of ascending versions decides: it is the greatest, and what is newer than it is newer than each.
use Rattle.std.proofs.Common.{◌≡◌, ℕ, zero, suc, ◌+◌, ◌-◌, true, false, List, [], ◌∷◌, length, Option, Some, None, refl, sym, ap, ◌∙◌, subst, arith}
use Rattle.std.specs.Prelude.{slice_get}
use mathlib.Core.Logic.{inl, inr}
use Rattle.std.specs.Cmp.{tied_itself}
use Rattle.std.specs.List.Sorted.{IsStrictlySortedBy}
use Rattle.std.specs.Ordering.{is_gt, ordering_reverse, ordering_then}
use Rattle.std.specs.Str.{bytes_eq}
use Rattle.std.specs.declared.cmp.Ordering.{Ordering}
use Rattle.std.specs.declared.cmp.Ordering.TheVariants.{Less, Equal, Greater}
use Rattle.std.proofs.lemmas.Bool.{false≢true, true≢false, true_from_ne_false, or_cases, or_left, or_right}
use Rattle.std.proofs.lemmas.Cmp.{upto}
use Rattle.std.proofs.lemmas.Option.{none-some, same_Some}
use Rattle.ext_lines.specs.ByteOrder.{bytes_cmp}
use Rattle.ext_text.proofs.ForCallers.{is_greater}
use Rattle.ext_vers.specs.Order.{orders_exact, orders_total, versions_total}
use Rattle.ext_vers.specs.Version.{order_of, version_cmp}
use Rattle.ext_versions.specs.Versions.{has_version}
use Rattle.ext_versions.proofs.ForCallers.{among_above, same_version, version_itself}
use Rattle.ext_choice.specs.Choice.{ChoosesNewest, IsNewest, exceeds}
use Rattle.ext_choice.specs.declared.choosing.Choice.TheVariants.{NoneNewer}

-- the version at a place is one of them
pub got_among : (ws : List (List ℕ)) (place : ℕ) (v : List ℕ) → slice_get ws place ≡ Some v → has_version ws v ≡ true
got_among [] place v got = absurd (none-some v got)
got_among (w ∷ ws) zero v got =
    subst (λ (x : List ℕ). has_version (w ∷ ws) x ≡ true) (same_Some w v got) (or_left (bytes_eq w w) (has_version ws w) (version_itself w))
got_among (w ∷ ws) (suc place) v got = or_right (bytes_eq v w) (has_version ws v) (got_among ws place v got)

-- there is a last one
got_last : (w : List ℕ) (ws : List (List ℕ)) → (v : List ℕ) × (slice_get (w ∷ ws) (length ws) ≡ Some v)
got_last w [] = (w, refl)
got_last w (x ∷ ws) = got_last x ws

-- where there is no last one, there is none
pub none_last : (ws : List (List ℕ)) → slice_get ws (length ws - 1) ≡ None → ws ≡ []
none_last [] none = refl
none_last (w ∷ ws) none =
    let last = got_last w ws in
    let place : length ws ≡ length (w ∷ ws) - 1 = omega arith in
    absurd (none-some last.0 (sym none ∙ subst (λ k. slice_get (w ∷ ws) k ≡ Some last.0) place last.1))

-- no version is greater than the last one
last_at : (ws : List (List ℕ)) (place : ℕ) (v w : List ℕ) → IsStrictlySortedBy order_of ws → length ws ≡ place + 1
    → slice_get ws place ≡ Some v → has_version ws w ≡ true → is_gt (order_of w v) ≡ false
unfolding IsStrictlySortedBy
last_at [] place v w sorted count got has = absurd (false≢true has)
last_at (x ∷ []) zero v w sorted count got has = elim (or_cases (bytes_eq w x) false has) [
  | inl here ↦ ap is_gt (ap (λ (y : List ℕ). order_of w y) (sym (same_version w x here ∙ same_Some x v got)) ∙ tied_itself orders_total w)
  | inr none ↦ absurd (false≢true none)
]
last_at (x ∷ y ∷ ys) zero v w sorted count got has = absurd (omega (arith, count))
last_at (x ∷ xs) (suc place) v w sorted count got has = elim (or_cases (bytes_eq w x) (has_version xs w) has) [
  | inl here ↦ ap is_gt (ap (λ (y : List ℕ). order_of y v) (same_version w x here) ∙ among_above x xs v sorted.0 (got_among xs place v got))
  | inr later ↦ last_at xs place v w sorted.1 (omega (arith, count)) got later
]

pub last_greatest : (ws : List (List ℕ)) (v w : List ℕ) → IsStrictlySortedBy order_of ws → slice_get ws (length ws - 1) ≡ Some v
    → has_version ws w ≡ true → is_gt (order_of w v) ≡ false
last_greatest [] v w sorted got has = absurd (false≢true has)
last_greatest (x ∷ xs) v w sorted got has = last_at (x ∷ xs) (length (x ∷ xs) - 1) v w sorted (omega arith) got has

not_then : (r s : Ordering) → is_gt (ordering_then r s) ≡ false → is_gt r ≡ false
not_then Less s e = refl
not_then Equal s e = refl
not_then Greater s e = e

-- what is newer than the last one is newer than each
newer_than_each : (ws : List (List ℕ)) (v u : List ℕ) → IsStrictlySortedBy order_of ws → exceeds v (slice_get ws (length ws - 1)) ≡ true
    → has_version ws u ≡ true → version_cmp v u ≡ Greater
newer_than_each [] v u sorted above has = absurd (false≢true has)
newer_than_each (x ∷ xs) v u sorted above has =
    let last = got_last x xs in
    let place : length xs ≡ length (x ∷ xs) - 1 = omega arith in
    let got = subst (λ k. slice_get (x ∷ xs) k ≡ Some last.0) place last.1 in
    let newer : is_gt (version_cmp v last.0) ≡ true = ap (exceeds v) (sym got) ∙ above in
    let below = not_then (version_cmp u last.0) (bytes_cmp u last.0) (last_greatest (x ∷ xs) last.0 u sorted got has) in
    is_greater _ (true_from_ne_false _ (λ not_newer. true≢false (sym newer ∙ upto versions_total v u last.0 not_newer below)))

-- the last available version is the newest where it is newer than the last installed one
pub newest : (available installed : List (List ℕ)) (v : List ℕ) → IsStrictlySortedBy order_of available
    → IsStrictlySortedBy order_of installed → slice_get available (length available - 1) ≡ Some v
    → exceeds v (slice_get installed (length installed - 1)) ≡ true → IsNewest available installed v
newest available installed v ascending others got above = record {
  there = got_among available (length available - 1) v got;
  greatest = λ w has greater. false≢true (sym (last_greatest available v w ascending got has) ∙ ap is_gt greater);
  newer = λ u has. newer_than_each installed v u others above has;
}

greater_or_equal : (r : Ordering) → is_gt r ≡ false → (ordering_reverse r ≡ Greater → ⊥) → r ≡ Equal
greater_or_equal Less not_greater not_less = absurd (not_less refl)
greater_or_equal Equal not_greater not_less = refl
greater_or_equal Greater not_greater not_less = absurd (true≢false not_greater)

-- the newest version is the last one
pub newest_last : (available installed : List (List ℕ)) (v w : List ℕ) → IsStrictlySortedBy order_of available
    → slice_get available (length available - 1) ≡ Some v → IsNewest available installed w → w ≡ v
newest_last available installed v w ascending got one =
    orders_exact w v (greater_or_equal (order_of w v) (last_greatest available v w ascending got one.there)
    (λ less. one.greatest v (got_among available (length available - 1) v got) (orders_total.antisymm v w ∙ less)))

not_exceeding : (installed : List (List ℕ)) (v : List ℕ) (last : Option (List ℕ)) → slice_get installed (length installed - 1) ≡ last
    → exceeds v last ≡ false → ((u : List ℕ) → has_version installed u ≡ true → version_cmp v u ≡ Greater) → ⊥
not_exceeding installed v None got not_above newer = absurd (true≢false not_above)
not_exceeding installed v (Some u) got not_above newer =
    absurd (true≢false (sym (ap is_gt (newer u (got_among installed (length installed - 1) u got))) ∙ not_above))

-- where the last available version isn't newer than the last installed one, none is the newest
pub no_newest : (available installed : List (List ℕ)) (v : List ℕ) → IsStrictlySortedBy order_of available
    → slice_get available (length available - 1) ≡ Some v → exceeds v (slice_get installed (length installed - 1)) ≡ false
    → ChoosesNewest available installed NoneNewer
no_newest available installed v ascending got not_above = λ w one.
    let same = newest_last available installed v w ascending got one in
    not_exceeding installed v (slice_get installed (length installed - 1)) refl not_above
    (subst (λ (x : List ℕ). (u : List ℕ) → has_version installed u ≡ true → version_cmp x u ≡ Greater) same one.newer)

-- nor where no version is available
pub none_available : (available installed : List (List ℕ)) → slice_get available (length available - 1) ≡ None
    → ChoosesNewest available installed NoneNewer
none_available available installed none =
    λ w one. absurd (false≢true (sym (ap (λ (ws : List (List ℕ)). has_version ws w) (none_last available none)) ∙ one.there))
