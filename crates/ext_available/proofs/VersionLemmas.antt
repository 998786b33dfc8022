-- Versions that are equal by their bytes, and other ones.
use Rattle.std.proofs.Common.{◌≡◌, ℕ, true, false, List, sym, ap, subst, ◌∙◌}
use Rattle.std.specs.Cmp.{tied_itself}
use Rattle.std.specs.Ordering.{is_eq, is_lt}
use Rattle.std.specs.declared.cmp.Ordering.TheVariants.{Less, Equal}
use Rattle.std.specs.Str.{bytes_eq}
use Rattle.std.proofs.lemmas.Bool.{false_from_ne_true, true≢false}
use Rattle.std.proofs.lemmas.Map.Text.{is_eq-slice_cmp}
use Rattle.ext_lines.specs.ByteOrder.{bytes_exact, bytes_total}
use Rattle.ext_text.proofs.ForCallers.{is_equal}
use Rattle.ext_vers.specs.Order.{orders_exact, orders_total}
use Rattle.ext_vers.specs.Version.{order_of}

-- texts that a test takes for equal are equal
pub equal_bytes : (a b : List ℕ) → bytes_eq a b ≡ true → a ≡ b
equal_bytes a b same = bytes_exact a b (is_equal _ (is_eq-slice_cmp a b ∙ same))

-- a text is equal to itself
pub same_bytes : (a : List ℕ) → bytes_eq a a ≡ true
same_bytes a = sym (is_eq-slice_cmp a a) ∙ ap is_eq (tied_itself bytes_total a)

-- versions that tie are equal
pub equal_versions : (a b : List ℕ) → order_of a b ≡ Equal → bytes_eq a b ≡ true
equal_versions a b tie = subst (λ x. bytes_eq a x ≡ true) (orders_exact a b tie) (same_bytes a)

less_apart : (a : List ℕ) → ¬ (order_of a a ≡ Less)
less_apart a less = true≢false (ap is_lt (sym less) ∙ ap is_lt (tied_itself orders_total a))

-- a version below another is not it
pub below_version : (a b : List ℕ) → order_of a b ≡ Less → bytes_eq a b ≡ false
below_version a b less = false_from_ne_true _ (λ same. less_apart a (subst (λ x. order_of a x ≡ Less) (sym (equal_bytes a b same)) less))

-- and one above another is not it
pub other_version : (a b : List ℕ) → order_of b a ≡ Less → bytes_eq a b ≡ false
other_version a b less = false_from_ne_true _ (λ same. less_apart b (subst (λ x. order_of b x ≡ Less) (equal_bytes a b same) less))
