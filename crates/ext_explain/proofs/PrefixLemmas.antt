-- The shortest proper prefix of a path that passes a test.
use Rattle.std.proofs.Common.{◌≡◌, ℕ, Bool, true, false, cond, not, ◌&&◌, List, [], ◌∷◌, Option, Some, None, refl, sym, ap, ◌∙◌, subst}
use Rattle.std.specs.Option.{option_map}
use Rattle.std.specs.Ordering.{eq_by_cmp, is_eq}
use Rattle.std.proofs.lemmas.Bool.{and_parts, false≢true}
use Rattle.ext_lines.specs.ByteOrder.{bytes_cmp}
use Rattle.ext_text.specs.Path.{is_prefix, is_proper_prefix}
use Rattle.ext_text.proofs.ForCallers.{names_tied, same_name}
use Rattle.ext_explain.specs.Finding.{first_prefix}

-- a test that passes nowhere passes at no prefix
pub no_prefix : (f : List (List ℕ) → Bool) (p : List (List ℕ)) → ((q : List (List ℕ)) → f q ≡ false) → first_prefix f p ≡ None
no_prefix f [] none = refl
no_prefix f (n ∷ p) none =
    ap (λ b. cond b (Some []) (option_map (λ q. n ∷ q) (first_prefix (λ q. f (n ∷ q)) p))) (none [])
    ∙ ap (option_map (λ q. n ∷ q)) (no_prefix (λ q. f (n ∷ q)) p (λ q. none (n ∷ q)))

-- one that does not pass at the root passes below it or nowhere
pub past_root : (f : List (List ℕ) → Bool) (n : List ℕ) (p : List (List ℕ)) → f [] ≡ false → first_prefix f (n ∷ p) ≡ option_map (λ q. n ∷ q) (first_prefix (λ q. f (n ∷ q)) p)
past_root f n p none = ap (λ b. cond b (Some []) (option_map (λ q. n ∷ q) (first_prefix (λ q. f (n ∷ q)) p))) none

-- a proper prefix with one more name before it, and without it
proper_more : (n : List ℕ) (q p : List (List ℕ)) → is_proper_prefix q p ≡ true → is_proper_prefix (n ∷ q) (n ∷ p) ≡ true
proper_more n q p proper = (λ i. (is_eq (names_tied n i) && is_prefix q p) && not (is_eq (names_tied n i) && is_prefix p q)) ∙ proper

proper_less : (m n : List ℕ) (q p : List (List ℕ)) → is_proper_prefix (m ∷ q) (n ∷ p) ≡ true → (m ≡ n) × (is_proper_prefix q p ≡ true)
proper_less m n q p proper =
    let name : m ≡ n = same_name m n (and_parts (eq_by_cmp bytes_cmp m n) (is_prefix q p) (and_parts (eq_by_cmp bytes_cmp m n && is_prefix q p) (not (eq_by_cmp bytes_cmp n m && is_prefix p q)) proper).0).0 in
    (name, sym (λ i. (is_eq (names_tied n i) && is_prefix q p) && not (is_eq (names_tied n i) && is_prefix p q)) ∙ subst (λ k. is_proper_prefix (k ∷ q) (n ∷ p) ≡ true) name proper)

none_mapped : {X Y : Type 0} (g : X → Y) (o : Option X) → option_map g o ≡ None → o ≡ None
none_mapped g None is = refl
none_mapped g (Some x) is = cc

nowhere_more : (f : List (List ℕ) → Bool) (n : List ℕ) (p : List (List ℕ)) → ((r : List (List ℕ)) → is_proper_prefix r p ≡ true → f (n ∷ r) ≡ false) → f [] ≡ false → (q : List (List ℕ)) → is_proper_prefix q (n ∷ p) ≡ true → f q ≡ false
nowhere_more f n p below root [] proper = root
nowhere_more f n p below root (m ∷ q) proper = let less = proper_less m n q p proper in ap (λ k. f (k ∷ q)) less.0 ∙ below q less.1

-- where there is no such prefix the test passes at none
pub passes_nowhere : (f : List (List ℕ) → Bool) (p q : List (List ℕ)) → first_prefix f p ≡ None → is_proper_prefix q p ≡ true → f q ≡ false
passes_nowhere f [] [] none proper = absurd (false≢true proper)
passes_nowhere f [] (m ∷ q) none proper = absurd (false≢true proper)
passes_nowhere f (n ∷ p) q none proper =
    elim (f []) as (λ b. f [] ≡ b → cond b (Some []) (option_map (λ r. n ∷ r) (first_prefix (λ r. f (n ∷ r)) p)) ≡ None → f q ≡ false) [
      | true ↦ λ _ some. cc
      | false ↦ λ root rest. nowhere_more f n p (λ r. passes_nowhere (λ s. f (n ∷ s)) p r (none_mapped (λ r. n ∷ r) (first_prefix (λ r. f (n ∷ r)) p) rest)) root q proper
    ] refl none

there_more : (f : List (List ℕ) → Bool) (n : List ℕ) (p q : List (List ℕ)) (o : Option (List (List ℕ))) → ((r : List (List ℕ)) → o ≡ Some r → (is_proper_prefix r p ≡ true) × (f (n ∷ r) ≡ true)) → option_map (λ r. n ∷ r) o ≡ Some q → (is_proper_prefix q (n ∷ p) ≡ true) × (f q ≡ true)
there_more f n p q None below mapped = cc
there_more f n p q (Some r) below mapped =
    let rest = below r refl in
    let at : n ∷ r ≡ q = cc in
    (subst (λ s. is_proper_prefix s (n ∷ p) ≡ true) at (proper_more n r p rest.0), ap f (sym at) ∙ rest.1)

-- where there is one it is a proper prefix, and the test passes there
pub passes_there : (f : List (List ℕ) → Bool) (p q : List (List ℕ)) → first_prefix f p ≡ Some q → (is_proper_prefix q p ≡ true) × (f q ≡ true)
passes_there f [] q some = cc
passes_there f (n ∷ p) q some =
    elim (f []) as (λ b. f [] ≡ b → cond b (Some []) (option_map (λ r. n ∷ r) (first_prefix (λ r. f (n ∷ r)) p)) ≡ Some q → (is_proper_prefix q (n ∷ p) ≡ true) × (f q ≡ true)) [
      | true ↦ λ root is. let at : [] ≡ q = cc in (subst (λ r. is_proper_prefix r (n ∷ p) ≡ true) at refl, ap f (sym at) ∙ root)
      | false ↦ λ _ is. there_more f n p q (first_prefix (λ r. f (n ∷ r)) p) (λ r there. passes_there (λ s. f (n ∷ s)) p r there) is
    ] refl some
