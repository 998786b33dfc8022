-- Tests along the prefixes of a path, and lists of entries that have none of its prefixes.
use Rattle.std.proofs.Common.{◌≡◌, ℕ, Bool, true, false, cond, ◌||◌, T, List, [], ◌∷◌, Some, None, refl, sym, ap, ◌∙◌, subst}
use Rattle.std.proofs.lemmas.Bool.{false≢true, and_parts, and_from, or_right, or_left}
use Rattle.std.proofs.lemmas.Float.{T_from_true}
use Rattle.std.specs.declared.cmp.Ordering.TheVariants.{Less}
use Rattle.std.specs.Ordering.{is_lt, eq_by_cmp}
use Rattle.std.specs.FinMap.{find}
use Rattle.std.specs.FinMap.Entries.{below_all}
use Rattle.ext_text.specs.Name.{bytes_cmp}
use Rattle.ext_text.specs.Path.{path_cmp, is_prefix}
use Rattle.ext_text.proofs.ForCallers.{true_from_T, is_less}
use Rattle.ext_text.proofs.ForCallers.{same_name, tied_name, same_path, prefix_order}
use Rattle.ext_layer.specs.Overlay.{some_prefix}

-- a list whose keys all come after a path has none of its prefixes
pub not_found : {X : Type 0} (p q : List (List ℕ)) → is_prefix q p ≡ true → (es : List (List (List ℕ) × X)) → T (below_all path_cmp p es) → find path_cmp q es ≡ None
not_found p q f [] h = refl
not_found p q f (e ∷ es) h =
    let x = and_parts (is_lt (path_cmp p e.0)) (below_all path_cmp p es) (true_from_T _ h) in
    let rest = not_found p q f es (T_from_true _ x.1) in
    elim (eq_by_cmp path_cmp q e.0) as (λ b. eq_by_cmp path_cmp q e.0 ≡ b → cond b (Some e.1) (find path_cmp q es) ≡ None) [
      | true ↦ λ t. absurd (prefix_order p q f (subst (λ z. path_cmp p z ≡ Less) (sym (same_path q e.0 t)) (is_less _ x.0)))
      | false ↦ λ _. rest
    ] refl

-- tests that agree at each prefix agree
pub some_prefix-same : (f g : List (List ℕ) → Bool) (p : List (List ℕ)) → ((q : List (List ℕ)) → is_prefix q p ≡ true → f q ≡ g q) → some_prefix f p ≡ some_prefix g p
some_prefix-same f g [] is = is [] refl
some_prefix-same f g (n ∷ p) is =
    let rest = some_prefix-same (λ q. f (n ∷ q)) (λ q. g (n ∷ q)) p (λ q h. is (n ∷ q) (and_from _ _ (tied_name n n refl) h)) in
    λ i. is [] refl i || rest i

-- a test that passes at no prefix
pub some_prefix-none : (f : List (List ℕ) → Bool) (p : List (List ℕ)) → ((q : List (List ℕ)) → is_prefix q p ≡ true → f q ≡ false) → some_prefix f p ≡ false
some_prefix-none f [] is = is [] refl
some_prefix-none f (n ∷ p) is =
    ap (λ b. b || some_prefix (λ q. f (n ∷ q)) p) (is [] refl) ∙ some_prefix-none (λ q. f (n ∷ q)) p (λ q h. is (n ∷ q) (and_from _ _ (tied_name n n refl) h))

-- a test that passes at a prefix
pub some_prefix-at : (f : List (List ℕ) → Bool) (q p : List (List ℕ)) → is_prefix q p ≡ true → f q ≡ true → some_prefix f p ≡ true
some_prefix-at f [] [] h is = is
some_prefix-at f [] (n ∷ p) h is = or_left _ _ is
some_prefix-at f (m ∷ q) [] h is = absurd (false≢true h)
some_prefix-at f (m ∷ q) (n ∷ p) h is =
    let x = and_parts (eq_by_cmp bytes_cmp m n) (is_prefix q p) h in
    or_right _ _ (some_prefix-at (λ r. f (n ∷ r)) q p x.1 (subst (λ k. f (k ∷ q) ≡ true) (same_name m n x.0) is))

swap_or : (a b c d : Bool) → ((a || b) || (c || d)) ≡ ((a || c) || (b || d))
swap_or true b c d = refl
swap_or false true true d = refl
swap_or false true false d = refl
swap_or false false c d = refl

pub some_prefix-or : (f g : List (List ℕ) → Bool) (p : List (List ℕ)) → some_prefix (λ q. f q || g q) p ≡ (some_prefix f p || some_prefix g p)
some_prefix-or f g [] = refl
some_prefix-or f g (n ∷ p) =
    ap (λ b. (f [] || g []) || b) (some_prefix-or (λ q. f (n ∷ q)) (λ q. g (n ∷ q)) p) ∙ swap_or (f []) (g []) (some_prefix (λ q. f (n ∷ q)) p) (some_prefix (λ q. g (n ∷ q)) p)
