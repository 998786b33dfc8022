-- Words have one first fault, for any grammar.
use Rattle.std.proofs.Common.{◌≡◌, ℕ, ◌+◌, ◌<◌, ◌≤◌, List, [], ◌∷◌, ◌++◌, length, refl, sym, ap, ◌∙◌, subst, arith, append_assoc, append-nil, length-append}
use Rattle.ext_cmd.specs.Fault.{BeginsWords, IsStuck, IsFault}

-- a grammar of lists of words
abbrev Grammar : Type 1
Grammar = List (List ℕ) → Type 0

-- the words after a first one
abbrev after : List ℕ → Grammar → Grammar
after word Is words = Is (word ∷ words)

stuck_inside : (Is : Grammar) (word : List ℕ) (prefix rest : List (List ℕ)) → IsStuck Is (word ∷ prefix) rest → IsStuck (after word Is) prefix rest
stuck_inside Is word prefix [] stuck = stuck
stuck_inside Is word prefix (next ∷ rest) stuck = λ begins. stuck (record { more = begins.more; whole = begins.whole })

-- after a prefix at which words are stuck no longer one begins words of the grammar
not_longer : (Is : Grammar) (p r q s : List (List ℕ)) → p ++ r ≡ q ++ s → length p < length q → IsStuck Is p r → BeginsWords Is q → ⊥
not_longer Is p r [] s same longer stuck begins = omega arith
not_longer Is [] [] (y ∷ q) s same longer stuck begins = cc
not_longer Is [] (x ∷ r) (y ∷ q) s same longer stuck begins =
    let first : y ≡ x = cc in
    stuck (record { more = q ++ begins.more; whole = subst (λ (w : List ℕ). Is (w ∷ (q ++ begins.more))) first begins.whole })
not_longer Is (x ∷ p) r (y ∷ q) s same longer stuck begins =
    let first : y ≡ x = cc in
    let rest : p ++ r ≡ q ++ s = cc in
    not_longer (after x Is) p r q s rest (omega arith) (stuck_inside Is x p r stuck)
    (record { more = begins.more; whole = subst (λ (w : List ℕ). Is (w ∷ (q ++ begins.more))) first begins.whole })

-- words have one fault at most
pub one_fault : (Is : Grammar) (words : List (List ℕ)) (first a b : ℕ) → IsFault Is words first a → IsFault Is words first b → a ≡ b
one_fault Is words first a b f g =
    let not_before : length f.prefix < length g.prefix → ⊥ = λ longer. not_longer Is f.prefix f.rest g.prefix g.rest (sym f.split ∙ g.split) longer f.stuck g.begins in
    let not_after : length g.prefix < length f.prefix → ⊥ = λ longer. not_longer Is g.prefix g.rest f.prefix f.rest (sym g.split ∙ f.split) longer g.stuck f.begins in
    let same : length f.prefix ≡ length g.prefix = omega arith in
    f.after ∙ ap (λ (n : ℕ). n + first) same ∙ sym g.after

-- words of the grammar have none
not_stuck : (Is : Grammar) (prefix rest : List (List ℕ)) → Is (prefix ++ rest) → IsStuck Is prefix rest → ⊥
not_stuck Is prefix [] is stuck = stuck (subst Is (append-nil prefix) is)
not_stuck Is prefix (word ∷ rest) is stuck = stuck (record { more = rest; whole = subst Is (sym (append_assoc prefix (word ∷ []) rest)) is })

-- words of a grammar have no fault
pub no_fault : (Is : Grammar) (words : List (List ℕ)) (first place : ℕ) → Is words → IsFault Is words first place → ⊥
no_fault Is words first place is fault = not_stuck Is fault.prefix fault.rest (subst Is fault.split is) fault.stuck

-- where words of the grammar begin with a prefix of words that are none of them, these have a fault there or later
fault_after : (Is : Grammar) (words prefix rest : List (List ℕ)) (first : ℕ) → words ≡ prefix ++ rest → (Is words → ⊥) → ((place : ℕ) → IsFault Is words first place → ⊥) → BeginsWords Is prefix → ⊥
fault_after Is words prefix [] first split not none begins =
    none (length prefix + first) (record {
      prefix = prefix;
      rest = [];
      split = split;
      after = refl;
      begins = begins;
      stuck = λ is. not (subst Is (sym (split ∙ append-nil prefix)) is);
    })
fault_after Is words prefix (word ∷ rest) first split not none begins =
    none (length prefix + first) (record {
      prefix = prefix;
      rest = word ∷ rest;
      split = split;
      after = refl;
      begins = begins;
      stuck = λ longer. fault_after Is words (prefix ++ word ∷ []) rest first (split ∙ sym (append_assoc prefix (word ∷ []) rest)) not none longer;
    })

-- words that are none of a grammar have a fault, where some words are
pub some_fault : (Is : Grammar) (words : List (List ℕ)) (first : ℕ) → BeginsWords Is [] → (Is words → ⊥) → ((place : ℕ) → IsFault Is words first place → ⊥) → ⊥
some_fault Is words first begins not none = fault_after Is words [] words first refl not none begins

pub fault_within : (Is : Grammar) (words : List (List ℕ)) (first place : ℕ) → IsFault Is words first place → (first ≤ place) × (place ≤ length words + first)
fault_within Is words first place fault = (omega (arith, fault.after), omega (arith, fault.after, ap length fault.split, length-append fault.prefix fault.rest))
