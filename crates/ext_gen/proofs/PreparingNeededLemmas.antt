-- The generations in which files of a host are kept, collected one by one.
use Rattle.std.proofs.Common.{◌≡◌, ℕ, ◌+◌, ◌<◌, Bool, true, false, ◌||◌, List, [], ◌∷◌, ◌++◌, length, take, get_or, refl, sym, ap, ◌∙◌}
use Rattle.std.specs.List.{list_any}
use Rattle.ext_host.specs.declared.past.Past.{Past}
use Rattle.ext_gen.specs.Preparing.{has_file_in, trees_of_pasts}
use Rattle.ext_store_files.proofs.ForCallers.{any_append}
use Rattle.ext_gen.proofs.PreparingListLemmas.{one_more}

or_parts : (a b c : Bool) → ((a || b) || c) ≡ (a || (b || c))
or_parts true b c = refl
or_parts false b c = refl

pub or_none : (b : Bool) → (b || false) ≡ b
or_none true = refl
or_none false = refl

-- with those of one entry more
pub any_more : {X : Type 0} (f : X → Bool) (xs : List X) (i : ℕ) (x : X) (start mid new : Bool) → i < length xs → x ≡ get_or xs i x → mid ≡ (start || list_any f (take i xs)) → new ≡ (mid || f x)
    → new ≡ (start || list_any f (take (i + 1) xs))
any_more f xs i x start mid new inside is before here =
    here ∙ ap (λ b. b || f x) before ∙ or_parts start (list_any f (take i xs)) (f x)
    ∙ ap (λ b. start || (list_any f (take i xs) || b)) (sym (or_none (f x)))
    ∙ ap (λ b. start || b) (sym (any_append f (take i xs) (x ∷ [])) ∙ ap (list_any f) (sym (one_more xs i x inside is)))

past_any : (n : ℕ) (pasts : List Past) (past : Past)
    → list_any (has_file_in n) (trees_of_pasts (pasts ++ past ∷ [])) ≡ (list_any (has_file_in n) (trees_of_pasts pasts) || (has_file_in n past.root || has_file_in n past.lower))
past_any n [] past = ap (λ b. has_file_in n past.root || b) (or_none (has_file_in n past.lower))
past_any n (q ∷ pasts) past =
    ap (λ b. has_file_in n q.root || (has_file_in n q.lower || b)) (past_any n pasts past)
    ∙ ap (λ b. has_file_in n q.root || b)
    (sym (or_parts (has_file_in n q.lower) (list_any (has_file_in n) (trees_of_pasts pasts)) (has_file_in n past.root || has_file_in n past.lower)))
    ∙ sym (or_parts (has_file_in n q.root) (has_file_in n q.lower || list_any (has_file_in n) (trees_of_pasts pasts)) (has_file_in n past.root || has_file_in n past.lower))

-- with those of one past tree more
pub past_more : (n : ℕ) (pasts : List Past) (i : ℕ) (past : Past) (start mid new : Bool) → i < length pasts → past ≡ get_or pasts i past
    → mid ≡ (start || list_any (has_file_in n) (trees_of_pasts (take i pasts))) → new ≡ (mid || (has_file_in n past.root || has_file_in n past.lower))
    → new ≡ (start || list_any (has_file_in n) (trees_of_pasts (take (i + 1) pasts)))
past_more n pasts i past start mid new inside is before here =
    here ∙ ap (λ b. b || (has_file_in n past.root || has_file_in n past.lower)) before
    ∙ or_parts start (list_any (has_file_in n) (trees_of_pasts (take i pasts))) (has_file_in n past.root || has_file_in n past.lower)
    ∙ ap (λ b. start || b) (sym (past_any n (take i pasts) past) ∙ ap (λ l. list_any (has_file_in n) (trees_of_pasts l)) (sym (one_more pasts i past inside is)))

-- two trees in turn
pub both_trees : (start first second : Bool) (mid new : Bool) → mid ≡ (start || first) → new ≡ (mid || second) → new ≡ (start || (first || second))
both_trees start first second mid new one two = two ∙ ap (λ b. b || second) one ∙ or_parts start first second

-- and all of a host
pub three_parts : (start first second third : Bool) (a b new : Bool) → a ≡ (start || first) → b ≡ (a || second) → new ≡ (b || third) → new ≡ (start || (first || (second || third)))
three_parts start first second third a b new one two three =
    both_trees start first (second || third) a new one (both_trees a second third b new two three)
