-- How a path compares with a prefix of it and one more name.
use Rattle.std.proofs.Common.{◌≡◌, ℕ, ◌<◌, Bool, true, false, ◌&&◌, ◌||◌, List, [], ◌∷◌, ◌++◌, length, Option, is_some, refl, sym, ap, subst, ◌∙◌, arith}
use Rattle.std.specs.Prelude.{nat_lt, slice_get}
use Rattle.std.specs.Option.{MatchOption}
use mathlib.Core.Logic.{inl, inr}
use Rattle.std.proofs.lemmas.Bool.{false≢true, and_left, and_parts, and_right, lt-ltb, le-ltb}
use Rattle.std.proofs.lemmas.Option.{slice_get_cases}
use Rattle.std.specs.declared.cmp.Ordering.{Ordering}
use Rattle.std.specs.declared.cmp.Ordering.TheVariants.{Less, Equal, Greater}
use Rattle.std.specs.Ordering.{is_lt, ordering_then, eq_by_cmp}
use Rattle.ext_text.specs.Name.{bytes_cmp}
use Rattle.ext_text.specs.Path.{path_cmp, parent, is_prefix}
use Rattle.ext_tree.specs.Following.{name_comes_after, stands_after}
use Rattle.ext_tree.specs.Tree.{is_directory}
use Rattle.ext_tree.specs.declared.entry.Entry.{Entry}
use Rattle.ext_tree.proofs.PartLemmas.{parent_child, prefix_append}
use Rattle.ext_text.proofs.ForCallers.{is_equal, names_exact, names_tied}

-- what is decided by the name that a path has after a prefix, if there is one: a smaller name, or a directory there
abbrev pub Decides : {C : Type 0} → Option (List ℕ) → List ℕ → Entry C → Bool → Type 0
Decides at n e b = MatchOption at (b ≡ is_directory e) (λ m. b ≡ is_lt (bytes_cmp m n))

-- a list of names stands before a single one exactly where its first name does
first_less : (r : Ordering) (q : List (List ℕ)) (b : Bool) → is_lt r ≡ (is_lt (ordering_then r (path_cmp q [])) && (true || b))
first_less Less q b = refl
first_less Equal [] b = refl
first_less Equal (m ∷ q) b = refl
first_less Greater q b = refl

-- names that both begin with do not count
past_prefix : {C : Type 0} (p q : List (List ℕ)) (n : List ℕ) (e : Entry C) (b : Bool) → is_prefix p q ≡ true → Decides (slice_get q (length p)) n e b
    → b ≡ (is_lt (path_cmp q (p ++ n ∷ [])) && (is_some (slice_get q (length p)) || is_directory e))
past_prefix [] [] n e b prefix decided = decided
past_prefix [] (m ∷ q) n e b prefix decided = decided ∙ first_less (bytes_cmp m n) q (is_directory e)
past_prefix (r ∷ p) [] n e b prefix decided = absurd (false≢true prefix)
past_prefix (r ∷ p) (m ∷ q) n e b prefix decided =
    let parts = and_parts (eq_by_cmp bytes_cmp r m) (is_prefix p q) prefix in
    let same : r ≡ m = names_exact r m (is_equal _ parts.0) in
    let tied : bytes_cmp m r ≡ Equal = ap (bytes_cmp m) same ∙ names_tied m in
    past_prefix p q n e b parts.1 decided
    ∙ ap (λ o. is_lt (ordering_then o (path_cmp q (p ++ n ∷ []))) && (is_some (slice_get q (length p)) || is_directory e)) (sym tied)

some_within : {X : Type 0} (xs : List X) (k : ℕ) → is_some (slice_get xs k) ≡ nat_lt k (length xs)
some_within xs k = elim ((slice_get_cases xs k).1) [
  | inl there ↦ ap is_some there.2 ∙ sym (lt-ltb k (length xs) there.1)
  | inr past ↦ ap is_some past.1 ∙ sym (le-ltb k (length xs) past.0)
]

-- it is what the whole paths decide
pub stands_below : {C : Type 0} (path p q : List (List ℕ)) (n : List ℕ) (e : Entry C) (b : Bool) → path ≡ p ++ n ∷ [] → parent path ≡ p → is_prefix p q ≡ true → Decides (slice_get q (length p)) n e b → b ≡ stands_after (q, e) path
stands_below path p q n e b whole directory prefix decided =
    past_prefix p q n e b prefix decided
    ∙ ap (λ x. is_lt (path_cmp q x) && (is_some (slice_get q (length p)) || is_directory e)) (sym whole)
    ∙ ap (λ f. is_lt (path_cmp q path) && (f && (is_some (slice_get q (length p)) || is_directory e))) (sym prefix)
    ∙ ap (λ d. is_lt (path_cmp q path) && (is_prefix p q && (d || is_directory e))) (some_within q (length p))
    ∙ ap (λ r. is_lt (path_cmp q path) && (is_prefix r q && (nat_lt (length r) (length q) || is_directory e))) (sym directory)

-- the root stands after no path
pub no_root : {C : Type 0} (path q : List (List ℕ)) (e : Entry C) → length path < 1 → false ≡ stands_after (q, e) path
no_root [] [] e none = refl
no_root [] (m ∷ q) e none = refl
no_root (n ∷ path) q e none = absurd (omega arith)

-- what the rest of a path decides, after names that both begin with
rest_decides : {C : Type 0} (p rest : List (List ℕ)) (n : List ℕ) (e : Entry C) (b : Bool) → b ≡ name_comes_after rest e n → Decides (slice_get (p ++ rest) (length p)) n e b
rest_decides [] [] n e b is = is
rest_decides [] (m ∷ rest) n e b is = is
rest_decides (k ∷ p) rest n e b is = rest_decides p rest n e b is

-- the last path begins with the path's parent: what follows decides
pub stands_rest : {C : Type 0} (path p q rest : List (List ℕ)) (n : List ℕ) (e : Entry C) (b : Bool) → path ≡ p ++ n ∷ [] → q ≡ p ++ rest → b ≡ name_comes_after rest e n → b ≡ stands_after (q, e) path
stands_rest path p q rest n e b whole split decided =
    stands_below path p q n e b whole (ap parent whole ∙ parent_child p n)
    (ap (is_prefix p) split ∙ prefix_append p rest)
    (subst (λ (l : List (List ℕ)). Decides (slice_get l (length p)) n e b) (sym split) (rest_decides p rest n e b decided))

-- and where it does not, the path stands after no such path
pub stands_apart : {C : Type 0} (path p q : List (List ℕ)) (n : List ℕ) (e : Entry C) → path ≡ p ++ n ∷ [] → is_prefix p q ≡ false → false ≡ stands_after (q, e) path
stands_apart path p q n e whole apart =
    let directory : parent path ≡ p = ap parent whole ∙ parent_child p n in
    sym (and_right (is_lt (path_cmp q path)) _ (and_left (is_prefix (parent path) q) (nat_lt (length (parent path)) (length q) || is_directory e) (ap (λ (d : List (List ℕ)). is_prefix d q) directory ∙ apart)))
