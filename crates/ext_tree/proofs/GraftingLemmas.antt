-- How a part is hung into a tree: what stands above the path, name by name, and how many entries there are.
use Rattle.std.proofs.Common.{◌≡◌, ℕ, suc, ◌+◌, ◌-◌, ◌<◌, ◌≤◌, Bool, true, false, cond, not, ◌&&◌, List, [], ◌∷◌, ◌++◌, length, get_or, take, drop, Some, None, is_some, refl, sym, ap, ◌∙◌, subst, arith, length-append, length-take, length-drop, append_assoc, append-nil}
use mathlib.Core.Logic.{inl, inr}
use Rattle.std.specs.List.{AllByRecursion, filter, splice}
use Rattle.std.specs.Ordering.{is_lt, ordering_reverse, eq_by_cmp}
use Rattle.std.specs.FinMap.Entries.{where_key}
use Rattle.std.proofs.lemmas.Bool.{false≢true, cases_lt}
use Rattle.std.proofs.lemmas.Option.{slice_get_read}
use Rattle.ext_text.specs.Path.{IsPath, path_cmp, is_prefix}
use Rattle.ext_text.specs.Order.{paths_total}
use Rattle.ext_text.proofs.ForCallers.{is_less, same_path, prefix_take, proper_first, take_prefix}
use Rattle.ext_tree.specs.declared.entry.Entry.{Entry}
use Rattle.ext_tree.specs.declared.tree.TreeErr.{TreeErr}
use Rattle.ext_tree.specs.declared.tree.TreeErr.TheVariants.{OutOfMemory, Exists, NotDirectory, Limit, Path}
use Rattle.ext_tree.specs.Graft.{Fits, IsBlocked, IsTooLong, is_non_directory_at, made}
use Rattle.ext_tree.specs.Grafting.{IsLongPath, StandsBelow, directories, joined}
use Rattle.ext_tree.specs.Slices.{is_after}
use Rattle.ext_tree.specs.Tree.{Entries, IsTree, lookup, is_directory_at}
use Rattle.ext_tree.proofs.InsertionPointLemmas.{find_there}
use Rattle.ext_tree.proofs.GraftLemmas.{directories_more, no_some}
use Rattle.ext_tree.proofs.PrefixLemmas.{directory_some, prefixes}

length_first : (k : ℕ) (p : List (List ℕ)) → k ≤ length p → length (take k p) ≡ k
length_first k p short = omega (arith, length-take k p)

-- fewer first names are a prefix of more
first_prefix : (j k : ℕ) (p : List (List ℕ)) → j ≤ k → k ≤ length p → is_prefix (take j p) (take k p) ≡ true
first_prefix j k p low high = prefix_take k (take j p) p (take_prefix j p) (omega (arith, length_first j p (omega arith)))

-- where nothing stands at one more name, nothing stands at more of them
pub none_further : {C : Type 0} (es : Entries C) (p : List (List ℕ)) (standing : ℕ) → IsTree es → standing + 1 < length p → ((k : ℕ) → 0 < k → k ≤ standing → is_directory_at (lookup es (take k p)) ≡ true) → lookup es (take (standing + 1) p) ≡ None → StandsBelow es p standing
none_further {C = C} es p standing tree short there none = record { not_all = omega arith; there = there; absent = absent }
  where
    absent : (k : ℕ) → standing < k → k < length p → lookup es (take k p) ≡ None
    absent k more less = elim (cases_lt (standing + 1) k) [
      | inl further ↦ no_some (lookup es (take k p)) (λ some.
          let first : length (take (standing + 1) p) ≡ standing + 1 = length_first (standing + 1) p (omega arith) in
          let whole : length (take k p) ≡ k = length_first k p (omega arith) in
          let directory = prefixes es tree (take (standing + 1) p) (take k p) some (first_prefix (standing + 1) k p (omega arith) (omega arith)) (omega arith) in
          false≢true (sym (ap is_some none) ∙ directory_some es (take (standing + 1) p) (omega arith) directory))
      | inr last ↦
          let same : k ≡ standing + 1 = omega arith in
          ap (λ n. lookup es (take n p)) same ∙ none
    ]

-- one more directory
pub directory_further : {C : Type 0} (es : Entries C) (p : List (List ℕ)) (standing : ℕ) → ((k : ℕ) → 0 < k → k ≤ standing → is_directory_at (lookup es (take k p)) ≡ true) → is_directory_at (lookup es (take (standing + 1) p)) ≡ true → (k : ℕ) → 0 < k → k ≤ standing + 1 → is_directory_at (lookup es (take k p)) ≡ true
directory_further es p standing there here k some low = elim (cases_lt standing k) [
  | inl last ↦
      let same : k ≡ standing + 1 = omega arith in
      ap (λ n. is_directory_at (lookup es (take n p))) same ∙ here
  | inr before ↦ there k some before
]

-- an entry that is no directory bars the path
pub blocked_here : {C : Type 0} (es : Entries C) (p : List (List ℕ)) (count : ℕ) → count < length p → is_non_directory_at (lookup es (take count p)) ≡ true → IsBlocked es p
blocked_here es p count short other =
    let long : length (take count p) ≡ count = length_first count p (omega arith) in
    (take count p, (proper_first (take count p) p).1 (ap (λ n. take n p) (sym long), omega arith), other)

-- one more made directory
pub directories_grown : {C : Type 0} (p : List (List ℕ)) (standing count : ℕ) (first old new : Entries C) → standing ≤ count → old ≡ first ++ directories p (suc standing) (count - standing) → new ≡ old ++ (take (count + 1) p, made) ∷ [] → new ≡ first ++ directories p (suc standing) (count + 1 - standing)
directories_grown {C = C} p standing count first old new low so_far push =
    let more : count + 1 - standing ≡ suc (count - standing) = omega arith in
    let last : suc standing + (count - standing) ≡ count + 1 = omega arith in
    push ∙ ap (λ es. es ++ (take (count + 1) p, made) ∷ []) so_far
    ∙ append_assoc first (directories {C = C} p (suc standing) (count - standing)) ((take (count + 1) p, made) ∷ [])
    ∙ ap (λ n. first ++ (directories {C = C} p (suc standing) (count - standing) ++ (take n p, made) ∷ [])) (sym last)
    ∙ ap (λ es. first ++ es) (sym (directories_more p (suc standing) (count - standing)))
    ∙ ap (λ n. first ++ directories {C = C} p (suc standing) n) (sym more)

-- a weaker reason
pub long_path : {P Q : Type 0} (e : TreeErr) → (P → Q) → IsLongPath P e → IsLongPath Q e
long_path OutOfMemory weaker long = tt
long_path Exists weaker long = long
long_path NotDirectory weaker long = long
long_path Path weaker long = weaker long
long_path Limit weaker long = long

-- a list whose items were all taken
pub all_yielded : {X : Type 0} (all done rest : List X) → all ≡ done ++ rest → length rest ≡ 0 → all ≡ done
all_yielded all done [] split none = split ∙ append-nil done
all_yielded all done (x ∷ rest) split none = absurd (omega arith)

-- the path of an entry of the part that grows too long
pub too_long_at : {C : Type 0} (p : List (List ℕ)) (u : Entries C) (i : ℕ) (e : List (List ℕ) × Entry C) → IsTree u → i < length u → e ≡ get_or u i e → ¬ IsPath (p ++ e.0) → IsTooLong p u
too_long_at p u i e tree within is long =
    (e.0, ap is_some (find_there path_cmp paths_total u i e tree.sorted (slice_get_read u (length u) i e refl within is)), long)

-- what holds of each entry of the part holds of each path that is found
pub all_fit : {C : Type 0} (p : List (List ℕ)) (u : Entries C) → AllByRecursion (λ e. IsPath (p ++ e.0)) u → Fits p u
all_fit p [] all q there = absurd (false≢true there)
all_fit p (e ∷ u) all q there =
    elim (eq_by_cmp path_cmp q e.0) as (λ b. eq_by_cmp path_cmp q e.0 ≡ b → is_some (cond b (Some e.1) (lookup u q)) ≡ true → IsPath (p ++ q)) [
      | true ↦ λ tied _. subst (λ r. IsPath (p ++ r)) (sym (same_path q e.0 tied)) all.0
      | false ↦ λ _ rest. all_fit p u all.1 q rest
    ] refl there

-- of a list what passes one test and what passes another, where none passes both
length-both : {X : Type 0} (f g : X → Bool) → ((x : X) → f x ≡ true → g x ≡ false) → (xs : List X) → length (filter f xs) + length (filter g xs) ≤ length xs
length-both f g apart [] = omega arith
length-both f g apart (x ∷ xs) =
    let rest : length (filter f xs) + length (filter g xs) ≤ length xs = length-both f g apart xs in
    elim (f x) as (λ b. f x ≡ b → length (cond b (x ∷ filter f xs) (filter f xs)) + length (cond (g x) (x ∷ filter g xs) (filter g xs)) ≤ suc (length xs)) [
      | true ↦ λ passed. subst (λ c. length (x ∷ filter f xs) + length (cond c (x ∷ filter g xs) (filter g xs)) ≤ suc (length xs)) (sym (apart x passed)) (omega arith)
      | false ↦ λ _. elim (g x) as (λ c. length (filter f xs) + length (cond c (x ∷ filter g xs) (filter g xs)) ≤ suc (length xs)) [
        | true ↦ omega arith
        | false ↦ omega arith
      ]
    ] refl

-- the entries before the path end where those after it and all below it begin, or before
pub span_order : {C : Type 0} (es : Entries C) (p : List (List ℕ)) (from to : ℕ) → from ≤ length es → to ≤ length es → take from es ≡ where_key path_cmp (λ q. is_lt (path_cmp q p)) es → drop to es ≡ where_key path_cmp (is_after p) es → from ≤ to
span_order es p from to low high first last =
    omega (arith, length-take from es, length-drop to es, ap length first, ap length last, length-both (λ e. is_lt (path_cmp e.0 p)) (λ e. is_after p e.0) (λ e less. λ i. is_lt ((paths_total.antisymm p e.0 ∙ ap ordering_reverse (is_less _ less)) i) && not (is_prefix p e.0)) es)

-- the same asked of the list and the path as they are seen through references
pub seen_before : {C : Type 0} {es seen : Entries C} {p names : List (List ℕ)} (from : ℕ) → seen ≡ es → names ≡ p → take from seen ≡ where_key path_cmp (λ q. is_lt (path_cmp q names)) seen → take from es ≡ where_key path_cmp (λ q. is_lt (path_cmp q p)) es
seen_before from same named first = (λ i. take from (sym same i)) ∙ first ∙ (λ i. where_key path_cmp (λ q. is_lt (path_cmp q (named i))) (same i))

pub seen_after : {C : Type 0} {es seen : Entries C} {p names : List (List ℕ)} (to : ℕ) → seen ≡ es → names ≡ p → drop to seen ≡ where_key path_cmp (is_after names) seen → drop to es ≡ where_key path_cmp (is_after p) es
seen_after to same named last = (λ i. drop to (sym same i)) ∙ last ∙ (λ i. where_key path_cmp (is_after (named i)) (same i))

-- what is put there makes the whole
pub spliced_joined : {C : Type 0} (es new : Entries C) (p : List (List ℕ)) (from to : ℕ) → take from es ≡ where_key path_cmp (λ q. is_lt (path_cmp q p)) es → drop to es ≡ where_key path_cmp (is_after p) es → splice es from to new ≡ joined p es new
spliced_joined es new p from to first last = λ i. first i ++ (new ++ last i)

pub length-joined : {C : Type 0} (es new : Entries C) (p : List (List ℕ)) (from to : ℕ) → from ≤ length es → to ≤ length es → take from es ≡ where_key path_cmp (λ q. is_lt (path_cmp q p)) es → drop to es ≡ where_key path_cmp (is_after p) es → length (joined p es new) ≡ from + (length es - to) + length new
length-joined es new p from to low high first last =
    sym (ap length (spliced_joined es new p from to first last))
    ∙ (let whole : length (take from es ++ (new ++ drop to es)) ≡ length (take from es) + length (new ++ drop to es) = length-append (take from es) (new ++ drop to es) in
    let back : length (new ++ drop to es) ≡ length new + length (drop to es) = length-append new (drop to es) in
    omega (arith, length-take from es, length-drop to es))
