-- Look-ups among files and entries of which one was put, and among directories above them.
use Rattle.std.proofs.Common.{◌≡◌, ℕ, ◌+◌, ◌<◌, ◌≤◌, Bool, true, false, cond, not, ◌&&◌, ◌||◌, List, [], ◌∷◌, ◌++◌, length, map, take, Option, Some, None, refl, sym, ap, ◌∙◌, arith}
use Rattle.std.specs.Prelude.{nat_lt}
use Rattle.std.specs.Cmp.{both_ways}
use Rattle.std.specs.Map.{lookup}
use Rattle.std.specs.BTreeMap.{is_at}
use Rattle.std.specs.Option.{option_map, option_or}
use Rattle.std.specs.Ordering.{is_eq, ordering_reverse}
use Rattle.std.specs.declared.cmp.Ordering.{Ordering}
use Rattle.std.specs.declared.cmp.Ordering.TheVariants.{Less, Equal, Greater}
use Rattle.std.proofs.lemmas.Bool.{and_from, and_parts, false≢true, lt-ltb, ltb-true}
use Rattle.std.proofs.lemmas.List.{length-take-le, map-append}
use Rattle.std.proofs.lemmas.List.Folds.{list_any-append}
use Rattle.ext_attributes.specs.Attributes.{of_mode}
use Rattle.ext_text.specs.Order.{paths_total}
use Rattle.ext_text.specs.Path.{path_cmp, is_proper_prefix}
use Rattle.ext_text.proofs.ForCallers.{proper_first, same_path, tied_path}
use Rattle.ext_depot.specs.DepotCalls.{Puts}
use Rattle.ext_depot.specs.DepotView.{DepotView, file_at}
use Rattle.ext_tree.specs.Refusals.{is_root}
use Rattle.ext_tree.specs.Tree.{Entries}
use Rattle.ext_tree.specs.declared.entry.Entry.TheVariants.{Dir}
use Rattle.ext_tree.specs.declared.stamp.Stamp.{Stamp}
use Rattle.ext_sample.specs.Made.{MadeFile, has_made, is_above, made_bytes, made_file}
use Rattle.ext_sample.specs.Making.{PutsAbove, PutsAt, entry_at}
use Rattle.ext_sample.specs.Sample.{in_folder}

reversed : (r : Ordering) → is_eq (ordering_reverse r) ≡ is_eq r
reversed Less = refl
reversed Equal = refl
reversed Greater = refl

-- whether two paths are one, asked from either side
pub turned : (p q : List (List ℕ)) → is_at (path_cmp p) q ≡ is_at (path_cmp q) p
turned p q = ap is_eq (paths_total.antisymm p q) ∙ reversed (path_cmp q p)

-- a key that was there adds no entry, and another one adds one
pub one_more : (there : Bool) (old new : ℕ) → new ≡ old + cond there 0 1 → new ≤ old + 1
one_more true old new is = omega (arith, is)
one_more false old new is = omega (arith, is)

-- a look-up in two lists, one after the other
pub lookup_join : {K X : Type 0} (test : K → Bool) (es fs : List (K × X)) → lookup test (es ++ fs) ≡ option_or (lookup test es) (lookup test fs)
lookup_join test [] fs = refl
lookup_join test (e ∷ es) fs =
    elim (test e.0) as (λ b. cond b (Some e.1) (lookup test (es ++ fs)) ≡ option_or (cond b (Some e.1) (lookup test es)) (lookup test fs)) [
      | true ↦ refl
      | false ↦ lookup_join test es fs
    ]

-- what counts before the old is found in one step or in two
one_later : {X Y : Type 0} (g : X → Y) (found : Option X) (here : Bool) (x : X) (old : Option Y) → option_or (option_map g found) (cond here (Some (g x)) old) ≡ option_or (option_map g (option_or found (cond here (Some x) None))) old
one_later g (Some y) here x old = refl
one_later g None true x old = refl
one_later g None false x old = refl

-- the last of the files is put, and those before it are left
pub file_put : (before left : List MadeFile) (file : MadeFile) (old new : Entries Stamp) → left ≡ before ++ file ∷ [] → PutsAt old new file.0 (made_file file.1) → (q : List (List ℕ))
    → option_or (option_map made_file (made_bytes before q)) (entry_at new q) ≡ option_or (option_map made_file (made_bytes left q)) (entry_at old q)
file_put before left file old new is puts q =
    ap (option_or (option_map made_file (made_bytes before q))) (puts.each q)
    ∙ one_later made_file (made_bytes before q) (is_at (path_cmp q) file.0) file.1 (entry_at old q)
    ∙ ap (λ o. option_or (option_map made_file o) (entry_at old q)) (sym (lookup_join (is_at (path_cmp q)) before (file ∷ [])) ∙ ap (λ fs. made_bytes fs q) (sym is))

same_found : {X : Type 0} (found : Option X) (here : Bool) (x : X) (old : Option X) → option_or found (cond here (Some x) old) ≡ option_or (option_or found (cond here (Some x) None)) old
same_found (Some y) here x old = refl
same_found None true x old = refl
same_found None false x old = refl

-- the same of a depot
pub depot_put : (name : List ℕ) (before left : List MadeFile) (file : MadeFile) (old new : DepotView) → left ≡ before ++ file ∷ [] → Puts old new (name ∷ file.0) file.1 → (q : List (List ℕ))
    → option_or (made_bytes (map (in_folder name) before) q) (file_at new q) ≡ option_or (made_bytes (map (in_folder name) left) q) (file_at old q)
depot_put name before left file old new is puts q =
    ap (option_or (made_bytes (map (in_folder name) before) q)) (puts.files q ∙ ap (λ b. cond b (Some file.1) (file_at old q)) (turned (name ∷ file.0) q))
    ∙ same_found (made_bytes (map (in_folder name) before) q) (is_at (path_cmp q) (name ∷ file.0)) file.1 (file_at old q)
    ∙ ap (λ o. option_or o (file_at old q)) (sym (lookup_join (is_at (path_cmp q)) (map (in_folder name) before) (in_folder name file ∷ [])) ∙ ap (λ fs. made_bytes fs q) (sym (map-append (in_folder name) before (file ∷ [])) ∙ ap (map (in_folder name)) (sym is)))

either : {A : Type 0} (a b : Bool) (x y : A) → cond b x (cond a x y) ≡ cond (a || b) x y
either true true x y = refl
either true false x y = refl
either false b x y = refl

or_none : (b : Bool) → (b || false) ≡ b
or_none true = refl
or_none false = refl

-- one file more has its directories
pub directories_put : (files : List MadeFile) (i : ℕ) (file : MadeFile) (start old new : Entries Stamp) → take (i + 1) files ≡ take i files ++ file ∷ [] → ((q : List (List ℕ)) → entry_at old q ≡ cond (has_made (take i files) q) (Some (Dir (of_mode 493))) (entry_at start q))
    → PutsAbove old new file.0 → (q : List (List ℕ)) → entry_at new q ≡ cond (has_made (take (i + 1) files) q) (Some (Dir (of_mode 493))) (entry_at start q)
directories_put files i file start old new more before puts q =
    puts.each q ∙ ap (cond (is_above q file.0) (Some (Dir (of_mode 493)))) (before q) ∙ either (has_made (take i files) q) (is_above q file.0) (Some (Dir (of_mode 493))) (entry_at start q)
    ∙ ap (λ b. cond b (Some (Dir (of_mode 493))) (entry_at start q)) (
    ap (λ b. has_made (take i files) q || b) (sym (or_none (is_above q file.0)))
    ∙ sym (list_any-append (λ (f : MadeFile). is_above q f.0) (take i files) (file ∷ [])) ∙ ap (λ fs. has_made fs q) (sym more))

-- a directory above the path, of fewer names than k
abbrev pub above_to : List (List ℕ) → ℕ → List (List ℕ) → Bool
above_to path k q = is_above q path && nat_lt (length q) k

-- what is above a path is a first part of it, and neither the root nor the path
pub record IsAbove (q path : List (List ℕ)) : Type 0 where
  pub some : 0 < length q
  pub shorter : length q < length path
  pub first : q ≡ take (length q) path

some_names : (q : List (List ℕ)) → not (is_root q) ≡ true → 0 < length q
some_names [] not_root = absurd (false≢true not_root)
some_names (n ∷ q) not_root = omega arith

no_root : (q : List (List ℕ)) → 0 < length q → not (is_root q) ≡ true
no_root [] some = absurd (omega arith)
no_root (n ∷ q) some = refl

pub above_is : (q path : List (List ℕ)) → is_above q path ≡ true → IsAbove q path
above_is q path is =
    let both = and_parts (not (is_root q)) (is_proper_prefix q path) is in
    let proper = (proper_first q path).0 both.1 in
    record { some = some_names q both.0; shorter = proper.1; first = proper.0 }

pub is_above_from : (q path : List (List ℕ)) → IsAbove q path → is_above q path ≡ true
is_above_from q path is = and_from _ _ (no_root q is.some) ((proper_first q path).1 (is.first, is.shorter))

-- no directory has no name
pub above_none : (path q : List (List ℕ)) → above_to path 1 q ≡ false
above_none path q = both_ways (above_to path 1 q) false
    (λ is. let both = and_parts (is_above q path) (nat_lt (length q) 1) is in absurd (omega (arith, (above_is q path both.0).some, ltb-true (length q) 1 both.1)))
    (λ no. absurd (false≢true no))

-- all of them have fewer names than the path
pub above_all : (path q : List (List ℕ)) (k : ℕ) → length path ≤ k → above_to path k q ≡ is_above q path
above_all path q k whole = both_ways (above_to path k q) (is_above q path)
    (λ is. (and_parts (is_above q path) (nat_lt (length q) k) is).0)
    (λ is. and_from _ _ is (lt-ltb (length q) k (omega (arith, (above_is q path is).shorter, whole))))

not_less : (a b : ℕ) → a < b + 1 → (a < b → ⊥) → a ≡ b
not_less a b low never = omega arith

-- those of one name more are the one that has so many, and those before
above_more : (path q : List (List ℕ)) (k : ℕ) → 0 < k → k < length path → (above_to path k q || is_at (path_cmp q) (take k path)) ≡ above_to path (k + 1) q
above_more path q k some within = both_ways _ _ there back
  where
    there : (above_to path k q || is_at (path_cmp q) (take k path)) ≡ true → above_to path (k + 1) q ≡ true
    there is =
        elim (above_to path k q) as (λ b. above_to path k q ≡ b → (b || is_at (path_cmp q) (take k path)) ≡ true → above_to path (k + 1) q ≡ true) [
          | true ↦ λ before _. let both = and_parts (is_above q path) (nat_lt (length q) k) before in and_from _ _ both.0 (lt-ltb (length q) (k + 1) (omega (arith, ltb-true (length q) k both.1)))
          | false ↦ λ _ here.
              let same = same_path q (take k path) here in
              let long : length q ≡ k = ap length same ∙ length-take-le k path (omega arith) in
              and_from _ _ (is_above_from q path (record { some = omega (arith, long); shorter = omega (arith, long); first = same ∙ ap (λ n. take n path) (sym long) })) (lt-ltb (length q) (k + 1) (omega (arith, long)))
        ] refl is

    back : above_to path (k + 1) q ≡ true → (above_to path k q || is_at (path_cmp q) (take k path)) ≡ true
    back is =
        let both = and_parts (is_above q path) (nat_lt (length q) (k + 1)) is in
        let above = above_is q path both.0 in
        elim (above_to path k q) as (λ b. above_to path k q ≡ b → (b || is_at (path_cmp q) (take k path)) ≡ true) [
          | true ↦ λ _. refl
          | false ↦ λ not_before.
              let long : length q ≡ k = not_less (length q) k (ltb-true (length q) (k + 1) both.1) (λ less. false≢true (sym not_before ∙ and_from _ _ both.0 (lt-ltb (length q) k less))) in
              tied_path q (take k path) (above.first ∙ ap (λ n. take n path) long)
        ] refl

-- the directory of so many names is put
pub above_put : (path q : List (List ℕ)) (k : ℕ) (start old new : Entries Stamp) → 0 < k → k < length path → PutsAt old new (take k path) (Dir (of_mode 493))
    → entry_at old q ≡ cond (above_to path k q) (Some (Dir (of_mode 493))) (entry_at start q) → entry_at new q ≡ cond (above_to path (k + 1) q) (Some (Dir (of_mode 493))) (entry_at start q)
above_put path q k start old new some within puts before =
    puts.each q ∙ ap (cond (is_at (path_cmp q) (take k path)) (Some (Dir (of_mode 493)))) before
    ∙ either (above_to path k q) (is_at (path_cmp q) (take k path)) (Some (Dir (of_mode 493))) (entry_at start q)
    ∙ ap (λ b. cond b (Some (Dir (of_mode 493))) (entry_at start q)) (above_more path q k some within)
