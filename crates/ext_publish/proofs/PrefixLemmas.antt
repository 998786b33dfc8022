-- Tests of the prefixes of a path, and names in one folder.
use Rattle.std.proofs.Common.{◌≡◌, ◌≢◌, ℕ, Bool, true, false, ◌&&◌, List, [], ◌∷◌, ◌++◌, length, drop, refl, sym, ap, ◌∙◌, subst, arith, length-append}
use Rattle.std.specs.Prelude.{codes}
use Rattle.std.proofs.lemmas.Bool.{false≢true, and_parts, and_from}
use Rattle.std.specs.Ordering.{eq_by_cmp}
use Rattle.ext_text.specs.Name.{bytes_cmp}
use Rattle.ext_text.specs.Path.{is_prefix, path_cmp}
use Rattle.ext_text.proofs.ForCallers.{same_name, tied_name, same_path, prefix_short}
use Rattle.ext_disk.specs.Disk.{at_prefixes, at_proper_prefixes}
use Rattle.ext_published.specs.Names.{coming_manifest_name, manifest_name, tree_text_name}

-- what follows the first elements
pub drop_back : {A : Type 0} (xs ys : List A) → drop (length xs) (xs ++ ys) ≡ ys
drop_back [] ys = refl
drop_back (x ∷ xs) ys = drop_back xs ys

and_true : (b : Bool) → (b && true) ≡ b
and_true true = refl
and_true false = refl

-- the proper prefixes of a path in a folder are those of the folder, and it
pub proper_child : (f : List (List ℕ) → Bool) (p : List (List ℕ)) (n : List ℕ) → at_proper_prefixes f (p ++ n ∷ []) ≡ at_prefixes f p
proper_child f [] n = and_true (f [])
proper_child f (m ∷ p) n = ap (λ b. f [] && b) (proper_child (λ q. f (m ∷ q)) p n)

-- a test that holds of the prefixes of a folder and of a path in it
pub at_child : (f : List (List ℕ) → Bool) (p : List (List ℕ)) (n : List ℕ) → at_prefixes f p ≡ true → f (p ++ n ∷ []) ≡ true → at_prefixes f (p ++ n ∷ []) ≡ true
at_child f [] n all here = and_from _ _ all here
at_child f (m ∷ p) n all here =
    let parts = and_parts (f []) (at_prefixes (λ q. f (m ∷ q)) p) all in
    and_from _ _ parts.0 (at_child (λ q. f (m ∷ q)) p n parts.1 here)

-- a weaker test of the prefixes
pub at_weaker : (f g : List (List ℕ) → Bool) (p : List (List ℕ)) → ((q : List (List ℕ)) → is_prefix q p ≡ true → f q ≡ true → g q ≡ true) → at_prefixes f p ≡ true → at_prefixes g p ≡ true
at_weaker f g [] gives all = gives [] refl all
at_weaker f g (n ∷ p) gives all =
    let parts = and_parts (f []) (at_prefixes (λ q. f (n ∷ q)) p) all in
    and_from _ _ (gives [] refl parts.0) (at_weaker (λ q. f (n ∷ q)) (λ q. g (n ∷ q)) p (λ q pre. gives (n ∷ q) (and_from _ _ (tied_name n n refl) pre)) parts.1)

-- no path in a folder is a prefix of it
pub longer_apart : (a : List (List ℕ)) (n : List ℕ) → is_prefix (a ++ n ∷ []) a ≡ false
longer_apart a n = none (is_prefix (a ++ n ∷ []) a) refl
  where
    none : (b : Bool) → is_prefix (a ++ n ∷ []) a ≡ b → is_prefix (a ++ n ∷ []) a ≡ false
    none false is = is
    none true is = absurd (omega (arith, prefix_short (a ++ n ∷ []) a is, length-append a (n ∷ [])))

-- nor is a prefix of a folder a path in it
pub above_child : (dir : List (List ℕ)) (n : List ℕ) (q : List (List ℕ)) → is_prefix q dir ≡ true → eq_by_cmp path_cmp (dir ++ n ∷ []) q ≡ false
above_child dir n q pre = none (eq_by_cmp path_cmp (dir ++ n ∷ []) q) refl
  where
    none : (b : Bool) → eq_by_cmp path_cmp (dir ++ n ∷ []) q ≡ b → eq_by_cmp path_cmp (dir ++ n ∷ []) q ≡ false
    none false is = is
    none true tied = absurd (false≢true (sym (longer_apart dir n) ∙ subst (λ r. is_prefix r dir ≡ true) (sym (same_path (dir ++ n ∷ []) q tied)) pre))

-- one name is no prefix of what stands at and below another one
pub names_apart : (dir : List (List ℕ)) (a b : List ℕ) (rest : List (List ℕ)) → a ≢ b → is_prefix (dir ++ a ∷ []) (dir ++ b ∷ rest) ≡ false
names_apart [] a b rest two = none (eq_by_cmp bytes_cmp a b) refl
  where
    none : (c : Bool) → eq_by_cmp bytes_cmp a b ≡ c → (eq_by_cmp bytes_cmp a b && true) ≡ false
    none false is = ap (λ c. c && true) is
    none true tied = absurd (two (same_name a b tied))
names_apart (n ∷ dir) a b rest two = ap (λ c. c && is_prefix (dir ++ a ∷ []) (dir ++ b ∷ rest)) (tied_name n n refl) ∙ names_apart dir a b rest two

-- a name with `.tree` after it is no manifest's
pub no_manifest_text : (name : List ℕ) → manifest_name ≢ tree_text_name name
no_manifest_text name same =
    let five : length name ≡ 5 = omega (arith, ap length same, length-append name (codes ".tree")) in
    false≢true (ap (λ l. eq_by_cmp bytes_cmp l (codes ".tree")) (ap (drop 5) same ∙ ap (λ n. drop n (tree_text_name name)) (sym five) ∙ drop_back name (codes ".tree")))

pub no_coming_text : (name : List ℕ) → coming_manifest_name ≢ tree_text_name name
no_coming_text name same =
    let ten : length name ≡ 10 = omega (arith, ap length same, length-append name (codes ".tree")) in
    false≢true (ap (λ l. eq_by_cmp bytes_cmp l (codes ".tree")) (ap (drop 10) same ∙ ap (λ n. drop n (tree_text_name name)) (sym ten) ∙ drop_back name (codes ".tree")))

pub two_manifests : coming_manifest_name ≢ manifest_name
two_manifests same = absurd (omega (arith, ap length same))
