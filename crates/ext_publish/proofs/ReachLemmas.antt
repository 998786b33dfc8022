-- Which paths of the depot's folder lie where a run may change what stands.
use Rattle.std.proofs.Common.{◌≡◌, ◌⊎◌, ℕ, Bool, true, false, cond, ◌||◌, List, [], ◌∷◌, ◌++◌, Option, Some, None, refl, sym, ap, ◌∙◌, subst, inl, inr, append_assoc}
use Rattle.std.proofs.lemmas.Bool.{false≢true, and_parts, and_from, or_parts, or_from, or_left, or_cases}
use Rattle.std.proofs.lemmas.Option.{none-some, same_Some}
use Rattle.std.specs.Ordering.{eq_by_cmp}
use Rattle.ext_text.specs.Name.{bytes_cmp}
use Rattle.ext_text.specs.Path.{is_prefix}
use Rattle.ext_text.proofs.ForCallers.{prefix_self, prefix_trans, same_name, tied_name}
use Rattle.ext_disk.specs.Disk.{Tree, at_prefixes, is_file, is_folder}
use Rattle.ext_store_files.proofs.ForCallers.{prefix_append}
use Rattle.ext_published.specs.Asked.{AskedOf, IsPublishAsk}
use Rattle.ext_published.specs.Names.{coming_manifest_name, manifest_name, tree_text_name}
use Rattle.ext_published.specs.Places.{coming_manifest_path, published_manifest_path, published_resource_path, tree_text_path}
use Rattle.ext_publish.specs.Out.{first_file, first_missing, first_of_paths, folder_manifest, is_left_at, is_published_at, wrong_kind}
use Rattle.ext_publish.specs.Filling.{is_filled_at}
use Rattle.ext_publish.proofs.PrefixLemmas.{longer_apart, names_apart, no_coming_text, no_manifest_text, two_manifests}

-- a test that is not true is false
pub unless : (b : Bool) → ¬ (b ≡ true) → b ≡ false
unless false not_true = refl
unless true not_true = absurd (not_true refl)

-- of each test of left-overs: none holds, and one does
pub left_parts : (asked : AskedOf) (p : List (List ℕ)) → is_left_at asked p ≡ false
    → (is_prefix (coming_manifest_path asked) p ≡ false) × (is_prefix (tree_text_path asked) p ≡ false) × (is_prefix (published_resource_path asked) p ≡ false)
left_parts asked p out =
    let one = or_parts (is_prefix (coming_manifest_path asked) p) _ out in
    let two = or_parts (is_prefix (tree_text_path asked) p) _ one.1 in
    let three = or_parts (is_prefix (published_resource_path asked) p) false two.1 in
    (one.0, two.0, three.0)

pub left_from : (asked : AskedOf) (p : List (List ℕ)) → is_prefix (coming_manifest_path asked) p ≡ false → is_prefix (tree_text_path asked) p ≡ false → is_prefix (published_resource_path asked) p ≡ false → is_left_at asked p ≡ false
left_from asked p one two three = or_from _ _ one (or_from _ _ two (or_from _ _ three refl))

left_side : (asked : AskedOf) (p : List (List ℕ)) → is_left_at asked p ≡ true → (n : List ℕ) × (is_prefix (asked.folder ++ n ∷ []) p ≡ true)
left_side asked p is = first (or_cases (is_prefix (coming_manifest_path asked) p) _ is)
  where
    third : (is_prefix (published_resource_path asked) p ≡ true) ⊎ (false ≡ true) → (n : List ℕ) × (is_prefix (asked.folder ++ n ∷ []) p ≡ true)
    third (inl here) = (asked.name, here)
    third (inr none) = absurd (false≢true none)

    second : (is_prefix (tree_text_path asked) p ≡ true) ⊎ ((is_prefix (published_resource_path asked) p || false) ≡ true) → (n : List ℕ) × (is_prefix (asked.folder ++ n ∷ []) p ≡ true)
    second (inl here) = (tree_text_name asked.name, here)
    second (inr rest) = third (or_cases (is_prefix (published_resource_path asked) p) false rest)

    first : (is_prefix (coming_manifest_path asked) p ≡ true) ⊎ ((is_prefix (tree_text_path asked) p || (is_prefix (published_resource_path asked) p || false)) ≡ true) → (n : List ℕ) × (is_prefix (asked.folder ++ n ∷ []) p ≡ true)
    first (inl here) = (coming_manifest_name, here)
    first (inr rest) = second (or_cases (is_prefix (tree_text_path asked) p) _ rest)

-- what lies below a path in the folder lies below the folder, and is no prefix of it
below_folder : (dir : List (List ℕ)) (n : List ℕ) (p : List (List ℕ)) → is_prefix (dir ++ n ∷ []) p ≡ true → (is_prefix dir p ≡ true) × (is_prefix p dir ≡ false)
below_folder dir n p below = (
  prefix_trans dir (dir ++ n ∷ []) p (prefix_append dir (n ∷ [])) below,
  unless (is_prefix p dir) (λ above. false≢true (sym (longer_apart dir n) ∙ prefix_trans (dir ++ n ∷ []) p dir below above)),
)

-- a left-over is no prefix of the folder
pub left_no_prefix : (asked : AskedOf) (p : List (List ℕ)) → is_left_at asked p ≡ true → is_prefix p asked.folder ≡ false
left_no_prefix asked p is = let one = left_side asked p is in (below_folder asked.folder one.0 p one.1).1

-- nor is a prefix of the folder a left-over
pub above_not_left : (asked : AskedOf) (q : List (List ℕ)) → is_prefix q asked.folder ≡ true → is_left_at asked q ≡ false
above_not_left asked q above = unless (is_left_at asked q) (λ is. false≢true (sym (left_no_prefix asked q is) ∙ above))

-- what is published lies below the folder
pub published_below : (asked : AskedOf) (p : List (List ℕ)) → is_published_at asked p ≡ true → is_prefix asked.folder p ≡ true
published_below asked p is = side (or_cases (is_left_at asked p) (is_prefix (published_manifest_path asked) p) is)
  where
    side : (is_left_at asked p ≡ true) ⊎ (is_prefix (published_manifest_path asked) p ≡ true) → is_prefix asked.folder p ≡ true
    side (inl left) = let one = left_side asked p left in (below_folder asked.folder one.0 p one.1).0
    side (inr manifest) = (below_folder asked.folder manifest_name p manifest).0

pub published_parts : (asked : AskedOf) (p : List (List ℕ)) → is_published_at asked p ≡ false → (is_left_at asked p ≡ false) × (is_prefix (published_manifest_path asked) p ≡ false)
published_parts asked p out = or_parts (is_left_at asked p) (is_prefix (published_manifest_path asked) p) out

-- the manifest is no left-over, nor below one
pub manifest_not_left : (asked : AskedOf) → IsPublishAsk asked → is_left_at asked (published_manifest_path asked) ≡ false
manifest_not_left asked ask =
    left_from asked (published_manifest_path asked) (names_apart asked.folder coming_manifest_name manifest_name [] two_manifests)
    (names_apart asked.folder (tree_text_name asked.name) manifest_name [] (λ same. no_manifest_text asked.name (sym same)))
    (names_apart asked.folder asked.name manifest_name [] ask.name.no_manifest)

-- the coming manifest is one
pub coming_is_left : (asked : AskedOf) → is_left_at asked (coming_manifest_path asked) ≡ true
coming_is_left asked = or_left (is_prefix (coming_manifest_path asked) (coming_manifest_path asked)) _ (prefix_self (coming_manifest_path asked))

-- where the resource is written, left-overs stood
pub filled_is_left : (asked : AskedOf) (p : List (List ℕ)) → is_left_at asked p ≡ false → is_filled_at asked p ≡ false
filled_is_left asked p out = let parts = left_parts asked p out in or_from _ _ parts.1 parts.2

-- the coming manifest lies apart from the resource
pub coming_not_filled : (asked : AskedOf) → IsPublishAsk asked → is_filled_at asked (coming_manifest_path asked) ≡ false
coming_not_filled asked ask =
    or_from _ _ (names_apart asked.folder (tree_text_name asked.name) coming_manifest_name [] (λ same. no_coming_text asked.name (sym same)))
    (names_apart asked.folder asked.name coming_manifest_name [] ask.name.no_coming_manifest)

-- the first missing folder is one of the way
pub missing_prefix : (t : Tree) (a names first : List (List ℕ)) → first_missing t a names ≡ Some first → is_prefix first (a ++ names) ≡ true
missing_prefix t a [] first is = absurd (none-some first is)
missing_prefix t a (n ∷ names) first is = side (is_folder (t (a ++ n ∷ []))) is (missing_prefix t (a ++ n ∷ []) names first)
  where
    side : (b : Bool) → cond b (first_missing t (a ++ n ∷ []) names) (Some (a ++ n ∷ [])) ≡ Some first
        → (first_missing t (a ++ n ∷ []) names ≡ Some first → is_prefix first ((a ++ n ∷ []) ++ names) ≡ true) → is_prefix first (a ++ n ∷ names) ≡ true
    side true here rest = subst (λ q. is_prefix first q ≡ true) (append_assoc a (n ∷ []) names) (rest here)
    side false here rest =
        subst (λ q. is_prefix q (a ++ n ∷ names) ≡ true) (same_Some _ _ here)
        (subst (λ q. is_prefix (a ++ n ∷ []) q ≡ true) (append_assoc a (n ∷ []) names) (prefix_append (a ++ n ∷ []) names))

-- what lies apart from the first missing folder lies apart from what is published
pub missing_apart : (asked : AskedOf) (t : Tree) (first p : List (List ℕ)) → first_missing t [] asked.folder ≡ Some first → is_prefix first p ≡ false → is_published_at asked p ≡ false
missing_apart asked t first p is out =
    unless (is_published_at asked p) (λ published. false≢true (sym out ∙ prefix_trans first asked.folder p (missing_prefix t [] asked.folder first is) (published_below asked p published)))

-- trees that have the same on the way down
pub first_missing_same : (t u : Tree) (a names : List (List ℕ)) → ((q : List (List ℕ)) → is_prefix q names ≡ true → t (a ++ q) ≡ u (a ++ q)) → first_missing t a names ≡ first_missing u a names
first_missing_same t u a [] same = refl
first_missing_same t u a (n ∷ names) same =
    ap (λ b. cond b (first_missing t (a ++ n ∷ []) names) (Some (a ++ n ∷ []))) (ap is_folder (same (n ∷ []) (and_from _ _ (tied_name n n refl) refl)))
    ∙ ap (λ o. cond (is_folder (u (a ++ n ∷ []))) o (Some (a ++ n ∷ [])))
    (first_missing_same t u (a ++ n ∷ []) names (λ q pre. ap t (append_assoc a (n ∷ []) q) ∙ same (n ∷ q) (and_from _ _ (tied_name n n refl) pre) ∙ ap u (sym (append_assoc a (n ∷ []) q))))

pub first_file_same : (t u : Tree) (a names : List (List ℕ)) → ((q : List (List ℕ)) → is_prefix q names ≡ true → t (a ++ q) ≡ u (a ++ q)) → first_file t a names ≡ first_file u a names
first_file_same t u a [] same = refl
first_file_same t u a (n ∷ names) same =
    ap (λ b. cond b (Some (a ++ n ∷ [])) (first_file t (a ++ n ∷ []) names)) (ap is_file (same (n ∷ []) (and_from _ _ (tied_name n n refl) refl)))
    ∙ ap (λ o. cond (is_file (u (a ++ n ∷ []))) (Some (a ++ n ∷ [])) o)
    (first_file_same t u (a ++ n ∷ []) names (λ q pre. ap t (append_assoc a (n ∷ []) q) ∙ same (n ∷ q) (and_from _ _ (tied_name n n refl) pre) ∙ ap u (sym (append_assoc a (n ∷ []) q))))

-- nothing of the wrong kind: no file on the way down, and no folder where the manifest stands
pub right_kinds : (t : Tree) (asked : AskedOf) → wrong_kind t asked ≡ None → (first_file t [] asked.folder ≡ None) × (is_folder (t (published_manifest_path asked)) ≡ false)
right_kinds t asked is = side (first_file t [] asked.folder) refl is
  where
    manifest : (b : Bool) → cond b (Some (published_manifest_path asked)) None ≡ None → b ≡ false
    manifest false none = refl
    manifest true none = absurd (none-some (published_manifest_path asked) (sym none))

    side : (o : Option (List (List ℕ))) → first_file t [] asked.folder ≡ o → first_of_paths o (folder_manifest t asked) ≡ None → (first_file t [] asked.folder ≡ None) × (is_folder (t (published_manifest_path asked)) ≡ false)
    side None file none = (file, manifest (is_folder (t (published_manifest_path asked))) none)
    side (Some path) file none = absurd (none-some path (sym none))

-- a test that holds of each prefix
pub at_all : (f : List (List ℕ) → Bool) (p : List (List ℕ)) → ((q : List (List ℕ)) → is_prefix q p ≡ true → f q ≡ true) → at_prefixes f p ≡ true
at_all f [] gives = gives [] refl
at_all f (n ∷ p) gives = and_from _ _ (gives [] refl) (at_all (λ q. f (n ∷ q)) p (λ q pre. gives (n ∷ q) (and_from _ _ (tied_name n n refl) pre)))

-- a prefix of a path below another is one of that, or lies below it
pub prefix_side : (q a b : List (List ℕ)) → is_prefix q (a ++ b) ≡ true → (is_prefix q a ≡ true) ⊎ ((r : List (List ℕ)) × (q ≡ a ++ r) × (is_prefix r b ≡ true))
prefix_side q [] b is = inr (q, refl, is)
prefix_side [] (n ∷ a) b is = inl refl
prefix_side (m ∷ q) (n ∷ a) b is =
    let parts = and_parts (eq_by_cmp bytes_cmp m n) (is_prefix q (a ++ b)) is in
    elim (prefix_side q a b parts.1) [
      | inl above ↦ inl (and_from _ _ parts.0 above)
      | inr below ↦ inr (below.0, ap (λ (k : List ℕ). k ∷ q) (same_name m n parts.0) ∙ ap (λ r. n ∷ r) below.1, below.2)
    ]
