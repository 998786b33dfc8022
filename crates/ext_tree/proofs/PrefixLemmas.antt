-- The prefixes of an entry's path are directories.
use Rattle.std.proofs.Common.{◌≡◌, ℕ, suc, zero, ◌+◌, ◌-◌, ◌<◌, ◌≤◌, ◌≢◌, true, false, not, List, [], ◌∷◌, length, Option, Some, None, is_some, refl, sym, ap, ◌∙◌, subst, arith}
use mathlib.Core.Logic.{inl, inr}
use Rattle.std.proofs.lemmas.Bool.{true≢false, false≢true, cases_lt, and_parts, and_from, not-true}
use Rattle.ext_text.specs.Path.{parent, is_prefix, is_proper_prefix}
use Rattle.ext_text.proofs.ForCallers.{some_name, prefix_self, prefix_take, prefix_short, prefix_shorter, prefix_whole, length-parent, parent_prefix}
use Rattle.ext_tree.specs.declared.entry.Entry.{Entry}
use Rattle.ext_tree.specs.Tree.{Entries, IsTree, lookup, is_directory_at, is_directory_or_root}
use Rattle.ext_tree.specs.Refusals.{is_root}
use Rattle.ext_tree.specs.Laws.{HasPrefixes, EntriesHavePrefixes, DirectoriesHavePrefixes}

-- no entry of a tree is at the root
pub root_none : {C : Type 0} (es : Entries C) → IsTree es → (p : List (List ℕ)) → is_some (lookup es p) ≡ true → 0 < length p
root_none es tree [] found = absurd (false≢true (sym (ap is_some tree.root) ∙ found))
root_none es tree (n ∷ p) found = omega arith

-- where a directory stands something does
pub some_dir : {C : Type 0} (o : Option (Entry C)) → is_directory_at o ≡ true → is_some o ≡ true
some_dir None is = absurd (false≢true is)
some_dir (Some e) is = refl

-- what is a directory or the root, and not the root, is a directory
pub directory_dir : {C : Type 0} (es : Entries C) (p : List (List ℕ)) → 0 < length p → is_directory_or_root es p ≡ true → is_directory_at (lookup es p) ≡ true
directory_dir es [] some directory = absurd (omega arith)
directory_dir es (n ∷ p) some directory = directory

-- a directory is a directory or the root
pub dir_directory : {C : Type 0} (es : Entries C) (p : List (List ℕ)) → is_directory_at (lookup es p) ≡ true → is_directory_or_root es p ≡ true
dir_directory es [] dir = refl
dir_directory es (n ∷ p) dir = dir

-- and stands there, where it is not the root
pub directory_some : {C : Type 0} (es : Entries C) (p : List (List ℕ)) → 0 < length p → is_directory_or_root es p ≡ true → is_some (lookup es p) ≡ true
directory_some es p some directory = some_dir (lookup es p) (directory_dir es p some directory)

directory_there : {C : Type 0} (es : Entries C) (p : List (List ℕ)) → (p ≢ [] → is_directory_at (lookup es p) ≡ true) → is_directory_or_root es p ≡ true
directory_there es [] dir = refl
directory_there es (n ∷ p) dir = dir (λ is. true≢false (sym (ap is_root is)))

-- where the parent of a path is a directory or the root, so is each shorter prefix of the path: the parent's parent is
-- one, and so on upwards
prefixes_within : {C : Type 0} (es : Entries C) → IsTree es → (most : ℕ) (r q : List (List ℕ)) → length q ≤ most → is_directory_or_root es (parent q) ≡ true → is_prefix r q ≡ true → length r < length q → is_directory_or_root es r ≡ true
prefixes_within es tree zero r q small directory prefix short = absurd (omega arith)
prefixes_within es tree (suc most) r q small directory prefix short =
    let len : length (parent q) + 1 ≡ length q = length-parent q (omega arith) in
    let within : is_prefix r (parent q) ≡ true = prefix_take (length q - 1) r q prefix (omega arith) in
    elim (cases_lt (length r) (length (parent q))) [
      | inl proper ↦ prefixes_within es tree most r (parent q) (omega arith) (tree.parents (parent q) (directory_some es (parent q) (omega arith) directory)) within proper
      | inr not_less ↦
          let no_longer : length r ≤ length (parent q) = prefix_short r (parent q) within in
          subst (λ x. is_directory_or_root es x ≡ true) (sym (prefix_whole r (parent q) within (omega arith))) directory
    ]

-- each proper prefix of an entry is a directory
pub prefixes : {C : Type 0} (es : Entries C) → IsTree es → (r q : List (List ℕ)) → is_some (lookup es q) ≡ true → is_prefix r q ≡ true → length r < length q → is_directory_or_root es r ≡ true
prefixes es tree r q found prefix short = prefixes_within es tree (length q) r q (omega arith) (tree.parents q found) prefix short

-- a proper prefix is shorter
proper_shorter : (q p : List (List ℕ)) → is_proper_prefix q p ≡ true → length q < length p
proper_shorter q p proper =
    let parts = and_parts (is_prefix q p) (not (is_prefix p q)) proper in
    prefix_shorter q p parts.0 (λ same. false≢true (sym (not-true (is_prefix p q) parts.1) ∙ subst (λ r. is_prefix p r ≡ true) (sym same) (prefix_self p)))

-- a parent is one
parent_proper : (p : List (List ℕ)) → 0 < length p → is_proper_prefix (parent p) p ≡ true
parent_proper p some =
    and_from _ _ (parent_prefix p) (elim (is_prefix p (parent p)) as (λ b. is_prefix p (parent p) ≡ b → not b ≡ true) [
      | true ↦ λ longer. absurd (too_long (prefix_short p (parent p) longer) (length-parent p some))
      | false ↦ λ _. refl
    ] refl)
  where
    too_long : length p ≤ length (parent p) → length (parent p) + 1 ≡ length p → ⊥
    too_long longer shorter = omega arith

has_prefixes : {C : Type 0} (es : Entries C) → IsTree es → (p : List (List ℕ)) → is_directory_or_root es (parent p) ≡ true → HasPrefixes es p
has_prefixes es tree p directory q below proper =
    directory_dir es q (some_name q below) (prefixes_within es tree (length p) q p (omega arith) directory (and_parts (is_prefix q p) _ proper).0 (proper_shorter q p proper))

pub entries_have_prefixes : {C : Type 0} → EntriesHavePrefixes C
entries_have_prefixes es p tree there = has_prefixes es tree p (tree.parents p there)

pub directories_have_prefixes : {C : Type 0} → DirectoriesHavePrefixes C
directories_have_prefixes es p tree below = (
  has_prefixes es tree p,
  λ prefixes. directory_there es (parent p) (λ above. prefixes (parent p) above (parent_proper p (some_name p below))),
)
