-- Trees: finite maps from the paths of entries to entries. A tree is seen as the list of its entries in path order, and
-- what it has at a path is a look-up in that list.
use Rattle.std.specs.Prelude.{◌≡◌, ℕ, ◌≤◌, Bool, true, false, List, [], ◌∷◌, length, IsTrue, Option, Some, None, is_some, map}
use Rattle.std.specs.Borrow.{Bor}
use Rattle.std.specs.FinMap.{find, is_sorted}
use Rattle.ext_attributes.specs.Attributes.{is_plain, is_plain_file, is_root_owner}
use Rattle.ext_text.specs.Path.{IsPath, path_cmp, parent}
use Rattle.ext_tree.specs.declared.entry.Entry.{Entry}
use Rattle.ext_tree.specs.declared.entry.Entry.TheVariants.{Dir, Opaque, File, Link, Hide}

-- paths with what stands there
abbrev pub Entries : Type 0 → Type 0
Entries C = List (List (List ℕ) × Entry C)

-- what stands at a path
abbrev pub lookup : {C : Type 0} → Entries C → List (List ℕ) → Option (Entry C)
lookup es p = find path_cmp p es

-- what other entries may stand in
abbrev pub is_directory : {C : Type 0} → Entry C → Bool
is_directory (Dir attributes) = true
is_directory (Opaque attributes) = true
is_directory (File attributes content) = false
is_directory (Link owner target) = false
is_directory Hide = false

-- what has bytes
abbrev pub is_file : {C : Type 0} → Entry C → Bool
is_file (Dir attributes) = false
is_file (Opaque attributes) = false
is_file (File attributes content) = true
is_file (Link owner target) = false
is_file Hide = false

-- a directory below which nothing of a lower layer shows
abbrev pub is_opaque : {C : Type 0} → Entry C → Bool
is_opaque (Dir attributes) = false
is_opaque (Opaque attributes) = true
is_opaque (File attributes content) = false
is_opaque (Link owner target) = false
is_opaque Hide = false

-- a whiteout: what a lower layer has at its path does not show
abbrev pub is_hide : {C : Type 0} → Entry C → Bool
is_hide (Dir attributes) = false
is_hide (Opaque attributes) = false
is_hide (File attributes content) = false
is_hide (Link owner target) = false
is_hide Hide = true

-- root's, and without a capability
abbrev pub is_plain_entry : {C : Type 0} → Entry C → Bool
is_plain_entry (Dir attributes) = is_plain attributes
is_plain_entry (Opaque attributes) = is_plain attributes
is_plain_entry (File attributes content) = is_plain_file attributes
is_plain_entry (Link owner target) = is_root_owner owner
is_plain_entry Hide = true

-- the entry as it shows: an opaque directory is a directory like others
abbrev pub as_shown : {C : Type 0} → Entry C → Entry C
as_shown (Dir attributes) = Dir attributes
as_shown (Opaque attributes) = Dir attributes
as_shown (File attributes content) = File attributes content
as_shown (Link owner target) = Link owner target
as_shown Hide = Hide

-- borrowed entries as they show
abbrev pub all_shown : {C : Type 0} → List (Bor (List (List ℕ) × Entry C)) → Entries C
all_shown es = map (λ x. (x.now.0, as_shown x.now.1)) es

-- a directory stands there
abbrev pub is_directory_at : {C : Type 0} → Option (Entry C) → Bool
is_directory_at None = false
is_directory_at (Some e) = is_directory e

-- the path is the root, or a directory stands there
abbrev pub is_directory_or_root : {C : Type 0} → Entries C → List (List ℕ) → Bool
is_directory_or_root es [] = true
is_directory_or_root es (n ∷ p) = is_directory_at (lookup es (n ∷ p))

-- Each path once and in path order, none of them the root, each within the limits of a path, and each directly in a
-- directory or in the root. So at every non-empty proper prefix of a path there is a directory.
pub record IsTree {C : Type 0} (es : Entries C) : Type 0 where
  pub sorted : IsTrue (is_sorted path_cmp es)
  pub root : lookup es [] ≡ None
  pub paths : (p : List (List ℕ)) → IsTrue (is_some (lookup es p)) → IsPath p
  pub parents : (p : List (List ℕ)) → IsTrue (is_some (lookup es p)) → IsTrue (is_directory_or_root es (parent p))

-- the most entries of a tree
abbrev pub most_entries : ℕ
most_entries = 262144

-- a tree of at most so many entries
pub record IsTreeWithin {C : Type 0} (es : Entries C) : Type 0 where
  pub tree : IsTree es
  pub count : length es ≤ most_entries
