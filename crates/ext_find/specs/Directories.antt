-- The directories that are searched for the images of a class, and where they lead. For system extensions they are those of
-- systemd-sysext(8); the order of those for configuration extensions, and the set for portable services, are this
-- project's own.
use Rattle.std.specs.Prelude.{◌≡◌, ℕ, List, [], ◌∷◌, codes, IsTrue, Option, Some, None, slice_get}
use Rattle.std.specs.Borrow.{Bor}
use Rattle.ext_text.specs.declared.class.Class.{Class}
use Rattle.ext_text.specs.declared.class.Class.TheVariants.{Sysext, Confext, Portable}
use Rattle.ext_tree.specs.Tree.{Entries, is_directory_or_root}
use Rattle.ext_walk.specs.Walk.{Ends, parts}

-- their texts, in the order in which they count
abbrev pub search_directories : Class → List (List ℕ)
search_directories Sysext = codes "etc/extensions" ∷ codes "run/extensions" ∷ codes "var/lib/extensions" ∷ []
search_directories Confext =
    codes "run/confexts" ∷ codes "var/lib/confexts" ∷ codes "usr/local/lib/confexts" ∷ codes "usr/lib/confexts" ∷ []
search_directories Portable =
    codes "etc/portables" ∷ codes "run/portables" ∷ codes "var/lib/portables"
    ∷ codes "usr/local/lib/portables" ∷ codes "usr/lib/portables" ∷ []

-- the directory with this index, counted from 0, leads there, to a directory
pub record Opens {C : Type 0} (es : Entries C) (class : Class) (index : ℕ) (directory : List (List ℕ)) : Type 0 where
  pub text : List ℕ
  pub searched : slice_get (search_directories class) index ≡ Some text
  pub leads : Ends es (parts text) directory
  pub open_ : IsTrue (is_directory_or_root es directory)

-- the text with this index, or that there is none
abbrev pub IsText : Class → ℕ → Option (Bor (List ℕ)) → Type 0
IsText class index None = slice_get (search_directories class) index ≡ None
IsText class index (Some text) = slice_get (search_directories class) index ≡ Some text.now

-- where the directory with this index leads, or that it leads to no directory
abbrev pub OpensAt : {C : Type 0} → Entries C → Class → ℕ → Option (List (List ℕ)) → Type 0
OpensAt es class index None = (directory : List (List ℕ)) → ¬ Opens es class index directory
OpensAt es class index (Some directory) = Opens es class index directory
