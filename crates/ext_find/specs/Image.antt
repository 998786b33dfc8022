-- What an image is: the part of a tree below the directory to which its place leads. Why one is broken, by the first
-- reason that holds; the reasons are those of systemd-sysext(8), but for that an image brings an os-release file, which is
-- this project's own.
use Rattle.std.specs.Prelude.{◌≡◌, ℕ, Bool, true, false, List, [], ◌∷◌, ◌++◌, codes, Option, Some, None, is_some}
use Rattle.std.specs.List.{list_any}
use Rattle.ext_text.specs.declared.class.Class.{Class}
use Rattle.ext_text.specs.declared.class.Class.TheVariants.{Sysext, Confext, Portable}
use Rattle.ext_text.specs.declared.extension.Extension.{Extension}
use Rattle.ext_text.specs.declared.extension.Extension.TheVariants as extensions
use Rattle.ext_tree.specs.Part.{part}
use Rattle.ext_tree.specs.Tree.{Entries, lookup}
use Rattle.ext_walk.specs.Leads.{LeadsTo}
use Rattle.ext_walk.specs.Walk.{Ends, parts}
use Rattle.ext_find.specs.Content.{is_file_at, is_other_at}
use Rattle.ext_find.specs.ExtensionRelease.{release_text}
use Rattle.ext_find.specs.declared.found.BreakWhy.{BreakWhy}
use Rattle.ext_find.specs.declared.found.BreakWhy.TheVariants.{NotDirectory, HasOsRelease, NoRelease}
use Rattle.ext_find.specs.declared.image.ImageCheck.{ImageCheck}
use Rattle.ext_find.specs.declared.image.ImageCheck.TheVariants.{Usable, Broken}

-- the image has something other than a directory at a hierarchy
abbrev pub is_blocked : {C : Type 0} → Entries C → Class → List (List ℕ) → Bool
is_blocked image Sysext hierarchies = list_any (λ h. is_other_at (lookup image (h ∷ []))) hierarchies
is_blocked image Confext hierarchies = list_any (λ h. is_other_at (lookup image (h ∷ []))) hierarchies
is_blocked image Portable hierarchies = false

-- a system extension has an entry `usr/lib/os-release`, be it a whiteout
abbrev pub has_os_release : {C : Type 0} → Entries C → Class → Bool
has_os_release image Sysext = is_some (lookup image (codes "usr" ∷ codes "lib" ∷ codes "os-release" ∷ []))
has_os_release image Confext = false
has_os_release image Portable = false

-- the release file of this name leads to a file inside the image; images of portable services need none
abbrev pub HasRelease : {C : Type 0} → Entries C → Class → List ℕ → Type 0
HasRelease image Sysext name = LeadsTo is_file_at image (parts (release_text extensions.Sysext name))
HasRelease image Confext name = LeadsTo is_file_at image (parts (release_text extensions.Confext name))
HasRelease image Portable name = Unit {0}

-- inside the image, the part of the tree below the directory, the names lead to a file, which in the tree has the path
pub record LeadsToFileAt {C : Type 0} (es : Entries C) (image names path : List (List ℕ)) : Type 0 where
  pub end : List (List ℕ)
  pub ends : Ends (part image es) names end
  pub file : is_file_at (lookup (part image es) end) ≡ true
  pub whole : path ≡ image ++ end

-- where in the tree the release file of this name is, or that it leads to no file inside the image
abbrev pub ReleaseAt : {C : Type 0} → Entries C → List (List ℕ) → Extension → List ℕ → Option (List (List ℕ)) → Type 0
ReleaseAt es image class name None = ¬ LeadsTo is_file_at (part image es) (parts (release_text class name))
ReleaseAt es image class name (Some path) = LeadsToFileAt es image (parts (release_text class name)) path

-- where in the tree the release file of an image that has one is; images of portable services need none
abbrev pub IsReleaseIn : {C : Type 0} → Entries C → List (List ℕ) → Class → List ℕ → Option (List (List ℕ)) → Type 0
IsReleaseIn es image Sysext name None = ⊥
IsReleaseIn es image Sysext name (Some path) = LeadsToFileAt es image (parts (release_text extensions.Sysext name)) path
IsReleaseIn es image Confext name None = ⊥
IsReleaseIn es image Confext name (Some path) = LeadsToFileAt es image (parts (release_text extensions.Confext name)) path
IsReleaseIn es image Portable name release = release ≡ None

-- why the image is broken, or that it isn't
abbrev pub Breaks : {C : Type 0} → Entries C → Class → List (List ℕ) → List ℕ → Option BreakWhy → Type 0
Breaks image class hierarchies name (Some NotDirectory) = is_blocked image class hierarchies ≡ true
Breaks image class hierarchies name (Some HasOsRelease) = (is_blocked image class hierarchies ≡ false) × (has_os_release image class ≡ true)
Breaks image class hierarchies name (Some NoRelease) =
    (is_blocked image class hierarchies ≡ false) × (has_os_release image class ≡ false) × (¬ HasRelease image class name)
Breaks image class hierarchies name None =
    (is_blocked image class hierarchies ≡ false) × (has_os_release image class ≡ false) × HasRelease image class name

-- what the release file makes of an image
abbrev pub check_of : Option (List (List ℕ)) → ImageCheck
check_of None = Broken NoRelease
check_of (Some path) = Usable (Some path)

-- what the release file of this name makes of the image below the directory of the tree
abbrev pub ReleaseChecksAs : {C : Type 0} → Entries C → List (List ℕ) → Class → List ℕ → ImageCheck → Type 0
ReleaseChecksAs es image class name (Usable release) = IsReleaseIn es image class name release
ReleaseChecksAs es image class name (Broken NotDirectory) = ⊥
ReleaseChecksAs es image class name (Broken HasOsRelease) = ⊥
ReleaseChecksAs es image class name (Broken NoRelease) = ¬ HasRelease (part image es) class name

-- that the image below the directory of the tree can be used, and where its release file is, or why it is broken
abbrev pub ChecksAs : {C : Type 0} → Entries C → List (List ℕ) → Class → List (List ℕ) → List ℕ → ImageCheck → Type 0
ChecksAs es image class hierarchies name (Usable release) =
    Breaks (part image es) class hierarchies name None × IsReleaseIn es image class name release
ChecksAs es image class hierarchies name (Broken why) = Breaks (part image es) class hierarchies name (Some why)
