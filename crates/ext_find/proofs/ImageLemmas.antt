-- What an image has at paths.
use Rattle.std.proofs.Common.{◌≡◌, ℕ, ◌<◌, ◌≤◌, true, false, List, [], ◌∷◌, ◌++◌, length, Option, Some, None, is_some, refl, sym, ap, ◌∙◌, subst, arith, length-append}
use Rattle.std.specs.Prelude.{codes}
use Rattle.std.specs.Borrow.{Bor}
use Rattle.std.specs.Option.{option_copied}
use Rattle.std.proofs.Math.Seq.{drop-append_seam, take-append_seam}
use Rattle.std.proofs.lemmas.Bool.{false≢true}
use Rattle.ext_lines.proofs.ForCallers.{one_part}
use Rattle.ext_text.specs.Name.{IsName}
use Rattle.ext_text.specs.Path.{IsPath, path_parts}
use Rattle.ext_text.specs.declared.class.Class.{Class}
use Rattle.ext_text.specs.declared.class.Class.TheVariants as classes
use Rattle.ext_text.specs.declared.extension.Extension.{Extension}
use Rattle.ext_text.specs.declared.extension.Extension.TheVariants as extensions
use Rattle.ext_text.specs.declared.extension.Extension.TheVariants.{Sysext, Confext}
use Rattle.ext_text.proofs.ForCallers.{name_lacks, prefix_path, rest_path}
use Rattle.ext_tree.specs.Part.{part}
use Rattle.ext_tree.specs.Tree.{Entries, IsTree, lookup}
use Rattle.ext_tree.specs.declared.entry.Entry.{Entry}
use Rattle.ext_tree.proofs.ForCallers.{lookup_part, root_part, tree_part}
use Rattle.ext_walk.specs.Walk.{parts}
use Rattle.ext_find.specs.Content.{is_file_at}
use Rattle.ext_find.specs.ExtensionRelease.{release_text}
use Rattle.ext_find.specs.Image.{ChecksAs, HasRelease, IsReleaseIn, LeadsToFileAt, ReleaseChecksAs, ReleaseAt, check_of, has_os_release, is_blocked}
use Rattle.ext_find.specs.declared.found.BreakWhy.TheVariants.{NotDirectory, HasOsRelease, NoRelease}
use Rattle.ext_find.specs.declared.image.ImageCheck.{ImageCheck}
use Rattle.ext_find.specs.declared.image.ImageCheck.TheVariants.{Usable, Broken}
use Rattle.ext_find.proofs.StandsLemmas.{own_file}

-- what is borrowed is there
pub copied_some : {A : Type 0} (o : Option (Bor A)) → is_some o ≡ is_some (option_copied o)
copied_some None = refl
copied_some (Some x) = refl

-- whether a file stands at a path of the image that is not its root
pub file_in : {C : Type 0} (es : Entries C) (image at : List (List ℕ)) → length image < length (image ++ at) → is_file_at (lookup es (image ++ at)) ≡ is_file_at (lookup (part image es) at)
file_in es image [] long = absurd (omega (arith, length-append image []))
file_in es image (n ∷ at) long = ap is_file_at (sym (lookup_part image n at es))

pub no_file : {C : Type 0} (es : Entries C) (image at : List (List ℕ)) → length (image ++ at) ≤ length image → false ≡ is_file_at (lookup (part image es) at)
no_file es image [] short = ap is_file_at (sym (root_part image es))
no_file es image (n ∷ at) short = absurd (omega (arith, length-append image (n ∷ at)))

-- the parts of the path of a release file
pub system_parts : (name : List ℕ) → IsName name → parts (release_text extensions.Sysext name) ≡ codes "usr" ∷ codes "lib" ∷ codes "extension-release.d" ∷ (codes "extension-release." ++ name) ∷ []
system_parts name is = rw (one_part 47 name (name_lacks name is)) refl

pub configuration_parts : (name : List ℕ) → IsName name → parts (release_text extensions.Confext name) ≡ codes "etc" ∷ codes "extension-release.d" ∷ (codes "extension-release." ++ name) ∷ []
configuration_parts name is = rw (one_part 47 name (name_lacks name is)) refl

pub text_parts : (class : Extension) (name : List ℕ) → path_parts (release_text class name) ≡ parts (release_text class name)
text_parts Sysext name = refl
text_parts Confext name = refl

file_some : {C : Type 0} (o : Option (Entry C)) → is_file_at o ≡ true → is_some o ≡ true
file_some None is = absurd (false≢true is)
file_some (Some e) is = refl

-- the first ones of a path's names, and the others
pub upper_path : (upper lower : List (List ℕ)) → IsPath (upper ++ lower) → IsPath upper
upper_path upper lower is = subst IsPath (take-append_seam upper lower) (prefix_path (length upper) (upper ++ lower) is)

pub lower_path : (upper lower : List (List ℕ)) → IsPath (upper ++ lower) → IsPath lower
lower_path upper lower is = subst IsPath (drop-append_seam upper lower) (rest_path (length upper) (upper ++ lower) is)

module _ {C : Type 0} (es : Entries C) (tree : IsTree es) (image : List (List ℕ)) where
  -- a file inside the image has a path in the tree
  pub file_path : (at : List (List ℕ)) → is_file_at (lookup (part image es) at) ≡ true → IsPath (image ++ at)
  file_path [] file = absurd (false≢true (sym (ap is_file_at (root_part image es)) ∙ file))
  file_path (n ∷ at) file = tree.paths (image ++ n ∷ at) (file_some (lookup es (image ++ n ∷ at)) (ap is_file_at (sym (lookup_part image n at es)) ∙ file))

  -- and its names lead to it
  pub file_itself : (at path : List (List ℕ)) → is_file_at (lookup (part image es) at) ≡ true → path ≡ image ++ at → LeadsToFileAt es image at path
  file_itself at path file whole = record { end = at; ends = own_file (part image es) (tree_part image es tree) at file; file = file; whole = whole }

-- what a release file makes of an extension
pub system_checks : {C : Type 0} (es : Entries C) (image : List (List ℕ)) (name : List ℕ) (release : Option (List (List ℕ))) → ReleaseAt es image extensions.Sysext name release → ReleaseChecksAs es image classes.Sysext name (check_of release)
system_checks es image name None none = none
system_checks es image name (Some path) is = is

pub configuration_checks : {C : Type 0} (es : Entries C) (image : List (List ℕ)) (name : List ℕ) (release : Option (List (List ℕ))) → ReleaseAt es image extensions.Confext name release → ReleaseChecksAs es image classes.Confext name (check_of release)
configuration_checks es image name None none = none
configuration_checks es image name (Some path) is = is

release_there : {C : Type 0} (es : Entries C) (image : List (List ℕ)) (class : Class) (name : List ℕ) (release : Option (List (List ℕ))) → IsReleaseIn es image class name release → HasRelease (part image es) class name
release_there es image classes.Sysext name None none = absurd none
release_there es image classes.Sysext name (Some path) is = (is.end, is.ends, is.file)
release_there es image classes.Confext name None none = absurd none
release_there es image classes.Confext name (Some path) is = (is.end, is.ends, is.file)
release_there es image classes.Portable name release none = tt

-- and of an image that is not broken by what stands at the hierarchies, nor by an os-release file
pub whole_check : {C : Type 0} (es : Entries C) (image : List (List ℕ)) (class : Class) (hierarchies : List (List ℕ)) (name : List ℕ) → is_blocked (part image es) class hierarchies ≡ false → has_os_release (part image es) class ≡ false → (check : ImageCheck) → ReleaseChecksAs es image class name check → ChecksAs es image class hierarchies name check
whole_check es image class hierarchies name free plain (Usable release) is = ((free, plain, release_there es image class name release is), is)
whole_check es image class hierarchies name free plain (Broken NotDirectory) none = absurd none
whole_check es image class hierarchies name free plain (Broken HasOsRelease) none = absurd none
whole_check es image class hierarchies name free plain (Broken NoRelease) none = (free, plain, none)
