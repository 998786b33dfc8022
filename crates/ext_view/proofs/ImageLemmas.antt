-- Where the place of an image leads, and its release file.
use Rattle.std.proofs.Common.{◌≡◌, ℕ, Bool, true, List, [], ◌∷◌, ◌++◌, Option, Some, None, is_some, sym, ap, ◌∙◌}
use Rattle.std.proofs.lemmas.Bool.{false≢true}
use Rattle.ext_text.specs.declared.extension.Extension.{Extension}
use Rattle.ext_tree.specs.Part.{part}
use Rattle.ext_tree.specs.Tree.{Entries, IsTree, lookup}
use Rattle.ext_tree.specs.declared.entry.Entry.{Entry}
use Rattle.ext_tree.specs.declared.entry.Entry.TheVariants.{File}
use Rattle.ext_tree.proofs.ForCallers.{lookup_part, root_part}
use Rattle.ext_walk.specs.Walk.{Ends, ResolvesIn}
use Rattle.ext_walk.proofs.ForCallers.{resolves_whole}
use Rattle.ext_host.specs.Held.{HeldFile}
use Rattle.ext_host.specs.Planning.{ServesAll}
use Rattle.ext_find.specs.Content.{is_file_at}
use Rattle.ext_view.specs.Image.{HasReleaseAt, HasReleaseFile, IsContentThere, IsFileThere}

-- a walk that has an end does not resolve to none
pub not_nowhere : {C : Type 0} (es : Entries C) (names end : List (List ℕ)) → IsTree es → Ends es names end → ResolvesIn es [] names None → ⊥
not_nowhere es names end tree ends none = resolves_whole es names None tree none end ends

pub ends_whole : {C : Type 0} (es : Entries C) (names : List (List ℕ)) (at : List (List ℕ)) → IsTree es → ResolvesIn es [] names (Some at) → Ends es names at
ends_whole es names at tree resolves = resolves_whole es names (Some at) tree resolves

-- a file of an image is not its root
part_found : {C : Type 0} (es : Entries C) (image at : List (List ℕ)) → is_file_at (lookup (part image es) at) ≡ true → lookup (part image es) at ≡ lookup es (image ++ at)
part_found es image [] there = absurd (false≢true (sym (ap is_file_at (root_part image es)) ∙ there))
part_found es image (n ∷ at) there = lookup_part image n at es

-- the release file of an image is a file of the tree
pub release_found : {C : Type 0} (es : Entries C) (class : Extension) (place : List (List ℕ)) (name : List ℕ) (release : Option (List (List ℕ))) → HasReleaseAt es class place name release → IsFileThere es release
release_found es class place name None none = none
release_found es class place name (Some path) is =
    ap is_file_at (ap (lookup es) is.file.whole ∙ sym (part_found es is.image is.file.end is.file.file)) ∙ is.file.file

-- and its content is what the tree has there
pub release_has : {C : Type 0} (es : Entries C) (class : Extension) (place : List (List ℕ)) (name : List ℕ) (release : Option (List (List ℕ))) (content : C) → HasReleaseAt es class place name release → IsContentThere es release content → HasReleaseFile es class place name content
release_has es class place name None content none file = absurd none
release_has es class place name (Some path) content is file = record {
  image = is.image;
  leads = is.leads;
  file = (is.file.end, file.0, is.file.ends, part_found es is.image is.file.end is.file.file ∙ ap (lookup es) (sym is.file.whole) ∙ file.1);
}

-- an entry of an image is one of the whole tree
pub entry_of_image : {C : Type 0} (es : Entries C) (image at : List (List ℕ)) (e : Entry C) → lookup (part image es) at ≡ Some e → lookup es (image ++ at) ≡ Some e
entry_of_image es image [] e stands = absurd (false≢true (sym (ap is_some (root_part image es)) ∙ ap is_some stands))
entry_of_image es image (n ∷ at) e stands = sym (lookup_part image n at es) ∙ stands

-- a shelf that serves each file of a base serves the release file of an image
pub release_served : (serves : HeldFile → Bool) (base : Entries HeldFile) (class : Extension) (place : List (List ℕ)) (name : List ℕ) (held : HeldFile) → ServesAll serves base → HasReleaseFile base class place name held → serves held ≡ true
release_served serves base class place name held all has =
    let file = has.file in
    all (has.image ++ file.0) file.1 held (entry_of_image base has.image file.0 (File file.1 held) file.3)
