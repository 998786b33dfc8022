-- What holds of every published resource, and of every manifest to which one is added.
use Rattle.std.specs.Prelude.{◌≡◌, ℕ, List, [], ◌∷◌, ◌++◌, Some, None, true}
use Rattle.std.specs.FinMap.{put}
use Rattle.ext_attributes.specs.Attributes.{OfFile}
use Rattle.ext_lines.specs.ByteOrder.{bytes_cmp}
use Rattle.ext_lines.specs.Lines.{text_lines}
use Rattle.ext_text.specs.Digest.{IsDigest}
use Rattle.ext_depot.specs.Depot.{Files}
use Rattle.ext_tree.specs.Tree.{Entries, lookup}
use Rattle.ext_tree.specs.declared.entry.Entry.TheVariants.{File}
use Rattle.ext_tree.specs.declared.stamp.Stamp.{Stamp}
use Rattle.ext_host.specs.Held.{HeldFile, IsStampOf}
use Rattle.ext_host.specs.Stamped.{stamps}
use Rattle.ext_sums.specs.Entry.{is_listed_name}
use Rattle.ext_sums.specs.Manifest.{IsManifest}
use Rattle.ext_sums.specs.Sums as listing
use Rattle.ext_published.specs.Asked.{AskedOf, IsAskWrongAt}
use Rattle.ext_published.specs.Manifest.{listing_line, with_listing}
use Rattle.ext_published.specs.Payload.{HasHeldFileAt}
use Rattle.ext_published.specs.Places.{published_resource_path}
use Rattle.ext_published.specs.Published.{IsPublishedTree}

-- the old lines stay as they are, and the new one follows them
abbrev pub LinesStay : Type 0
LinesStay = (old digest name : List ℕ) → IsDigest digest → is_listed_name name ≡ true → text_lines (with_listing old digest name) ≡ text_lines old ++ listing_line digest name ∷ []

-- a manifest that does not list a name lists it in one line more, with its digest, and everything else as before
abbrev pub ListingAdds : Type 0
ListingAdds = (old digest name : List ℕ) (before : listing.Entries) → IsDigest digest → is_listed_name name ≡ true → IsManifest old before → listing.said before name ≡ None
    → IsManifest (with_listing old digest name) (put bytes_cmp name digest before)

-- each file of a published directory's text stands at its path below the resource, with the stamp that the text lists: so who
-- takes the resource finds no file missing, and none another than listed
abbrev pub FilesHaveListedStamps : Type 0
FilesHaveListedStamps = (c : Files) (asked : AskedOf) (tree : Entries HeldFile) (bytes_of : HeldFile → List ℕ) → IsPublishedTree c asked tree bytes_of
    → ((path : List (List ℕ)) (held : HeldFile) → HasHeldFileAt tree path held → IsStampOf (bytes_of held) held.stamp)
    → (path : List (List ℕ)) (attributes : OfFile) (stamp : Stamp) → lookup (stamps tree) path ≡ Some (File attributes stamp)
    → (bytes : List ℕ) × (c (published_resource_path asked ++ path) ≡ Some bytes) × IsStampOf bytes stamp

-- words have one first fault
abbrev pub OneWrongPlace : Type 0
OneWrongPlace = (words : List (List ℕ)) (a b : ℕ) → IsAskWrongAt words a → IsAskWrongAt words b → a ≡ b
