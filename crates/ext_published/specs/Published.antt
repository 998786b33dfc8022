-- A published resource: what stands in a depot's folder where a directory or a file of a host is published there. This
-- project's own, after what systemd-sysupdate(8) takes from a source.
use Rattle.std.specs.Prelude.{◌≡◌, ℕ, ◌≤◌, List, ◌++◌, length, Option, Some, None}
use Rattle.sha2.specs.Sha256.{sha256}
use Rattle.ext_depot.specs.Depot.{Files}
use Rattle.ext_tree.specs.Tree.{Entries}
use Rattle.ext_tree.specs.TreeText.{tree_text}
use Rattle.ext_host.specs.Held.{HeldFile}
use Rattle.ext_host.specs.Stamped.{stamps}
use Rattle.ext_sums.specs.Manifest.{IsManifest}
use Rattle.ext_sums.specs.Sums as listing
use Rattle.ext_published.specs.Asked.{AskedOf}
use Rattle.ext_published.specs.Manifest.{most_published_text}
use Rattle.ext_published.specs.Names.{tree_text_name}
use Rattle.ext_published.specs.Payload.{HasHeldFileAt}
use Rattle.ext_published.specs.Places.{published_manifest_path, published_resource_path, tree_text_path}
use Rattle.ext_published.specs.declared.payload.Payload.{Payload}
use Rattle.ext_published.specs.declared.payload.Payload.TheVariants.{Directory, File}

-- the manifest has at most 67,108,864 bytes, and lists the name with the digest
pub record IsListedThere (c : Files) (asked : AskedOf) (name digest : List ℕ) : Type 0 where
  pub text : List ℕ
  pub stands : c (published_manifest_path asked) ≡ Some text
  pub size : length text ≤ most_published_text
  pub sums : listing.Entries
  pub reads : IsManifest text sums
  pub lists : listing.said sums name ≡ Some digest

-- the text of a directory's tree
abbrev pub published_text : Entries HeldFile → List ℕ
published_text tree = tree_text (stamps tree)

-- the text of what is published, where it is a directory
abbrev pub text_of_payload : Payload → Option (List ℕ)
text_of_payload (Directory tree) = Some (published_text tree)
text_of_payload (File held) = None

-- a directory is published: its tree text, which is listed, and the bytes of each of its files
pub record IsPublishedTree (c : Files) (asked : AskedOf) (tree : Entries HeldFile) (bytes_of : HeldFile → List ℕ) : Type 0 where
  pub size : length (published_text tree) ≤ most_published_text
  pub text : c (tree_text_path asked) ≡ Some (published_text tree)
  pub listed : IsListedThere c asked (tree_text_name asked.name) (sha256 (published_text tree))
  pub files : (path : List (List ℕ)) (held : HeldFile) → HasHeldFileAt tree path held → c (published_resource_path asked ++ path) ≡ Some (bytes_of held)

-- a file is published: its bytes, which are listed
pub record IsPublishedFile (c : Files) (asked : AskedOf) (held : HeldFile) (bytes_of : HeldFile → List ℕ) : Type 0 where
  pub file : c (published_resource_path asked) ≡ Some (bytes_of held)
  pub listed : IsListedThere c asked asked.name (sha256 (bytes_of held))

-- what is asked is published, where the files of the host have these bytes
abbrev pub IsPublished : Files → AskedOf → Payload → (HeldFile → List ℕ) → Type 0
IsPublished c asked (Directory tree) bytes_of = IsPublishedTree c asked tree bytes_of
IsPublished c asked (File held) bytes_of = IsPublishedFile c asked held bytes_of
