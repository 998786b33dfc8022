-- What a stop leaves of the folder in which a run publishes: the old manifest, or the new one with all that it lists.
use Rattle.std.specs.Prelude.{◌≡◌, ◌⊎◌, ℕ, false, List, [], Some, None}
use Rattle.sha2.specs.Sha256.{sha256}
use Rattle.ext_text.specs.Path.{is_prefix}
use Rattle.ext_disk.specs.Disk.{Tree, Told, file, now}
use Rattle.ext_disk.specs.Since.{Since}
use Rattle.ext_gen.specs.Store.{State}
use Rattle.ext_host.specs.Held.{HeldFile}
use Rattle.ext_published.specs.Asked.{AskedOf}
use Rattle.ext_published.specs.Manifest.{with_listing}
use Rattle.ext_published.specs.Payload.{listing_name}
use Rattle.ext_published.specs.Places.{published_manifest_path}
use Rattle.ext_published.specs.Published.{IsPublished, published_text}
use Rattle.ext_published.specs.declared.payload.Payload.{Payload}
use Rattle.ext_published.specs.declared.payload.Payload.TheVariants.{Directory, File}
use Rattle.ext_publish.specs.Out.{IsQuiet, files_standing, first_missing, is_published_at, manifest_bytes}
use Rattle.ext_publish.specs.Refusing.{IsAllowed}
use Rattle.ext_publish.specs.Store.{bytes_in, host_of_state}

-- the digest that is listed: of a directory's tree text, or of a file's bytes
abbrev pub listed_digest : Payload → (HeldFile → List ℕ) → List ℕ
listed_digest (Directory tree) bytes_of = sha256 (published_text tree)
listed_digest (File held) bytes_of = sha256 (bytes_of held)

-- the manifest with the new line
abbrev pub new_manifest : Tree → AskedOf → Payload → (HeldFile → List ℕ) → List ℕ
new_manifest t asked payload bytes_of = with_listing (manifest_bytes t asked) (listed_digest payload bytes_of) (listing_name payload asked.name)

-- the new manifest stands, and all that it lists
pub record HasNewManifest (before t : Tree) (asked : AskedOf) (payload : Payload) (bytes_of : HeldFile → List ℕ) : Type 0 where
  pub manifest : t (published_manifest_path asked) ≡ Some (file (new_manifest before asked payload bytes_of))
  pub published : IsPublished (files_standing t) asked payload bytes_of

-- what a stop leaves where the folder was there: the old manifest, or its absence, or, where what is asked may be published, the new
-- one with all that it lists; and elsewhere what stood before
pub record IsLeftWhole (s : State) (before t : Tree) (asked : AskedOf) : Type 0 where
  pub manifest : (t (published_manifest_path asked) ≡ before (published_manifest_path asked))
      ⊎ ((payload : Payload) × IsAllowed (host_of_state s) asked before payload × HasNewManifest before t asked payload (bytes_in s))
  pub elsewhere : (p : List (List ℕ)) → is_published_at asked p ≡ false → t p ≡ before p

-- what a stop leaves where a folder was missing, of which this is the first: what stood before, but at and below it
abbrev pub IsLeftElsewhere : Tree → Tree → List (List ℕ) → Type 0
IsLeftElsewhere before t first = (p : List (List ℕ)) → is_prefix first p ≡ false → t p ≡ before p

-- what a stop at any moment of a run over the store of this state leaves of a quiet folder, whether the run is refused, fails or is
-- done: where the depot's folder was there, and where it was missing
pub record StopsWell (s : State) (asked : AskedOf) (d e : Told) : Type 0 where
  pub there : IsQuiet d.places → first_missing (now d.places) [] asked.folder ≡ None → (t : Tree) → Since e d.clock t → IsLeftWhole s (now d.places) t asked
  pub missing : IsQuiet d.places → (first : List (List ℕ)) → first_missing (now d.places) [] asked.folder ≡ Some first → (t : Tree) → Since e d.clock t → IsLeftElsewhere (now d.places) t first
