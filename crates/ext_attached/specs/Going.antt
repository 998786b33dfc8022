-- Which attachments go, and the host without them: after portablectl(1), commands detach and reattach. That reattaching takes away
-- every attachment whose name has the same first part, and that manifests go with what they tell of, is this project's own.
use Rattle.std.specs.Prelude.{◌≡◌, ℕ, Bool, not, List}
use Rattle.std.specs.List.{filter, flat_map, list_any}
use Rattle.std.specs.Ordering.{eq_by_cmp}
use Rattle.ext_lines.specs.ByteOrder.{bytes_cmp}
use Rattle.ext_tree.specs.Cut.{cut_all}
use Rattle.ext_host.specs.Touch.{untouched_all}
use Rattle.ext_host.specs.declared.attachment.Attachment.{Attachment}
use Rattle.ext_host.specs.declared.host.Host.{Host}
use Rattle.ext_units.specs.ImageName.{first_part, image_name}
use Rattle.ext_units.specs.declared.image.Image.{Image}
use Rattle.ext_attached.specs.declared.going.By.{By}
use Rattle.ext_attached.specs.declared.going.By.TheVariants.{Name, FirstPart}

-- the attachment has this name
abbrev pub is_of_name : List ℕ → Attachment → Bool
is_of_name name attachment = eq_by_cmp bytes_cmp attachment.name name

-- what is compared of a name: all of it, or what stands before its first `_`
abbrev pub compared : By → List ℕ → List ℕ
compared Name name = name
compared FirstPart name = first_part name

-- the attachment goes, by what is compared of its name
abbrev pub goes : By → List ℕ → Attachment → Bool
goes by text attachment = eq_by_cmp bytes_cmp (compared by attachment.name) text

-- the attachments that go
abbrev pub gone : By → List ℕ → List Attachment → List Attachment
gone by text attached = filter (goes by text) attached

-- and those that stay
abbrev pub staying : By → List ℕ → List Attachment → List Attachment
staying by text attached = filter (λ attachment. not (goes by text attachment)) attached

-- the paths that those that go added
abbrev pub cut_paths : By → List ℕ → Host → List (List (List ℕ))
cut_paths by text host = flat_map (λ (attachment : Attachment). attachment.added) (gone by text host.attached)

-- the same paths, whatever is tested of them
abbrev pub AreCutPaths : By → List ℕ → Host → List (List (List ℕ)) → Type 0
AreCutPaths by text host paths = (test : List (List ℕ) → Bool) → list_any test paths ≡ list_any test (cut_paths by text host)

-- the host without them: what stood at and below their paths is gone, and with it the manifests that are related to one of these
abbrev pub detached : By → List ℕ → Host → Host
detached by text host = record host {
  root = cut_all (cut_paths by text host) host.root;
  attached = staying by text host.attached;
  kept = untouched_all (cut_paths by text host) host.kept;
}

-- the attachment goes where the image is attached anew
abbrev pub goes_for : Image → Attachment → Bool
goes_for image attachment = goes FirstPart (first_part (image_name image)) attachment

-- the host without such attachments
abbrev pub without : Image → Host → Host
without image host = detached FirstPart (first_part (image_name image)) host

-- and the paths that these added
abbrev pub paths_without : Image → Host → List (List (List ℕ))
paths_without image host = cut_paths FirstPart (first_part (image_name image)) host
