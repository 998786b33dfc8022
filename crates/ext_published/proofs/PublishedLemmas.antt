-- The files of a published directory.
use Rattle.std.proofs.Common.{◌≡◌, ℕ, List, ◌++◌, Option, Some, None, sym, ap, subst, ◌∙◌}
use Rattle.std.specs.Option.{option_map}
use Rattle.std.proofs.lemmas.Option.{none-some}
use Rattle.ext_attributes.specs.Attributes.{OfFile}
use Rattle.ext_depot.specs.Depot.{Files}
use Rattle.ext_tree.specs.Tree.{Entries, lookup}
use Rattle.ext_tree.specs.declared.entry.Entry.{Entry}
use Rattle.ext_tree.specs.declared.entry.Entry.TheVariants as entries
use Rattle.ext_tree.specs.declared.stamp.Stamp.{Stamp}
use Rattle.ext_host.specs.Held.{HeldFile, IsStampOf}
use Rattle.ext_host.specs.Stamped.{stamped_entry, stamps}
use Rattle.ext_host.proofs.ForCallers.{lookup_changed}
use Rattle.ext_published.specs.Asked.{AskedOf}
use Rattle.ext_published.specs.Payload.{HasHeldFileAt}
use Rattle.ext_published.specs.Places.{published_resource_path}
use Rattle.ext_published.specs.Published.{IsPublishedTree}

-- a held file with this stamp
record HasStamped (o : Option (Entry HeldFile)) (attributes : OfFile) (stamp : Stamp) : Type 0 where
  held : HeldFile
  is : o ≡ Some (entries.File attributes held)
  same : held.stamp ≡ stamp

stamped_is : (o : Option (Entry HeldFile)) (attributes : OfFile) (stamp : Stamp) → option_map stamped_entry o ≡ Some (entries.File attributes stamp) → HasStamped o attributes stamp
stamped_is None attributes stamp is = absurd (none-some (entries.File attributes stamp) is)
stamped_is (Some (entries.Dir m)) attributes stamp is = absurd (cc is)
stamped_is (Some (entries.Opaque m)) attributes stamp is = absurd (cc is)
stamped_is (Some (entries.File m held)) attributes stamp is =
    let same_attributes : m ≡ attributes = cc in
    let same : held.stamp ≡ stamp = cc in
    record { held = held; is = ap (λ (a : OfFile). Some (entries.File a held)) same_attributes; same = same }
stamped_is (Some (entries.Link owner target)) attributes stamp is = absurd (cc is)
stamped_is (Some entries.Hide) attributes stamp is = absurd (cc is)

-- each file that the text lists stands, with the stamp that is listed
pub files_have_listed_stamps : (c : Files) (asked : AskedOf) (tree : Entries HeldFile) (bytes_of : HeldFile → List ℕ) → IsPublishedTree c asked tree bytes_of
    → ((path : List (List ℕ)) (held : HeldFile) → HasHeldFileAt tree path held → IsStampOf (bytes_of held) held.stamp)
    → (path : List (List ℕ)) (attributes : OfFile) (stamp : Stamp) → lookup (stamps tree) path ≡ Some (entries.File attributes stamp)
    → (bytes : List ℕ) × (c (published_resource_path asked ++ path) ≡ Some bytes) × IsStampOf bytes stamp
files_have_listed_stamps c asked tree bytes_of published stamped path attributes stamp stands =
    let found = stamped_is (lookup tree path) attributes stamp (sym (lookup_changed (λ _ e. stamped_entry e) path tree) ∙ stands) in
    let file : HasHeldFileAt tree path found.held = record { attributes = attributes; stands = found.is } in
    (bytes_of found.held, published.files path found.held file, subst (IsStampOf (bytes_of found.held)) found.same (stamped path found.held file))
