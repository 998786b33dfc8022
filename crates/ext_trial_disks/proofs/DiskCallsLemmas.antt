-- A rename that a disk allows.
use Rattle.std.proofs.Common.{◌≡◌, ℕ, true, List, [], ◌∷◌, ◌++◌, Option, Some, None}
use Rattle.std.specs.Prelude.{◌≢◌, IfSome}
use Rattle.ext_disk.specs.Disk.{Node, Told, is_file, is_no_folder}
use Rattle.ext_disk.specs.Calls.{CanRename}
use Rattle.ext_disk.specs.Lookups.{kind_of}
use Rattle.ext_disk.specs.declared.kind.Kind.{Kind}

-- of two names in one folder, the first one of a file and the second one of no folder
pub can_rename : (o : Option Told) (dir : List (List ℕ)) (old new : List ℕ) (from to : List (List ℕ)) (moved there : Option Kind)
    → from ≡ dir ++ old ∷ [] → to ≡ dir ++ new ∷ [] → from ≢ to
    → ((node : Option Node) → moved ≡ kind_of node → is_file node ≡ true) → ((node : Option Node) → there ≡ kind_of node → is_no_folder node ≡ true)
    → IfSome o (λ d. moved ≡ kind_of (d.places from).node) → IfSome o (λ d. there ≡ kind_of (d.places to).node) → IfSome o (λ d. CanRename d.places from to)
can_rename None dir old new from to moved there from_is to_is two file free moved_is there_is = tt
can_rename (Some d) dir old new from to moved there from_is to_is two file free moved_is there_is = record {
  dir = dir;
  old_name = old;
  new_name = new;
  from_is = from_is;
  to_is = to_is;
  two = two;
  from_file = file (d.places from).node moved_is;
  to_free = free (d.places to).node there_is;
}
