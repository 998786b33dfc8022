-- What a layer of a view has at a path, or hides there of what lower layers have: after systemd-sysext(8) and overlayfs, by the
-- rule of layers. That the topmost of several such entries above a path is told is this project's own choice.
use Rattle.std.specs.Prelude.{ℕ, Bool, List, [], ◌∷◌, if◌then◌else◌, Option, Some, None}
use Rattle.std.specs.Option.{option_map}
use Rattle.ext_tree.specs.Tree.{Entries, lookup}
use Rattle.ext_tree.specs.declared.entry.Entry.{Entry}
use Rattle.ext_layer.specs.Layered.{cuts_below}
use Rattle.ext_host.specs.Held.{HeldFile}
use Rattle.ext_host.specs.Stamped.{stamped_entry}
use Rattle.ext_origin.specs.declared.origin.Finding.{Finding}
use Rattle.ext_origin.specs.declared.origin.Finding.TheVariants.{Has, Covers}

-- the shortest proper prefix of a path that passes a test; there may be none
abbrev pub first_prefix : (List (List ℕ) → Bool) → List (List ℕ) → Option (List (List ℕ))
first_prefix f [] = None
first_prefix f (n ∷ path) = if f [] then Some [] else option_map (λ q. n ∷ q) (first_prefix (λ q. f (n ∷ q)) path)

-- the shortest proper prefix of a path at which a layer has an entry that lets nothing of lower layers through below it
abbrev pub cover_of : {C : Type 0} → Entries C → List (List ℕ) → Option (List (List ℕ))
cover_of es path = first_prefix (λ q. cuts_below (lookup es q)) path

-- what is found where this stands at a path, and this prefix covers it
abbrev pub found_under : Option (Entry HeldFile) → Option (List (List ℕ)) → Option Finding
found_under (Some e) cover = Some (Has (stamped_entry e))
found_under None (Some at) = Some (Covers at)
found_under None None = None

-- what a layer has at a path: its entry there, a file with its stamp alone; else the shortest proper prefix at which it hides
-- what lower layers have below; else nothing
abbrev pub finding_of : Entries HeldFile → List (List ℕ) → Option Finding
finding_of es path = found_under (lookup es path) (cover_of es path)
