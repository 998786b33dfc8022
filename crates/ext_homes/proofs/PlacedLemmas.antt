-- What is placed: the same trees with the same stamps, and where each file is.
use Rattle.std.proofs.Common.{◌≡◌, ℕ, ◌+◌, List, [], ◌∷◌, length, refl, sym, ap, ◌∙◌, subst}
use Rattle.ext_depot.specs.Depot.{DepotState}
use Rattle.ext_tree.specs.Tree.{Entries, IsTreeWithin, is_directory}
use Rattle.ext_tree.specs.declared.entry.Entry.{Entry}
use Rattle.ext_tree.specs.declared.entry.Entry.TheVariants.{Dir, Opaque, File, Link, Hide}
use Rattle.ext_tree.specs.declared.stamp.Stamp.{Stamp}
use Rattle.ext_host.specs.Held.{HeldFile}
use Rattle.ext_host.specs.Stamped.{stamped_entry, stamps}
use Rattle.ext_host.specs.declared.body.Body.{Body}
use Rattle.ext_host.specs.declared.body.Body.TheVariants.{Here, Kept, Depot}
use Rattle.ext_host.proofs.ForCallers.{tree_before_within, tree_changed_within}
use Rattle.ext_homes.specs.Placed.{Stored, ArePlaced, IsBodyPlaced, IsEntryPlaced}

body_stamp : (old : Stored) (depot : DepotState) (n : ℕ) (held : HeldFile) (body : Body) (next : ℕ) (new : HeldFile) (written : List (List ℕ)) → IsBodyPlaced old depot n held body next new written → new.stamp ≡ held.stamp
body_stamp old depot n held (Here bytes) next new written is = ap (λ (h : HeldFile). h.stamp) is.2
body_stamp old depot n held (Kept home) next new written is = ap (λ (h : HeldFile). h.stamp) is.0
body_stamp old depot n held (Depot path) next new written is = ap (λ (h : HeldFile). h.stamp) is.2

entry_stamp : (old : Stored) (depot : DepotState) (n : ℕ) (e : Entry HeldFile) (next : ℕ) (new : Entry HeldFile) (written : List (List ℕ)) → IsEntryPlaced old depot n e next new written → stamped_entry new ≡ stamped_entry e
entry_stamp old depot n (Dir attributes) next new written is = ap stamped_entry is.0
entry_stamp old depot n (Opaque attributes) next new written is = ap stamped_entry is.0
entry_stamp old depot n (File attributes held) next new written is =
    ap stamped_entry is.2 ∙ ap (λ (s : Stamp). File attributes s) (body_stamp old depot n held held.body next is.0 written is.1)
entry_stamp old depot n (Link owner target) next new written is = ap stamped_entry is.0
entry_stamp old depot n Hide next new written is = ap stamped_entry is.0

-- a tree has its stamps, whatever homes its files have
pub placed_stamps : (old : Stored) (depot : DepotState) (n : ℕ) (es : Entries HeldFile) (next : ℕ) (new : Entries HeldFile) (written : List (List ℕ)) → ArePlaced old depot n es next new written → stamps new ≡ stamps es
placed_stamps old depot n [] next new written is = ap stamps is.0
placed_stamps old depot n (e ∷ es) next new written is =
    ap stamps is.6
    ∙ (λ i. (e.0, entry_stamp old depot n e.1 next is.0 is.2 is.4 i) ∷ placed_stamps old depot n es (next + length is.2) is.1 is.3 is.5 i)

keeps_directories : (p : List (List ℕ)) (e : Entry HeldFile) → is_directory (stamped_entry e) ≡ is_directory e
keeps_directories p (Dir attributes) = refl
keeps_directories p (Opaque attributes) = refl
keeps_directories p (File attributes held) = refl
keeps_directories p (Link owner target) = refl
keeps_directories p Hide = refl

-- and is a tree
pub placed_tree : (old : Stored) (depot : DepotState) (n : ℕ) (es : Entries HeldFile) (next : ℕ) (new : Entries HeldFile) (written : List (List ℕ)) → ArePlaced old depot n es next new written → IsTreeWithin es → IsTreeWithin new
placed_tree old depot n es next new written is tree =
    tree_before_within (λ p e. stamped_entry e) keeps_directories new
    (subst IsTreeWithin (sym (placed_stamps old depot n es next new written is)) (tree_changed_within (λ p e. stamped_entry e) keeps_directories es tree))
