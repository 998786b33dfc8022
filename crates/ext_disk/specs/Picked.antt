-- The tree that a disk in memory holds after a stop, by a choice of what the stop took: one of those that it may leave.
use Rattle.std.specs.Prelude.{ℕ, Bool, true, not, ◌&&◌, ◌||◌, List, codes, Option, Some, None, if◌then◌else◌}
use Rattle.std.specs.Option.{is_some}
use Rattle.ext_disk.specs.Disk.{Node, folder, file, Place, Places, Swing, Tree, absent, at_proper_prefixes}
use Rattle.ext_disk.specs.declared.pick.Pick.{Pick}
use Rattle.ext_disk.specs.declared.pick.Pick.TheVariants.{Old, New, Junk}

-- no folder on the way to the path has an unsynced name
abbrev pub is_shown : Places → List (List ℕ) → Bool
is_shown d p = at_proper_prefixes (λ q. not (d q).unsynced_name) p

-- what has an unsynced name vanishes with what lies below it, or stays; what has an unsynced rename has one of its outcomes
abbrev pub is_kept : Pick → Bool → Place → Bool
is_kept Old shown place = shown && (is_some place.unsynced_rename || not place.unsynced_name)
is_kept New shown place = true
is_kept Junk shown place = true

-- a file of other bytes
abbrev pub junked : Option Node → Option Node
junked None = None
junked (Some folder) = Some folder
junked (Some (file bytes)) = Some (file (codes "junk"))

-- at a path with an unsynced rename the old file, or the new one
abbrev pub outcome : Pick → Swing → Option Node
outcome Old w = w.before
outcome New w = w.after
outcome Junk w = w.after

-- elsewhere what stands there, with other bytes in a file with unsynced bytes
abbrev pub synced_node : Pick → Place → Option Node
synced_node Old place = place.node
synced_node New place = place.node
synced_node Junk place = if place.unsynced_bytes then junked place.node else place.node

-- what a pick chooses at a path: one of the outcomes of a rename, or what stands there
abbrev pub chosen : Pick → Place → Option Swing → Option Node
chosen pick place None = synced_node pick place
chosen pick place (Some w) = outcome pick w

-- the tree
abbrev pub picked : Pick → Places → Tree
picked pick d p = if is_kept pick (is_shown d p) (d p) then chosen pick (d p) (d p).unsynced_rename else None

-- with nothing to sync
abbrev pub picked_place : Pick → Places → Places
picked_place pick d p = record absent { node = picked pick d p }
