-- What a planner is given of a host and owes of the next one: this project's own.
use Rattle.std.specs.Prelude.{◌≡◌, ℕ, Bool, List, IsTrue, Option, Some, None}
use Rattle.ext_attributes.specs.Attributes.{OfFile}
use Rattle.ext_tree.specs.Tree.{Entries, IsTree, lookup}
use Rattle.ext_tree.specs.declared.entry.Entry.TheVariants.{File}
use Rattle.ext_host.specs.Drawn.{IsDrawnFrom}
use Rattle.ext_host.specs.Held.{HeldFile}
use Rattle.ext_host.specs.Host.{IsBase}
use Rattle.ext_host.specs.Valid.{IsValidHost}
use Rattle.ext_host.specs.declared.host.Host.{Host}
use Rattle.ext_host.specs.declared.host.Plan.{Plan}

-- the bytes of a held file
abbrev pub content_size : HeldFile → ℕ
content_size held = held.stamp.size

-- a shelf serves each file of the tree
abbrev pub ServesAll : (HeldFile → Bool) → Entries HeldFile → Type 0
ServesAll serves es = (path : List (List ℕ)) (attributes : OfFile) (held : HeldFile) → lookup es path ≡ Some (File attributes held) → IsTrue (serves held)

-- it serves the files of a host that are seen, and those that lie under what is seen
pub record ServesHost (serves : HeldFile → Bool) (host : Host) : Type 0 where
  pub root : ServesAll serves host.root
  pub lower : ServesAll serves host.lower

-- the tree of a host's base
pub record IsBaseTree (host : Host) (base : Entries HeldFile) : Type 0 where
  pub tree : IsTree base
  pub is_base : IsBase host base

-- the host of a plan: it is valid, and its kept files are those of the host before
pub record IsPlannedHost (host next : Host) : Type 0 where
  pub valid : IsValidHost next
  pub drawn : IsDrawnFrom host next

-- there is a plan, of such a host, or none
abbrev pub PlansNext : Host → Option Plan → Type 0
PlansNext host None = Unit {0}
PlansNext host (Some plan) = IsPlannedHost host plan.next
