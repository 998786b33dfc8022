-- What holds over any disk, whoever made it.
use Rattle.std.specs.Prelude.{◌≡◌, ◌⊎◌, ℕ, ◌≤◌, Bool, true, false, List}
use Rattle.ext_disk.specs.Disk.{Tree, Places, Told, DiskState, MayLeave, IsTree, IsDisk, now, is_durable}
use Rattle.ext_disk.specs.Since.{Since, IsLater, Follows}
use Rattle.ext_disk.specs.Calls.{Call, DoesTold, Does}
use Rattle.ext_disk.specs.Fixed.{IsFixed, touches}

-- each disk follows itself
abbrev pub FollowsItself : Type 0
FollowsItself = (s : DiskState) → Follows s s

-- what follows a disk that follows another follows that one too
abbrev pub FollowsInTurn : Type 0
FollowsInTurn = (r s t : DiskState) → Follows r s → Follows s t → Follows r t

-- each of the ten calls, done or failed
abbrev pub EachCallFollows : Type 0
EachCallFollows = (call : Call) (old new : DiskState) (done : Bool) → Does call old new done → Follows old new

-- of a later disk, a stop since a moment may have left what it may have left of the earlier one, and nothing else but what
-- it may have left since the clock of that one
abbrev pub PastStays : Type 0
PastStays = (d e : Told) (m : ℕ) (t : Tree) → IsLater d e
    → (Since d m t → Since e m t) × (Since e m t → Since d m t ⊎ Since e d.clock t)

-- a later moment allows no more trees than an earlier one
abbrev pub LaterAllowsNoMore : Type 0
LaterAllowsNoMore = (d : Told) (m n : ℕ) (t : Tree) → m ≤ n → Since d n t → Since d m t

-- at the clock itself, a stop may have left exactly what it may leave now
abbrev pub ClockIsNow : Type 0
ClockIsNow = (d : Told) (t : Tree) → IsDisk d → (Since d d.clock t → MayLeave d.places t) × (MayLeave d.places t → Since d d.clock t)

-- a stop may leave the tree as it stands
abbrev pub NowMayBeLeft : Type 0
NowMayBeLeft = (d : Places) → IsTree d → MayLeave d (now d)

-- a durable path is fixed since now
abbrev pub DurableIsFixed : Type 0
DurableIsFixed = (d : Told) (p : List (List ℕ)) → IsDisk d → is_durable d.places p ≡ true → IsFixed d d.clock p

-- each of the ten calls, done or failed, keeps a path fixed that it does not touch, and what stands there
abbrev pub FixedStays : Type 0
FixedStays = (call : Call) (done : Bool) (d e : Told) (m : ℕ) (p : List (List ℕ)) → DoesTold call done d e → touches call p ≡ false → m ≤ d.clock → IsFixed d m p
    → IsFixed e m p × ((e.places p).node ≡ (d.places p).node)
