-- Homes of a coming host depend on what a store lists, on the bytes at the homes that it lists, and on the files of the depot.
use Rattle.std.proofs.Common.{◌≡◌, ℕ, ◌+◌, Bool, List, [], ◌∷◌, length, Option, inl, inr, subst}
use Rattle.ext_depot.specs.Depot.{DepotState}
use Rattle.ext_tree.specs.Tree.{Entries}
use Rattle.ext_tree.specs.declared.entry.Entry.{Entry}
use Rattle.ext_tree.specs.declared.entry.Entry.TheVariants.{Dir, Opaque, File, Link, Hide}
use Rattle.ext_tree.specs.declared.stamp.Stamp.{Stamp}
use Rattle.ext_host.specs.Held.{HeldFile}
use Rattle.ext_host.specs.Shelf as shelf
use Rattle.ext_host.specs.Shelf.{IsFound}
use Rattle.ext_host.specs.declared.body.Body.{Body}
use Rattle.ext_host.specs.declared.body.Body.TheVariants.{Here, Kept, Depot}
use Rattle.ext_host.specs.declared.home.Home.{Home}
use Rattle.ext_host.specs.declared.host.Host.{Host}
use Rattle.ext_store_files.specs.Comparing.{IsCompared}
use Rattle.ext_homes.specs.Placed.{Stored, ArePlaced, DifferBefore, IsBodyPlaced, IsBroughtTo, IsEntryPlaced, IsHostPlaced, TakesHome, brought_told}
use Rattle.ext_homes.specs.Refused.{IsDamaged, StopsAt}

-- the same homes are listed, with the same bytes, and the same is told of what is brought
pub record Alike (a b : Stored) (d e : DepotState) : Type 0 where
  pub lists : (stamp : Stamp) (home : Home) → a.lists stamp home → b.lists stamp home
  pub back : (stamp : Stamp) (home : Home) → b.lists stamp home → a.lists stamp home
  pub told : (stamp : Stamp) (home : Home) → b.lists stamp home → a.told home ≡ b.told home
  pub brought : (body : Body) → brought_told d body ≡ brought_told e body

module _ (a b : Stored) (d e : DepotState) (alike : Alike a b d e) where
  compared : (stamp : Stamp) (brought : shelf.Told) (home : Home) (same : Bool) → b.lists stamp home → IsCompared (a.told home) brought stamp same → IsCompared (b.told home) brought stamp same
  compared stamp brought home same listed is = subst (λ t. IsCompared t brought stamp same) (alike.told stamp home listed) is

  before : (stamp : Stamp) (brought : shelf.Told) (home : Home) → DifferBefore a stamp brought home → DifferBefore b stamp brought home
  before stamp brought home least = λ other listed less. compared stamp brought other _ listed (least other (alike.back stamp other listed) less)

  pub damaged_alike : (stamp : Stamp) (brought : shelf.Told) (home : Home) (found : Option Stamp) → IsDamaged a stamp brought home found → IsDamaged b stamp brought home found
  damaged_alike stamp brought home found is =
      let listed = alike.lists stamp home is.listed in
      record { listed = listed; least = before stamp brought home is.least; differs = subst (λ t. IsFound stamp t found) (alike.told stamp home listed) is.differs }

  takes : (generation : ℕ) (stamp : Stamp) (brought : shelf.Told) (next : ℕ) (home : Home) (written : List (List ℕ)) → TakesHome a generation stamp brought next home written → TakesHome b generation stamp brought next home written
  takes generation stamp brought next home written (inl (least, none)) =
      let listed = alike.lists stamp home least.listed in
      inl (record { listed = listed; same = compared stamp brought home _ listed least.same; least = before stamp brought home least.least }, none)
  takes generation stamp brought next home written (inr (none, is, new)) =
      inr (λ other listed. compared stamp brought other _ listed (none other (alike.back stamp other listed)), is, new)

  brings : (generation : ℕ) (held : HeldFile) (next : ℕ) (new : HeldFile) (written : List (List ℕ)) → IsBroughtTo a d generation held next new written → IsBroughtTo b e generation held next new written
  brings generation held next new written (home, of, is) =
      (home, subst (λ t. TakesHome b generation held.stamp t next home written) (alike.brought held.body) (takes generation held.stamp (brought_told d held.body) next home written of), is)

  body : (generation : ℕ) (held : HeldFile) (at : Body) (next : ℕ) (new : HeldFile) (written : List (List ℕ)) → IsBodyPlaced a d generation held at next new written → IsBodyPlaced b e generation held at next new written
  body generation held (Here bytes) next new written is = brings generation held next new written is
  body generation held (Kept home) next new written is = is
  body generation held (Depot path) next new written is = brings generation held next new written is

  entry : (generation : ℕ) (x : Entry HeldFile) (next : ℕ) (new : Entry HeldFile) (written : List (List ℕ)) → IsEntryPlaced a d generation x next new written → IsEntryPlaced b e generation x next new written
  entry generation (Dir attributes) next new written is = is
  entry generation (Opaque attributes) next new written is = is
  entry generation (File attributes held) next new written (placed, file, is) = (placed, body generation held held.body next placed written file, is)
  entry generation (Link owner target) next new written is = is
  entry generation Hide next new written is = is

  pub placed_alike : (generation : ℕ) (es : Entries HeldFile) (next : ℕ) (new : Entries HeldFile) (written : List (List ℕ)) → ArePlaced a d generation es next new written → ArePlaced b e generation es next new written
  placed_alike generation [] next new written is = is
  placed_alike generation (x ∷ es) next new written (f, fs, first, rest, one, others, new_is, written_is) =
      (f, fs, first, rest, entry generation x.1 next f first one, placed_alike generation es (next + length first) fs rest others, new_is, written_is)

  pub host_alike : (generation : ℕ) (host new : Host) (written : List (List ℕ)) → IsHostPlaced a d generation host new written → IsHostPlaced b e generation host new written
  host_alike generation host new written (root, lower, (first, rest, one, other, written_is), is) =
      (root, lower, (first, rest, placed_alike generation host.root 0 root first one, placed_alike generation host.lower (0 + length first) lower rest other, written_is), is)

  pub stops_alike : (generation : ℕ) (es : Entries HeldFile) (P Q : HeldFile → Type 0) → ((held : HeldFile) → P held → Q held) → StopsAt a d generation es 0 P → StopsAt b e generation es 0 Q
  stops_alike generation es P Q why at = record {
    before = at.before;
    after = at.after;
    path = at.path;
    attributes = at.attributes;
    held = at.held;
    entries = at.entries;
    placed = at.placed;
    written = at.written;
    homes = placed_alike generation at.before 0 at.placed at.written at.homes;
    why = why at.held at.why;
  }
