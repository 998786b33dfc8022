-- Stores between stops, this project's own: which state a disk stands for now, and whichever it may stand for after a stop.
use Rattle.std.specs.Prelude.{◌≡◌, ℕ, true, false, ◌⊎◌, List, Option, Some, if◌then◌else◌}
use Rattle.std.specs.Ordering.{eq_by_cmp}
use Rattle.ext_text.specs.Path.{path_cmp}
use Rattle.ext_disk.specs.Disk.{Node, Tree, Places, Told, Swing, is_durable, now}
use Rattle.ext_disk.specs.Since.{Since}
use Rattle.ext_host.specs.Held.{HeldFile}
use Rattle.ext_host.specs.declared.home.Home.{Home}
use Rattle.ext_store_files.specs.Names.{current_path, generation_path, home_path, index_path, next_path}
use Rattle.ext_gen.specs.Opened.{Generation}
use Rattle.ext_gen.specs.Store.{State, at, IsKeptFile, Stands}

-- beside `current`: the folder of the generation, its index, and the homes of its files
pub data IsGenerationPath : State → List (List ℕ) → Type 0 where
  base_folder : (g : Generation) (contents : Home → List ℕ) → IsGenerationPath (at g contents) (generation_path g.number)
  base_index : (g : Generation) (contents : Home → List ℕ) → IsGenerationPath (at g contents) (index_path g.number)
  base_home : (g : Generation) (contents : Home → List ℕ) (held : HeldFile) (kept : Home) → IsKeptFile g.host held kept → IsGenerationPath (at g contents) (home_path kept.generation kept.file)

-- each path on which the state rests beside `current` is durable
abbrev pub IsBaseDurable : Places → State → Type 0
IsBaseDurable d s = (p : List (List ℕ)) → IsGenerationPath s p → is_durable d p ≡ true

-- what it has now and, where it has an unsynced rename, both of its outcomes
pub data MayHold (d : Places) : Option Node → Type 0 where
  as_now : MayHold d (d current_path).node
  as_before : (w : Swing) → (d current_path).unsynced_rename ≡ Some w → MayHold d w.before
  as_after : (w : Swing) → (d current_path).unsynced_rename ≡ Some w → MayHold d w.after

-- the tree with this at `current`
abbrev pub with_current : Option Node → Tree → Tree
with_current node t = λ p. if eq_by_cmp path_cmp current_path p then node else t p

-- with something that `current` may have, the disk stands for the state, and what that rests on is durable
pub record IsMember (d : Places) (s : State) : Type 0 where
  pub node : Option Node
  pub may : MayHold d node
  pub stands : Stands (with_current node (now d)) s
  pub durable : IsBaseDurable d s

-- whatever `current` may have, the disk stands for a state
pub record IsSound (d : Places) : Type 0 where
  pub synced : (d current_path).unsynced_name ≡ false
  pub hard : (d current_path).unsynced_bytes ≡ false
  pub each : (node : Option Node) → MayHold d node → (s : State) × Stands (with_current node (now d)) s × IsBaseDurable d s

-- sound, and whatever `current` may have, the disk stands for one of two states
pub record IsEither (s u : State) (d : Places) : Type 0 where
  pub synced : (d current_path).unsynced_name ≡ false
  pub hard : (d current_path).unsynced_bytes ≡ false
  pub each : (node : Option Node) → MayHold d node
      → (Stands (with_current node (now d)) s × IsBaseDurable d s) ⊎ (Stands (with_current node (now d)) u × IsBaseDurable d u)

-- the disk stands for the state, and no stop now leaves another
pub record IsDurably (s : State) (d : Places) : Type 0 where
  pub current : is_durable d current_path ≡ true
  pub base : IsBaseDurable d s
  pub stands : Stands (now d) s

-- the disk durably stands for one state, and all is there for another, which it stands for as soon as `next` is `current`
pub record IsReady (s u : State) (d : Places) : Type 0 where
  pub durably : IsDurably s d
  pub next : is_durable d next_path ≡ true
  pub coming : Stands (with_current (d next_path).node (now d)) u
  pub base : IsBaseDurable d u

-- each tree that a stop since the moment may have left stands for a state of these
abbrev pub StandsSince : (State → Type 0) → Told → ℕ → Type 0
StandsSince P d m = (t : Tree) → Since d m t → (s : State) × P s × Stands t s

-- whichever state the disk stood for durably, it still does, and so does each tree that a stop since may have left
abbrev pub KeepsDurably : Told → Told → Type 0
KeepsDurably d e = (s : State) → IsDurably s d.places → IsDurably s e.places × StandsSince (λ x. x ≡ s) e d.clock
