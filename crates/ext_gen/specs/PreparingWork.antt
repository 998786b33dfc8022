-- A change that is written whole, in paths of the store: what is complete, and what is gone.
use Rattle.std.specs.Prelude.{◌≡◌, ◌⊎◌, ℕ, ◌+◌, Bool, true, List, [], ◌∷◌, length, Option}
use Rattle.std.specs.List.{sum_by}
use Rattle.std.specs.Option.{is_some}
use Rattle.ext_depot.specs.Depot.{DepotState}
use Rattle.ext_disk.specs.Disk.{Told, DiskState, BothTold}
use Rattle.ext_host.specs.declared.host.Host.{Host}
use Rattle.ext_store_files.specs.Appended.{raised}
use Rattle.ext_store_files.specs.LeftOvers.{is_left_over}
use Rattle.ext_store_files.specs.Names.{current_text, generation_name, next_name}
use Rattle.ext_homes.specs.Giving.{stored_by}
use Rattle.ext_homes.specs.Placed.{IsHostPlaced}
use Rattle.ext_index.specs.ValidIndex.{written_text}
use Rattle.ext_gen.specs.Opened.{Generation, IsOpened}
use Rattle.ext_gen.specs.Preparing.{coming_number, host_before, is_needed}
use Rattle.ext_gen.specs.PreparingIndex.{coming_index}
use Rattle.ext_gen.specs.PreparingStages.{IsComplete}

-- The coming generation is complete, and of the left-overs nothing is there but its names. What was appended is exactly its files
-- that were written, its index and the line of `next`.
pub record ChangedTold (needed : ℕ → Bool) (n : ℕ) (host : Host) (written : List (List ℕ)) (d e : Told) : Type 0 where
  pub complete : IsComplete n written (coming_index n host) e.places
  pub appended : e.appended ≡ raised d.appended (sum_by length written + (length (coming_index n host) + length (current_text n)))
  pub names : (name : List ℕ) → is_left_over needed name ≡ true → is_some (e.places (name ∷ [])).node ≡ true → (name ≡ next_name) ⊎ (name ≡ generation_name n)

-- the host has its homes, and is one of a generation
pub record Changed (from : Option Generation) (n : ℕ) (next : Host) (old new : DiskState) (depot : DepotState) (host : Host) : Type 0 where
  pub written : List (List ℕ)
  pub homes : IsHostPlaced (stored_by (host_before from) old) depot n next host written
  pub opened : IsOpened (record { number = n; text = written_text host; host = host })
  pub told : BothTold (ChangedTold (is_needed from) n host written) old.told new.told

-- and the generation is the coming one
pub record Completed (from : Option Generation) (next : Host) (old new : DiskState) (depot : DepotState) (coming : Generation) : Type 0 where
  pub number : coming.number ≡ coming_number from
  pub text : coming.text ≡ written_text coming.host
  pub changed : Changed from coming.number next old new depot coming.host
