use Rattle.std.proofs.Common.{◌≡◌, ℕ, ◌||◌, take}
use Rattle.std.specs.List.{list_any}
use Rattle.ext_store_files.specs.LeftOvers.{has_generation}
use Rattle.ext_gen.specs.Preparing.{has_file_in, trees_of_pasts}
use Rattle.ext_gen.proofs.preparing.needed.add_pasts.Given as goal

-- those of the past trees so far are added
abbrev pub invariant-pasts : goal.invariant-pasts
invariant-pasts l = (n : ℕ) → has_generation l.needed n ≡ (has_generation l.initial.needed n || list_any (has_file_in n) (trees_of_pasts (take l.past-index l.pasts)))
