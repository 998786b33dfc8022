use Rattle.std.proofs.Common.{◌≡◌, ℕ, ◌||◌, take}
use Rattle.ext_store_files.specs.LeftOvers.{has_generation}
use Rattle.ext_gen.specs.Preparing.{has_file_in}
use Rattle.ext_gen.proofs.preparing.needed.add_entries.Given as goal

-- those of the entries so far are added
abbrev pub invariant-entries : goal.invariant-entries
invariant-entries l = (n : ℕ) → has_generation l.needed n ≡ (has_generation l.initial.needed n || has_file_in n (take l.entry-index l.entries))
