-- One call of a depot in memory, exactly.
use Rattle.std.specs.Prelude.{◌≡◌, ℕ, List, Some, Contains, Result, Ok, Err, if◌then◌else◌}
use Rattle.std.specs.Ordering.{eq_by_cmp}
use Rattle.ext_text.specs.Path.{path_cmp}
use Rattle.ext_io.specs.Device.{next_count}
use Rattle.ext_depot.specs.DepotView.{DepotView, file_at}

-- a call fails exactly where its number is listed; it is counted, and so is its fault
abbrev pub Admits : {T E : Type 0} → DepotView → DepotView → Result T E → Type 0
Admits old new (Ok _) =
    (¬ Contains old.fails (next_count old.calls)) × (new ≡ record old { calls = next_count old.calls })
Admits old new (Err _) =
    Contains old.fails (next_count old.calls) × (new ≡ record old { calls = next_count old.calls; faults = next_count old.faults })

-- the file at the path has these bytes, whatever stood there, and every other one stays
pub record Puts (old new : DepotView) (path : List (List ℕ)) (bytes : List ℕ) : Type 0 where
  pub files : (q : List (List ℕ)) → file_at new q ≡ (if eq_by_cmp path_cmp path q then Some bytes else file_at old q)
  pub fails : new.fails ≡ old.fails
  pub calls : new.calls ≡ old.calls
  pub faults : new.faults ≡ old.faults
