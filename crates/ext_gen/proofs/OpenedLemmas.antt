-- What an opened store says of its host.
use Rattle.std.proofs.Common.{ℕ, arith}
use Rattle.std.specs.Prelude.{IsTrue}
use Rattle.std.proofs.lemmas.Bool.{lt-ltb}
use Rattle.ext_disk.specs.Disk.{Tree}
use Rattle.ext_host.specs.Drawn.{trees_of}
use Rattle.ext_host.specs.Valid.{IsValidHost}
use Rattle.ext_host.specs.declared.body.Body.{Body}
use Rattle.ext_host.specs.declared.body.Body.TheVariants.{Here, Kept, Depot}
use Rattle.ext_index.specs.ValidIndex.{IsKeptUpTo, IsValidFor, IsWellFormed}
use Rattle.ext_store_files.specs.HeldFiles.{is_served}
use Rattle.ext_gen.specs.Opened.{Generation, IsOpened}
use Rattle.ext_gen.specs.Store.{IsCurrent}
use Rattle.ext_gen.specs.Checking.{AreServed}

-- it is valid, in its generation and by itself, and well formed
pub opened_is_valid_for : (g : Generation) → IsOpened g → IsValidFor g.number g.host
opened_is_valid_for g opened = opened.index.2.valid

-- the host of what was opened is valid
pub opened_is_valid : (g : Generation) → IsOpened g → IsValidHost g.host
opened_is_valid g opened = (opened_is_valid_for g opened).valid

-- and its names and paths are names and paths
pub opened_is_well_formed : (g : Generation) → IsOpened g → IsWellFormed g.host
opened_is_well_formed g opened = opened.index.2.formed

kept_is_served : (n : ℕ) (body : Body) → IsKeptUpTo n body → IsTrue (is_served body)
kept_is_served n (Here bytes) kept = absurd kept
kept_is_served n (Kept home) kept = lt-ltb home.file 262144 (let most = kept.file in omega arith)
kept_is_served n (Depot path) kept = absurd kept

-- its files can be read
pub opened_is_served : (g : Generation) → IsOpened g → AreServed (trees_of g.host)
opened_is_served g opened = λ held file. kept_is_served g.number held.body ((opened_is_valid_for g opened).kept held file)

-- where a store points to, there it can be opened
pub current_is_opened : (g : Generation) (t : Tree) → IsCurrent t g → IsOpened g
current_is_opened g t current = record { number = current.number; bytes = current.bytes; index = current.reads }
