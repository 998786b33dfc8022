-- What making room wants of a host, after systemd-sysupdate(8), command vacuum: the oldest instances go that no transfer protects, so
-- that each target has no more versions than its transfer allows. Where none goes nothing changes. What sources offer counts for
-- nothing.
use Rattle.std.specs.Prelude.{◌≡◌, ◌⊎◌, ℕ, List, [], ◌∷◌, None}
use Rattle.ext_host.specs.declared.host.Host.{Host}
use Rattle.ext_transfer.specs.declared.transfer.Transfer.{Transfer}
use Rattle.ext_installed.specs.declared.instance.Instance.{Instance}
use Rattle.ext_choice.specs.Vacuum.{IsDivision, LacksFirst}
use Rattle.ext_choice.specs.declared.division.Division.{Division}
use Rattle.ext_update.specs.Stages.{Writes, WritesWant}
use Rattle.ext_update.specs.declared.planned.Planned.{Planned}
use Rattle.ext_update.specs.declared.planned.Planned.TheVariants as plans
use Rattle.ext_update.specs.declared.refusal.UpdateRefusal.TheVariants as refusals
use Rattle.ext_update.specs.declared.planned.Vacuum.{Vacuum}
use Rattle.ext_update.specs.declared.planned.Vacuum.TheVariants.{Unchanged, Changes, Refused}

-- nothing is written
abbrev pub no_writes : Division → Writes
no_writes division = record { resources = []; links = []; removed = division.removed; staying = division.staying }

-- what was planned of what goes
abbrev pub vacuum_of : List (List (List ℕ)) → Planned → Vacuum
vacuum_of removed (plans.Next next) = Changes removed next
vacuum_of removed (plans.Refused refusal) = Refused refusal

-- what is wanted where there is room
abbrev pub GoneWants : Host → Division → List (List (List ℕ)) → Vacuum → Type 0
GoneWants host division [] vacuum = vacuum ≡ Unchanged
GoneWants host division (first ∷ removed) vacuum =
    (planned : Planned) × WritesWant host (no_writes division) planned × (vacuum ≡ vacuum_of (first ∷ removed) planned)

-- what is wanted of a host, by transfers and their instances
abbrev pub VacuumWants : Host → List Transfer → List Instance → Vacuum → Type 0
VacuumWants host transfers items vacuum =
    ((division : Division) × IsDivision transfers None items division × GoneWants host division division.removed vacuum)
    ⊎ ((file : List ℕ) × (count : ℕ) × LacksFirst transfers None items file count
    × (vacuum ≡ Refused (refusals.NoRoom file count)))
