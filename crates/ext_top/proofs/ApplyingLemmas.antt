-- What carrying out a command leaves: where nothing was done to the disk, and where outcomes are those of another definition.
use Rattle.std.proofs.Common.{◌≡◌, ◌≤◌, inl, inr, Option, Some, None, IfSome, Result, Ok, Err, refl, sym, subst, arith}
use Rattle.ext_depot.specs.Depot.{DepotState}
use Rattle.ext_disk.specs.Disk.{Places, Told, DiskState, BothTold, IsDisk}
use Rattle.ext_store_files.specs.declared.fault.StoreFault.TheVariants.{OutOfMemory, DiskFault, DepotFault, Damaged}
use Rattle.ext_homes.specs.Giving.{trees_before}
use Rattle.ext_gen.specs.Opened.{Generation}
use Rattle.ext_gen.specs.Preparing.{host_before}
use Rattle.ext_gen.specs.Store.{State, generation_in}
use Rattle.ext_gen.specs.Sound.{IsDurably}
use Rattle.ext_gen.proofs.ForCallers.{durably_since, stands_since_wider}
use Rattle.ext_intents.specs.Intents.{trees_seen}
use Rattle.ext_top.specs.Applying.{Applies, AppliesEnds, AppliesTold, ApplyCause, IsPassed}
use Rattle.ext_top.specs.Machine.{Outcome}
use Rattle.ext_top.specs.declared.applied.Applied.{Applied}
use Rattle.ext_top.specs.declared.apply_err.ApplyErr.{ApplyErr}
use Rattle.ext_top.specs.declared.apply_err.ApplyErr.TheVariants.{Fault, Unfinished}

pub rested : (P : Outcome → Type 0) (s : State) (result : Result Applied ApplyErr) (d : Told) → IsDisk d → IsDurably s d.places → AppliesEnds P s result d.places → Applies P s result d d
rested P s result d disk durably ends =
    record { ends = ends; since = stands_since_wider (λ x. x ≡ s) (IsPassed P s) d d.clock (λ x is. inl is) (durably_since s d disk durably) }

-- what holds where the disk tells this
abbrev pub EndsAt : (State → Outcome → Type 0) → Option Generation → Result Applied ApplyErr → Told → Type 0
EndsAt P opened result d = (s : State) → generation_in s ≡ opened → IsDurably s d.places → AppliesEnds (P s) s result d.places

pub rested_told : (P : State → Outcome → Type 0) (opened : Option Generation) (result : Result Applied ApplyErr) (x y : Option Told) → y ≡ x → IfSome x IsDisk
    → ((d : Told) → x ≡ Some d → EndsAt P opened result d) → BothTold (AppliesTold P opened result) x y
rested_told P opened result None y same disk ends = subst (λ o. BothTold (AppliesTold P opened result) None o) (sym same) tt
rested_told P opened result (Some d) y same disk ends =
    subst (λ o. BothTold (AppliesTold P opened result) (Some d) o) (sym same) (λ s is durably. rested (P s) s result d disk durably (ends d refl s is durably))

pub ends_wider : (P Q : Outcome → Type 0) (s : State) (result : Result Applied ApplyErr) (e : Places) → ((outcome : Outcome) → P outcome → Q outcome) → AppliesEnds P s result e → AppliesEnds Q s result e
ends_wider P Q s (Ok applied) e wider (outcome, is, of, durably) = (outcome, wider outcome is, of, durably)
ends_wider P Q s (Err (Fault DiskFault)) e wider (inl durably) = inl durably
ends_wider P Q s (Err (Fault DiskFault)) e wider (inr (outcome, is, either)) = inr (outcome, wider outcome is, either)
ends_wider P Q s (Err (Fault DepotFault)) e wider durably = durably
ends_wider P Q s (Err (Fault (Damaged damage))) e wider never = absurd never
ends_wider P Q s (Err Unfinished) e wider durably = durably
ends_wider P Q s (Err (Fault OutOfMemory)) e wider durably = durably

pub passed_wider : (P Q : Outcome → Type 0) (s x : State) → ((outcome : Outcome) → P outcome → Q outcome) → IsPassed P s x → IsPassed Q s x
passed_wider P Q s x wider (inl is) = inl is
passed_wider P Q s x wider (inr (outcome, of, is)) = inr (outcome, wider outcome of, is)

pub applies_wider : (P Q : State → Outcome → Type 0) (opened : Option Generation) (result : Result Applied ApplyErr) (d e : Told)
    → ((s : State) → generation_in s ≡ opened → (outcome : Outcome) → P s outcome → Q s outcome) → AppliesTold P opened result d e → AppliesTold Q opened result d e
applies_wider P Q opened result d e wider applies = λ s is durably.
    let of = applies s is durably in
    record {
      ends = ends_wider (P s) (Q s) s result e.places (wider s is) of.ends;
      since = stands_since_wider (IsPassed (P s) s) (IsPassed (Q s) s) e d.clock (λ x. passed_wider (P s) (Q s) s x (wider s is)) of.since;
    }

pub told_wider : (P Q : State → Outcome → Type 0) (opened : Option Generation) (result : Result Applied ApplyErr) (x y : Option Told)
    → ((s : State) → generation_in s ≡ opened → (outcome : Outcome) → P s outcome → Q s outcome) → BothTold (AppliesTold P opened result) x y → BothTold (AppliesTold Q opened result) x y
told_wider P Q opened result None None wider applies = tt
told_wider P Q opened result None (Some e) wider applies = absurd applies
told_wider P Q opened result (Some d) None wider applies = absurd applies
told_wider P Q opened result (Some d) (Some e) wider applies = applies_wider P Q opened result d e wider applies

-- a fault since a later moment is one since an earlier one
pub cause_since : (opened : Option Generation) (old new : DiskState) (before mid after : DepotState) (error : ApplyErr) → before.faults ≤ mid.faults → ApplyCause opened old new mid after error → ApplyCause opened old new before after error
cause_since opened old new before mid after (Fault DiskFault) le is = is
cause_since opened old new before mid after (Fault DepotFault) le (inl more) = inl (omega arith)
cause_since opened old new before mid after (Fault DepotFault) le (inr most) = inr most
cause_since opened old new before mid after (Fault (Damaged damage)) le is = is
cause_since opened old new before mid after Unfinished le is = is
cause_since opened old new before mid after (Fault OutOfMemory) le is = tt

pub trees_alike : (opened : Option Generation) → trees_seen (host_before opened) ≡ trees_before (host_before opened)
trees_alike None = refl
trees_alike (Some g) = refl
