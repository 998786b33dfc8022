-- What is known of the updates that a plan is made of, and that its host is fit: the past of the host stays.
use Rattle.std.proofs.Common.{◌≡◌, ℕ, true, false, List, [], ◌∷◌, Option, Some, None, Ok, inl, inr, refl, sym, ap, subst}
use Rattle.std.specs.Prelude.{◌⊎◌, Contains}
use Rattle.std.specs.List.{list_any}
use Rattle.std.proofs.lemmas.Bool.{true≢false}
use Rattle.ext_text.specs.declared.which.Which.{Which}
use Rattle.ext_depot.specs.Depot.{Files}
use Rattle.ext_tree.specs.Tree.{Entries}
use Rattle.ext_host.specs.Held.{HeldFile}
use Rattle.ext_host.specs.Limits.{passed_limit}
use Rattle.ext_host.specs.Planning.{IsBaseTree, IsPlannedHost}
use Rattle.ext_host.specs.Shelf.{Told}
use Rattle.ext_host.specs.declared.host.Host.{Host}
use Rattle.ext_host.specs.declared.manifest.Manifest.{Manifest}
use Rattle.ext_host.specs.declared.past.Past.{Past}
use Rattle.ext_transfer.specs.declared.transfer.Transfer.{Transfer}
use Rattle.ext_installed.specs.declared.instance.Instance.{Instance}
use Rattle.ext_feature.proofs.ForCallers.{active_bounds}
use Rattle.ext_resources.proofs.ForCallers.{told_listed}
use Rattle.ext_update.specs.Given.{AreUpdatesFor}
use Rattle.ext_update.specs.Stages.{SizedWants}
use Rattle.ext_update.specs.Steps.{IfUpdated, IfVacuumed}
use Rattle.ext_update.specs.Update.{UpdateWants, writes_of}
use Rattle.ext_update.specs.Vacuum.{VacuumWants, no_writes}
use Rattle.ext_update.specs.declared.planned.Update.{Update}
use Rattle.ext_update.specs.declared.planned.Update.TheVariants as updated
use Rattle.ext_update.specs.declared.planned.Vacuum.{Vacuum}
use Rattle.ext_update.specs.declared.planned.Vacuum.TheVariants as vacuumed
use Rattle.ext_update.specs.declared.updates.Updates.{Updates}
use Rattle.ext_update.proofs.ForCallers.{update_writes, vacuum_removes}
use Rattle.ext_intents.specs.Intents.{IsFit, IsPlanned, stays}
use Rattle.ext_intents.specs.Updates.{AreUpdates}
use Rattle.ext_intents.specs.Updating.{ByUpdate, ByVacuum, update_intent, vacuum_intent}
use Rattle.ext_intents.specs.declared.intent.Intent.{Intent}

-- the updates that a look finds are those of the host
pub updates_for : (told : HeldFile → Told) (files : Option Files) (host : Host) (base : Entries HeldFile) (component : Option (List ℕ)) (updates : Updates) → IsBaseTree host base
    → AreUpdates told files host base component updates → AreUpdatesFor host updates
updates_for told files host base component updates is are = record {
  bounds = active_bounds told 0 0 base host.arch component (Ok updates.transfers) are.active;
  listed = told_listed files updates.transfers updates.offers are.offered;
  available = are.available;
  base = base;
  is_base = is;
  installed = are.installed;
}

-- a list of which no test holds is empty
pub none_held : (paths : List (List (List ℕ))) → list_any (λ path. true) paths ≡ false → paths ≡ []
none_held [] none = refl
none_held (path ∷ paths) none = absurd (true≢false none)

-- what is wanted where nothing holds, the other reason being none
otherwise : {N W B : Type 0} (R : Type 0) → (N × W) ⊎ B → (B → ⊥) → (W → R) → R
otherwise R (inl (none, wants)) never goes = goes wants
otherwise R (inr b) never goes = absurd (never b)

by_limit : {X : Type 0} {x : X} (S : Option Which → X → Type 0) (R : Type 0) (limit : Option Which) → S limit x → (S None x → R) → ((which : Which) → S (Some which) x → R) → R
by_limit S R None s none some = none s
by_limit S R (Some which) s none some = some which s

past_of : (host next : Host) (root : Entries HeldFile) (kept : List Manifest) → next ≡ record host { root = root; kept = kept } → next.past ≡ host.past
past_of host next root kept is = ap (λ (h : Host). h.past) is

-- an update and making room leave the past
updated_past : (files : Option Files) (host next : Host) (updates : Updates) (wanted : Option (List ℕ)) (version : List ℕ) → UpdateWants files host updates wanted (updated.Changes version next) → next.past ≡ host.past
updated_past files host next updates wanted version wants =
    let all = update_writes files host next updates wanted version wants in
    let writes = writes_of updates version all.0 all.1 in
    let P : Type 0 = next.past ≡ host.past in
    otherwise P all.4 (λ b. let is = b.2 in cc is)
    (λ clash. otherwise P clash (λ b. let is = b.2 in cc is)
    (λ opens. otherwise P opens (λ b. let is = b.2 in cc is)
    (λ fitting. otherwise P fitting (λ b. let is = b.1 in cc is)
    (λ sized. by_limit (SizedWants host writes sized.0) P (passed_limit sized.0 host.lower) sized.2
    (λ n. past_of host next sized.0 n.0 (let is = n.2 in cc is)) (λ which is. cc is)))))

vacuumed_past : (host next : Host) (transfers : List Transfer) (items : List Instance) (removed : List (List (List ℕ))) → VacuumWants host transfers items (vacuumed.Changes removed next) → next.past ≡ host.past
vacuumed_past host next transfers items removed wants =
    let all = vacuum_removes host next transfers items removed wants in
    let writes = no_writes all.0 in
    let P : Type 0 = next.past ≡ host.past in
    otherwise P all.3 (λ b. let is = b.2 in cc is)
    (λ clash. otherwise P clash (λ b. let is = b.2 in cc is)
    (λ opens. otherwise P opens (λ b. let is = b.2 in cc is)
    (λ fitting. otherwise P fitting (λ b. let is = b.1 in cc is)
    (λ sized. by_limit (SizedWants host writes sized.0) P (passed_limit sized.0 host.lower) sized.2
    (λ n. past_of host next sized.0 n.0 (let is = n.2 in cc is)) (λ which is. cc is)))))

-- a planned host with the past of the host is fit
pub past_fits : (coming : ℕ) (host next : Host) → IsPlannedHost host next → next.past ≡ host.past → IsPlanned coming (Some host) next
past_fits coming host next planned past = record {
  valid = planned.valid;
  drawn = planned.drawn;
  past = λ p has. stays (subst (λ (ps : List Past). Contains ps p) past has);
}

updated_fits : (coming : ℕ) (files : Option Files) (host : Host) (wanted : Option (List ℕ)) (updates : Updates) (update : Update) → UpdateWants files host updates wanted update
    → IfUpdated (IsPlannedHost host) update → IsFit coming (Some host) (update_intent wanted update)
updated_fits coming files host wanted updates updated.Unchanged wants planned = tt
updated_fits coming files host wanted updates (updated.Changes version next) wants planned =
    past_fits coming host next planned (updated_past files host next updates wanted version wants)
updated_fits coming files host wanted updates (updated.Refused reason) wants planned = tt

pub by_update_fits : (coming : ℕ) (files : Option Files) (host : Host) (wanted : Option (List ℕ)) (updates : Updates) (intent : Intent) → ByUpdate files host wanted updates intent
    → IsFit coming (Some host) intent
by_update_fits coming files host wanted updates intent (update, wants, planned, is) =
    subst (IsFit coming (Some host)) (sym is) (updated_fits coming files host wanted updates update wants planned)

vacuumed_fits : (coming : ℕ) (host : Host) (transfers : List Transfer) (items : List Instance) (vacuum : Vacuum) → VacuumWants host transfers items vacuum → IfVacuumed (IsPlannedHost host) vacuum
    → IsFit coming (Some host) (vacuum_intent vacuum)
vacuumed_fits coming host transfers items vacuumed.Unchanged wants planned = tt
vacuumed_fits coming host transfers items (vacuumed.Changes removed next) wants planned =
    past_fits coming host next planned (vacuumed_past host next transfers items removed wants)
vacuumed_fits coming host transfers items (vacuumed.Refused reason) wants planned = tt

pub by_vacuum_fits : (coming : ℕ) (host : Host) (transfers : List Transfer) (items : List Instance) (intent : Intent) → ByVacuum host transfers items intent → IsFit coming (Some host) intent
by_vacuum_fits coming host transfers items intent (vacuum, wants, planned, is) =
    subst (IsFit coming (Some host)) (sym is) (vacuumed_fits coming host transfers items vacuum wants planned)
