-- What the answers of a preparation say.
use Rattle.std.proofs.Common.{◌≡◌, ℕ, Bool, List, ◌++◌, Option, Some, None, Result, Ok, Err, refl, sym, ap, ◌∙◌, subst}
use Rattle.std.specs.Prelude.{IfErr, IfOk}
use Rattle.ext_text.specs.declared.which.Which.{Which}
use Rattle.ext_depot.specs.Depot.{DepotState}
use Rattle.ext_disk.specs.Disk.{DiskState}
use Rattle.ext_disk.proofs.ForCallers.{rests_itself}
use Rattle.ext_tree.specs.Tree.{Entries}
use Rattle.ext_host.specs.Held.{HeldFile}
use Rattle.ext_host.specs.declared.host.Host.{Host}
use Rattle.ext_homes.specs.Giving.{stored_by}
use Rattle.ext_homes.specs.Placed.{Stored}
use Rattle.ext_homes.specs.Refused.{HomesCause}
use Rattle.ext_store_files.specs.declared.fault.StoreFault.TheVariants as store_faults
use Rattle.ext_store_files.specs.declared.fault.StoreFault.TheVariants.{OutOfMemory, DiskFault, DepotFault, Damaged}
use Rattle.ext_store_files.proofs.ForCallers.{told_itself}
use Rattle.ext_homes.specs.declared.errors.HomesErr.TheVariants as homes_errors
use Rattle.ext_index.specs.ValidIndex.{written_text}
use Rattle.ext_gen.specs.Opened.{Generation}
use Rattle.ext_gen.specs.Preparing.{LimitSays, PrepareCause, coming_number, host_before}
use Rattle.ext_gen.specs.PreparingCauses.{ChangeCause}
use Rattle.ext_gen.specs.PreparingPaths.{Cleans, CleansSays}
use Rattle.ext_gen.specs.PreparingWork.{Changed, Completed}
use Rattle.ext_gen.specs.declared.errors.StoreErr.{StoreErr}
use Rattle.ext_gen.specs.declared.errors.StoreErr.TheVariants.{Fault, Broken, Mismatch, NotInDepot, Unfinished, Limit}

failed_with : (T : Type 0) (P : Result T StoreErr → Type 0) (e : StoreErr) (r : Result T StoreErr) → r ≡ Err e → (let f : Result T StoreErr = Err e in P f) → P r
failed_with T P e r is holds = subst P (sym is) holds

-- the limit is answered, and nothing was done
pub limit_says : (T : Type 0) (limit : Option Which) (which : Which) (e : StoreErr) (r : Result T StoreErr) → e ≡ Limit which → limit ≡ Some which → r ≡ Err e → LimitSays limit r
limit_says T limit which e r is passed failed = failed_with T (LimitSays limit) (Limit which) r (failed ∙ ap Err is) passed

pub limit_cleans : (T : Type 0) (left : List (List ℕ) → Bool) (which : Which) (e : StoreErr) (s : DiskState) (r : Result T StoreErr) → e ≡ Limit which → r ≡ Err e → Cleans left r s s
limit_cleans T left which e s r is failed =
    told_itself (λ d f. CleansSays left r d.places f.places) (λ d. failed_with T (λ x. CleansSays left x d.places d.places) (Limit which) r (failed ∙ ap Err is) tt) s.told

pub limit_cause : (from : Option Generation) (next : Host) (s : DiskState) (before after : DepotState) (which : Which) (e : StoreErr) → e ≡ Limit which → PrepareCause from next s s before after e
limit_cause from next s before after which e is = subst (PrepareCause from next s s before after) (sym is) (rests_itself s)

pub no_limit : (T : Type 0) (limit : Option Which) (e : StoreErr) (old new : DiskState) (before after : DepotState) (stored : Stored) (n : ℕ) (es : Entries HeldFile) (r : Result T StoreErr) → limit ≡ None
    → ChangeCause old new before after stored n es e → r ≡ Err e → LimitSays limit r
no_limit T limit (Fault OutOfMemory) old new before after stored n es r none cause failed = failed_with T (LimitSays limit) (Fault OutOfMemory) r failed none
no_limit T limit (Fault DiskFault) old new before after stored n es r none cause failed = failed_with T (LimitSays limit) (Fault DiskFault) r failed none
no_limit T limit (Fault DepotFault) old new before after stored n es r none cause failed = failed_with T (LimitSays limit) (Fault DepotFault) r failed none
no_limit T limit (Broken line) old new before after stored n es r none cause failed = absurd cause
no_limit T limit (Fault (Damaged damage)) old new before after stored n es r none cause failed = failed_with T (LimitSays limit) (Fault (Damaged damage)) r failed none
no_limit T limit (Mismatch path listed found) old new before after stored n es r none cause failed = failed_with T (LimitSays limit) (Mismatch path listed found) r failed none
no_limit T limit (NotInDepot path) old new before after stored n es r none cause failed = failed_with T (LimitSays limit) (NotInDepot path) r failed none
no_limit T limit Unfinished old new before after stored n es r none cause failed = failed_with T (LimitSays limit) Unfinished r failed none
no_limit T limit (Limit which) old new before after stored n es r none cause failed = absurd cause

pub prepare_cause : (from : Option Generation) (next : Host) (old new : DiskState) (before after : DepotState) (n : ℕ) (e : StoreErr) → n ≡ coming_number from
    → ChangeCause old new before after (stored_by (host_before from) old) n (next.root ++ next.lower) e → PrepareCause from next old new before after e
prepare_cause from next old new before after n (Fault OutOfMemory) number cause = tt
prepare_cause from next old new before after n (Fault DiskFault) number cause = cause
prepare_cause from next old new before after n (Fault DepotFault) number cause = cause
prepare_cause from next old new before after n (Broken line) number cause = absurd cause
prepare_cause from next old new before after n (Fault (Damaged damage)) number cause =
    subst (λ k. HomesCause old new before after (stored_by (host_before from) old) k (next.root ++ next.lower) 0 (homes_errors.Fault (store_faults.Damaged damage))) number cause
prepare_cause from next old new before after n (Mismatch path listed found) number cause =
    subst (λ k. HomesCause old new before after (stored_by (host_before from) old) k (next.root ++ next.lower) 0 (homes_errors.Mismatch path listed found)) number cause
prepare_cause from next old new before after n (NotInDepot path) number cause =
    subst (λ k. HomesCause old new before after (stored_by (host_before from) old) k (next.root ++ next.lower) 0 (homes_errors.NotInDepot path)) number cause
prepare_cause from next old new before after n Unfinished number cause = tt
prepare_cause from next old new before after n (Limit which) number cause = absurd cause

pub prepared_limit : (T : Type 0) (limit : Option Which) (r : Result T StoreErr) → limit ≡ None → IfErr r (λ e. e ≡ Fault OutOfMemory) → LimitSays limit r
prepared_limit T limit (Ok t) none cause = none
prepared_limit T limit (Err e) none cause = failed_with T (LimitSays limit) (Fault OutOfMemory) (Err e) (ap Err cause) none

pub prepared_completed : (from : Option Generation) (n : ℕ) (next host : Host) (old new : DiskState) (depot : DepotState) (r : Result Generation StoreErr) → n ≡ coming_number from
    → Changed from n next old new depot host → IfOk r (λ g. g ≡ record { number = n; text = written_text host; host = host }) → IfOk r (Completed from next old new depot)
prepared_completed from n next host old new depot (Ok g) number changed is =
    subst (Completed from next old new depot) (sym is) (record { number = number; text = refl; changed = changed })
prepared_completed from n next host old new depot (Err e) number changed is = tt

pub prepared_cause : (T : Type 0) (from : Option Generation) (next : Host) (old new : DiskState) (before after : DepotState) (r : Result T StoreErr) → IfErr r (λ e. e ≡ Fault OutOfMemory)
    → IfErr r (PrepareCause from next old new before after)
prepared_cause T from next old new before after (Ok t) cause = tt
prepared_cause T from next old new before after (Err e) cause = subst (PrepareCause from next old new before after) (sym cause) tt
