-- The host without some of its attachments, whose paths are given in another order.
use Rattle.std.proofs.Common.{◌≡◌, ℕ, List, Ok, Err, sym, subst, ◌∙◌}
use Rattle.std.specs.Prelude.{IfOk, Result}
use Rattle.ext_tree.specs.Cut.{cut_all}
use Rattle.ext_host.specs.Planning.{IsPlannedHost}
use Rattle.ext_host.specs.Touch.{untouched_all}
use Rattle.ext_host.specs.Valid.{IsValidHost}
use Rattle.ext_host.specs.declared.attachment.Attachment.{Attachment}
use Rattle.ext_host.specs.declared.host.Host.{Host}
use Rattle.ext_attached.specs.Going.{AreCutPaths, cut_paths, detached, staying}
use Rattle.ext_attached.specs.declared.going.By.{By}
use Rattle.ext_attached.proofs.GoingLemmas.{detached_is_planned, same_detached}

-- that host is the one without these attachments
pub is_detached : {E : Type 0} (by : By) (text : List ℕ) (host : Host) (cut : List (List (List ℕ))) (attached : List Attachment) → attached ≡ staying by text host.attached
    → AreCutPaths by text host cut → (r : Result Host E)
    → IfOk r (λ next. next ≡ record host { root = cut_all cut host.root; attached = attached; kept = untouched_all cut host.kept })
    → IfOk r (λ next. next ≡ detached by text host)
is_detached by text host cut attached stay same (Ok next) is =
    is ∙ (same_detached host cut (cut_paths by text host) attached same
    ∙ (λ i. record host { root = cut_all (cut_paths by text host) host.root; attached = stay i; kept = untouched_all (cut_paths by text host) host.kept }))
is_detached by text host cut attached stay same (Err e) is = tt

-- that host is valid where the host is, with its files
pub are_planned : {E : Type 0} (by : By) (text : List ℕ) (host : Host) → IsValidHost host → (r : Result Host E) → IfOk r (λ next. next ≡ detached by text host)
    → IfOk r (IsPlannedHost host)
are_planned by text host valid (Ok next) is = subst (IsPlannedHost host) (sym is) (detached_is_planned by text host valid)
are_planned by text host valid (Err e) is = tt
