-- A call spares each path that it does not touch: the path stays, and stays fixed.
use Rattle.std.proofs.Common.{◌≡◌, ◌⊎◌, ℕ, ◌<◌, ◌≤◌, Bool, true, false, List, refl, sym, ◌∙◌, subst, inl, inr, arith}
use Rattle.std.proofs.lemmas.Bool.{cases_lt}
use Rattle.ext_disk.specs.Disk.{Tree, Places, Told, MayLeave, is_durable}
use Rattle.ext_disk.specs.Since.{Since, IsLater}
use Rattle.ext_disk.specs.Calls.{Call, IsWithin, DoesTold}
use Rattle.ext_disk.specs.Fixed.{IsFixed, IsUnchangedAt, touches}
use Rattle.ext_disk.proofs.Paths.{contrapose}
use Rattle.ext_disk.proofs.Outcomes.{within_stays, touches_below, durable_stays, ends_within, stays_same, stays_then}

pub later_itself : (d : Told) → IsLater d d
later_itself d = record { clock = omega arith; past = λ n upto. refl }

pub later_then : (c d e : Told) → IsLater c d → IsLater d e → IsLater c e
later_then c d e one two =
    let first = one.clock in
    let second = two.clock in
    record {
      clock = omega arith;
      past = λ n upto. two.past n (omega arith) ∙ one.past n upto;
    }

-- what a stop may have left by then, it may have left in the later disk, and it may have left nothing else but since then
pub since_later : (d e : Told) (m : ℕ) (t : Tree) → IsLater d e → Since d m t → Since e m t
since_later d e m t later s =
    let clock = later.clock in
    let upto = s.upto in
    record {
      moment = s.moment;
      from = s.from;
      upto = omega arith;
      left = subst (λ x. MayLeave x t) (sym (later.past s.moment s.upto)) s.left;
    }

pub since_earlier : (d e : Told) (m : ℕ) (t : Tree) → IsLater d e → (s : Since e m t) → s.moment ≤ d.clock → Since d m t
since_earlier d e m t later s early = record {
  moment = s.moment;
  from = s.from;
  upto = early;
  left = subst (λ x. MayLeave x t) (later.past s.moment early) s.left;
}

-- at each moment within a call a path that it does not touch stays, and stays durable
within_durable : (call : Call) (d x : Places) (p : List (List ℕ)) → touches call p ≡ false → IsWithin call d x → is_durable d p ≡ true → is_durable x p ≡ true
within_durable call d x p out within durable =
    durable_stays d x p
    (λ q prefix. within_stays call d x q (contrapose _ _ (touches_below call q p prefix) out) within)
    (within_stays call d x p out within) durable

fixed_since : (call : Call) (done : Bool) (d e : Told) (p : List (List ℕ)) (m : ℕ) (t : Tree) → touches call p ≡ false → DoesTold call done d e
    → IsFixed d m p → (s : Since e m t) → (d.clock < s.moment) ⊎ (s.moment ≤ d.clock) → t p ≡ (d.places p).node
fixed_since call done d e p m t out does fixed s (inl late) =
    let within = does.within s.moment late s.upto in
    s.left.durable p (within_durable call d.places (e.past s.moment) p out within fixed.durable) ∙ (within_stays call d.places (e.past s.moment) p out within).node
fixed_since call done d e p m t out does fixed s (inr early) = fixed.since t (since_earlier d e m t does.later s early)

-- a call spares each path that it does not touch, done or failed
pub call_spares : (call : Call) (done : Bool) (d e : Told) → DoesTold call done d e → (p : List (List ℕ)) → touches call p ≡ false → IsUnchangedAt d e p
call_spares call done d e does p out =
    let ended = ends_within call done d e does.ends in
    let stays = within_stays call d.places e.places p out ended in
    record {
      stays = stays;
      fixed = λ m upto fixed. record {
        durable = within_durable call d.places e.places p out ended fixed.durable;
        since = λ t s. fixed_since call done d e p m t out does fixed s (cases_lt d.clock s.moment) ∙ sym stays.node;
      };
    }

pub unchanged_itself : (d : Told) (p : List (List ℕ)) → IsUnchangedAt d d p
unchanged_itself d p = record { stays = stays_same d.places d.places p refl; fixed = λ m upto fixed. fixed }

pub unchanged_then : (c d e : Told) (p : List (List ℕ)) → IsLater c d → IsUnchangedAt c d p → IsUnchangedAt d e p → IsUnchangedAt c e p
unchanged_then c d e p later one two = record {
  stays = stays_then c.places d.places e.places p one.stays two.stays;
  fixed = λ m upto fixed. let clock = later.clock in two.fixed m (omega arith) (one.fixed m upto fixed);
}
