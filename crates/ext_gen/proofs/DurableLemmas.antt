-- A store that is durable: what it rests on is fixed, and calls that spare that keep it durable.
use Rattle.std.proofs.Common.{◌≡◌, ◌⊎◌, ℕ, Bool, false, List, Option, Some, None, IfSome, refl, inl, inr, arith}
use Rattle.ext_disk.specs.Disk.{Tree, Told, DiskState, BothTold, IsDisk, now}
use Rattle.ext_disk.specs.Fixed.{IsFixed, IsUnchangedAt, Spares}
use Rattle.ext_disk.specs.Since.{Since, IsLater}
use Rattle.ext_disk.proofs.ForCallers.{fixed_now, since_now, since_past}
use Rattle.ext_store_files.specs.Names.{current_path}
use Rattle.ext_gen.specs.Store.{State, Stands}
use Rattle.ext_gen.specs.Sound.{IsGenerationPath, IsDurably, KeepsDurably, StandsSince}
use Rattle.ext_gen.proofs.StatesLemmas.{durably_left, stands_same}

-- the paths on which the state rests, and `current`, are fixed since the moment
pub record AreFixed (s : State) (d : Told) (m : ℕ) : Type 0 where
  pub current : IsFixed d m current_path
  pub base : (p : List (List ℕ)) → IsGenerationPath s p → IsFixed d m p

-- those of a durable store are fixed since now
pub durably_is_fixed : (s : State) (d : Told) → IsDisk d → IsDurably s d.places → AreFixed s d d.clock
durably_is_fixed s d disk durably = record {
  current = fixed_now d current_path disk durably.current;
  base = λ p base. fixed_now d p disk (durably.base p base);
}

-- where they are fixed since a moment, and the store stands for the state, it is durable, and each tree that a stop since the moment
-- may have left stands for the state
pub fixed_is_durably : (s : State) (d : Told) (m : ℕ) → AreFixed s d m → Stands (now d.places) s → IsDurably s d.places × StandsSince (λ x. x ≡ s) d m
fixed_is_durably s d m fixed stands = (
  record { current = fixed.current.durable; base = λ p base. (fixed.base p base).durable; stands = stands },
  λ t since. (s, refl, stands_same (now d.places) t s (fixed.current.since t since) (λ p base. (fixed.base p base).since t since) stands),
)

-- each tree that a stop now may leave of a durable store stands for its state
pub durably_since : (s : State) (d : Told) → IsDisk d → IsDurably s d.places → StandsSince (λ x. x ≡ s) d d.clock
durably_since s d disk durably = λ t since. (s, refl, durably_left s d.places t durably (since_now d t disk since))

unchanged_is_fixed : (s : State) (d e : Told) → AreFixed s d d.clock → IsUnchangedAt d e current_path → ((p : List (List ℕ)) → IsGenerationPath s p → IsUnchangedAt d e p) → AreFixed s e d.clock
unchanged_is_fixed s d e fixed current base = record {
  current = current.fixed d.clock (omega arith) fixed.current;
  base = λ p b. (base p b).fixed d.clock (omega arith) (fixed.base p b);
}

-- a store that is durable for a state is so still, where what that rests on stays as it was; and so is each tree that a stop since may
-- have left
pub durably_unchanged : (s : State) (d e : Told) → IsDisk d → IsUnchangedAt d e current_path → ((p : List (List ℕ)) → IsGenerationPath s p → IsUnchangedAt d e p) → IsDurably s d.places
    → IsDurably s e.places × StandsSince (λ x. x ≡ s) e d.clock
durably_unchanged s d e disk current base durably =
    fixed_is_durably s e d.clock (unchanged_is_fixed s d e (durably_is_fixed s d disk durably) current base)
    (stands_same (now d.places) (now e.places) s current.stays.node (λ p b. (base p b).stays.node) durably.stands)

kept_told : (reach : List (List ℕ) → Bool) (x y : Option Told) → IfSome x IsDisk → reach current_path ≡ false
    → IfSome x (λ d. (s : State) → IsDurably s d.places → (p : List (List ℕ)) → IsGenerationPath s p → reach p ≡ false)
    → BothTold (λ d e. (p : List (List ℕ)) → reach p ≡ false → IsUnchangedAt d e p) x y → BothTold KeepsDurably x y
kept_told reach None None disk current base spares = tt
kept_told reach None (Some e) disk current base spares = absurd spares
kept_told reach (Some d) None disk current base spares = absurd spares
kept_told reach (Some d) (Some e) disk current base spares = λ s durably. durably_unchanged s d e disk (spares current_path current) (λ p b. spares p (base s durably p b)) durably

-- A stretch of calls keeps a store durable for whichever state it is, where that rests on nothing within their reach, nor is `current`.
pub durably_kept : (reach : List (List ℕ) → Bool) (old new : DiskState) → IfSome old.told IsDisk → reach current_path ≡ false
    → IfSome old.told (λ d. (s : State) → IsDurably s d.places → (p : List (List ℕ)) → IsGenerationPath s p → reach p ≡ false)
    → Spares reach old new → BothTold KeepsDurably old.told new.told
durably_kept reach old new disk current base spares = kept_told reach old.told new.told disk current base spares.told

-- fewer states
pub stands_since_wider : (P Q : State → Type 0) (d : Told) (m : ℕ) → ((s : State) → P s → Q s) → StandsSince P d m → StandsSince Q d m
stands_since_wider P Q d m wider stands = λ t since. let one = stands t since in (one.0, wider one.0 one.1, one.2)

since_side : (P : State → Type 0) (d e : Told) (m : ℕ) (t : Tree) → StandsSince P d m → StandsSince P e d.clock → Since d m t ⊎ Since e d.clock t → (s : State) × P s × Stands t s
since_side P d e m t one two (inl before) = one t before
since_side P d e m t one two (inr later) = two t later

-- since a moment, and since now: since that moment
pub stands_since_then : (P : State → Type 0) (d e : Told) (m : ℕ) → IsLater d e → StandsSince P d m → StandsSince P e d.clock → StandsSince P e m
stands_since_then P d e m later one two = λ t since. since_side P d e m t one two ((since_past d e m t later).1 since)

-- a durable store is kept so by two stretches of calls
pub keeps_durably_then : (c d e : Told) → IsLater d e → KeepsDurably c d → KeepsDurably d e → KeepsDurably c e
keeps_durably_then c d e later one two =
    λ s durably.
    let first = one s durably in
    let second = two s first.0 in
    (second.0, stands_since_then (λ x. x ≡ s) d e c.clock later first.1 second.1)

-- and by none
pub keeps_durably_itself : (d : Told) → IsDisk d → KeepsDurably d d
keeps_durably_itself d disk = λ s durably. (durably, durably_since s d disk durably)
