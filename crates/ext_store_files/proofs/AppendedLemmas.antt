-- How the sum of the appended bytes goes up from one stretch of work to the next.
use Rattle.std.proofs.Common.{◌≡◌, ℕ, zero, suc, ◌+◌, ◌-◌, ◌^◌, ◌<◌, ◌≤◌, min, refl, sym, ap, ◌∙◌, subst, arith}
use Rattle.ext_disk.specs.Disk.{DiskState}
use Rattle.ext_store_files.specs.Appended.{raised, RaisesWithin, RaisesTold, Raises}
use Rattle.ext_store_files.proofs.ToldLemmas.{told_then, told_itself}

capped_twice : (sum n m cap : ℕ) → min (min (sum + suc n) cap + suc m) cap ≡ min (sum + suc (n + suc m)) cap
capped_twice sum n m cap = omega arith

capped_below : (a cap : ℕ) → min a cap ≤ a
capped_below a cap = omega arith

-- so many bytes, and then so many more
pub raised_then : (sum n m : ℕ) → raised (raised sum n) m ≡ raised sum (n + m)
raised_then sum zero m = let same : m ≡ zero + m = omega arith in ap (λ k. raised sum k) same
raised_then sum (suc n) zero = let same : suc n ≡ suc n + zero = omega arith in ap (λ k. raised sum k) same
raised_then sum (suc n) (suc m) =
    let same : suc (n + suc m) ≡ suc n + suc m = omega arith in
    capped_twice sum n m (2 ^ 64 - 1) ∙ ap (λ k. raised sum k) same

-- no further than by all of them
pub raised_most : (sum n : ℕ) → raised sum n ≤ sum + n
raised_most sum zero = omega arith
raised_most sum (suc n) = capped_below (sum + suc n) (2 ^ 64 - 1)

-- as an append raises it, of one byte at least
pub raised_some : (sum n : ℕ) → 0 < n → min (sum + n) (2 ^ 64 - 1) ≡ raised sum n
raised_some sum zero some = absurd (omega arith)
raised_some sum (suc n) some = refl

-- where the sum is the same, nothing was appended
pub within_same : (most before after : ℕ) → after ≡ before → RaisesWithin most before after
within_same most before after same = (zero, omega arith, same)

-- where nothing may be appended, the sum is the same
pub within_none : (before after : ℕ) → RaisesWithin 0 before after → after ≡ before
within_none before after is =
    let none : is.0 ≡ zero = let most = is.1 in omega arith in
    is.2 ∙ ap (λ k. raised before k) none

pub within_wider : (n most before after : ℕ) → n ≤ most → RaisesWithin n before after → RaisesWithin most before after
within_wider n most before after fits is = (is.0, let few = is.1 in omega arith, is.2)

pub within_then : (n m most before amid after : ℕ) → n + m ≤ most → RaisesWithin n before amid → RaisesWithin m amid after → RaisesWithin most before after
within_then n m most before amid after fits one two = (
  one.0 + two.0,
  let few = one.1 in let more = two.1 in omega arith,
  two.2 ∙ ap (λ k. raised k two.0) one.2 ∙ raised_then before one.0 two.0,
)

-- the sum is no higher than by so many
pub within_most : (most before after : ℕ) → RaisesWithin most before after → after ≤ before + most
within_most most before after is =
    let few = is.1 in
    let below : raised before is.0 ≤ before + is.0 = raised_most before is.0 in
    subst (λ k. k ≤ before + most) (sym is.2) (lower (raised before is.0) before is.0 most below few)
  where
    lower : (sum before n most : ℕ) → sum ≤ before + n → n ≤ most → sum ≤ before + most
    lower sum before n most below few = omega arith

pub raises_itself : (s : DiskState) → Raises 0 s s
raises_itself s = told_itself (RaisesTold 0) (λ d. refl) s.told

-- one stretch of work after another
pub raises_then : (n m : ℕ) (r s t : DiskState) → Raises n r s → Raises m s t → Raises (n + m) r t
raises_then n m r s t one two =
    told_then (RaisesTold n) (RaisesTold m) (RaisesTold (n + m))
    (λ c d e x y. y ∙ ap (λ k. raised k m) x ∙ raised_then c.appended n m) r.told s.told t.told one two

pub raises_same : (n m : ℕ) (r s : DiskState) → n ≡ m → Raises n r s → Raises m r s
raises_same n m r s same is = subst (λ k. Raises k r s) same is
