-- The definitions on an example, by computation: the image foobar_47.11 attached to a host where configuration extensions are merged.
use Rattle.std.proofs.Common.{◌≡◌, ℕ, true, false, List, [], ◌∷◌, refl, ap}
use Rattle.std.specs.Prelude.{codes}
use Rattle.std.specs.declared.cmp.Ordering.TheVariants.{Less}
use Rattle.ext_text.specs.Path.{path_cmp}
use Rattle.ext_host.specs.Locks.{locks}
use Rattle.ext_host.specs.ReadOnly.{is_read_only, merged_in}
use Rattle.ext_host.specs.declared.host.Host.{Host}

-- a name in the directory of units
abbrev attached : List ℕ → List (List ℕ)
attached name = codes "etc" ∷ codes "systemd" ∷ codes "system.attached" ∷ name ∷ []

-- the first unit is the least path, before each other unit and before the drop-ins
first_unit : path_cmp (attached (codes "foobar-a.timer")) (attached (codes "foobar.service")) ≡ Less
first_unit = refl

next_unit : path_cmp (attached (codes "foobar.service")) (attached (codes "foobar.service.d")) ≡ Less
next_unit = refl

last_unit : path_cmp (attached (codes "foobar.service.d")) (attached (codes "foobar@.service")) ≡ Less
last_unit = refl

module _ (host : Host) (merged : merged_in host ≡ codes "etc" ∷ []) where
  -- which is locked there
  unit_is_locked : is_read_only host (attached (codes "foobar-a.timer")) ≡ true
  unit_is_locked = ap (λ (names : List (List ℕ)). locks names (attached (codes "foobar-a.timer"))) merged

  -- and no unit is that lasts until the host stops
  runtime_is_free : is_read_only host (codes "run" ∷ codes "systemd" ∷ codes "system.attached" ∷ codes "foobar-a.timer" ∷ []) ≡ false
  runtime_is_free = ap (λ (names : List (List ℕ)). locks names (codes "run" ∷ codes "systemd" ∷ codes "system.attached" ∷ codes "foobar-a.timer" ∷ [])) merged
