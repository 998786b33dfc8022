-- The shelf over the disk of a store, as a shelf: what stays of it in each call.
use Rattle.std.specs.Prelude.{◌≡◌, refl}
use Rattle.std.proofs.Common.{ap, ◌∙◌, arith}
use Rattle.ext_disk.specs.Disk.{DiskState}
use Rattle.ext_disk.specs.Since.{Rests}
use Rattle.ext_host.specs.Shelf.{IsStays}
use Rattle.ext_host.specs.declared.body.Body.{Body}
use Rattle.ext_host.specs.declared.body.Body.TheVariants.{Here, Kept, Depot}
use Rattle.ext_store_files.specs.Names.{home_path}
use Rattle.ext_store_files.specs.HeldFiles.{is_served, told_at, body_told}

rests_both : (r s t : DiskState) → Rests r s → Rests s t → Rests r t
rests_both r s t one two = let first = one.count in let second = two.count in record { told = two.told ∙ one.told; count = omega arith }

told_stays : (a b : DiskState) (body : Body) → Rests a b → body_told b body ≡ body_told a body
told_stays a b (Here bytes) rests = refl
told_stays a b (Kept home) rests = ap (λ o. told_at o (home_path home.generation home.file)) rests.told
told_stays a b (Depot path) rests = refl

-- what a disk tells of each held file stays while it rests; and the shelf keeps the reference to it
pub shelf_stays : {S N : Type 0} (state : S → DiskState) (name : S → N)
    → IsStays {S = S} (λ a b. Rests (state a) (state b) × (name b ≡ name a)) (λ _ held. is_served held.body) (λ s held. body_told (state s) held.body)
shelf_stays state name = record {
  same = λ a. (record { told = refl; count = omega arith }, refl);
  through = λ a b c one two. (rests_both (state a) (state b) (state c) one.0 two.0, two.1 ∙ one.1);
  served = λ a b held stays. refl;
  tells = λ a b held stays. told_stays (state a) (state b) held.body stays.0;
}
