-- The homes that a check has read: none at first.
use Rattle.std.proofs.Common.{◌≡◌, [], is_some, sym, ap, ◌∙◌}
use Rattle.std.proofs.lemmas.Bool.{false≢true}
use Rattle.std.specs.BTreeMap.{is_at}
use Rattle.std.specs.Map.{lookup}
use Rattle.ext_disk.specs.Disk.{DiskState}
use Rattle.ext_index_reader.specs.Homes.{home_cmp}
use Rattle.ext_gen.specs.Verified.{AreVerified, StampsByHome}

-- nothing is noted
pub none_verified : (disk : DiskState) (verified : StampsByHome) → verified.entries ≡ [] → AreVerified disk verified
none_verified disk verified none home stamp at =
    absurd (false≢true (sym (ap (λ es. is_some (lookup (is_at (home_cmp home)) es)) none) ∙ ap is_some at))
