use Rattle.ext_find.proofs.ImageLemmas.{lower_path, upper_path}
use Rattle.ext_find.proofs.image.path_below.Goals as goal

pub join-requires : goal.join-requires
join-requires c = record { upper = upper_path c.args.upper.now c.args.lower.now c.requires; lower = lower_path c.args.upper.now c.args.lower.now c.requires }
