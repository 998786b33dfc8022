use Rattle.std.specs.Option.{option_copied}
use Rattle.ext_transfer.proofs.BoundsLemmas.{bounds_given}
use Rattle.ext_transfer.proofs.reading.read_transfer.Goals as goal

pub returns-clause-bounds : goal.returns-clause-bounds
returns-clause-bounds c =
    bounds_given c.args.file.now c.args.bytes.now (option_copied c.args.host) c.args.arch c.transfer_of.result c.transfer_of.ensures
