use Rattle.std.proofs.Common.{ap, length, refl}
use Rattle.ext_cmd.proofs.WordLemmas.{root_refused}
use Rattle.ext_cmd.proofs.arguments.read_below_root.Goals as goal

pub returns-then-is_root : goal.returns-then-is_root
returns-then-is_root c =
    root_refused c.args.word.now c.in_ok-path.path c.args.place (ap length (c.if-is_root.ensures.0 refl)) c.in_ok-path.ensures.1
