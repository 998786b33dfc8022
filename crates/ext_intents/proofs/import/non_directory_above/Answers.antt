use Rattle.std.proofs.Common.{length, arith, ap}
use Rattle.ext_intents.proofs.ImportLemmas.{fewer_proper, open_above}
use Rattle.ext_intents.proofs.import.non_directory_above.Goals as goal

pub returns-then-is_non_directory : goal.returns-then-is_non_directory
returns-then-is_non_directory c =
    rw c.in_ok-above.ensures (record {
      proper_prefix = fewer_proper c.counts.count c.args.path.now (omega (arith, ap length c.names-names.ensures.same));
      stands = cc (c.is_non_directory.ensures, c.if-is_non_directory.true, c.entry_at.ensures, c.prefix-first.ensures, c.names-names.ensures.same);
    })

pub returns : goal.returns
returns c = open_above c.args.tree.now c.args.path.now (λ k fewer. c.counts.invariant k (omega (arith, ap length c.names-names.ensures.same)))
