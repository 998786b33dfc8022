use Rattle.std.proofs.Common.{refl}
use Rattle.ext_mount.proofs.PrintedLemmas.{prints_on}
use Rattle.ext_mount.proofs.to_sink.ToSinkOut.put.Goals as goal

pub returns-then-not-self : goal.returns-then-not-self
returns-then-not-self g c = λ start before h.
    prints_on start _ _ c.args.self.now.failed c.print-self.result c.args.self.now.buffer.now c.print-self.new.buffer before c.args.bytes.now c.if-not-self.true refl h c.print-self.ensures
