use Rattle.std.proofs.Common.{rules}
use Rattle.std.proofs.lemmas.Slice.Eq.{text_from_reads}
use Rattle.ext_text.proofs.arch.Arch.read.Goals as goal

pub returns-in-loongarch64 : goal.returns-in-loongarch64
returns-in-loongarch64 c = text_from_reads _ _ (search rules) (search rules)
