use Rattle.std.proofs.Common.{refl, sym, ◌∙◌}
use Rattle.std.proofs.lemmas.Bool.{false≢true}
use Rattle.ext_cmd.proofs.OptionWordLemmas.{no_option}
use Rattle.ext_cmd.proofs.attach_options.read_option.Goals as goal

pub returns : goal.returns
returns c = (
  refl,
  λ it. no_option c.args.word.now (λ same. false≢true (sym c.if-is_runtime.false ∙ c.is_runtime.ensures.1 same))
      c.in_default.ensures c.in_default-after.ensures c.in_default-after-2.ensures it.value it.same,
)
