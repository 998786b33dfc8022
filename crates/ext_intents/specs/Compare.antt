-- The command `compare`: how the first version stands to the second. It looks at no store.
use Rattle.std.specs.Prelude.{ℕ, List}
use Rattle.ext_vers.specs.Version.{version_cmp}
use Rattle.ext_cmd.specs.declared.answer.Answer.TheVariants.{Order}
use Rattle.ext_intents.specs.declared.intent.Intent.{Intent}
use Rattle.ext_intents.specs.declared.intent.Intent.TheVariants.{Answers}

-- the answer on two versions
abbrev pub compare_intent : List ℕ → List ℕ → Intent
compare_intent a b = Answers (Order (version_cmp a b))
