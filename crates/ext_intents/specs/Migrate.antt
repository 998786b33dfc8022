-- The command `migrate`: the same host in the newest form of the store's text.
use Rattle.std.specs.Prelude.{Bool, if◌then◌else◌}
use Rattle.ext_host.specs.declared.host.Host.{Host}
use Rattle.ext_cmd.specs.declared.answer.Answer.TheVariants.{Done, Unchanged}
use Rattle.ext_intents.specs.declared.intent.Intent.{Intent}
use Rattle.ext_intents.specs.declared.intent.Intent.TheVariants.{Answers, Changes}

-- the same host, where its text is not the newest; else the answer that nothing changes
abbrev pub migrate_intent : Host → Bool → Intent
migrate_intent host newest = if newest then Answers Unchanged else Changes host Done
