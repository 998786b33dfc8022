-- The command `cat`: the bytes of a file. Links are not followed.
use Rattle.std.specs.Prelude.{ℕ, List, Option, Some, None}
use Rattle.ext_tree.specs.Tree.{lookup}
use Rattle.ext_tree.specs.declared.entry.Entry.{Entry}
use Rattle.ext_tree.specs.declared.entry.Entry.TheVariants.{Dir, Opaque, File, Link, Hide}
use Rattle.ext_host.specs.Held.{HeldFile}
use Rattle.ext_host.specs.declared.host.Host.{Host}
use Rattle.ext_cmd.specs.declared.refusal.Refusal.TheVariants.{NoEntry, NotFile}
use Rattle.ext_intents.specs.declared.intent.Intent.{Intent}
use Rattle.ext_intents.specs.declared.intent.Intent.TheVariants.{Refuses, Shows}

-- by what stands at the path
abbrev pub cat_at : List (List ℕ) → Option (Entry HeldFile) → Intent
cat_at path None = Refuses (NoEntry path)
cat_at path (Some (Dir attributes)) = Refuses (NotFile path)
cat_at path (Some (Opaque attributes)) = Refuses (NotFile path)
cat_at path (Some (File attributes held)) = Shows held
cat_at path (Some (Link owner target)) = Refuses (NotFile path)
cat_at path (Some Hide) = Refuses (NotFile path)

-- what it wants of a host
abbrev pub cat_intent : Host → List (List ℕ) → Intent
cat_intent host path = cat_at path (lookup host.root path)
