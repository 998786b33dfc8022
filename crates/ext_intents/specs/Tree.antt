-- The command `tree`: the text of what stands below a path, each file by its stamp. Links are not followed.
use Rattle.std.specs.Prelude.{ℕ, List, [], ◌∷◌, Option, Some, None, if◌then◌else◌}
use Rattle.ext_tree.specs.Part.{part}
use Rattle.ext_tree.specs.Tree.{is_directory, lookup}
use Rattle.ext_tree.specs.TreeText.{tree_text}
use Rattle.ext_tree.specs.declared.entry.Entry.{Entry}
use Rattle.ext_host.specs.Held.{HeldFile}
use Rattle.ext_host.specs.Stamped.{stamps}
use Rattle.ext_host.specs.declared.host.Host.{Host}
use Rattle.ext_cmd.specs.declared.answer.Answer.TheVariants.{Tree}
use Rattle.ext_cmd.specs.declared.refusal.Refusal.TheVariants.{NoEntry, NotDirectory}
use Rattle.ext_intents.specs.declared.intent.Intent.{Intent}
use Rattle.ext_intents.specs.declared.intent.Intent.TheVariants.{Answers, Refuses}

-- the path that is meant: the root, where none was given
abbrev pub meant_path : Option (List (List ℕ)) → List (List ℕ)
meant_path None = []
meant_path (Some path) = path

-- what is seen below the path
abbrev pub text_below : Host → List (List ℕ) → List ℕ
text_below host path = tree_text (stamps (part path host.root))

-- the answer at a path, by what stands there
abbrev pub tree_at : Host → List (List ℕ) → Option (Entry HeldFile) → Intent
tree_at host path None = Refuses (NoEntry path)
tree_at host path (Some entry) = if is_directory entry then Answers (Tree (text_below host path)) else Refuses (NotDirectory path)

-- what it wants of a host; nothing stands at the root, below which everything does
abbrev pub tree_intent : Host → List (List ℕ) → Intent
tree_intent host [] = Answers (Tree (tree_text (stamps host.root)))
tree_intent host (name ∷ path) = tree_at host (name ∷ path) (lookup host.root (name ∷ path))
