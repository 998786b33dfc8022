-- The command `sample`: a host and so many images are made in a depot, six commands run over it on an empty disk, and the answer
-- says what the tree comes to that is seen then. Depot and disk are in memory. This project's own.
use Rattle.std.specs.Prelude.{◌≡◌, ℕ, false, List, [], ◌∷◌, length, codes, Option, Some, None, Ok}
use Rattle.sha2.specs.Sha256.{sha256}
use Rattle.ext_text.specs.declared.arch.Arch.TheVariants.{X86_64}
use Rattle.ext_text.specs.declared.scope.Scope.TheVariants.{System}
use Rattle.ext_depot.specs.Depot.{Files}
use Rattle.ext_tree.specs.Tree.{Entries}
use Rattle.ext_tree.specs.TreeText.{tree_text}
use Rattle.ext_host.specs.Held.{HeldFile}
use Rattle.ext_host.specs.Stamped.{stamps}
use Rattle.ext_host.specs.Valid.{all_bytes}
use Rattle.ext_sample.specs.Sample.{IsSampleDepot}
use Rattle.ext_gen.specs.Store.{State, none, at}
use Rattle.ext_cmd.specs.declared.answer.Answer.{Answer}
use Rattle.ext_cmd.specs.declared.answer.Answer.TheVariants as answers
use Rattle.ext_cmd.specs.declared.command.Chosen.TheVariants.{Default}
use Rattle.ext_cmd.specs.declared.command.Command.TheVariants.{Init, ImportFs, Sysext}
use Rattle.ext_cmd.specs.declared.command.ViewCommand.TheVariants.{Merge, Unmerge, Refresh}
use Rattle.ext_cmd.specs.declared.refusal.Refusal.{Refusal}
use Rattle.ext_intents.specs.Check.{files_in}
use Rattle.ext_intents.specs.declared.intent.Intent.{Intent}
use Rattle.ext_intents.specs.declared.intent.Intent.TheVariants.{Answers}
use Rattle.ext_top.specs.Exits.{Line, does, durable, EndsLines}

-- the directory of the host in which the images stand
abbrev pub sample_directory : List (List ℕ)
sample_directory = codes "var" ∷ codes "lib" ∷ codes "extensions" ∷ []

-- the commands of a sample, in their order: `init x86-64 system`, `import-fs host /`, `import-fs images /var/lib/extensions`,
-- `sysext merge`, `sysext unmerge` and `sysext refresh`
abbrev pub sample_lines : List Line
sample_lines =
    does (Init X86_64 System Default) ∷ does (ImportFs (codes "host" ∷ []) []) ∷ does (ImportFs (codes "images" ∷ []) sample_directory)
    ∷ does (Sysext (Merge false)) ∷ does (Sysext Unmerge) ∷ does (Sysext (Refresh false)) ∷ []

-- what a tree comes to: how many entries and files it has, the bytes of these, and the digest of its text
abbrev pub tree_sample : Entries HeldFile → Answer
tree_sample es = answers.Sample (length es) (files_in es) (all_bytes es) (record { 0 = sha256 (tree_text (stamps es)) })

-- what the tree comes to that is seen in a state; of no host, an empty one
abbrev pub sampled : State → Answer
sampled none = tree_sample []
sampled (at g contents) = tree_sample g.host.root

-- What `sample` wants: its commands run where there is no store, over such a depot. None of them stops; one may be refused. The
-- answer is what the state comes to that they leave.
pub record SampleWants (images : ℕ) (intent : Intent) : Type 0 where
  pub files : Files
  pub depot : IsSampleDepot images files
  pub state : State
  pub last : Option Refusal
  pub sent : List ℕ
  pub ends : EndsLines None none (Some files) sample_lines (Ok last) (durable state) sent
  pub is : intent ≡ Answers (sampled state)
