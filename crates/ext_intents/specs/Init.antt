-- The command `init`: a store for a host without entries. That a host chooses its hierarchies is this project's own; they
-- stand in the order of their bytes, whatever order they were given in.
use Rattle.std.specs.Prelude.{◌≡◌, ℕ, List, [], None}
use Rattle.std.specs.List.Sorted.{IsPermutation, IsSorted}
use Rattle.ext_text.specs.Name.{bytes_cmp}
use Rattle.ext_text.specs.declared.arch.Arch.{Arch}
use Rattle.ext_text.specs.declared.extension.Extension.TheVariants as extensions
use Rattle.ext_text.specs.declared.scope.Scope.{Scope}
use Rattle.ext_host.specs.Host.{default_hierarchies}
use Rattle.ext_host.specs.declared.host.Host.{Host}
use Rattle.ext_cmd.specs.declared.answer.Answer.TheVariants.{Done}
use Rattle.ext_cmd.specs.declared.command.Chosen.{Chosen}
use Rattle.ext_cmd.specs.declared.command.Chosen.TheVariants as chosen
use Rattle.ext_intents.specs.declared.intent.Intent.{Intent}
use Rattle.ext_intents.specs.declared.intent.Intent.TheVariants.{Changes}

-- the hierarchies that are chosen of each class
abbrev pub chosen_sysext : Chosen → List (List ℕ)
chosen_sysext chosen.Default = default_hierarchies extensions.Sysext
chosen_sysext (chosen.Sysext names) = names
chosen_sysext (chosen.Both sysext confext) = sysext

-- the hierarchies of configuration extensions that are chosen
abbrev pub chosen_confext : Chosen → List (List ℕ)
chosen_confext chosen.Default = default_hierarchies extensions.Confext
chosen_confext (chosen.Sysext names) = default_hierarchies extensions.Confext
chosen_confext (chosen.Both sysext confext) = confext

-- the same names, in the order of their bytes
pub record IsInOrder (names ordered : List (List ℕ)) : Type 0 where
  pub same : IsPermutation names ordered
  pub order : IsSorted bytes_cmp ordered

-- a host without entries, images, manifests and past trees
pub record IsNewHost (arch : Arch) (scope : Scope) (hierarchies : Chosen) (host : Host) : Type 0 where
  pub arch_is : host.arch ≡ arch
  pub scope_is : host.scope ≡ scope
  pub root : host.root ≡ []
  pub lower : host.lower ≡ []
  pub sysext : host.sysext ≡ None
  pub confext : host.confext ≡ None
  pub attached : host.attached ≡ []
  pub kept : host.kept ≡ []
  pub sysext_hier : IsInOrder (chosen_sysext hierarchies) host.sysext_hier
  pub confext_hier : IsInOrder (chosen_confext hierarchies) host.confext_hier
  pub past : host.past ≡ []

-- it wants such a host
abbrev pub InitWants : Arch → Scope → Chosen → Intent → Type 0
InitWants arch scope hierarchies intent = (host : Host) × IsNewHost arch scope hierarchies host × (intent ≡ Changes host Done)
