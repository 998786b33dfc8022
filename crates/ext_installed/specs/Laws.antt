-- Laws of installed versions.
use Rattle.std.specs.Prelude.{◌≡◌, List}
use Rattle.ext_tree.specs.Tree.{Entries}
use Rattle.ext_transfer.specs.declared.transfer.Transfer.{Transfer}
use Rattle.ext_installed.specs.declared.instance.Instances.{Instances}
use Rattle.ext_installed.specs.Installed.{AreInstalled}

-- a tree has one list of the instances of some transfers
abbrev pub OneInstalled : Type 0 → Type 0
OneInstalled C =
    (es : Entries C) (transfers : List Transfer) (a b : Instances) → AreInstalled es transfers a → AreInstalled es transfers b → a ≡ b
