-- Components of updates, after sysupdate.d(5): the files of one stand in folders of their own, whose names tell the component's.
-- That both names are within the rule of names is this project's own.
use Rattle.std.specs.Prelude.{◌≡◌, ℕ, List, ◌++◌, codes, Result, Ok, Err}
use Rattle.ext_text.specs.Name.{IsName}
use Rattle.ext_text.specs.declared.name.NameErr.{NameErr}
use Rattle.ext_text.specs.declared.name.NameErr.TheVariants.{OutOfMemory, BadName}

-- the name of the folders of a component: `sysupdate.NAME.d`
abbrev pub component_folder : List ℕ → List ℕ
component_folder name = codes "sysupdate." ++ name ++ codes ".d"

-- a name with which its folders have names too
pub record IsComponent (name : List ℕ) : Type 0 where
  pub name_is : IsName name
  pub folder_is : IsName (component_folder name)

-- what `Component::read` gives: the component of these bytes, or that they are the name of none
abbrev pub ReadsComponent : List ℕ → Result (List ℕ) NameErr → Type 0
ReadsComponent bytes (Ok name) = (name ≡ bytes) × IsComponent bytes
ReadsComponent bytes (Err OutOfMemory) = Unit {0}
ReadsComponent bytes (Err BadName) = ¬ IsComponent bytes
