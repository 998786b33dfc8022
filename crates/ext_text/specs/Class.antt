-- Classes of images, by the names of the tools that manage them: systemd-sysext(8), systemd-confext(8), portablectl(1).
use Rattle.std.specs.Prelude.{◌≡◌, ◌≢◌, ℕ, List, codes, Option, Some, None}
use Rattle.ext_text.specs.declared.class.Class.{Class}
use Rattle.ext_text.specs.declared.class.Class.TheVariants.{Sysext, Confext, Portable}

-- the name of a class
abbrev pub class_name : Class → List ℕ
class_name Sysext = codes "sysext"
class_name Confext = codes "confext"
class_name Portable = codes "portable"

-- what reading a text gives: the class of this name, or that there is none
abbrev pub ReadsClass : List ℕ → Option Class → Type 0
ReadsClass text (Some class) = text ≡ class_name class
ReadsClass text None = (class : Class) → text ≢ class_name class
