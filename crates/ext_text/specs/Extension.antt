-- Classes of images that extend a host, by the names of the tools that manage them: systemd-sysext(8), systemd-confext(8).
use Rattle.std.specs.Prelude.{ℕ, List, codes}
use Rattle.ext_text.specs.declared.class.Class.{Class}
use Rattle.ext_text.specs.declared.class.Class.TheVariants as classes
use Rattle.ext_text.specs.declared.extension.Extension.{Extension}
use Rattle.ext_text.specs.declared.extension.Extension.TheVariants.{Sysext, Confext}

-- the class of images
abbrev pub class_of : Extension → Class
class_of Sysext = classes.Sysext
class_of Confext = classes.Confext

-- its name
abbrev pub extension_name : Extension → List ℕ
extension_name Sysext = codes "sysext"
extension_name Confext = codes "confext"
