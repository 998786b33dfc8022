-- Where the release file of an extension is looked for, after systemd-sysext(8): a file inside its image, whose name ends with
-- that of the image.
use Rattle.std.specs.Prelude.{ℕ, List, ◌++◌, codes}
use Rattle.ext_text.specs.declared.extension.Extension.{Extension}
use Rattle.ext_text.specs.declared.extension.Extension.TheVariants.{Sysext, Confext}

-- the path inside the image of this name
abbrev pub release_text : Extension → List ℕ → List ℕ
release_text Sysext name = codes "usr/lib/extension-release.d/extension-release." ++ name
release_text Confext name = codes "etc/extension-release.d/extension-release." ++ name
