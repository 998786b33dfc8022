-- The drop-in that tells a service the image in which it runs: its bytes are this project's own, after systemd.exec(5).
use Rattle.std.specs.Prelude.{◌≡◌, ℕ, ◌==◌, if◌then◌else◌, List, [], ◌∷◌, ◌++◌, codes}
use Rattle.ext_text.specs.Absolute.{absolute}
use Rattle.ext_host.specs.Held.{HeldFile, IsStampOf}
use Rattle.ext_host.specs.declared.body.Body.TheVariants.{Here}
use Rattle.ext_units.specs.ImageName.{last_name}

-- each `%` twice, as a unit file reads it
abbrev pub doubled : List ℕ → List ℕ
doubled [] = []
doubled (b ∷ bytes) = if b == 37 then 37 ∷ 37 ∷ doubled bytes else b ∷ doubled bytes

-- a line of a comment that names the image, the section [Service], RootDirectory= with the path at which the image is shown, and
-- the further lines
abbrev pub own_text : List (List ℕ) → List (List ℕ) → List ℕ → List ℕ
own_text place shown lines =
    ((((codes "# hostext portable " ++ last_name place) ++ (10 ∷ codes "[Service]" ++ 10 ∷ codes "RootDirectory="))
    ++ doubled (absolute shown)) ++ 10 ∷ []) ++ lines

-- a file whose bytes are here
pub record IsOwn (text : List ℕ) (held : HeldFile) : Type 0 where
  pub body : held.body ≡ Here text
  pub stamp : IsStampOf text held.stamp
