-- Specifiers: `%` and a letter, which stand for what a host's release file says, for its architecture, or for `%`. They are those
-- of sysupdate.d(5), as far as a release file and an architecture tell them. That an unset value stands for nothing is this
-- project's own.
use Rattle.std.specs.Prelude.{ℕ, ◌==◌, if◌then◌else◌, List, [], ◌∷◌, ◌++◌, codes, Option, Some, None, Result}
use Rattle.std.specs.FinMap.{FinMap, get}
use Rattle.std.specs.Option.{option_map, option_map_or, unwrap_or}
use Rattle.ext_lines.specs.ByteOrder.{bytes_cmp}
use Rattle.ext_text.specs.Arch.{arch_name}
use Rattle.ext_text.specs.declared.arch.Arch.{Arch}
use Rattle.ext_ini.specs.declared.sections.Setting.{Setting}
use Rattle.ext_transfer.specs.declared.err.TransferErr.{TransferErr}
use Rattle.ext_transfer.specs.declared.err.TransferFault.TheVariants.{Specifier}
use Rattle.ext_transfer.specs.Fault.{or_fault}

-- the value of a key of the release file; empty where it has none, or there is no file
abbrev pub release_value : Option (FinMap bytes_cmp (List ℕ)) → List ℕ → List ℕ
release_value host key = option_map_or (λ release. unwrap_or (get release key) []) host []

-- what a letter after `%` stands for, if it is one
abbrev pub specified : Option (FinMap bytes_cmp (List ℕ)) → Arch → ℕ → Option (List ℕ)
specified host arch letter =
    if letter == 65 then Some (release_value host (codes "IMAGE_VERSION"))
    else if letter == 66 then Some (release_value host (codes "BUILD_ID"))
    else if letter == 77 then Some (release_value host (codes "IMAGE_ID"))
    else if letter == 111 then Some (release_value host (codes "ID"))
    else if letter == 119 then Some (release_value host (codes "VERSION_ID"))
    else if letter == 97 then Some (arch_name arch)
    else if letter == 37 then Some (codes "%")
    else None

-- a text, and what is made of the rest
abbrev pub with_text : List ℕ → Option (List ℕ) → Option (List ℕ)
with_text text rest = option_map (λ made. text ++ made) rest

-- what a letter stands for, if it is one, and what is made of the rest
abbrev pub with_specified : Option (List ℕ) → Option (List ℕ) → Option (List ℕ)
with_specified None rest = None
with_specified (Some text) rest = with_text text rest

-- a text with each specifier replaced, once. A letter that is none, and a `%` at the end, have no meaning
abbrev pub expanded : (ℕ → Option (List ℕ)) → List ℕ → Option (List ℕ)
expanded meaning [] = Some []
expanded meaning (b ∷ []) = if b == 37 then None else Some (b ∷ [])
expanded meaning (b ∷ c ∷ cs) =
    if b == 37 then with_specified (meaning c) (expanded meaning cs) else with_text (b ∷ []) (expanded meaning (c ∷ cs))

-- the value of a setting with its specifiers replaced
abbrev pub expanded_value : (ℕ → Option (List ℕ)) → Setting → Result (List ℕ) TransferErr
expanded_value meaning setting = or_fault (expanded meaning setting.value) setting.line Specifier
