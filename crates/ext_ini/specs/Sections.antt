-- What a unit file sets a key to. Sections of one name count as one. Some settings are lists, whose earlier assignments an empty
-- value drops: that is systemd.syntax(7)'s.
use Rattle.std.specs.Prelude.{ℕ, Bool, ◌==◌, if◌then◌else◌, List, [], ◌∷◌, ◌++◌, length, map}
use Rattle.std.specs.List.{filter, flat_map}
use Rattle.std.specs.Str.{bytes_eq}
use Rattle.ext_ini.specs.declared.sections.Setting.{Setting}
use Rattle.ext_ini.specs.declared.sections.Assignment.{Assignment}
use Rattle.ext_ini.specs.declared.sections.Section.{Section}

-- what assignments set a key to, in their order
abbrev pub set_in : List Assignment → List ℕ → List Setting
set_in assignments key = map (λ (a : Assignment). a.setting) (filter (λ (a : Assignment). bytes_eq a.key key) assignments)

-- what a section sets a key to, where it has this name
abbrev pub set_by : List ℕ → List ℕ → Section → List Setting
set_by name key section = if bytes_eq section.name name then set_in section.assignments key else []

-- what the sections of this name set a key to, in the order of the file
abbrev pub settings_of : List Section → List ℕ → List ℕ → List Setting
settings_of sections name key = flat_map (set_by name key) sections

-- an empty value
abbrev pub is_reset : Setting → Bool
is_reset setting = length setting.value == 0

-- the settings after one more: an empty one drops all
abbrev pub gathered_one : List Setting → Setting → List Setting
gathered_one so_far setting = if is_reset setting then [] else so_far ++ setting ∷ []

-- the settings after more, one by one
abbrev pub gathered : List Setting → List Setting → List Setting
gathered so_far [] = so_far
gathered so_far (setting ∷ settings) = gathered (gathered_one so_far setting) settings
