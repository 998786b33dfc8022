-- The endings of names, and what stands before them. `.v` is that of systemd.v(7).
use Rattle.std.specs.Prelude.{ℕ, ◌-◌, ◌==◌, nat_eq, Bool, false, List, [], ◌∷◌, length, take, codes, if◌then◌else◌}
use Rattle.std.specs.List.{ends_with}
use Rattle.ext_find.specs.declared.ending.Ending.{Ending}
use Rattle.ext_find.specs.declared.ending.Ending.TheVariants.{Plain, DotRaw, DotV, DotRawV}

-- the longest ending that the name has
abbrev pub ending_of : List ℕ → Ending
ending_of name =
    if ends_with nat_eq name (codes ".raw.v") then DotRawV
    else if ends_with nat_eq name (codes ".raw") then DotRaw
    else if ends_with nat_eq name (codes ".v") then DotV
    else Plain

-- how many bytes it has
abbrev pub ending_len : Ending → ℕ
ending_len Plain = 0
ending_len DotRaw = 4
ending_len DotV = 2
ending_len DotRawV = 6

-- the name without it
abbrev pub stem_of : List ℕ → List ℕ
stem_of name = take (length name - ending_len (ending_of name)) name

-- names that begin with a dot are not looked at
abbrev pub is_hidden : List ℕ → Bool
is_hidden [] = false
is_hidden (b ∷ bs) = b == 46
