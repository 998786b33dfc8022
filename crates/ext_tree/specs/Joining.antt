-- Two lists of entries in one.
use Rattle.std.specs.Prelude.{◌≡◌, ℕ, suc, Bool, false, not, List, [], ◌∷◌, if◌then◌else◌, is_some, IsTrue}
use Rattle.std.specs.FinMap.{put}
use Rattle.std.specs.FinMap.Entries.{where_key}
use Rattle.std.specs.Option.{option_or}
use Rattle.std.specs.Ordering.{is_lt}
use Rattle.ext_text.specs.Path.{path_cmp}
use Rattle.ext_tree.specs.Graft.{is_non_directory_at}
use Rattle.ext_tree.specs.Tree.{Entries, is_directory_at, lookup}

-- entries put among others, each at its path
abbrev pub put_all : {C : Type 0} → Entries C → Entries C → Entries C
put_all [] es = es
put_all (u ∷ us) es = put path_cmp u.0 u.1 (put_all us es)

-- the new entries at whose paths nothing stands
abbrev pub lacking : {C : Type 0} → Entries C → Entries C → Entries C
lacking es new = where_key path_cmp (λ q. not (is_some (lookup es q))) new

-- all entries, and those of the new ones that they lack
abbrev pub with_others : {C : Type 0} → Entries C → Entries C → Entries C
with_others es new = put_all es (lacking es new)

-- path by path: what stands there, or else what is new there
abbrev pub IsWith : {C : Type 0} → Entries C → Entries C → Entries C → Type 0
IsWith es new all = (q : List (List ℕ)) → lookup all q ≡ option_or (lookup es q) (lookup new q)

-- where the new entries have a directory, nothing but a directory stands
abbrev pub IsOpenTo : {C : Type 0} → Entries C → Entries C → Type 0
IsOpenTo es new = (q : List (List ℕ)) → IsTrue (is_directory_at (lookup new q)) → is_non_directory_at (lookup es q) ≡ false

-- the first of the entries comes before the path
abbrev pub begins_before : {C : Type 0} → List (List ℕ) → Entries C → Bool
begins_before path [] = false
begins_before path (e ∷ es) = is_lt (path_cmp e.0 path)

-- how many of the entries come before the path, up to the first that does not
abbrev pub count_before : {C : Type 0} → List (List ℕ) → Entries C → ℕ
count_before path [] = 0
count_before path (e ∷ es) = if is_lt (path_cmp e.0 path) then suc (count_before path es) else 0
