-- What a tree refuses, the first reason in this order.
use Rattle.std.specs.Prelude.{◌≡◌, ℕ, nat_le, Bool, true, false, not, ◌||◌, List, [], ◌∷◌, length, if◌then◌else◌, Option, Some, None, is_some, Result, Ok, Err}
use Rattle.ext_text.specs.Path.{parent}
use Rattle.ext_tree.specs.Tree.{Entries, lookup, is_directory_or_root, most_entries}
use Rattle.ext_tree.specs.declared.tree.TreeErr.{TreeErr}
use Rattle.ext_tree.specs.declared.tree.TreeErr.TheVariants.{OutOfMemory, Exists, NotDirectory, Limit, Path}

-- the path is the root
abbrev pub is_root : List (List ℕ) → Bool
is_root [] = true
is_root (n ∷ p) = false

-- why an entry may not be put at a path
abbrev pub insert_refusal : {C : Type 0} → Entries C → List (List ℕ) → Option TreeErr
insert_refusal es p =
    if is_root p || is_some (lookup es p) then Some Exists
    else if not (is_directory_or_root es (parent p)) then Some NotDirectory
    else if nat_le most_entries (length es) then Some Limit
    else None

-- the result is the refusal, where there is one; where there is none, only an allocation may fail
abbrev pub Refuses : {T : Type 0} → Result T TreeErr → Option TreeErr → Type 0
Refuses (Ok done) refusal = refusal ≡ None
Refuses (Err OutOfMemory) refusal = refusal ≡ None
Refuses (Err Exists) refusal = refusal ≡ Some Exists
Refuses (Err NotDirectory) refusal = refusal ≡ Some NotDirectory
Refuses (Err Limit) refusal = refusal ≡ Some Limit
Refuses (Err Path) refusal = refusal ≡ Some Path
