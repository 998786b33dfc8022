-- Where names lead, once links are followed.
use Rattle.std.specs.Prelude.{ℕ, Bool, List, IsTrue, Option, Some, None}
use Rattle.ext_tree.specs.Tree.{Entries, lookup, is_directory_or_root}
use Rattle.ext_tree.specs.declared.entry.Entry.{Entry}
use Rattle.ext_walk.specs.Walk.{Ends}

-- to a directory or to the root
abbrev pub LeadsToDirectory : {C : Type 0} → Entries C → List (List ℕ) → Type 0
LeadsToDirectory es names = (end : List (List ℕ)) × Ends es names end × IsTrue (is_directory_or_root es end)

-- to an entry that passes the test
abbrev pub LeadsTo : {C : Type 0} → (Option (Entry C) → Bool) → Entries C → List (List ℕ) → Type 0
LeadsTo test es names = (end : List (List ℕ)) × Ends es names end × IsTrue (test (lookup es end))

-- the directory or root to which names lead, or that they lead to none
abbrev pub DirectoryAt : {C : Type 0} → Entries C → List (List ℕ) → Option (List (List ℕ)) → Type 0
DirectoryAt es names None = ¬ LeadsToDirectory es names
DirectoryAt es names (Some end) = Ends es names end × IsTrue (is_directory_or_root es end)
