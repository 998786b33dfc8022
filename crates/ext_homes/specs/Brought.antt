-- The files of a host that a change brings: those whose bytes are here or in the depot.
use Rattle.std.specs.Prelude.{ℕ, ◌^◌, ◌<◌, Bool, true, false, List, [], ◌∷◌, if◌then◌else◌}
use Rattle.std.specs.List.{AllByRecursion, flat_map, sum_by}
use Rattle.ext_tree.specs.Tree.{Entries}
use Rattle.ext_tree.specs.declared.entry.Entry.{Entry}
use Rattle.ext_tree.specs.declared.entry.Entry.TheVariants.{Dir, Opaque, File, Link, Hide}
use Rattle.ext_tree.specs.declared.stamp.Stamp.{Stamp}
use Rattle.ext_host.specs.Held.{HeldFile}
use Rattle.ext_host.specs.Valid.{bytes_of}
use Rattle.ext_host.specs.declared.body.Body.{Body}
use Rattle.ext_host.specs.declared.body.Body.TheVariants.{Here, Kept, Depot}

-- the bytes are not kept in the store yet
abbrev pub is_brought : Body → Bool
is_brought (Here bytes) = true
is_brought (Kept home) = false
is_brought (Depot path) = true

-- the stamp of a file, where it is brought
abbrev pub held_stamps : HeldFile → List Stamp
held_stamps held = if is_brought held.body then held.stamp ∷ [] else []

-- the stamp of an entry's file, where it is brought
abbrev pub brought_stamps : Entry HeldFile → List Stamp
brought_stamps (Dir attributes) = []
brought_stamps (Opaque attributes) = []
brought_stamps (File attributes held) = held_stamps held
brought_stamps (Link owner target) = []
brought_stamps Hide = []

-- the stamps of the files that are brought, in the order of their entries
abbrev pub brought : Entries HeldFile → List Stamp
brought es = flat_map (λ e. brought_stamps e.1) es

-- how many bytes they have together
abbrev pub bytes_of_all : List Stamp → ℕ
bytes_of_all stamps = sum_by (λ stamp. stamp.size) stamps

-- each file has fewer than 2^63 bytes
abbrev pub AreSmall : Entries HeldFile → Type 0
AreSmall es = AllByRecursion (λ e. bytes_of e.1 < 2 ^ 63) es
