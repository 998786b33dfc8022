-- How layers are joined two by two. A list of marked entries says at each path what joined layers say there: an entry is
-- visible, or what lower layers have is hidden, or nothing is there and what they have comes through. The first layer
-- that says something decides. A mark says that the entry cuts: nothing of lower layers comes through below it. All cut
-- but directories that are not opaque, and so does such a directory that lies over an entry that cuts. A whiteout hides
-- what lies under it, and stays in the list to do so.
use Rattle.std.specs.Prelude.{ℕ, Bool, true, false, if◌then◌else◌, not, ◌||◌, List, [], ◌∷◌, map, Option, Some, None}
use Rattle.std.specs.FinMap.{find, put}
use Rattle.std.specs.FinMap.Entries.{where_key}
use Rattle.std.specs.List.{filter, prefix_len}
use Rattle.std.specs.Ordering.{eq_by_cmp}
use Rattle.ext_text.specs.Path.{path_cmp, is_prefix}
use Rattle.ext_tree.specs.Tree.{Entries, as_shown, is_hide}
use Rattle.ext_tree.specs.declared.entry.Entry.{Entry}
use Rattle.ext_layer.specs.Layered.{cuts_below}

-- what joined layers say at a path
pub data Overlay (C : Type 0) : Type 0 where
  visible : Entry C → Overlay C
  hidden : Overlay C
  absent : Overlay C

-- what an upper one of two says, and where nothing is there what the lower one says
abbrev pub first_of_two : {C : Type 0} → Overlay C → Overlay C → Overlay C
first_of_two (visible e) lower = visible e
first_of_two hidden lower = hidden
first_of_two absent lower = lower

-- an entry with its mark
pub record Marked (C : Type 0) : Type 0 where
  pub entry : Entry C
  pub cuts : Bool

-- paths with the marked entries that stand there
abbrev pub MarkedEntries : Type 0 → Type 0
MarkedEntries C = List (List (List ℕ) × Marked C)

-- an entry as it stands in a single layer
abbrev pub with_mark : {C : Type 0} → Entry C → Marked C
with_mark e = record { entry = e; cuts = cuts_below (Some e) }

-- the entries of a single layer
abbrev pub marked : {C : Type 0} → Entries C → MarkedEntries C
marked es = map (λ e. (e.0, with_mark e.1)) es

-- the entries that are visible, as they show
abbrev pub visible_in : {C : Type 0} → MarkedEntries C → Entries C
visible_in ms = map (λ m. (m.0, as_shown m.1.entry)) (filter (λ m. not (is_hide m.1.entry)) ms)

-- what stands there cuts
abbrev pub cuts_at : {C : Type 0} → Option (Marked C) → Bool
cuts_at None = false
cuts_at (Some m) = m.cuts

-- the test passes at some prefix of the path, or at the path
abbrev pub some_prefix : (List (List ℕ) → Bool) → List (List ℕ) → Bool
some_prefix f [] = f []
some_prefix f (n ∷ p) = f [] || some_prefix (λ q. f (n ∷ q)) p

-- what an entry says at its own path
abbrev pub said_by : {C : Type 0} → Entry C → Overlay C
said_by e = if is_hide e then hidden else visible (as_shown e)

-- what stands at a path says what is there, whatever cuts above it
abbrev pub overlay_of : {C : Type 0} → Option (Marked C) → Bool → Overlay C
overlay_of (Some m) cut = said_by m.entry
overlay_of None true = hidden
overlay_of None false = absent

-- what a marked list says at a path
abbrev pub overlay_at : {C : Type 0} → MarkedEntries C → List (List ℕ) → Overlay C
overlay_at ms p = overlay_of (find path_cmp p ms) (some_prefix (λ q. cuts_at (find path_cmp q ms)) p)

-- an upper entry hides what a lower list has at a path: at its own path, and below it where it cuts
abbrev pub hides : {C : Type 0} → List (List ℕ) × Marked C → List (List ℕ) → Bool
hides u p = if u.1.cuts then is_prefix u.0 p else eq_by_cmp path_cmp p u.0

-- an upper entry with a lower one, where there is one at its path: it cuts also where that one cuts
abbrev pub over_entry : {C : Type 0} → Marked C → Option (Marked C) → Marked C
over_entry m lower = record { entry = m.entry; cuts = m.cuts || cuts_at lower }

-- a lower list with an upper entry laid over it
abbrev pub lay : {C : Type 0} → List (List ℕ) × Marked C → MarkedEntries C → MarkedEntries C
lay u ls = put path_cmp u.0 (over_entry u.1 (find path_cmp u.0 ls)) (where_key path_cmp (λ p. not (hides u p)) ls)

-- a lower list with the entries of an upper one laid over it
abbrev pub over : {C : Type 0} → MarkedEntries C → MarkedEntries C → MarkedEntries C
over [] ls = ls
over (u ∷ us) ls = over us (lay u ls)

-- how many entries at the start of a list an upper entry hides
abbrev pub count_hidden : {C : Type 0} → List (List ℕ) × Marked C → MarkedEntries C → ℕ
count_hidden u ls = prefix_len (λ e. hides u e.0) ls

-- the entry at a path, where a list begins with it
abbrev pub first_at : {C : Type 0} → List (List ℕ) → MarkedEntries C → Option (Marked C)
first_at p [] = None
first_at p (e ∷ es) = if eq_by_cmp path_cmp e.0 p then Some e.1 else None
