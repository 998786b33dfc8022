-- The items of the lists that are joined: what a contract sees of them.
use Rattle.std.specs.Prelude.{ℕ, List, map, Result, Ok, Err, Vec}
use Rattle.std.specs.Borrow.{Bor}
use Rattle.ext_tree.specs.Tree.{Entries, all_shown}
use Rattle.ext_tree.specs.declared.entry.Entry.{Entry}
use Rattle.ext_layer.specs.declared.item.Item.{Item}
use Rattle.ext_layer.specs.Overlay.{Marked, MarkedEntries}

-- an entry with its path and its mark
abbrev pub seen : {C : Type 0} → Item C → List (List ℕ) × Marked C
seen i = (i.pair.now.0, record { entry = i.pair.now.1; cuts = i.cuts })

-- the marked entries of items
abbrev pub all_seen : {C : Type 0} → List (Item C) → MarkedEntries C
all_seen items = map seen items

-- a result of borrowed entries, as they show
abbrev pub entries_seen : {C E Z : Type 0} → Result (Vec (Bor (List (List ℕ) × Entry C)) Z) E → Result (Entries C) E
entries_seen (Ok pairs) = Ok (all_shown pairs.items)
entries_seen (Err e) = Err e
