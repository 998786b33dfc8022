-- The laws of searches.
use Rattle.std.specs.Prelude.{◌≡◌, ℕ, List}
use Rattle.ext_text.specs.declared.arch.Arch.{Arch}
use Rattle.ext_text.specs.declared.class.Class.{Class}
use Rattle.ext_tree.specs.Tree.{Entries}
use Rattle.ext_find.specs.Found.{AreFound, IsUsable}
use Rattle.ext_find.specs.declared.found.FoundItem.{FoundItem}

-- an entry of a search directory gives one item
abbrev pub OneItem : {C : Type 0} → (C → ℕ) → Type 0
OneItem {C} size =
    (es : Entries C) (class : Class) (arch : Arch) (hierarchies : List (List ℕ)) (index : ℕ) (name : List ℕ) (a b : FoundItem)
    → IsUsable size es class arch hierarchies index name a
    → IsUsable size es class arch hierarchies index name b
    → a ≡ b

-- two lists that both are what is found are equal
abbrev pub OneFound : {C : Type 0} → (C → ℕ) → Type 0
OneFound {C} size =
    (es : Entries C) (class : Class) (arch : Arch) (hierarchies : List (List ℕ)) (found other : List FoundItem)
    → AreFound size es class arch hierarchies found
    → AreFound size es class arch hierarchies other
    → found ≡ other
