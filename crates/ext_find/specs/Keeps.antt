-- What a search has kept after some of its visits: of each stem the first of the usable entries that it came to.
use Rattle.std.specs.Prelude.{◌≡◌, ◌⊎◌, ℕ, ◌<◌, if◌then◌else◌, List, [], ◌∷◌, ◌++◌, IsTrue, Option, Some, None, is_some}
use Rattle.std.specs.BTreeMap.{BTreeMap, get, is_at}
use Rattle.ext_text.specs.declared.arch.Arch.{Arch}
use Rattle.ext_text.specs.declared.class.Class.{Class}
use Rattle.ext_tree.specs.Tree.{Entries, lookup}
use Rattle.ext_vers.specs.Version.{order_of}
use Rattle.ext_find.specs.Found.{IsFirst, IsUsable}
use Rattle.ext_find.specs.Usable.{item_with}
use Rattle.ext_find.specs.declared.found.FoundItem.{FoundItem}
use Rattle.ext_find.specs.declared.found_image.FoundImage.{FoundImage}

-- what is kept for a stem
abbrev pub kept_at : BTreeMap (List ℕ) FoundImage → List ℕ → Option FoundImage
kept_at m stem = get order_of m stem

-- an item is kept where its stem has none
abbrev pub KeepsToo : BTreeMap (List ℕ) FoundImage → BTreeMap (List ℕ) FoundImage → Option FoundItem → Type 0
KeepsToo old new None = (q : List ℕ) → kept_at new q ≡ kept_at old q
KeepsToo old new (Some item) =
    (q : List ℕ) → kept_at new q
    ≡ (if is_some (kept_at old item.name) then kept_at old q
    else if is_at (order_of item.name) q then Some (record { place = item.place; kind = item.kind; release = item.release })
    else kept_at old q)

-- the visits to the directories before one
abbrev pub before : ℕ → ℕ → List ℕ → Type 0
before index visited name = visited < index

-- and to those names of this one that are not left
abbrev pub passed : {C : Type 0} → ℕ → List (List ℕ) → Entries C → ℕ → List ℕ → Type 0
passed index directory rest visited name = (visited < index) ⊎ ((visited ≡ index) × (lookup rest (directory ++ name ∷ []) ≡ None))

module _ {C : Type 0} (size : C → ℕ) (es : Entries C) (class : Class) (arch : Arch) (hierarchies : List (List ℕ)) where
  -- after the visits that were made
  pub record Keeps (made : ℕ → List ℕ → Type 0) (m : BTreeMap (List ℕ) FoundImage) : Type 0 where
    pub kept : (stem : List ℕ) (found_image : FoundImage) → kept_at m stem ≡ Some found_image
        → (index : ℕ) × (name : List ℕ) × IsFirst size es class arch hierarchies index name (item_with stem found_image)
    pub all : (index : ℕ) (name : List ℕ) (item : FoundItem) → made index name → IsUsable size es class arch hierarchies index name item
        → IsTrue (is_some (kept_at m item.name))
