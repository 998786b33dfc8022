-- What a search finds: the set of all usable entries, and of each stem the one that is least, first by its directory, then
-- by its bytes. Which entries are usable is told in systemd-sysext(8) and systemd.v(7); where those are silent it is this
-- project's own choice.
use Rattle.std.specs.Prelude.{◌≡◌, ◌⊎◌, ℕ, ◌<◌, true, false, List, [], ◌∷◌, ◌++◌, map, IsTrue, Option, Some, None, is_some}
use Rattle.std.specs.FinMap.{find, is_sorted}
use Rattle.std.specs.declared.cmp.Ordering.TheVariants.{Less}
use Rattle.ext_lines.specs.ByteOrder.{bytes_cmp}
use Rattle.ext_text.specs.Name.{IsName}
use Rattle.ext_text.specs.Path.{IsPath}
use Rattle.ext_text.specs.declared.arch.Arch.{Arch}
use Rattle.ext_text.specs.declared.class.Class.{Class}
use Rattle.ext_tree.specs.Part.{part}
use Rattle.ext_tree.specs.Tree.{Entries, lookup, is_directory_or_root}
use Rattle.ext_walk.specs.Leads.{LeadsTo, LeadsToDirectory}
use Rattle.ext_walk.specs.Walk.{Ends}
use Rattle.ext_vers.specs.Version.{order_of}
use Rattle.ext_find.specs.Content.{is_full_at, is_mask_at}
use Rattle.ext_find.specs.Directories.{Opens}
use Rattle.ext_find.specs.Ending.{ending_of, is_hidden, stem_of}
use Rattle.ext_find.specs.Image.{Breaks, IsReleaseIn}
use Rattle.ext_find.specs.Pick.{IsPick}
use Rattle.ext_find.specs.declared.ending.Ending.{Ending}
use Rattle.ext_find.specs.declared.ending.Ending.TheVariants.{Plain, DotRaw, DotV, DotRawV}
use Rattle.ext_find.specs.declared.found.BreakWhy.{BreakWhy}
use Rattle.ext_find.specs.declared.found.FoundItem.{FoundItem}
use Rattle.ext_find.specs.declared.found.FoundKind.{FoundKind}
use Rattle.ext_find.specs.declared.found.FoundKind.TheVariants.{Image, Masked, Raw, Broken}

-- the first entry counts before the second: by its directory, then by its bytes
abbrev pub CountsBefore : ℕ → List ℕ → ℕ → List ℕ → Type 0
CountsBefore index name later_index later = (index < later_index) ⊎ ((index ≡ later_index) × (bytes_cmp name later ≡ Less))

-- items with their names as keys
abbrev pub by_name : List FoundItem → List (List ℕ × FoundItem)
by_name items = map (λ item. (item.name, item)) items

module _ {C : Type 0} (size : C → ℕ) (es : Entries C) (class : Class) (arch : Arch) (hierarchies : List (List ℕ)) where
  -- the place of the image to which an entry belongs: its own path, or that of the picked version
  abbrev pub IsPlace : List (List ℕ) → List ℕ → Ending → List (List ℕ) → Type 0
  IsPlace path stem Plain place = place ≡ path
  IsPlace path stem DotRaw place = ⊥
  IsPlace path stem DotV place = (pick : List ℕ) × (place ≡ path ++ pick ∷ []) × IsPick es arch path stem pick
  IsPlace path stem DotRawV place = ⊥

  -- the place leads to a directory; what is below that is the image
  abbrev pub IsImage : List (List ℕ) → List ℕ → Option BreakWhy → Type 0
  IsImage place stem why =
      (end : List (List ℕ)) × Ends es place end × IsTrue (is_directory_or_root es end) × Breaks (part end es) class hierarchies stem why

  -- an image in a file that is not looked into, or versions of such
  abbrev pub LeadsToRaw : List (List ℕ) → Ending → Type 0
  LeadsToRaw path Plain = ⊥
  LeadsToRaw path DotRaw = LeadsTo (is_full_at size) es path
  LeadsToRaw path DotV = ⊥
  LeadsToRaw path DotRawV = LeadsToDirectory es path

  -- what the entry of this name at the path gives: a mask, whatever its ending, or an image
  abbrev pub Gives : List (List ℕ) → List ℕ → List (List ℕ) → FoundKind → Type 0
  Gives path name place Masked = (is_mask_at size (lookup es path) ≡ true) × (place ≡ path)
  Gives path name place Raw = (is_mask_at size (lookup es path) ≡ false) × (place ≡ path) × LeadsToRaw path (ending_of name)
  Gives path name place Image =
      (is_mask_at size (lookup es path) ≡ false) × IsPlace path (stem_of name) (ending_of name) place × IsImage place (stem_of name) None
  Gives path name place (Broken why) =
      (is_mask_at size (lookup es path) ≡ false) × IsPlace path (stem_of name) (ending_of name) place
      × IsImage place (stem_of name) (Some why)

  -- where the release file of what is found at the place is: of an image that can be used, and of nothing else
  abbrev pub IsReleaseOf : List (List ℕ) → List ℕ → FoundKind → Option (List (List ℕ)) → Type 0
  IsReleaseOf place stem Image release = (end : List (List ℕ)) × Ends es place end × IsReleaseIn es end class stem release
  IsReleaseOf place stem Masked release = release ≡ None
  IsReleaseOf place stem Raw release = release ≡ None
  IsReleaseOf place stem (Broken why) release = release ≡ None

  -- an entry of the directory gives the item
  pub record IsUsableIn (directory : List (List ℕ)) (name : List ℕ) (item : FoundItem) : Type 0 where
    pub there : IsTrue (is_some (lookup es (directory ++ name ∷ [])))
    pub shown : is_hidden name ≡ false
    pub stem : item.name ≡ stem_of name
    pub named : IsName item.name
    pub gives : Gives (directory ++ name ∷ []) name item.place item.kind
    pub path : IsPath item.place
    pub release : IsReleaseOf item.place item.name item.kind item.release

  -- an entry of the search directory with this index gives the item
  pub record IsUsable (index : ℕ) (name : List ℕ) (item : FoundItem) : Type 0 where
    pub directory : List (List ℕ)
    pub opens : Opens es class index directory
    pub entry : IsUsableIn directory name item

  -- the entry gives the item, and none that counts before it is usable for the same stem
  pub record IsFirst (index : ℕ) (name : List ℕ) (item : FoundItem) : Type 0 where
    pub usable : IsUsable index name item
    pub first : (other_index : ℕ) (other : List ℕ) (another : FoundItem) → IsUsable other_index other another → another.name ≡ item.name
        → ¬ CountsBefore other_index other index name

  -- each stem that has a usable entry, once, in the order of versions, with the first of them
  pub record AreFound (items : List FoundItem) : Type 0 where
    pub ordered : IsTrue (is_sorted order_of (by_name items))
    pub least : (stem : List ℕ) (item : FoundItem) → find order_of stem (by_name items) ≡ Some item
        → (index : ℕ) × (name : List ℕ) × IsFirst index name item
    pub each : (index : ℕ) (name : List ℕ) (item : FoundItem) → IsUsable index name item
        → IsTrue (is_some (find order_of item.name (by_name items)))
