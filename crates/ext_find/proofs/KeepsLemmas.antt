-- What a search keeps, visit by visit.
use Rattle.std.proofs.Common.{◌≡◌, ℕ, ◌+◌, ◌<◌, ◌≤◌, Bool, true, false, cond, List, [], ◌∷◌, ◌++◌, Option, Some, None, is_some, refl, sym, ap, ◌∙◌, subst, arith}
use Rattle.std.specs.Prelude.{◌⊎◌, nat_lt}
use Rattle.std.specs.Option.{unwrap_or}
use mathlib.Core.Logic.{inl, inr}
use Rattle.std.specs.BTreeMap.{BTreeMap, is_at}
use Rattle.std.specs.Cmp.{tied_itself}
use Rattle.std.specs.Ordering.{is_eq}
use Rattle.std.proofs.lemmas.Bool.{false≢true, ltb-false, ltb-true}
use Rattle.std.specs.FinMap.Entries.{where_key}
use Rattle.std.specs.Map.{lookup as lookup_in}
use Rattle.ext_text.specs.Path.{path_cmp, is_proper_prefix}
use Rattle.ext_text.specs.declared.arch.Arch.{Arch}
use Rattle.ext_text.specs.declared.class.Class.{Class}
use Rattle.ext_text.proofs.ForCallers.{is_equal}
use Rattle.ext_tree.specs.Tree.{Entries, lookup}
use Rattle.ext_tree.proofs.ForCallers.{below_append, lookup_where}
use Rattle.ext_vers.specs.Order.{orders_exact, orders_total}
use Rattle.ext_vers.specs.Version.{order_of}
use Rattle.ext_walk.specs.Row.{Passes}
use Rattle.ext_walk.specs.Walk.{Ends, parts}
use Rattle.ext_walk.proofs.ForCallers.{same_end}
use Rattle.ext_find.specs.Directories.{Opens}
use Rattle.ext_find.specs.Found.{CountsBefore, IsFirst, IsUsable, IsUsableIn}
use Rattle.ext_find.specs.Keeps.{Keeps, KeepsToo, before, kept_at, passed}
use Rattle.ext_find.specs.Usable.{UsableAt, item_with}
use Rattle.ext_find.specs.declared.found.FoundItem.{FoundItem}
use Rattle.ext_find.specs.declared.found_image.FoundImage.{FoundImage}

-- a search directory leads to one directory
pub one_opens : {C : Type 0} (es : Entries C) (class : Class) (index : ℕ) (a b : List (List ℕ)) → Opens es class index a → Opens es class index b → a ≡ b
one_opens es class index a b first other =
    let same : first.text ≡ other.text = ap (λ o. unwrap_or o first.text) (sym first.searched ∙ other.searched) in
    same_end es (parts other.text) a b (subst (λ t. Ends es (parts t) a) same first.leads) other.leads

equal_names : (a : List ℕ) → is_at (order_of a) a ≡ true
equal_names a = ap is_eq (tied_itself orders_total a)

pub names_equal : (a b : List ℕ) → is_at (order_of a) b ≡ true → a ≡ b
names_equal a b same = orders_exact a b (is_equal (order_of a b) same)

module _ (old new : BTreeMap (List ℕ) FoundImage) where
  -- what is kept stays
  more_kept : (item : Option FoundItem) → KeepsToo old new item → (q : List ℕ) → is_some (kept_at old q) ≡ true → is_some (kept_at new q) ≡ true
  more_kept None keeps q there = ap is_some (keeps q) ∙ there
  more_kept (Some item) keeps q there =
      ap is_some (keeps q)
      ∙ elim (is_some (kept_at old item.name)) as (λ b. is_some (cond b (kept_at old q) (cond (is_at (order_of item.name) q) (Some (record { place = item.place; kind = item.kind; release = item.release })) (kept_at old q))) ≡ true) [
        | true ↦ there
        | false ↦ elim (is_at (order_of item.name) q) as (λ b. is_some (cond b (Some (record { place = item.place; kind = item.kind; release = item.release })) (kept_at old q)) ≡ true) [ true ↦ refl | false ↦ there ]
      ]

  -- the item's own stem has one
  own_kept : (item : FoundItem) → KeepsToo old new (Some item) → is_some (kept_at new item.name) ≡ true
  own_kept item keeps =
      ap is_some (keeps item.name)
      ∙ elim (is_some (kept_at old item.name)) as (λ b. is_some (kept_at old item.name) ≡ b → is_some (cond b (kept_at old item.name) (cond (is_at (order_of item.name) item.name) (Some (record { place = item.place; kind = item.kind; release = item.release })) (kept_at old item.name))) ≡ true) [
        | true ↦ λ there. there
        | false ↦ λ _. ap (λ b. is_some (cond b (Some (record { place = item.place; kind = item.kind; release = item.release })) (kept_at old item.name))) (equal_names item.name)
      ] refl

less_or_same : (j i : ℕ) → j < i + 1 → (j < i) ⊎ (j ≡ i)
less_or_same j i within =
    elim (nat_lt j i) as (λ b. nat_lt j i ≡ b → (j < i) ⊎ (j ≡ i)) [
      | true ↦ λ less. inl (ltb-true j i less)
      | false ↦ λ other. let above : i ≤ j = ltb-false j i other in inr (omega arith)
    ] refl

-- a usable entry of the search directory is one of the directory to which that leads
usable_here : {C : Type 0} (size : C → ℕ) (es : Entries C) (class : Class) (arch : Arch) (hierarchies : List (List ℕ)) (index : ℕ) (directory : List (List ℕ)) → Opens es class index directory → (name : List ℕ) (item : FoundItem) → IsUsable size es class arch hierarchies index name item → IsUsableIn size es class arch hierarchies directory name item
usable_here size es class arch hierarchies index directory opens name item usable =
    subst (λ d. IsUsableIn size es class arch hierarchies d name item) (one_opens es class index usable.directory directory usable.opens opens) usable.entry

module _ {C : Type 0} (size : C → ℕ) (es : Entries C) (class : Class) (arch : Arch) (hierarchies : List (List ℕ)) where
  -- before any visit nothing is kept
  pub keeps_none : (m : BTreeMap (List ℕ) FoundImage) → m.entries ≡ [] → Keeps size es class arch hierarchies (before 0) m
  keeps_none m empty = record {
    kept = λ stem found_image at. absurd (false≢true (sym (ap (λ es. is_some (lookup_in (is_at (order_of stem)) es)) empty) ∙ ap is_some at));
    all = λ index name item made usable. absurd (omega (arith, made));
  }

  -- what holds of a directory's visits holds of all visits up to the next directory
  at_index : (m : BTreeMap (List ℕ) FoundImage) (index : ℕ) → Keeps size es class arch hierarchies (before index) m → ((name : List ℕ) (item : FoundItem) → IsUsable size es class arch hierarchies index name item → is_some (kept_at m item.name) ≡ true) → Keeps size es class arch hierarchies (before (index + 1)) m
  at_index m index keeps here = record { kept = keeps.kept; all = λ j name item made usable. by_case j name item usable (less_or_same j index made) }
    where
      by_case : (j : ℕ) (name : List ℕ) (item : FoundItem) → IsUsable size es class arch hierarchies j name item → (j < index) ⊎ (j ≡ index) → is_some (kept_at m item.name) ≡ true
      by_case j name item usable (inl less) = keeps.all j name item less usable
      by_case j name item usable (inr same) = here name item (subst (λ i. IsUsable size es class arch hierarchies i name item) same usable)

  -- visits to a directory that is not there
  pub keeps_closed : (m : BTreeMap (List ℕ) FoundImage) (index : ℕ) → ((directory : List (List ℕ)) → ¬ Opens es class index directory) → Keeps size es class arch hierarchies (before index) m → Keeps size es class arch hierarchies (before (index + 1)) m
  keeps_closed m index closed keeps = at_index m index keeps (λ name item usable. absurd (closed usable.directory usable.opens))

  module _ (index : ℕ) (directory : List (List ℕ)) (opens : Opens es class index directory) where
    -- at the start all names of the directory are left
    pub keeps_start : (m : BTreeMap (List ℕ) FoundImage) (rest : Entries C) → rest ≡ where_key path_cmp (is_proper_prefix directory) es → Keeps size es class arch hierarchies (before index) m → Keeps size es class arch hierarchies (passed index directory rest) m
    keeps_start m rest is keeps = record { kept = keeps.kept; all = all }
      where
        all : (j : ℕ) (name : List ℕ) (item : FoundItem) → passed index directory rest j name → IsUsable size es class arch hierarchies j name item → is_some (kept_at m item.name) ≡ true
        all j name item (inl less) usable = keeps.all j name item less usable
        all j name item (inr here) usable =
            let there : is_some (lookup es (directory ++ name ∷ [])) ≡ true = (usable_here size es class arch hierarchies index directory opens name item (subst (λ i. IsUsable size es class arch hierarchies i name item) here.0 usable)).there in
            absurd (false≢true (sym (ap is_some here.1) ∙ ap (λ fs. is_some (lookup fs (directory ++ name ∷ []))) is
            ∙ ap is_some (lookup_where (is_proper_prefix directory) (directory ++ name ∷ []) es ∙ ap (λ b. cond b (lookup es (directory ++ name ∷ [])) None) (below_append directory name [])) ∙ there))

    -- at the end none is left
    pub keeps_end : (m : BTreeMap (List ℕ) FoundImage) (rest : Entries C) → ((name : List ℕ) → lookup rest (directory ++ name ∷ []) ≡ None) → Keeps size es class arch hierarchies (passed index directory rest) m → Keeps size es class arch hierarchies (before (index + 1)) m
    keeps_end m rest none keeps =
        at_index m index (record { kept = keeps.kept; all = λ j name item less usable. keeps.all j name item (inl less) usable })
        (λ name item usable. keeps.all index name item (inr (refl, none name)) usable)

    module _ (rest more : Entries C) (name : List ℕ) (next : Passes directory rest name more) (old new : BTreeMap (List ℕ) FoundImage) (keeps : Keeps size es class arch hierarchies (passed index directory rest) old) where
      -- an item whose stem has none is the first of its stem
      is_first : (item : FoundItem) → IsUsableIn size es class arch hierarchies directory name item → is_some (kept_at old item.name) ≡ false → IsFirst size es class arch hierarchies index name item
      is_first item usable none = record { usable = record { directory = directory; opens = opens; entry = usable }; first = first }
        where
          first : (j : ℕ) (other : List ℕ) (another : FoundItem) → IsUsable size es class arch hierarchies j other another → another.name ≡ item.name → CountsBefore j other index name → ⊥
          first j other another earlier same (inl less) =
              false≢true (sym none ∙ ap (λ n. is_some (kept_at old n)) (sym same) ∙ keeps.all j other another (inl less) earlier)
          first j other another earlier same (inr here) =
              false≢true (sym none ∙ ap (λ n. is_some (kept_at old n)) (sym same) ∙ keeps.all j other another (inr (here.0, next.none_before other here.1)) earlier)

      kept_next : (item : FoundItem) → IsUsableIn size es class arch hierarchies directory name item → (there : Bool) → is_some (kept_at old item.name) ≡ there → (stem : List ℕ) (found_image : FoundImage) → cond there (kept_at old stem) (cond (is_at (order_of item.name) stem) (Some (record { place = item.place; kind = item.kind; release = item.release })) (kept_at old stem)) ≡ Some found_image → (j : ℕ) × (n : List ℕ) × IsFirst size es class arch hierarchies j n (item_with stem found_image)
      kept_next item usable true there stem found_image at = keeps.kept stem found_image at
      kept_next item usable false none stem found_image at = by_name (is_at (order_of item.name) stem) refl at
        where
          by_name : (b : Bool) → is_at (order_of item.name) stem ≡ b → cond b (Some (record { place = item.place; kind = item.kind; release = item.release })) (kept_at old stem) ≡ Some found_image → (j : ℕ) × (n : List ℕ) × IsFirst size es class arch hierarchies j n (item_with stem found_image)
          by_name true same is =
              let found_image_is : record { place = item.place; kind = item.kind; release = item.release } ≡ found_image = ap (λ o. unwrap_or o found_image) is in
              (index, name, subst (IsFirst size es class arch hierarchies index name) (λ i. item_with (names_equal item.name stem same i) (found_image_is i)) (is_first item usable none))
          by_name false other is = keeps.kept stem found_image is

      pub keeps_next : (item : Option FoundItem) → UsableAt size es class arch hierarchies directory name item → KeepsToo old new item → Keeps size es class arch hierarchies (passed index directory more) new
      keeps_next item at too = record { kept = kept item at too; all = λ j n another made usable. all j n another made usable }
        where
          kept : (item : Option FoundItem) → UsableAt size es class arch hierarchies directory name item → KeepsToo old new item → (stem : List ℕ) (found_image : FoundImage) → kept_at new stem ≡ Some found_image → (j : ℕ) × (n : List ℕ) × IsFirst size es class arch hierarchies j n (item_with stem found_image)
          kept None none same stem found_image is = keeps.kept stem found_image (sym (same stem) ∙ is)
          kept (Some x) usable adds stem found_image is = kept_next x usable (is_some (kept_at old x.name)) refl stem found_image (sym (adds stem) ∙ is)

          own : (item : Option FoundItem) → UsableAt size es class arch hierarchies directory name item → KeepsToo old new item → (another : FoundItem) → IsUsableIn size es class arch hierarchies directory name another → is_some (kept_at new another.name) ≡ true
          own None none same another usable = absurd (none another usable)
          own (Some x) is adds another usable = ap (λ n. is_some (kept_at new n)) (usable.stem ∙ sym is.stem) ∙ own_kept old new x adds

          old_made : (j : ℕ) (n : List ℕ) (another : FoundItem) → passed index directory rest j n → IsUsable size es class arch hierarchies j n another → is_some (kept_at new another.name) ≡ true
          old_made j n another made usable = more_kept old new item too another.name (keeps.all j n another made usable)

          here : (n : List ℕ) (another : FoundItem) → IsUsable size es class arch hierarchies index n another → (lookup rest (directory ++ n ∷ []) ≡ None) ⊎ (n ≡ name) → is_some (kept_at new another.name) ≡ true
          here n another usable (inl gone) = old_made index n another (inr (refl, gone)) usable
          here n another usable (inr same) = own item at too another (subst (λ m. IsUsableIn size es class arch hierarchies directory m another) same (usable_here size es class arch hierarchies index directory opens n another usable))

          all : (j : ℕ) (n : List ℕ) (another : FoundItem) → passed index directory more j n → IsUsable size es class arch hierarchies j n another → is_some (kept_at new another.name) ≡ true
          all j n another (inl less) usable = old_made j n another (inl less) usable
          all j n another (inr at_) usable = here n another (subst (λ i. IsUsable size es class arch hierarchies i n another) at_.0 usable) (next.passed n at_.1)
