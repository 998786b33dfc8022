-- The first line of a path tells what shows there: what a layer cuts off or has, by what is found of it.
use Rattle.std.proofs.Common.{◌≡◌, ℕ, true, not, List, [], ◌∷◌, ◌++◌, map, Option, Some, None, is_some, refl, sym, ap, ◌∙◌, subst}
use mathlib.Core.Logic.{inl, inr}
use Rattle.std.proofs.lemmas.Bool.{false≢true}
use Rattle.std.specs.List.{AllByRecursion}
use Rattle.ext_tree.specs.Tree.{Entries, as_shown, is_hide, lookup}
use Rattle.ext_tree.specs.declared.entry.Entry.{Entry}
use Rattle.ext_tree.specs.declared.entry.Entry.TheVariants.{Dir, Opaque, File, Link, Hide}
use Rattle.ext_layer.specs.Layered.{CutsOff, IsVisible, cuts_below}
use Rattle.ext_host.specs.Held.{HeldFile}
use Rattle.ext_host.specs.Stamped.{stamped_entry}
use Rattle.ext_explain.specs.Finding.{cover_of, found_under}
use Rattle.ext_explain.specs.Laws.{shown_entry, shown_first, shown_where}
use Rattle.ext_explain.specs.Layers.{NamedLayer, base_layer, origin_of, origin_where, origins_of}
use Rattle.ext_origin.specs.declared.origin.Origin.{Origin}
use Rattle.ext_explain.proofs.PrefixLemmas.{passes_nowhere, passes_there}

-- what shows of an entry is what shows of it as it shows
pub shows_as : (e : Entry HeldFile) → shown_entry (stamped_entry (as_shown e)) ≡ shown_entry (stamped_entry e)
shows_as (Dir attributes) = refl
shows_as (Opaque attributes) = refl
shows_as (File attributes held) = refl
shows_as (Link owner target) = refl
shows_as Hide = refl

-- an entry that shows nothing is a whiteout
hidden_or : (e : Entry HeldFile) → ((not (is_hide e) ≡ true) → ⊥) → shown_entry (stamped_entry e) ≡ None
hidden_or (Dir attributes) visible = absurd (visible refl)
hidden_or (Opaque attributes) visible = absurd (visible refl)
hidden_or (File attributes held) visible = absurd (visible refl)
hidden_or (Link owner target) visible = absurd (visible refl)
hidden_or Hide visible = refl

-- what a layer has
abbrev pub entries_in : NamedLayer → Entries HeldFile
entries_in named = named.entries

module _ (path : List (List ℕ)) where
  -- of a layer that does not cut off the path nothing is found
  open_found : (es : Entries HeldFile) → (o : Option (Entry HeldFile)) → lookup es path ≡ o → (cover : Option (List (List ℕ))) → cover_of es path ≡ cover → (CutsOff es path → ⊥) → (o ≡ None) × (cover ≡ None)
  open_found es (Some e) stands cover covers open_ = absurd (open_ (inl (ap is_some stands)))
  open_found es None stands (Some at) covers open_ =
      let there = passes_there (λ q. cuts_below (lookup es q)) path at covers in
      absurd (open_ (inr (at, there.0, there.1)))
  open_found es None stands None covers open_ = (refl, refl)

  -- where nothing is found the layer cuts off nothing
  cuts_nothing : (es : Entries HeldFile) → lookup es path ≡ None → cover_of es path ≡ None → CutsOff es path → ⊥
  cuts_nothing es none nowhere (inl there) = false≢true (sym (ap is_some none) ∙ there)
  cuts_nothing es none nowhere (inr (q, proper, cuts)) = false≢true (sym (passes_nowhere (λ r. cuts_below (lookup es r)) path q nowhere proper) ∙ cuts)

  abbrev line_by : NamedLayer → Option (Entry HeldFile) → Option (List (List ℕ)) → List Origin
  line_by named o cover = origin_where named.layer (found_under o cover)

  line_is : (named : NamedLayer) (o : Option (Entry HeldFile)) (cover : Option (List (List ℕ))) → lookup named.entries path ≡ o → cover_of named.entries path ≡ cover → origin_of path named ≡ line_by named o cover
  line_is named o cover stands covers = λ i. origin_where named.layer (found_under (stands i) (covers i))

  -- what is visible of layers is what the first line shows
  pub visible_first : (layers : List NamedLayer) (above : List (Entries HeldFile)) (layer : Entries HeldFile) (below : List (Entries HeldFile)) (stored : Entry HeldFile)
      → map entries_in layers ≡ above ++ layer ∷ below → lookup layer path ≡ Some stored → AllByRecursion (λ es. CutsOff es path → ⊥) above → shown_first (origins_of path layers) ≡ shown_entry (stamped_entry stored)
  visible_first [] [] layer below stored split stands open_ = cc
  visible_first [] (a ∷ above) layer below stored split stands open_ = cc
  visible_first (named ∷ layers) [] layer below stored split stands open_ =
      let is : named.entries ≡ layer = cc in
      ap (λ line. shown_first (line ++ origins_of path layers)) (line_is named (Some stored) (cover_of named.entries path) (ap (λ es. lookup es path) is ∙ stands) refl)
  visible_first (named ∷ layers) (a ∷ above) layer below stored split stands open_ =
      let is : named.entries ≡ a = cc in
      let rest : map entries_in layers ≡ above ++ layer ∷ below = cc in
      let nothing = open_found named.entries (lookup named.entries path) refl (cover_of named.entries path) refl (λ cuts. open_.0 (subst (λ es. CutsOff es path) is cuts)) in
      ap (λ line. shown_first (line ++ origins_of path layers)) (line_is named None None nothing.0 nothing.1)
      ∙ visible_first layers above layer below stored rest stands open_.1

  none_by : (named : NamedLayer) (layers : List NamedLayer) → ((e : Entry HeldFile) → IsVisible (map entries_in (named ∷ layers)) path e → ⊥) → (((e : Entry HeldFile) → IsVisible (map entries_in layers) path e → ⊥) → shown_first (origins_of path layers) ≡ None)
      → (o : Option (Entry HeldFile)) → lookup named.entries path ≡ o → (cover : Option (List (List ℕ))) → cover_of named.entries path ≡ cover → shown_first (origins_of path (named ∷ layers)) ≡ None
  none_by named layers none below (Some stored) stands cover covers =
      ap (λ line. shown_first (line ++ origins_of path layers)) (line_is named (Some stored) cover stands covers)
      ∙ hidden_or stored (λ no_hide. none (as_shown stored) (record {
        above = [];
        layer = named.entries;
        below = map entries_in layers;
        split = refl;
        stored = stored;
        stands = stands;
        no_hide = no_hide;
        shown = refl;
        open_ = tt;
      }))
  none_by named layers none below None stands (Some at) covers = ap (λ line. shown_first (line ++ origins_of path layers)) (line_is named None (Some at) stands covers)
  none_by named layers none below None stands None covers =
      ap (λ line. shown_first (line ++ origins_of path layers)) (line_is named None None stands covers)
      ∙ below (λ e v. none e (record {
        above = named.entries ∷ v.above;
        layer = v.layer;
        below = v.below;
        split = ap (λ ess. named.entries ∷ ess) v.split;
        stored = v.stored;
        stands = v.stands;
        no_hide = v.no_hide;
        shown = v.shown;
        open_ = (cuts_nothing named.entries stands covers, v.open_);
      }))

  -- where nothing is visible the first line shows nothing
  pub none_first : (layers : List NamedLayer) → ((e : Entry HeldFile) → IsVisible (map entries_in layers) path e → ⊥) → shown_first (origins_of path layers) ≡ None
  none_first [] none = refl
  none_first (named ∷ layers) none = none_by named layers none (none_first layers) (lookup named.entries path) refl (cover_of named.entries path) refl

  -- of the base alone the first line shows what it has
  pub base_first : (base : Entries HeldFile) → shown_first (origins_of path (base_layer base ∷ [])) ≡ shown_where (lookup base path)
  base_first base = by_found (lookup base path) refl (cover_of base path) refl
    where
      by_found : (o : Option (Entry HeldFile)) → lookup base path ≡ o → (cover : Option (List (List ℕ))) → cover_of base path ≡ cover → shown_first (origins_of path (base_layer base ∷ [])) ≡ shown_where (lookup base path)
      by_found (Some stored) stands cover covers = ap (λ line. shown_first (line ++ [])) (line_is (base_layer base) (Some stored) cover stands covers) ∙ ap shown_where (sym stands)
      by_found None stands (Some at) covers = ap (λ line. shown_first (line ++ [])) (line_is (base_layer base) None (Some at) stands covers) ∙ ap shown_where (sym stands)
      by_found None stands None covers = ap (λ line. shown_first (line ++ [])) (line_is (base_layer base) None None stands covers) ∙ ap shown_where (sym stands)
