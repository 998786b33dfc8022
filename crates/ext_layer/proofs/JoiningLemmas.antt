-- What a list of layers says at each path: what is visible there, and what the lists of two parts say in turn.
use Rattle.std.proofs.Common.{◌≡◌, ℕ, ◌<◌, Bool, true, false, cond, not, ◌&&◌, List, [], ◌∷◌, ◌++◌, length, map, take, drop, get_or, suc, Option, Some, None, is_some, refl, sym, ap, ◌∙◌, subst, arith, drop-cons}
use mathlib.Core.Logic.{inl, inr}
use Rattle.std.proofs.lemmas.Bool.{false≢true, and_parts, and_from, not-true, false_from_ne_true, not_from_false}
use Rattle.std.proofs.lemmas.Float.{T_from_true}
use Rattle.std.proofs.lemmas.List.{take-append-drop}
use Rattle.std.specs.Option.{option_map}
use Rattle.std.specs.List.{AllByRecursion, Contains, filter}
use Rattle.std.specs.Ordering.{is_lt, eq_by_cmp}
use Rattle.std.specs.FinMap.{find, is_sorted}
use Rattle.std.specs.FinMap.Entries.{below_all}
use Rattle.ext_text.specs.Path.{path_cmp, is_prefix, is_proper_prefix}
use Rattle.ext_text.proofs.ForCallers.{true_from_T}
use Rattle.ext_text.proofs.ForCallers.{all_append}
use Rattle.ext_text.proofs.ForCallers.{prefix_both, prefix_self, same_path}
use Rattle.ext_tree.specs.Tree.{Entries, IsTree, IsTreeWithin, as_shown, is_hide, lookup}
use Rattle.ext_tree.specs.declared.entry.Entry.{Entry}
use Rattle.ext_layer.specs.Layered.{CutsOff, IsLayered, IsVisible, cuts_below}
use Rattle.ext_layer.specs.declared.item.Item.{Item}
use Rattle.ext_layer.specs.Item.{all_seen}
use Rattle.ext_layer.specs.Joining.{Joins, SayTheSame, layers_overlay}
use Rattle.ext_layer.specs.Overlay.{Marked, MarkedEntries, Overlay, visible, hidden, absent, first_of_two, some_prefix, cuts_at, overlay_of, overlay_at, marked, visible_in, with_mark, over}
use Rattle.ext_layer.proofs.Prefixes.{not_found, some_prefix-none, some_prefix-at}
use Rattle.ext_layer.proofs.OverlayLemmas.{first_assoc, none_overlay, over_overlay, sorted_over}

-- other values at the same keys
find-map : {X Y : Type 0} (g : X → Y) (q : List (List ℕ)) (es : List (List (List ℕ) × X)) → find path_cmp q (map (λ e. (e.0, g e.1)) es) ≡ option_map g (find path_cmp q es)
find-map g q [] = refl
find-map g q (e ∷ es) =
    let rest = find-map g q es in
    elim (eq_by_cmp path_cmp q e.0) as (λ b. cond b (Some (g e.1)) (find path_cmp q (map (λ x. (x.0, g x.1)) es)) ≡ option_map g (cond b (Some e.1) (find path_cmp q es))) [ true ↦ refl | false ↦ rest ]

below_all-map : {X Y : Type 0} (g : X → Y) (k : List (List ℕ)) (es : List (List (List ℕ) × X)) → below_all path_cmp k (map (λ e. (e.0, g e.1)) es) ≡ below_all path_cmp k es
below_all-map g k [] = refl
below_all-map g k (e ∷ es) = ap (λ b. is_lt (path_cmp k e.0) && b) (below_all-map g k es)

pub is_sorted-map : {X Y : Type 0} (g : X → Y) (es : List (List (List ℕ) × X)) → is_sorted path_cmp (map (λ e. (e.0, g e.1)) es) ≡ is_sorted path_cmp es
is_sorted-map g [] = refl
is_sorted-map g (e ∷ es) = λ i. below_all-map g e.0 es i && is_sorted-map g es i

-- a list is split at an element
split_here : {X : Type 0} (xs : List X) (i : ℕ) (x : X) → i < length xs → get_or xs i x ≡ x → xs ≡ take i xs ++ x ∷ drop (suc i) xs
split_here xs i x inside is = sym (take-append-drop i xs) ∙ ap (λ l. take i xs ++ l) (drop-cons xs i x inside ∙ ap (λ y. y ∷ drop (suc i) xs) is)

-- a prefix of a path is the path or a proper prefix
prefix_cases : {P : Type 0} (q p : List (List ℕ)) → is_prefix q p ≡ true → (q ≡ p → P) → (is_proper_prefix q p ≡ true → P) → P
prefix_cases {P = P} q p f same proper =
    elim (is_prefix p q) as (λ b. is_prefix p q ≡ b → P) [
      | true ↦ λ back. same (prefix_both q p f back)
      | false ↦ λ apart. proper (and_from _ _ f (not_from_false _ apart))
    ] refl

-- a value that passes
abbrev pub passing : {X : Type 0} → (X → Bool) → Option X → Option X
passing t None = None
passing t (Some x) = cond (t x) (Some x) None

below_all-filter : {X : Type 0} (t : X → Bool) (k : List (List ℕ)) (es : List (List (List ℕ) × X)) → below_all path_cmp k es ≡ true → below_all path_cmp k (filter (λ e. t e.1) es) ≡ true
below_all-filter t k [] h = refl
below_all-filter t k (e ∷ es) h =
    let x = and_parts (is_lt (path_cmp k e.0)) (below_all path_cmp k es) h in
    let rest = below_all-filter t k es x.1 in
    elim (t e.1) as (λ b. below_all path_cmp k (cond b (e ∷ filter (λ f. t f.1) es) (filter (λ f. t f.1) es)) ≡ true) [ true ↦ and_from _ _ x.0 rest | false ↦ rest ]

-- the entries whose values pass stand in order
pub is_sorted-filter : {X : Type 0} (t : X → Bool) (es : List (List (List ℕ) × X)) → is_sorted path_cmp es ≡ true → is_sorted path_cmp (filter (λ e. t e.1) es) ≡ true
is_sorted-filter t [] h = refl
is_sorted-filter t (e ∷ es) h =
    let x = and_parts (below_all path_cmp e.0 es) (is_sorted path_cmp es) h in
    let rest = is_sorted-filter t es x.1 in
    elim (t e.1) as (λ b. is_sorted path_cmp (cond b (e ∷ filter (λ f. t f.1) es) (filter (λ f. t f.1) es)) ≡ true) [ true ↦ and_from _ _ (below_all-filter t e.0 es x.0) rest | false ↦ rest ]

-- and each is found that passes
find-filter : {X : Type 0} (t : X → Bool) (q : List (List ℕ)) (es : List (List (List ℕ) × X)) → is_sorted path_cmp es ≡ true → find path_cmp q (filter (λ e. t e.1) es) ≡ passing t (find path_cmp q es)
find-filter t q [] h = refl
find-filter t q (e ∷ es) h =
    let x = and_parts (below_all path_cmp e.0 es) (is_sorted path_cmp es) h in
    let rest = find-filter t q es x.1 in
    let kept = filter (λ f. t f.1) es in
    elim (eq_by_cmp path_cmp q e.0) as (λ b. eq_by_cmp path_cmp q e.0 ≡ b → find path_cmp q (cond (t e.1) (e ∷ kept) kept) ≡ passing t (cond b (Some e.1) (find path_cmp q es))) [
      | true ↦ λ same.
          let none : find path_cmp q es ≡ None = ap (λ k. find path_cmp k es) (same_path q e.0 same) ∙ not_found e.0 e.0 (prefix_self e.0) es (T_from_true _ x.0) in
          elim (t e.1) as (λ b. find path_cmp q (cond b (e ∷ kept) kept) ≡ cond b (Some e.1) None) [
            | true ↦ ap (λ b. cond b (Some e.1) (find path_cmp q kept)) same
            | false ↦ rest ∙ ap (passing t) none
          ]
      | false ↦ λ apart.
          elim (t e.1) as (λ b. find path_cmp q (cond b (e ∷ kept) kept) ≡ passing t (find path_cmp q es)) [
            | true ↦ ap (λ b. cond b (Some e.1) (find path_cmp q kept)) apart ∙ rest
            | false ↦ rest
          ]
    ] refl

abbrev pub no_hide : {C : Type 0} → Marked C → Bool
no_hide m = not (is_hide m.entry)

abbrev pub shown : {C : Type 0} → Marked C → Entry C
shown m = as_shown m.entry

-- what a marked entry lets be seen of it
abbrev pub seen_of : {C : Type 0} → Option (Marked C) → Option (Entry C)
seen_of o = option_map shown (passing no_hide o)

nothing_there : {X : Type 0} (o : Option X) → ¬ (is_some o ≡ true) → o ≡ None
nothing_there None not = refl
nothing_there (Some x) not = absurd (not refl)

module _ {C : Type 0} where
  -- a layer that does not cut off a path has nothing there, and nothing that cuts at a proper prefix
  pub open_path : (es : Entries C) (p : List (List ℕ)) → ¬ CutsOff es p → lookup es p ≡ None
  open_path es p open_ = nothing_there (lookup es p) (λ some. open_ (inl some))

  pub open_above : (es : Entries C) (p q : List (List ℕ)) → ¬ CutsOff es p → is_proper_prefix q p ≡ true → cuts_below (lookup es q) ≡ false
  open_above es p q open_ proper = false_from_ne_true (cuts_below (lookup es q)) (λ cuts. open_ (inr (q, proper, cuts)))

  pub find_marked : (es : Entries C) (q : List (List ℕ)) → find path_cmp q (marked es) ≡ option_map with_mark (lookup es q)
  find_marked es q = find-map with_mark q es

  cuts_with_mark : (o : Option (Entry C)) → cuts_at (option_map with_mark o) ≡ cuts_below o
  cuts_with_mark None = refl
  cuts_with_mark (Some e) = refl

  cuts_marked : (es : Entries C) (q : List (List ℕ)) → cuts_at (find path_cmp q (marked es)) ≡ cuts_below (lookup es q)
  cuts_marked es q = ap cuts_at (find_marked es q) ∙ cuts_with_mark (lookup es q)

  absent_of : (o : Option (Marked C)) (b : Bool) → overlay_of o b ≡ absent → (o ≡ None) × (b ≡ false)
  absent_of None false h = (refl, refl)
  absent_of None true h = absurd (cc)
  absent_of (Some m) b h = elim (is_hide m.entry) as (λ c. cond c hidden (visible (as_shown m.entry)) ≡ absent → (Some m ≡ None) × (b ≡ false)) [ true ↦ λ is. absurd (cc) | false ↦ λ is. absurd (cc) ] h

  visible_of : (o : Option (Marked C)) (b : Bool) (e : Entry C) → overlay_of o b ≡ visible e → seen_of o ≡ Some e
  visible_of None false e h = absurd (cc)
  visible_of None true e h = absurd (cc)
  visible_of (Some m) b e h = elim (is_hide m.entry) as (λ c. cond c hidden (visible (as_shown m.entry)) ≡ visible e → option_map shown (cond (not c) (Some m) None) ≡ Some e) [ true ↦ λ is. absurd (cc) | false ↦ λ is. cc ] h

  of_visible : (o : Option (Marked C)) (b : Bool) (e : Entry C) → seen_of o ≡ Some e → overlay_of o b ≡ visible e
  of_visible None b e h = absurd (cc)
  of_visible (Some m) b e h = elim (is_hide m.entry) as (λ c. option_map shown (cond (not c) (Some m) None) ≡ Some e → cond c hidden (visible (as_shown m.entry)) ≡ visible e) [ true ↦ λ is. absurd (cc) | false ↦ λ is. cc ] h

  -- what is visible of a list in order, with and without marks
  pub lookup_visible : (ms : MarkedEntries C) (p : List (List ℕ)) → is_sorted path_cmp ms ≡ true → lookup (visible_in ms) p ≡ seen_of (find path_cmp p ms)
  lookup_visible ms p sorted = find-map shown p (filter (λ m. no_hide m.1) ms) ∙ ap (option_map shown) (find-filter no_hide p ms sorted)

  pub visible_found : (ms : MarkedEntries C) (p : List (List ℕ)) (e : Entry C) → is_sorted path_cmp ms ≡ true → overlay_at ms p ≡ visible e → lookup (visible_in ms) p ≡ Some e
  visible_found ms p e sorted h = lookup_visible ms p sorted ∙ visible_of (find path_cmp p ms) _ e h

  pub found_visible : (ms : MarkedEntries C) (p : List (List ℕ)) (e : Entry C) → is_sorted path_cmp ms ≡ true → lookup (visible_in ms) p ≡ Some e → overlay_at ms p ≡ visible e
  found_visible ms p e sorted h = of_visible (find path_cmp p ms) _ e (sym (lookup_visible ms p sorted) ∙ h)

  -- in a single layer what it has is visible as it shows, where it is no whiteout
  layer_visible : (es : Entries C) (p : List (List ℕ)) (stored : Entry C) → lookup es p ≡ Some stored → not (is_hide stored) ≡ true → overlay_at (marked es) p ≡ visible (as_shown stored)
  layer_visible es p stored h bare =
      ap (λ o. overlay_of o (some_prefix (λ q. cuts_at (find path_cmp q (marked es))) p)) (find_marked es p ∙ ap (option_map with_mark) h)
      ∙ ap (λ b. cond b hidden (visible (as_shown stored))) (not-true _ bare)

  -- what is visible of what stands in a layer
  seen_stored : (o : Option (Entry C)) (e : Entry C) → seen_of (option_map with_mark o) ≡ Some e → (stored : Entry C) × (o ≡ Some stored) × (not (is_hide stored) ≡ true) × (e ≡ as_shown stored)
  seen_stored None e h = absurd (cc)
  seen_stored (Some stored) e h =
      elim (is_hide stored) as (λ b. is_hide stored ≡ b → option_map shown (cond (not b) (Some (with_mark stored)) None) ≡ Some e → (s : Entry C) × (Some stored ≡ Some s) × (not (is_hide s) ≡ true) × (e ≡ as_shown s)) [
        | true ↦ λ t is. absurd (cc)
        | false ↦ λ t is. (stored, refl, ap not t, cc)
      ] refl h

  visible_layer : (es : Entries C) (p : List (List ℕ)) (e : Entry C) → overlay_at (marked es) p ≡ visible e → (stored : Entry C) × (lookup es p ≡ Some stored) × (not (is_hide stored) ≡ true) × (e ≡ as_shown stored)
  visible_layer es p e h = seen_stored (lookup es p) e (ap seen_of (sym (find_marked es p)) ∙ visible_of (find path_cmp p (marked es)) _ e h)

  not_marked : (o : Option (Entry C)) → option_map with_mark o ≡ None → o ≡ None
  not_marked None h = refl
  not_marked (Some e) h = absurd (cc)

  -- a path is absent in a single layer exactly where the layer does not cut it off
  pub open_absent : (es : Entries C) (p : List (List ℕ)) → ¬ CutsOff es p → overlay_at (marked es) p ≡ absent
  open_absent es p open_ =
      let none : find path_cmp p (marked es) ≡ None = find_marked es p ∙ ap (option_map with_mark) (open_path es p open_) in
      let bare : some_prefix (λ q. cuts_at (find path_cmp q (marked es))) p ≡ false = some_prefix-none (λ q. cuts_at (find path_cmp q (marked es))) p (λ q f. prefix_cases q p f
      (λ same. ap (λ z. cuts_at (find path_cmp z (marked es))) same ∙ ap cuts_at none)
      (λ proper. cuts_marked es q ∙ open_above es p q open_ proper)) in
      λ i. overlay_of (none i) (bare i)

  absent_open : (es : Entries C) (p : List (List ℕ)) → overlay_at (marked es) p ≡ absent → ¬ CutsOff es p
  absent_open es p h cuts =
      let x = absent_of (find path_cmp p (marked es)) _ h in
      let none : lookup es p ≡ None = not_marked (lookup es p) (sym (find_marked es p) ∙ x.0) in
      elim cuts [
        | inl some ↦ false≢true (sym (ap is_some none) ∙ some)
        | inr above ↦ false≢true (sym x.1 ∙ some_prefix-at (λ r. cuts_at (find path_cmp r (marked es))) above.0 p (and_parts (is_prefix above.0 p) (not (is_prefix p above.0)) above.1).0 (cuts_marked es above.0 ∙ above.2))
      ]

  -- what layers say is what is visible
  open_layers : (above : List (Entries C)) (layer : Entries C) (below : List (Entries C)) (p : List (List ℕ)) (stored : Entry C) → lookup layer p ≡ Some stored → not (is_hide stored) ≡ true → AllByRecursion (λ es. ¬ CutsOff es p) above → layers_overlay (above ++ layer ∷ below) p ≡ visible (as_shown stored)
  open_layers [] layer below p stored stands bare open_ = ap (λ v. first_of_two v (layers_overlay below p)) (layer_visible layer p stored stands bare)
  open_layers (a ∷ above) layer below p stored stands bare open_ = ap (λ v. first_of_two v (layers_overlay (above ++ layer ∷ below) p)) (open_absent a p open_.0) ∙ open_layers above layer below p stored stands bare open_.1

  pub overlay_from_visible : (layers : List (Entries C)) (p : List (List ℕ)) (e : Entry C) → IsVisible layers p e → layers_overlay layers p ≡ visible e
  overlay_from_visible layers p e v = ap (λ l. layers_overlay l p) v.split ∙ open_layers v.above v.layer v.below p v.stored v.stands v.no_hide v.open_ ∙ ap visible (sym v.shown)

  one_higher : (a : Entries C) (layers : List (Entries C)) (p : List (List ℕ)) (e : Entry C) → ¬ CutsOff a p → IsVisible layers p e → IsVisible (a ∷ layers) p e
  one_higher a layers p e open_ v = record { above = a ∷ v.above; layer = v.layer; below = v.below; split = ap (λ l. a ∷ l) v.split; stored = v.stored; stands = v.stands; no_hide = v.no_hide; shown = v.shown; open_ = (open_, v.open_) }

  pub visible_from_overlay : (layers : List (Entries C)) (p : List (List ℕ)) (e : Entry C) → layers_overlay layers p ≡ visible e → IsVisible layers p e
  visible_from_overlay [] p e h = absurd (cc)
  visible_from_overlay (a ∷ layers) p e h =
      let rest = visible_from_overlay layers p e in
      elim (overlay_at (marked a) p) as (λ v. overlay_at (marked a) p ≡ v → first_of_two v (layers_overlay layers p) ≡ visible e → IsVisible (a ∷ layers) p e) [
        | visible d ↦ λ is says.
            let x = visible_layer a p e (is ∙ says) in
            record { above = []; layer = a; below = layers; split = refl; stored = x.0; stands = x.1; no_hide = x.2; shown = x.3; open_ = tt }
        | hidden ↦ λ is says. absurd (cc)
        | absent ↦ λ is says. one_higher a layers p e (absent_open a p is) (rest says)
      ] refl h

  -- a list of layers in two parts
  layers_overlay-append : (xs ys : List (Entries C)) (p : List (List ℕ)) → layers_overlay (xs ++ ys) p ≡ first_of_two (layers_overlay xs p) (layers_overlay ys p)
  layers_overlay-append [] ys p = refl
  layers_overlay-append (x ∷ xs) ys p =
      ap (first_of_two (overlay_at (marked x) p)) (layers_overlay-append xs ys p) ∙ sym (first_assoc (overlay_at (marked x) p) (layers_overlay xs p) (layers_overlay ys p))

  -- under an equal layer one says nothing of its own
  under_absent : (between : List (Entries C)) (layer : Entries C) (lowers : List (Entries C)) (p : List (List ℕ)) → overlay_at (marked layer) p ≡ absent → layers_overlay (between ++ layer ∷ lowers) p ≡ layers_overlay (between ++ lowers) p
  under_absent [] layer lowers p none = ap (λ v. first_of_two v (layers_overlay lowers p)) none
  under_absent (b ∷ between) layer lowers p none = ap (first_of_two (overlay_at (marked b) p)) (under_absent between layer lowers p none)

  under_equal : (layer : Entries C) (between lowers : List (Entries C)) (p : List (List ℕ)) → layers_overlay (layer ∷ between ++ layer ∷ lowers) p ≡ layers_overlay (layer ∷ between ++ lowers) p
  under_equal layer between lowers p =
      elim (overlay_at (marked layer) p) as (λ v. overlay_at (marked layer) p ≡ v → first_of_two v (layers_overlay (between ++ layer ∷ lowers) p) ≡ first_of_two v (layers_overlay (between ++ lowers) p)) [
        | visible e ↦ λ _. refl
        | hidden ↦ λ _. refl
        | absent ↦ λ none. under_absent between layer lowers p none
      ] refl

  pub lower_equal : (uppers between lowers : List (Entries C)) (layer : Entries C) → SayTheSame (uppers ++ layer ∷ between ++ layer ∷ lowers) (uppers ++ layer ∷ between ++ lowers)
  lower_equal [] between lowers layer p = under_equal layer between lowers p
  lower_equal (u ∷ uppers) between lowers layer p = ap (first_of_two (overlay_at (marked u) p)) (lower_equal uppers between lowers layer p)

  -- a layer of which an equal one stands above
  pub lower_among : (uppers lowers : List (Entries C)) (layer : Entries C) → Contains uppers layer → SayTheSame (uppers ++ layer ∷ lowers) (uppers ++ lowers)
  lower_among uppers lowers layer among =
      let above = take among.0 uppers in
      let between = drop (suc among.0) uppers in
      subst (λ us. SayTheSame (us ++ layer ∷ lowers) (us ++ lowers)) (sym (split_here uppers among.0 layer among.1 among.2))
      (lower_equal above between lowers layer)

  -- what says the same over other layers
  pub same_over : (xs ys lowers : List (Entries C)) → SayTheSame xs ys → SayTheSame (xs ++ lowers) (ys ++ lowers)
  same_over xs ys lowers same p =
      layers_overlay-append xs lowers p ∙ ap (λ v. first_of_two v (layers_overlay lowers p)) (same p) ∙ sym (layers_overlay-append ys lowers p)

  -- layers that say the same have one layered tree
  pub layered_same : (xs ys : List (Entries C)) (es : Entries C) → SayTheSame xs ys → IsLayered xs es → IsLayered ys es
  layered_same xs ys es same layered = record {
    tree = layered.tree;
    visible = λ p e there. visible_from_overlay ys p e (sym (same p) ∙ overlay_from_visible xs p e (layered.visible p e there));
    whole = λ p e seen. layered.whole p e (visible_from_overlay xs p e (same p ∙ overlay_from_visible ys p e seen));
  }

  -- the marked list of no layer, of one, and of two lists of layers
  joins_none : Joins {C = C} [] []
  joins_none = record { trees = tt; sorted = refl; says = none_overlay }

  last_of_two : (v : Overlay C) → v ≡ first_of_two v absent
  last_of_two (visible e) = refl
  last_of_two hidden = refl
  last_of_two absent = refl

  joins_one : (es : Entries C) → IsTree es → Joins (es ∷ []) (marked es)
  joins_one es tree = record {
    trees = (tree, tt);
    sorted = is_sorted-map with_mark es ∙ tree.sorted;
    says = λ p. last_of_two (overlay_at (marked es) p);
  }

  joins_both : (xs ys : List (Entries C)) (us ls : MarkedEntries C) → Joins xs us → Joins ys ls → Joins (xs ++ ys) (over us ls)
  joins_both xs ys us ls upper lower = record {
    trees = all_append IsTree xs ys upper.trees lower.trees;
    sorted = true_from_T _ (sorted_over us ls (T_from_true _ lower.sorted));
    says = λ p. over_overlay us ls p (T_from_true _ upper.sorted) ∙ (λ i. first_of_two (upper.says p i) (lower.says p i)) ∙ sym (layers_overlay-append xs ys p);
  }

  -- these, over what the calls of the code give
  pub joins_one_at : {es pairs : Entries C} {ms : MarkedEntries C} → IsTreeWithin es → pairs ≡ es → ms ≡ marked pairs → Joins (es ∷ []) ms
  joins_one_at {es = es} within same is = subst (Joins (es ∷ [])) (sym (is ∙ ap marked same)) (joins_one es within.tree)

  pub joins_none_at : {layers : List (Entries C)} {items : List (Item C)} → length layers < 1 → items ≡ [] → Joins layers (all_seen items)
  joins_none_at {layers = []} lt is = subst (λ l. Joins [] (all_seen l)) (sym is) joins_none
  joins_none_at {layers = a ∷ layers} lt is = absurd (omega arith)

  pub joins_both_at : {xs ys : List (Entries C)} {us ls us-slice ls-slice : List (Item C)} {ms : MarkedEntries C} → Joins xs (all_seen us) → Joins ys (all_seen ls) → us-slice ≡ us → ls-slice ≡ ls → ms ≡ over (all_seen us-slice) (all_seen ls-slice) → Joins (xs ++ ys) ms
  joins_both_at {xs = xs} {ys = ys} {us = us} {ls = ls} upper lower us-is ls-is is =
      subst (Joins (xs ++ ys)) (sym (is ∙ (λ i. over (all_seen (us-is i)) (all_seen (ls-is i))))) (joins_both xs ys (all_seen us) (all_seen ls) upper lower)

  pub joins_host_at : {xs : List (Entries C)} {es pairs : Entries C} {us us-slice : List (Item C)} → Joins xs (all_seen us) → IsTreeWithin es → us-slice ≡ us → pairs ≡ es → Joins (xs ++ es ∷ []) (over (all_seen us-slice) (marked pairs))
  joins_host_at {xs = xs} {es = es} {us = us} upper within us-is same =
      subst (Joins (xs ++ es ∷ [])) (sym (λ i. over (all_seen (us-is i)) (marked (same i)))) (joins_both xs (es ∷ []) (all_seen us) (marked es) upper (joins_one es within.tree))

  pub joins_parts : (n : ℕ) (layers : List (Entries C)) {xs ys : List (Entries C)} {ms : MarkedEntries C} → xs ≡ take n layers → ys ≡ drop n layers → Joins (xs ++ ys) ms → Joins layers ms
  joins_parts n layers {ms = ms} prefix back joins = subst (λ l. Joins l ms) ((λ i. prefix i ++ back i) ∙ take-append-drop n layers) joins
