-- What is visible of layers at some names depends on what the layers have there alone.
use Rattle.std.proofs.Common.{◌≡◌, ℕ, true, false, not, List, [], ◌∷◌, ◌++◌, map, None, is_some, refl, sym, ap, ◌∙◌, subst}
use Rattle.std.specs.Prelude.{reverse}
use mathlib.Core.Logic.{inl, inr}
use Rattle.std.proofs.lemmas.Bool.{and_parts, false≢true}
use Rattle.std.proofs.lemmas.List.{map-append, reverse-append}
use Rattle.std.specs.List.{AllByRecursion}
use Rattle.ext_text.specs.Path.{is_prefix, is_proper_prefix}
use Rattle.ext_text.proofs.ForCallers.{all_append, all_weaker}
use Rattle.ext_tree.specs.Tree.{Entries, IsTree, lookup}
use Rattle.ext_tree.specs.declared.entry.Entry.{Entry}
use Rattle.ext_layer.specs.Layered.{CutsOff, IsVisible, cuts_below}
use Rattle.ext_host.specs.Host.{is_in}
use Rattle.ext_portext.specs.UnitTree.{inside_tree}
use Rattle.ext_portext.proofs.InsideLemmas.{found_inside, in_prefix, in_root, none_inside}

-- where a mapped list is split, the list is
record IsSplit {X Y : Type 0} (f : X → Y) (xs : List X) (above : List Y) (y : Y) : Type 0 where
  uppers : List X
  layer : X
  lowers : List X
  whole : xs ≡ uppers ++ layer ∷ lowers
  above_is : map f uppers ≡ above
  layer_is : f layer ≡ y

split_map : {X Y : Type 0} (f : X → Y) (xs : List X) (above : List Y) (y : Y) (below : List Y) → map f xs ≡ above ++ y ∷ below → IsSplit f xs above y
split_map f [] [] y below is = cc
split_map f [] (a ∷ above) y below is = cc
split_map f (x ∷ xs) [] y below is = record { uppers = []; layer = x; lowers = xs; whole = refl; above_is = refl; layer_is = (cc) }
split_map f (x ∷ xs) (a ∷ above) y below is =
    let first : f x ≡ a = cc in
    let rest : map f xs ≡ above ++ y ∷ below = cc in
    let s = split_map f xs above y below rest in
    record { uppers = x ∷ s.uppers; layer = s.layer; lowers = s.lowers; whole = ap (λ l. x ∷ l) {y = s.uppers ++ s.layer ∷ s.lowers} s.whole; above_is = (λ i. first i ∷ s.above_is i); layer_is = s.layer_is }

-- what holds of each of a mapped list
all_unmapped : {X Y : Type 0} (f : X → Y) (P : Y → Type 0) (xs : List X) → AllByRecursion P (map f xs) → AllByRecursion (λ x. P (f x)) xs
all_unmapped f P [] all = tt
all_unmapped f P (x ∷ xs) all = (all.0, all_unmapped f P xs all.1)

pub all_mapped : {X Y : Type 0} (f : X → Y) (P : Y → Type 0) (xs : List X) → AllByRecursion (λ x. P (f x)) xs → AllByRecursion P (map f xs)
all_mapped f P [] all = tt
all_mapped f P (x ∷ xs) all = (all.0, all_mapped f P xs all.1)

pub all_split : {X : Type 0} (P : X → Type 0) (xs ys : List X) → AllByRecursion P (xs ++ ys) → AllByRecursion P xs × AllByRecursion P ys
all_split P [] ys all = (tt, all)
all_split P (x ∷ xs) ys all = let rest = all_split P xs ys all.1 in ((all.0, rest.0), rest.1)

all_two : {X : Type 0} (P Q S : X → Type 0) → ((x : X) → P x → Q x → S x) → (xs : List X) → AllByRecursion P xs → AllByRecursion Q xs → AllByRecursion S xs
all_two P Q S both [] p q = tt
all_two P Q S both (x ∷ xs) p q = (both x p.0 q.0, all_two P Q S both xs p.1 q.1)

-- a proper prefix is a prefix
prefix_of : (q p : List (List ℕ)) → is_proper_prefix q p ≡ true → is_prefix q p ≡ true
prefix_of q p proper = (and_parts (is_prefix q p) (not (is_prefix p q)) proper).0

module _ {C : Type 0} (names : List (List ℕ)) (p : List (List ℕ)) (in_ : is_in names p ≡ true) where
  -- what stands at the prefixes of the path, but for the root, stands inside the names too
  cut_inside : (es : Entries C) → lookup es [] ≡ None → CutsOff es p → CutsOff (inside_tree names es) p
  cut_inside es root (inl there) = inl (ap is_some (found_inside names p es in_) ∙ there)
  cut_inside es root (inr ([], proper, cuts)) = absurd (false≢true (sym (ap cuts_below root) ∙ cuts))
  cut_inside es root (inr (m ∷ q, proper, cuts)) =
      inr (m ∷ q, proper, ap cuts_below (found_inside names (m ∷ q) es (in_prefix names m q p (prefix_of (m ∷ q) p proper) ∙ in_)) ∙ cuts)

  cut_whole : (es : Entries C) → CutsOff (inside_tree names es) p → CutsOff es p
  cut_whole es (inl there) = inl (sym (ap is_some (found_inside names p es in_)) ∙ there)
  cut_whole es (inr ([], proper, cuts)) = absurd (false≢true (sym (ap cuts_below (none_inside names [] es (in_root names))) ∙ cuts))
  cut_whole es (inr (m ∷ q, proper, cuts)) =
      inr (m ∷ q, proper, sym (ap cuts_below (found_inside names (m ∷ q) es (in_prefix names m q p (prefix_of (m ∷ q) p proper) ∙ in_))) ∙ cuts)

  pub visible_whole : (layers : List (Entries C)) (e : Entry C) → AllByRecursion IsTree layers → IsVisible (map (inside_tree names) layers) p e → IsVisible layers p e
  visible_whole layers e trees v =
      let s = split_map (inside_tree names) layers v.above v.layer v.below v.split in
      let trees_above = (all_split IsTree s.uppers (s.layer ∷ s.lowers) (subst (AllByRecursion IsTree) s.whole trees)).0 in
      record {
        above = s.uppers;
        layer = s.layer;
        below = s.lowers;
        split = s.whole;
        stored = v.stored;
        stands = sym (found_inside names p s.layer in_) ∙ ap (λ es. lookup es p) s.layer_is ∙ v.stands;
        no_hide = v.no_hide;
        shown = v.shown;
        open_ = all_two IsTree (λ es. CutsOff (inside_tree names es) p → ⊥) (λ es. CutsOff es p → ⊥) (λ es tree open_ cuts. open_ (cut_inside es tree.root cuts)) s.uppers trees_above
            (all_unmapped (inside_tree names) (λ es. CutsOff es p → ⊥) s.uppers (subst (AllByRecursion (λ es. CutsOff es p → ⊥)) (sym s.above_is) v.open_));
      }

  pub visible_inside : (layers : List (Entries C)) (e : Entry C) → IsVisible layers p e → IsVisible (map (inside_tree names) layers) p e
  visible_inside layers e v = record {
    above = map (inside_tree names) v.above;
    layer = inside_tree names v.layer;
    below = map (inside_tree names) v.below;
    split = ap (map (inside_tree names)) v.split ∙ map-append (inside_tree names) v.above (v.layer ∷ v.below);
    stored = v.stored;
    stands = found_inside names p v.layer in_ ∙ v.stands;
    no_hide = v.no_hide;
    shown = v.shown;
    open_ = all_mapped (inside_tree names) (λ es. CutsOff es p → ⊥) v.above (all_weaker (λ es. CutsOff es p → ⊥) (λ es. CutsOff (inside_tree names es) p → ⊥) (λ es open_ cuts. open_ (cut_whole es cuts)) v.above v.open_);
  }

-- nothing is visible elsewhere
pub visible_nowhere : {C : Type 0} (names : List (List ℕ)) (p : List (List ℕ)) → is_in names p ≡ false → (layers : List (Entries C)) (e : Entry C) → IsVisible (map (inside_tree names) layers) p e → ⊥
visible_nowhere names p out layers e v =
    let s = split_map (inside_tree names) layers v.above v.layer v.below v.split in
    false≢true (sym (ap is_some (none_inside names p s.layer out)) ∙ ap (λ es. is_some (lookup es p)) s.layer_is ∙ ap is_some v.stands)

reverse_cons : {X : Type 0} (x : X) (xs : List X) → reverse (x ∷ xs) ≡ reverse xs ++ x ∷ []
reverse_cons x xs = reverse-append (x ∷ []) xs

pub all_reverse : {X : Type 0} (P : X → Type 0) (xs : List X) → AllByRecursion P xs → AllByRecursion P (reverse xs)
all_reverse P [] all = tt
all_reverse P (x ∷ xs) all = subst (AllByRecursion P) (sym (reverse_cons x xs)) (all_append P (reverse xs) (x ∷ []) (all_reverse P xs all.1) (all.0, tt))

pub map_reverse : {X Y : Type 0} (f : X → Y) (xs : List X) → map f (reverse xs) ≡ reverse (map f xs)
map_reverse f [] = refl
map_reverse f (x ∷ xs) =
    ap (map f) (reverse_cons x xs) ∙ map-append f (reverse xs) (x ∷ []) ∙ ap (λ ys. ys ++ f x ∷ []) (map_reverse f xs) ∙ sym (reverse_cons (f x) (map f xs))
