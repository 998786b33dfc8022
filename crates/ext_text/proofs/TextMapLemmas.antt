-- A look-up in the map of texts is a look-up in the `BTreeMap` that holds it.
use Rattle.std.proofs.Common.{◌≡◌, ℕ, List, [], ◌∷◌, cond, Bool, true, false, refl, sym, ap, ◌∙◌}
use Rattle.std.specs.Prelude.{None, Option, Some, String}
use Rattle.std.specs.BTreeMap.{BTreeMap, UpdatesBy, is_at}
use Rattle.std.specs.Cmp.Lexicographic.{slice_cmp}
use Rattle.std.specs.FinMap.{find, get, get-empty, get-from_entries}
use Rattle.std.specs.Map.{lookup}
use Rattle.std.specs.Option.{option_map}
use Rattle.std.specs.Ordering.{nat_cmp}
use Rattle.std.specs.Str.{bytes_eq}
use Rattle.std.specs.String.{string_bytes, string_cmp}
use Rattle.std.proofs.lemmas.Map.Text.{btree_map_updates_text}
use Rattle.ext_lines.specs.ByteOrder.{bytes_cmp, bytes_total}
use Rattle.ext_text.specs.TextMap.{text_entries, text_map}

mapped : {A B : Type 0} (f : A → B) (b : Bool) (x : A) (o : Option A) → option_map f (cond b (Some x) o) ≡ cond b (Some (f x)) (option_map f o)
mapped f true x o = refl
mapped f false x o = refl

mapped_choice : {A B : Type 0} (f : A → B) (b : Bool) (x y : Option A) → option_map f (cond b x y) ≡ cond b (option_map f x) (option_map f y)
mapped_choice f true x y = refl
mapped_choice f false x y = refl

find-text_entries : {Z V W : Type 0} (f : V → W) (key : List ℕ) (es : List (String Z × V)) → option_map f (lookup (is_at (λ k. slice_cmp nat_cmp key (string_bytes k))) es) ≡ find bytes_cmp key (text_entries f es)
find-text_entries f key [] = refl
find-text_entries f key (e ∷ es) = mapped f (is_at (λ k. slice_cmp nat_cmp key (string_bytes k)) e.0) e.1 _ ∙ ap (cond _ (Some (f e.1))) (find-text_entries f key es)

-- what a key has is what the `BTreeMap` has at the text of these bytes
pub get-text_map : {Z V W : Type 0} (f : V → W) (key : List ℕ) (es : List (String Z × V)) → get (text_map f es) key ≡ option_map f (lookup (is_at (λ k. slice_cmp nat_cmp key (string_bytes k))) es)
get-text_map f key es = get-from_entries bytes_total (text_entries f es) key ∙ sym (find-text_entries f key es)

-- a change at one key of the `BTreeMap` is a change at one key of the map
pub updated-text_map : {Z V W : Type 0} (f : V → W) (key : List ℕ) (m n : BTreeMap (String Z) V) (w : Option V) → UpdatesBy string_cmp (λ k. slice_cmp nat_cmp key (string_bytes k)) m n w → (q : List ℕ) → get (text_map f n.entries) q ≡ cond (bytes_eq key q) (option_map f w) (get (text_map f m.entries) q)
updated-text_map f key m n w change q =
    get-text_map f q n.entries ∙ ap (option_map f) (btree_map_updates_text key m n w change q)
    ∙ mapped_choice f (bytes_eq key q) w (lookup (is_at (λ k. slice_cmp nat_cmp q (string_bytes k))) m.entries)
    ∙ ap (cond (bytes_eq key q) (option_map f w)) (sym (get-text_map f q m.entries))

-- without entries no key has anything
pub get-no_texts : {Z V W : Type 0} (f : V → W) (es : List (String Z × V)) → es ≡ [] → (q : List ℕ) → get (text_map f es) q ≡ None
get-no_texts {Z} {V} f es none q = ap (λ (xs : List (String Z × V)). get (text_map f xs) q) none ∙ get-empty bytes_cmp q
