-- Paths and their prefixes, and what is tested at each prefix of a path.
use Rattle.std.proofs.Common.{◌≡◌, ℕ, Bool, true, false, cond, ◌&&◌, ◌||◌, List, [], ◌∷◌, Option, None, refl, sym, ap, ◌∙◌, subst}
use Rattle.std.proofs.lemmas.Bool.{false≢true, true≢false, and_parts, and_from}
use Rattle.std.specs.Option.{is_some}
use Rattle.std.specs.Ordering.{eq_by_cmp}
use Rattle.ext_text.specs.Path.{path_cmp, is_prefix}
use Rattle.ext_text.proofs.ForCallers.{tied_name, same_path, tied_path, prefix_self}
use Rattle.ext_disk.specs.Disk.{Place, Places, at_prefixes, at_proper_prefixes}
use Rattle.ext_disk.specs.Calls.{put, child_name, is_child}

pub contrapose : (a b : Bool) → (a ≡ true → b ≡ true) → b ≡ false → a ≡ false
contrapose true b gives out = absurd (false≢true (sym out ∙ gives refl))
contrapose false b gives out = refl

pub or_false : (a b : Bool) → (a || b) ≡ false → (a ≡ false) × (b ≡ false)
or_false true b out = absurd (true≢false out)
or_false false b out = (refl, out)

pub or_left : (a b : Bool) → a ≡ true → (a || b) ≡ true
or_left a b is = ap (λ x. x || b) is

pub or_right : (a b : Bool) → b ≡ true → (a || b) ≡ true
or_right true b is = refl
or_right false b is = is

pub apart : (p q : List (List ℕ)) → is_prefix p q ≡ false → eq_by_cmp path_cmp p q ≡ false
apart p q out = contrapose _ _ (λ tied. subst (λ r. is_prefix p r ≡ true) (same_path p q tied) (prefix_self p)) out

-- a path stays where another one is put that is out prefix of it
pub put_apart : (p : List (List ℕ)) (place : Place) (d : Places) (q : List (List ℕ)) → is_prefix p q ≡ false → put p place d q ≡ d q
put_apart p place d q out = ap (λ b. cond b place (d q)) (apart p q out)

pub put_here : (p : List (List ℕ)) (place : Place) (d : Places) → put p place d p ≡ place
put_here p place d = ap (λ b. cond b place (d p)) (tied_path p p refl)

child_step : (tied : Bool) (name : Option (List ℕ)) (prefix : Bool) → (is_some name ≡ true → prefix ≡ true) → is_some (cond tied name None) ≡ true → (tied && prefix) ≡ true
child_step true name prefix gives is = gives is
child_step false name prefix gives is = is

-- a folder is a prefix of what stands directly in it
pub child_prefix : (p q : List (List ℕ)) → is_child p q ≡ true → is_prefix p q ≡ true
child_prefix [] q is = refl
child_prefix (k ∷ p) [] is = is
child_prefix (k ∷ p) (n ∷ q) is = child_step _ (child_name p q) _ (child_prefix p q) is

pub prefixes_weaker : (f g : List (List ℕ) → Bool) (p : List (List ℕ)) → ((q : List (List ℕ)) → is_prefix q p ≡ true → f q ≡ true → g q ≡ true) → at_prefixes f p ≡ true → at_prefixes g p ≡ true
prefixes_weaker f g [] gives all = gives [] refl all
prefixes_weaker f g (n ∷ p) gives all =
    let parts = and_parts (f []) _ all in
    and_from _ _ (gives [] refl parts.0)
    (prefixes_weaker (λ q. f (n ∷ q)) (λ q. g (n ∷ q)) p (λ q prefix. gives (n ∷ q) (and_from _ _ (tied_name n n refl) prefix)) parts.1)

-- what holds at each prefix of a path holds at each proper one, and at the path
pub proper_from_all : (f : List (List ℕ) → Bool) (p : List (List ℕ)) → at_prefixes f p ≡ true → at_proper_prefixes f p ≡ true
proper_from_all f [] all = refl
proper_from_all f (n ∷ p) all =
    let parts = and_parts (f []) _ all in
    and_from _ _ parts.0 (proper_from_all (λ q. f (n ∷ q)) p parts.1)

pub last_from_all : (f : List (List ℕ) → Bool) (p : List (List ℕ)) → at_prefixes f p ≡ true → f p ≡ true
last_from_all f [] all = all
last_from_all f (n ∷ p) all = last_from_all (λ q. f (n ∷ q)) p (and_parts (f []) _ all).1

pub all_from_proper : (f : List (List ℕ) → Bool) (p : List (List ℕ)) → at_proper_prefixes f p ≡ true → f p ≡ true → at_prefixes f p ≡ true
all_from_proper f [] proper last = last
all_from_proper f (n ∷ p) proper last =
    let parts = and_parts (f []) _ proper in
    and_from _ _ parts.0 (all_from_proper (λ q. f (n ∷ q)) p parts.1 last)
