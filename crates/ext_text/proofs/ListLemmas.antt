-- What holds of each element of a list, and of the lists that it is joined from or mapped to.
use Rattle.std.proofs.Common.{◌≡◌, ℕ, zero, suc, List, [], ◌∷◌, ◌++◌, Some, None, ap, drop, refl}
use Rattle.std.specs.Prelude.{slice_get}
use Rattle.std.specs.List.{AllByRecursion}

-- a fact of two lists is one of both together
pub all_append : {X : Type 0} (P : X → Type 0) (xs ys : List X) → AllByRecursion P xs → AllByRecursion P ys → AllByRecursion P (xs ++ ys)
all_append P [] ys prefix back = back
all_append P (x ∷ xs) ys prefix back = (prefix.0, all_append P xs ys prefix.1 back)

-- a fact of a list is one of its first items
pub all_prefix : {X : Type 0} (P : X → Type 0) (xs ys : List X) → AllByRecursion P (xs ++ ys) → AllByRecursion P xs
all_prefix P [] ys all = tt
all_prefix P (x ∷ xs) ys all = (all.0, all_prefix P xs ys all.1)

-- and of the rest
pub all_back : {X : Type 0} (P : X → Type 0) (xs ys : List X) → AllByRecursion P (xs ++ ys) → AllByRecursion P ys
all_back P [] ys all = all
all_back P (x ∷ xs) ys all = all_back P xs ys all.1

-- two facts of a list are one
pub all_both : {X : Type 0} (P Q : X → Type 0) (xs : List X) → AllByRecursion P xs → AllByRecursion Q xs → AllByRecursion (λ x. P x × Q x) xs
all_both P Q [] p q = tt
all_both P Q (x ∷ xs) p q = ((p.0, q.0), all_both P Q xs p.1 q.1)

-- a fact of a list as a weaker one
pub all_weaker : {X : Type 0} (P Q : X → Type 0) → ((x : X) → P x → Q x) → (xs : List X) → AllByRecursion P xs → AllByRecursion Q xs
all_weaker P Q gives [] p = tt
all_weaker P Q gives (x ∷ xs) p = (gives x p.0, all_weaker P Q gives xs p.1)

-- the element at an index is the first one of what follows
pub get_drop : {X : Type 0} (k : ℕ) (xs : List X) (x : X) (rest : List X) → drop k xs ≡ x ∷ rest → slice_get xs k ≡ Some x
get_drop zero [] x rest is = cc is
get_drop {X = X} zero (y ∷ xs) x rest is = ap (λ (l : List X). slice_get l 0) is
get_drop (suc k) [] x rest is = cc is
get_drop (suc k) (y ∷ xs) x rest is = get_drop k xs x rest is

-- and there is none where nothing follows
pub get_none : {X : Type 0} (k : ℕ) (xs : List X) → drop k xs ≡ [] → slice_get xs k ≡ None
get_none zero [] is = refl
get_none zero (y ∷ xs) is = cc is
get_none (suc k) [] is = refl
get_none (suc k) (y ∷ xs) is = get_none k xs is
