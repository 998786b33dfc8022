-- What a source offers of a version: a name that is listed, within the limits of a path.
use Rattle.std.proofs.Common.{◌≡◌, ℕ, zero, suc, ◌+◌, ◌<◌, ◌≤◌, true, false, cond, List, [], ◌∷◌, ◌++◌, length, length-append, get_or, Option, Some, refl, sym, ap, subst, ◌∙◌, arith}
use Rattle.std.specs.List.{AllByRecursion, AllZip, slice_get}
use Rattle.std.specs.Cmp.{tied_itself}
use Rattle.std.specs.Ordering.{is_eq}
use Rattle.std.specs.Str.{bytes_eq}
use Rattle.std.proofs.lemmas.List.Elements.{All-from_recursion}
use Rattle.std.proofs.lemmas.List.Sums.{sum_by-cons}
use Rattle.std.proofs.lemmas.Map.Text.{is_eq-slice_cmp}
use Rattle.std.proofs.lemmas.Option.{get_or_from_slice_get, slice_get_read, slice_get_within}
use Rattle.ext_lines.specs.ByteOrder.{bytes_exact, bytes_total}
use Rattle.ext_text.specs.Name.{IsName}
use Rattle.ext_text.specs.Path.{path_text}
use Rattle.ext_text.proofs.ForCallers.{is_equal, length-both, length-path_text}
use Rattle.ext_vers.specs.Version.{IsVersion}
use Rattle.ext_pattern.specs.First.{IsFirstMatch}
use Rattle.ext_pattern.specs.Pattern.{PatternView}
use Rattle.ext_transfer.specs.Bounds.{KeepsBounds}
use Rattle.ext_transfer.specs.declared.transfer.Transfer.{Transfer}
use Rattle.ext_available.specs.declared.offer.Offer.{Offer}
use Rattle.ext_available.specs.Offers.{find_offer}
use Rattle.ext_available.specs.Resource.{IsReadBack, listed_name}
use Rattle.ext_resources.specs.Wanted.{AreListed, IsOffer, first_filled}

-- the path of a name in a source is within the limits
pub path_fits : (t : Transfer) (name : List ℕ) → KeepsBounds t → IsName name
    → (length (t.source.path ++ name ∷ []) ≤ 64) × (length (path_text (t.source.path ++ name ∷ [])) ≤ 4096)
path_fits t name keeps is = (
  omega (arith, length-append t.source.path (name ∷ []), keeps.source_names),
  omega
      (arith, length-both t.source.path (name ∷ []), length-path_text t.source.path, sum_by-cons (λ (n : List ℕ). length n + 1) name [], keeps.source_bytes, is.at_most_255),
)

-- texts that a test takes for equal are equal, and a text is equal to itself
pub equal_bytes : (a b : List ℕ) → bytes_eq a b ≡ true → a ≡ b
equal_bytes a b same = bytes_exact a b (is_equal _ (is_eq-slice_cmp a b ∙ same))

pub same_bytes : (a : List ℕ) → bytes_eq a a ≡ true
same_bytes a = sym (is_eq-slice_cmp a a) ∙ ap is_eq (tied_itself bytes_total a)

-- what is found for a version is of it
found_version : (offers : List Offer) (version : List ℕ) (o : Offer) → find_offer offers version ≡ Some o → o.version ≡ version
found_version [] version o found = absurd (cc found)
found_version (x ∷ xs) version o found =
    elim (bytes_eq x.version version) as (λ b. bytes_eq x.version version ≡ b → cond b (Some x) (find_offer xs version) ≡ Some o → o.version ≡ version) [
      | true ↦ λ same here. ap (λ (y : Offer). y.version) (let is : o ≡ x = cc here in is) ∙ equal_bytes x.version version same
      | false ↦ λ _ later. found_version xs version o later
    ] refl found

-- what is listed and found for a version is a version, and what is listed of it is a name
pub offer_sound : (t : Transfer) (offers : List Offer) (version : List ℕ) (o : Offer) → AreListed t offers → find_offer offers version ≡ Some o
    → IsVersion version × IsName (listed_name t.resources o.name)
offer_sound t offers version o (sums, are) found =
    let same : o.version ≡ version = found_version offers version o found in
    let has = (are.found o).0 (ap (find_offer offers) same ∙ found) in
    (subst IsVersion same has.candidate.read.source.version_is, has.candidate.listed.listed)

-- the name that is made of what is listed is read back as the version
pub read_back : (t : Transfer) (offers : List Offer) (version : List ℕ) (o : Offer) → AreListed t offers → find_offer offers version ≡ Some o
    → (caught : Option (List ℕ)) × IsFirstMatch t.target.patterns (first_filled t.target.patterns version o.digest.0) version caught
read_back t offers version o (sums, are) found =
    let same : o.version ≡ version = found_version offers version o found in
    let has = (are.found o).0 (ap (find_offer offers) same ∙ found) in
    by_first t.target.patterns (subst (λ (v : List ℕ). IsReadBack t.target.patterns v o.digest.0) same has.candidate.read.target)
  where
    by_first : (patterns : List PatternView) → IsReadBack patterns version o.digest.0
        → (caught : Option (List ℕ)) × IsFirstMatch patterns (first_filled patterns version o.digest.0) version caught
    by_first [] read = absurd read
    by_first (p ∷ ps) read = read

-- lists of which the elements belong together are equally long
pub zip_length : {A B : Type 0} (R : A → B → Type 0) (xs : List A) (ys : List B) → AllZip R xs ys → length xs ≡ length ys
zip_length R [] [] zipped = refl
zip_length R [] (y ∷ ys) zipped = absurd zipped
zip_length R (x ∷ xs) [] zipped = absurd zipped
zip_length R (x ∷ xs) (y ∷ ys) zipped = ap suc (zip_length R xs ys zipped.1)

-- what holds of each element holds of the one at an index
pub each_at : {X : Type 0} (P : X → Type 0) (xs : List X) (i : ℕ) (x : X) → AllByRecursion P xs → i < length xs → x ≡ get_or xs i x → P x
each_at P xs i x each within at = subst P (sym at) (All-from_recursion P xs each i x within)

both_there : {A B : Type 0} (R : A → B → Type 0) (xs : List A) (ys : List B) (i : ℕ) (x : A) (y : B) → AllZip R xs ys → i < length xs
    → R (get_or xs i x) (get_or ys i y)
both_there R [] ys i x y zipped within = absurd (omega (arith, within))
both_there R (a ∷ xs) [] i x y zipped within = absurd zipped
both_there R (a ∷ xs) (b ∷ ys) zero x y zipped within = zipped.0
both_there R (a ∷ xs) (b ∷ ys) (suc i) x y zipped within = both_there R xs ys i x y zipped.1 (omega (arith, within))

-- what holds of elements that belong together holds of those at an index
pub both_at : {A B : Type 0} (R : A → B → Type 0) (xs : List A) (ys : List B) (i : ℕ) (x : A) (y : B) → AllZip R xs ys → i < length xs
    → x ≡ get_or xs i x → y ≡ get_or ys i y → R x y
both_at {A} {B} R xs ys i x y zipped within at there =
    let P : A → Type 0 = λ a. R a (get_or ys i y) in
    let Q : B → Type 0 = λ b. R x b in
    subst Q (sym there) (subst P (sym at) (both_there R xs ys i x y zipped within))

-- what is found among the offers at a place is what is offered there
pub is_offer : (ts : List Transfer) (ss : List (List Offer)) (version : List ℕ) (place : ℕ) (t : Transfer) (offers : List Offer) (o : Offer) → AllZip AreListed ts ss
    → place < length ts → t ≡ get_or ts place t → offers ≡ get_or ss place offers → find_offer offers version ≡ Some o → IsOffer ts ss version place t o
is_offer ts ss version place t offers o zipped within at there found = record {
  offers = offers;
  transfer_there = slice_get_read ts (length ts) place t refl within at;
  offers_there = slice_get_read ss (length ss) place offers refl (omega (arith, within, zip_length AreListed ts ss zipped)) there;
  found = found;
}

-- and so what is found at a place is listed
pub listed_there : (ts : List Transfer) (ss : List (List Offer)) (place : ℕ) (t : Transfer) (offers : List Offer) → AllZip AreListed ts ss
    → slice_get ts place ≡ Some t → slice_get ss place ≡ Some offers → AreListed t offers
listed_there ts ss place t offers zipped at there =
    both_at AreListed ts ss place t offers zipped (slice_get_within ts place t at) (sym (get_or_from_slice_get ts place t t at))
    (sym (get_or_from_slice_get ss place offers offers there))
