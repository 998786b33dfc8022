-- The least of the merged hierarchies.
use Rattle.std.proofs.Common.{◌≡◌, ℕ, true, false, List, [], ◌∷◌, ◌++◌, Option, Some, None, refl, ap, ◌∙◌, subst, arith, inl, inr}
use Rattle.std.specs.Prelude.{Contains, slice_get}
use Rattle.std.specs.List.{AllByRecursion}
use Rattle.std.specs.Ordering.{is_gt, ordering_reverse}
use Rattle.std.specs.declared.cmp.Ordering.{Ordering}
use Rattle.std.specs.declared.cmp.Ordering.TheVariants.{Less, Equal, Greater}
use Rattle.std.proofs.lemmas.Bool.{false≢true}
use Rattle.std.proofs.lemmas.Cmp.{tied_itself, upto}
use Rattle.std.proofs.lemmas.List.Elements.{Contains-append_left, Contains-append_right}
use Rattle.ext_lines.specs.ByteOrder.{bytes_cmp, bytes_total}
use Rattle.ext_text.proofs.ForCallers.{all_append, all_weaker}
use Rattle.ext_host.specs.Host.{where_merged}
use Rattle.ext_host.specs.Valid.{AreAscending, IsValidHost}
use Rattle.ext_host.specs.declared.host.Host.{Host}
use Rattle.ext_host.specs.ReadOnly.{IsLeast, IsLesser, merged_in}

abbrev NotAbove : List ℕ → List ℕ → Type 0
NotAbove name other = is_gt (bytes_cmp name other) ≡ false

less_not_above : (o : Ordering) → o ≡ Less → is_gt o ≡ false
less_not_above o less = ap is_gt less

equal_not_above : (o : Ordering) → o ≡ Equal → is_gt o ≡ false
equal_not_above o equal = ap is_gt equal

-- the first of names that ascend comes after none of them
first_least : (name : List ℕ) (names : List (List ℕ)) → AreAscending bytes_cmp (name ∷ names) → AllByRecursion (NotAbove name) (name ∷ names)
first_least name names up =
    (equal_not_above (bytes_cmp name name) (tied_itself bytes_total name), all_weaker (λ other. bytes_cmp name other ≡ Less) (NotAbove name) (λ other less. less_not_above (bytes_cmp name other) less) names up.0)

-- what comes before the first comes after none
below_first : (name first : List ℕ) (names : List (List ℕ)) → NotAbove name first → AllByRecursion (NotAbove first) names → AllByRecursion (NotAbove name) names
below_first name first names below all = all_weaker (NotAbove first) (NotAbove name) (λ other not. upto bytes_total name first other below not) names all

head_among : (name : List ℕ) (names : List (List ℕ)) → Contains (name ∷ names) name
head_among name names = (0, omega arith, refl)

-- of two lists that ascend, the first of the first one is the least of both where no first of the other comes before it
first_of_both : (xs ys : List (List ℕ)) (a : List ℕ) → AreAscending bytes_cmp xs → AreAscending bytes_cmp ys → slice_get xs 0 ≡ Some a
    → ((b : List ℕ) → slice_get ys 0 ≡ Some b → NotAbove a b) → IsLeast bytes_cmp (xs ++ ys) a
first_of_both [] ys a xs_up ys_up is before = cc
first_of_both (x ∷ xs) [] a xs_up ys_up is before =
    let same : x ≡ a = cc in
    rw (← same) (record {
      among = Contains-append_left (x ∷ xs) [] x (head_among x xs);
      least = all_append (NotAbove x) (x ∷ xs) [] (first_least x xs xs_up) tt;
    })
first_of_both (x ∷ xs) (y ∷ ys) a xs_up ys_up is before =
    let same : x ≡ a = cc in
    let below : NotAbove x y = rw same (before y refl) in
    rw (← same) (record {
      among = Contains-append_left (x ∷ xs) (y ∷ ys) x (head_among x xs);
      least = all_append (NotAbove x) (x ∷ xs) (y ∷ ys) (first_least x xs xs_up) (below_first x y (y ∷ ys) below (first_least y ys ys_up));
    })

-- and so is the first of the second one
first_of_second : (xs ys : List (List ℕ)) (b : List ℕ) → AreAscending bytes_cmp xs → AreAscending bytes_cmp ys → slice_get ys 0 ≡ Some b
    → ((a : List ℕ) → slice_get xs 0 ≡ Some a → NotAbove b a) → IsLeast bytes_cmp (xs ++ ys) b
first_of_second xs [] b xs_up ys_up is before = cc
first_of_second [] (y ∷ ys) b xs_up ys_up is before =
    let same : y ≡ b = cc in
    rw (← same) (record { among = head_among y ys; least = first_least y ys ys_up })
first_of_second (x ∷ xs) (y ∷ ys) b xs_up ys_up is before =
    let same : y ≡ b = cc in
    let below : NotAbove y x = rw same (before x refl) in
    rw (← same) (record {
      among = Contains-append_right (x ∷ xs) (y ∷ ys) y (head_among y ys);
      least = all_append (NotAbove y) (x ∷ xs) (y ∷ ys) (below_first y x (x ∷ xs) below (first_least x xs xs_up)) (first_least y ys ys_up);
    })

-- the names of a class that are merged ascend
merged_ascend : (merged : Option (List (List ℕ))) (names : List (List ℕ)) → AreAscending bytes_cmp names → AreAscending bytes_cmp (where_merged merged names)
merged_ascend None names up = tt
merged_ascend (Some some) names up = up

none_first : (P : List ℕ → Type 0) (names : List (List ℕ)) → slice_get names 0 ≡ None → (name : List ℕ) → slice_get names 0 ≡ Some name → P name
none_first P names none name some = cc

one_first : (P : List ℕ → Type 0) (names : List (List ℕ)) (first : List ℕ) → slice_get names 0 ≡ Some first → P first → (name : List ℕ) → slice_get names 0 ≡ Some name → P name
one_first P names first is holds name some =
    let same : first ≡ name = cc in
    subst P same holds

-- the names of a host's merged classes, by the first of each class
pub least_of_both : (host : Host) (a b name : List ℕ) → IsValidHost host → slice_get (where_merged host.sysext host.sysext_hier) 0 ≡ Some a
    → slice_get (where_merged host.confext host.confext_hier) 0 ≡ Some b → IsLesser a b name → IsLeast bytes_cmp (merged_in host) name
least_of_both host a b name valid is_a is_b (inl lesser) =
    rw lesser.0 (first_of_both (where_merged host.sysext host.sysext_hier) (where_merged host.confext host.confext_hier) a
    (merged_ascend host.sysext host.sysext_hier valid.hierarchies.sysext.order) (merged_ascend host.confext host.confext_hier valid.hierarchies.confext.order)
    is_a (one_first (NotAbove a) (where_merged host.confext host.confext_hier) b is_b lesser.1))
least_of_both host a b name valid is_a is_b (inr lesser) =
    rw lesser.0 (first_of_second (where_merged host.sysext host.sysext_hier) (where_merged host.confext host.confext_hier) b
    (merged_ascend host.sysext host.sysext_hier valid.hierarchies.sysext.order) (merged_ascend host.confext host.confext_hier valid.hierarchies.confext.order)
    is_b (one_first (NotAbove b) (where_merged host.sysext host.sysext_hier) a is_a lesser.1))

pub least_of_first : (host : Host) (a : List ℕ) → IsValidHost host → slice_get (where_merged host.sysext host.sysext_hier) 0 ≡ Some a
    → slice_get (where_merged host.confext host.confext_hier) 0 ≡ None → IsLeast bytes_cmp (merged_in host) a
least_of_first host a valid is_a none =
    first_of_both (where_merged host.sysext host.sysext_hier) (where_merged host.confext host.confext_hier) a
    (merged_ascend host.sysext host.sysext_hier valid.hierarchies.sysext.order) (merged_ascend host.confext host.confext_hier valid.hierarchies.confext.order)
    is_a (none_first (NotAbove a) (where_merged host.confext host.confext_hier) none)

pub least_of_second : (host : Host) (b : List ℕ) → IsValidHost host → slice_get (where_merged host.sysext host.sysext_hier) 0 ≡ None
    → slice_get (where_merged host.confext host.confext_hier) 0 ≡ Some b → IsLeast bytes_cmp (merged_in host) b
least_of_second host b valid none is_b =
    first_of_second (where_merged host.sysext host.sysext_hier) (where_merged host.confext host.confext_hier) b
    (merged_ascend host.sysext host.sysext_hier valid.hierarchies.sysext.order) (merged_ascend host.confext host.confext_hier valid.hierarchies.confext.order)
    is_b (none_first (NotAbove b) (where_merged host.sysext host.sysext_hier) none)

-- what a name comes after does not come after it
pub greater_reversed : (a b : List ℕ) → is_gt (bytes_cmp a b) ≡ true → is_gt (bytes_cmp b a) ≡ false
greater_reversed a b greater = ap is_gt (bytes_total.antisymm b a) ∙ reversed (bytes_cmp a b) greater
  where
    reversed : (o : Ordering) → is_gt o ≡ true → is_gt (ordering_reverse o) ≡ false
    reversed Less is = absurd (false≢true is)
    reversed Equal is = absurd (false≢true is)
    reversed Greater is = refl
