-- Lists to which each item was added after the last one: they ascend, and an ascending list is made so.
use Rattle.std.proofs.Common.{◌≡◌, ℕ, suc, ◌-◌, true, false, not, ◌||◌, List, [], ◌∷◌, ◌++◌, length, Some, IsTrue, refl, sym, ap, ◌∙◌, subst, arith, append_assoc, append-nil}
use Rattle.std.specs.Prelude.{map, slice_get}
use Rattle.std.proofs.lemmas.Bool.{and_parts, and_from, not-true, true≢false, false_from_ne_true}
use Rattle.std.proofs.lemmas.List.{map-append}
use Rattle.std.specs.Cmp.{IsTotalOrder, nat_cmp_total, on_total, then_total}
use Rattle.std.specs.Cmp.Lexicographic.{lists_total, nat_list_cmp_total}
use Rattle.std.specs.List.{AllByRecursion}
use Rattle.std.specs.Ordering.{is_gt, is_lt}
use Rattle.std.specs.declared.cmp.Ordering.{Ordering}
use Rattle.std.specs.declared.cmp.Ordering.TheVariants.{Less}
use Rattle.ext_lines.specs.ByteOrder.{bytes_total}
use Rattle.ext_text.specs.Order.{paths_total}
use Rattle.ext_text.specs.Path.{are_related, is_prefix, path_cmp}
use Rattle.ext_text.proofs.ForCallers.{all_append, convex, is_less, prefix_order}
use Rattle.ext_vers.specs.Version.{letters, order_of, token_cmp, token_rank, tokens, value}
use Rattle.ext_host.specs.Valid.{AreApart, AreAscending}
use Rattle.ext_host.specs.declared.manifest.Manifest.{Manifest}
use Rattle.ext_host.proofs.ForCallers.{ascending_next}
use Rattle.ext_index_reader.specs.Following.{follows_last, comes_apart, last_of, may_follow, may_follow_apart}
use Rattle.ext_index_reader.proofs.SectionLemmas.{AllMay, after}

-- the order of versions is total
token_total : IsTotalOrder token_cmp
token_total = then_total (on_total token_rank nat_cmp_total) (then_total (on_total value nat_cmp_total) (on_total letters nat_list_cmp_total))

pub order_total : IsTotalOrder order_of
order_total = then_total (on_total tokens (lists_total token_total)) bytes_total

abbrev pub snoc : {X : Type 0} → List X → X → List X
snoc xs x = xs ++ x ∷ []

pub after_snoc : {X : Type 0} (xs items : List X) → after snoc xs items ≡ xs ++ items
after_snoc xs [] = sym (append-nil xs)
after_snoc xs (x ∷ items) = after_snoc (xs ++ x ∷ []) items ∙ append_assoc xs (x ∷ []) items

-- the last item of a list, if it has some
pub record EndsIn {X : Type 0} (xs : List X) : Type 0 where
  pub first_ones : List X
  pub last : X
  pub parted : xs ≡ first_ones ++ last ∷ []
  pub found : last_of xs ≡ Some last

last-cons : {X : Type 0} (x y : X) (xs : List X) → last_of (x ∷ y ∷ xs) ≡ last_of (y ∷ xs)
last-cons x y xs =
    let long : length (x ∷ y ∷ xs) - 1 ≡ suc (length xs) = omega arith in
    let short : length (y ∷ xs) - 1 ≡ length xs = omega arith in
    ap (slice_get (x ∷ y ∷ xs)) long ∙ sym (ap (slice_get (y ∷ xs)) short)

pub ends_in : {X : Type 0} (x : X) (xs : List X) → EndsIn (x ∷ xs)
ends_in x [] = record { first_ones = []; last = x; parted = refl; found = refl }
ends_in x (y ∷ xs) =
    let rest = ends_in y xs in
    record { first_ones = x ∷ rest.first_ones; last = rest.last; parted = (λ i. x ∷ rest.parted i); found = last-cons x y xs ∙ rest.found }

module _ {X K : Type 0} (R : K → K → Ordering) (key : X → K) where
  -- what follows in an order
  module _ (trans : (x y z : K) → R x y ≡ Less → R y z ≡ Less → R x z ≡ Less) where
    pub ascending_more : (xs : List X) (x : X) → AreAscending R (map key xs) → IsTrue (may_follow R key xs (key x)) → AreAscending R (map key (xs ++ x ∷ []))
    ascending_more [] x up follows = (tt, tt)
    ascending_more (y ∷ ys) x up follows =
        let end = ends_in y ys in
        let less = is_less _ (subst (λ o. IsTrue (follows_last R key o (key x))) end.found follows) in
        let keys_parted : map key (y ∷ ys) ≡ map key end.first_ones ++ key end.last ∷ [] = ap (map key) end.parted ∙ map-append key end.first_ones (end.last ∷ []) in
        let longer = ascending_next R trans (map key end.first_ones) (key end.last) (key x) (subst (AreAscending R) keys_parted up) less in
        subst (AreAscending R) ((λ i. sym keys_parted i ++ key x ∷ []) ∙ sym (map-append key (y ∷ ys) (x ∷ []))) longer

  -- and what stands in one follows
  pub ascending_follows : (xs : List X) (x : X) (more : List X) → AreAscending R (map key (xs ++ x ∷ more)) → IsTrue (may_follow R key xs (key x))
  ascending_follows [] x more up = refl
  ascending_follows (y ∷ ys) x more up =
      let end = ends_in y ys in
      let shape : map key ((y ∷ ys) ++ x ∷ more) ≡ map key end.first_ones ++ key end.last ∷ key x ∷ map key more =
      ap (λ (zs : List X). map key (zs ++ x ∷ more)) end.parted ∙ ap (map key) (append_assoc end.first_ones (end.last ∷ []) (x ∷ more)) ∙ map-append key end.first_ones (end.last ∷ x ∷ more) in
      let less = next_less (map key end.first_ones) (key end.last) (key x) (map key more) (subst (AreAscending R) shape up) in
      subst (λ o. IsTrue (follows_last R key o (key x))) (sym end.found) (ap is_lt less)
    where
      next_less : (ks : List K) (a b : K) (more : List K) → AreAscending R (ks ++ a ∷ b ∷ more) → R a b ≡ Less
      next_less [] a b more up = up.0.0
      next_less (k ∷ ks) a b more up = next_less ks a b more up.1

module _ {X K : Type 0} (R : K → K → Ordering) (key : X → K) (Valid : X → Type 0) where
  -- an item that may follow
  abbrev pub MayJoin : List X → X → Type 0
  MayJoin xs x = Valid x × IsTrue (may_follow R key xs (key x))

  pub joined : (trans : (x y z : K) → R x y ≡ Less → R y z ≡ Less → R x z ≡ Less) (xs items : List X) → AreAscending R (map key xs) → AllMay snoc MayJoin xs items → AreAscending R (map key (xs ++ items)) × AllByRecursion Valid items
  joined trans xs [] up may = (subst (λ (ys : List X). AreAscending R (map key ys)) (sym (append-nil xs)) up, tt)
  joined trans xs (x ∷ items) up may =
      let rest = joined trans (xs ++ x ∷ []) items (ascending_more R key trans xs x up may.0.1) may.1 in
      (subst (λ (ys : List X). AreAscending R (map key ys)) (append_assoc xs (x ∷ []) items) rest.0, (may.0.0, rest.1))

  pub joins : (xs items : List X) → AreAscending R (map key (xs ++ items)) → AllByRecursion Valid items → AllMay snoc MayJoin xs items
  joins xs [] up valid = tt
  joins xs (x ∷ items) up valid =
      ((valid.0, ascending_follows R key xs x items up), joins (xs ++ x ∷ []) items (subst (λ (ys : List X). AreAscending R (map key ys)) (sym (append_assoc xs (x ∷ []) items)) up) valid.1)

abbrev pub path_of : Manifest → List (List ℕ)
path_of m = m.path

abbrev Unrelated : Manifest → Manifest → Type 0
Unrelated m n = IsTrue (not (are_related m.path n.path))

unrelated : (q r : List (List ℕ)) → path_cmp q r ≡ Less → ¬ (is_prefix q r ≡ true) → IsTrue (not (are_related q r))
unrelated q r less out =
    let there : is_prefix q r ≡ false = false_from_ne_true _ out in
    let back : is_prefix r q ≡ false = false_from_ne_true _ (λ prefix. prefix_order q r prefix less) in
    λ i. not (there i || back i)

no_prefix : (q r : List (List ℕ)) → IsTrue (not (are_related q r)) → ¬ (is_prefix q r ≡ true)
no_prefix q r apart prefix = true≢false (sym (λ i. prefix i || is_prefix r q) ∙ not-true _ apart)

last_all : {X Y : Type 0} (P : Y → Type 0) (f : X → Y) (first_ones : List X) (last : X) → AllByRecursion P (map f (first_ones ++ last ∷ [])) → P (f last)
last_all P f [] last all = all.0
last_all P f (x ∷ first_ones) last all = last_all P f first_ones last all.1

last_each : {X : Type 0} (P : X → Type 0) (first_ones : List X) (last : X) → AllByRecursion P (first_ones ++ last ∷ []) → P last
last_each P [] last all = all.0
last_each P (x ∷ first_ones) last all = last_each P first_ones last all.1

not_greater : (q r : List (List ℕ)) → path_cmp q r ≡ Less → is_gt (path_cmp q r) ≡ false
not_greater q r less = ap is_gt less

-- what comes after manifests, the last of which is no prefix of it, is related to none of them
all_unrelated : (first_ones : List Manifest) (last m : Manifest) → AreAscending path_cmp (map path_of (first_ones ++ last ∷ [])) → AreApart (first_ones ++ last ∷ []) → path_cmp last.path m.path ≡ Less → ¬ (is_prefix last.path m.path ≡ true)
    → AllByRecursion (λ q. Unrelated q m) (first_ones ++ last ∷ [])
all_unrelated [] last m up apart less out = (unrelated last.path m.path less out, tt)
all_unrelated (q ∷ first_ones) last m up apart less out =
    let before : path_cmp q.path last.path ≡ Less = last_all (λ r. path_cmp q.path r ≡ Less) path_of first_ones last up.0 in
    let other = no_prefix q.path last.path (last_each (Unrelated q) first_ones last apart.0) in (
      unrelated q.path m.path (paths_total.trans q.path last.path m.path before less) (λ prefix. other (convex q.path last.path m.path (not_greater q.path last.path before) (not_greater last.path m.path less) prefix)),
      all_unrelated first_ones last m up.1 apart.1 less out,
    )

apart_push : (ms : List Manifest) (m : Manifest) → AreApart ms → AllByRecursion (λ q. Unrelated q m) ms → AreApart (ms ++ m ∷ [])
apart_push [] m apart all = (tt, tt)
apart_push (q ∷ ms) m apart all = (all_append (Unrelated q) ms (m ∷ []) apart.0 (all.0, tt), apart_push ms m apart.1 all.1)

apart_more : (ms : List Manifest) (m : Manifest) → AreAscending path_cmp (map path_of ms) → AreApart ms → IsTrue (may_follow_apart path_of ms m.path) → AreApart (ms ++ m ∷ [])
apart_more [] m up apart follows = (tt, tt)
apart_more (x ∷ xs) m up apart follows =
    let end = ends_in x xs in
    let test = and_parts _ _ (subst (λ o. IsTrue (comes_apart path_of o m.path)) end.found follows) in
    let less = is_less _ test.0 in
    let out : ¬ (is_prefix end.last.path m.path ≡ true) = λ prefix. true≢false (sym prefix ∙ not-true _ test.1) in
    let all = all_unrelated end.first_ones end.last m (subst (λ ms. AreAscending path_cmp (map path_of ms)) end.parted up) (subst AreApart end.parted apart) less out in
    apart_push (x ∷ xs) m apart (subst (AllByRecursion (λ q. Unrelated q m)) (sym end.parted) all)

-- a manifest that may follow in path order, apart from those before it, may follow in path order
plain_follows : (ms : List Manifest) (m : Manifest) → IsTrue (may_follow_apart path_of ms m.path) → IsTrue (may_follow path_cmp path_of ms m.path)
plain_follows [] m follows = refl
plain_follows (x ∷ xs) m follows =
    let end = ends_in x xs in
    let test = and_parts _ _ (subst (λ o. IsTrue (comes_apart path_of o m.path)) end.found follows) in
    subst (λ o. IsTrue (follows_last path_cmp path_of o m.path)) (sym end.found) test.0

-- in a list of manifests that stand apart each may follow
apart_follows : (ms : List Manifest) (m : Manifest) (more : List Manifest) → AreAscending path_cmp (map path_of (ms ++ m ∷ more)) → AreApart (ms ++ m ∷ more) → IsTrue (may_follow_apart path_of ms m.path)
apart_follows [] m more up apart = refl
apart_follows (x ∷ xs) m more up apart =
    let end = ends_in x xs in
    let less = subst (λ o. IsTrue (follows_last path_cmp path_of o m.path)) end.found (ascending_follows path_cmp path_of (x ∷ xs) m more up) in
    let shape : (x ∷ xs) ++ m ∷ more ≡ end.first_ones ++ end.last ∷ m ∷ more = (λ i. end.parted i ++ m ∷ more) ∙ append_assoc end.first_ones (end.last ∷ []) (m ∷ more) in
    let other = no_prefix end.last.path m.path (next_apart end.first_ones end.last m more (subst AreApart shape apart)) in
    subst (λ o. IsTrue (comes_apart path_of o m.path)) (sym end.found) (and_from _ _ less (ap not (false_from_ne_true _ other)))
  where
    next_apart : (first_ones : List Manifest) (a b : Manifest) (more : List Manifest) → AreApart (first_ones ++ a ∷ b ∷ more) → Unrelated a b
    next_apart [] a b more apart = apart.0.0
    next_apart (q ∷ first_ones) a b more apart = next_apart first_ones a b more apart.1

module _ (Valid : Manifest → Type 0) where
  abbrev pub MayJoinApart : List Manifest → Manifest → Type 0
  MayJoinApart ms m = Valid m × IsTrue (may_follow_apart path_of ms m.path)

  pub joined_apart : (ms items : List Manifest) → AreAscending path_cmp (map path_of ms) → AreApart ms → AllMay snoc MayJoinApart ms items → AreAscending path_cmp (map path_of (ms ++ items)) × AreApart (ms ++ items) × AllByRecursion Valid items
  joined_apart ms [] up apart may = (subst (λ ys. AreAscending path_cmp (map path_of ys)) (sym (append-nil ms)) up, subst AreApart (sym (append-nil ms)) apart, tt)
  joined_apart ms (m ∷ items) up apart may =
      let rest = joined_apart (ms ++ m ∷ []) items (ascending_more path_cmp path_of paths_total.trans ms m up (plain_follows ms m may.0.1)) (apart_more ms m up apart may.0.1) may.1 in
      (subst (λ ys. AreAscending path_cmp (map path_of ys)) (append_assoc ms (m ∷ []) items) rest.0, subst AreApart (append_assoc ms (m ∷ []) items) rest.1, (may.0.0, rest.2))

  pub joins_apart : (ms items : List Manifest) → AreAscending path_cmp (map path_of (ms ++ items)) → AreApart (ms ++ items) → AllByRecursion Valid items → AllMay snoc MayJoinApart ms items
  joins_apart ms [] up apart valid = tt
  joins_apart ms (m ∷ items) up apart valid = (
    (valid.0, apart_follows ms m items up apart),
    joins_apart (ms ++ m ∷ []) items (subst (λ ys. AreAscending path_cmp (map path_of ys)) (sym (append_assoc ms (m ∷ []) items)) up) (subst AreApart (sym (append_assoc ms (m ∷ []) items)) apart) valid.1,
  )
