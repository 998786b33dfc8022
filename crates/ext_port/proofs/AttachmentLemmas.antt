-- The attachments with one more.
use Rattle.std.proofs.Common.{◌≡◌, ◌≢◌, ℕ, true, false, cond, List, [], ◌∷◌, ◌++◌, map, refl, sym, ap, ◌∙◌, subst}
use Rattle.std.specs.List.{AllByRecursion, filter}
use Rattle.std.specs.List.Sorted.{IsStrictlySortedBy}
use Rattle.std.specs.Ordering.{eq_by_cmp, is_gt, is_lt, ordering_reverse}
use Rattle.std.specs.declared.cmp.Ordering.TheVariants.{Less}
use Rattle.std.proofs.lemmas.Bool.{or_parts, true≢false}
use Rattle.ext_lines.specs.ByteOrder.{bytes_cmp, bytes_total}
use Rattle.ext_text.specs.Path.{path_cmp}
use Rattle.ext_text.specs.SortedPaths.{is_among}
use Rattle.ext_text.proofs.ForCallers.{all_append, is_greater, is_less, tied_path}
use Rattle.ext_host.specs.Valid.{AreAscending, AreAttachments, IsAttachment}
use Rattle.ext_host.specs.declared.attachment.Attachment.{Attachment}
use Rattle.ext_attached.proofs.ForCallers.{staying_attached}
use Rattle.ext_port.specs.NextHost.{with_attachment}

abbrev name_of : Attachment → List ℕ
name_of a = a.name

map_append : {X Y : Type 0} (f : X → Y) (xs ys : List X) → map f (xs ++ ys) ≡ map f xs ++ map f ys
map_append f [] ys = refl
map_append f (x ∷ xs) ys = ap (λ zs. f x ∷ zs) (map_append f xs ys)

-- two ascending lists, the first before the second
join_ascend : (xs ys : List (List ℕ)) → AreAscending bytes_cmp xs → AreAscending bytes_cmp ys → AllByRecursion (λ x. AllByRecursion (λ y. bytes_cmp x y ≡ Less) ys) xs → AreAscending bytes_cmp (xs ++ ys)
join_ascend [] ys first second before = second
join_ascend (x ∷ xs) ys first second before = (all_append (λ y. bytes_cmp x y ≡ Less) xs ys first.0 before.0, join_ascend xs ys first.1 second before.1)

-- those before a name, and those after it
all_lesser : (n : List ℕ) (attached : List Attachment) → AllByRecursion (λ x. bytes_cmp x n ≡ Less) (map name_of (filter (λ (a : Attachment). is_lt (bytes_cmp a.name n)) attached))
all_lesser n [] = tt
all_lesser n (a ∷ attached) = elim (is_lt (bytes_cmp a.name n)) as (λ b. is_lt (bytes_cmp a.name n) ≡ b
    → AllByRecursion (λ x. bytes_cmp x n ≡ Less) (map name_of (cond b (a ∷ filter (λ (o : Attachment). is_lt (bytes_cmp o.name n)) attached) (filter (λ (o : Attachment). is_lt (bytes_cmp o.name n)) attached)))) [
      | true ↦ λ lt. (is_less _ lt, all_lesser n attached)
      | false ↦ λ _. all_lesser n attached
    ] refl

all_greater : (n : List ℕ) (attached : List Attachment) → AllByRecursion (λ x. bytes_cmp n x ≡ Less) (map name_of (filter (λ (a : Attachment). is_gt (bytes_cmp a.name n)) attached))
all_greater n [] = tt
all_greater n (a ∷ attached) = elim (is_gt (bytes_cmp a.name n)) as (λ b. is_gt (bytes_cmp a.name n) ≡ b
    → AllByRecursion (λ x. bytes_cmp n x ≡ Less) (map name_of (cond b (a ∷ filter (λ (o : Attachment). is_gt (bytes_cmp o.name n)) attached) (filter (λ (o : Attachment). is_gt (bytes_cmp o.name n)) attached)))) [
      | true ↦ λ gt. (bytes_total.antisymm n a.name ∙ ap ordering_reverse (is_greater _ gt), all_greater n attached)
      | false ↦ λ _. all_greater n attached
    ] refl

all_before : (n : List ℕ) (xs ys : List (List ℕ)) → AllByRecursion (λ x. bytes_cmp x n ≡ Less) xs → AllByRecursion (λ y. bytes_cmp n y ≡ Less) ys → AllByRecursion (λ x. AllByRecursion (λ y. bytes_cmp x y ≡ Less) (n ∷ ys)) xs
all_before n [] ys lesser greater = tt
all_before n (x ∷ xs) ys lesser greater = ((lesser.0, through ys greater), all_before n xs ys lesser.1 greater)
  where
    through : (zs : List (List ℕ)) → AllByRecursion (λ y. bytes_cmp n y ≡ Less) zs → AllByRecursion (λ y. bytes_cmp x y ≡ Less) zs
    through [] all = tt
    through (z ∷ zs) all = (bytes_total.trans x n z lesser.0 all.0, through zs all.1)

-- with one more they are attachments in order
pub with_one_more : (a : Attachment) (attached : List Attachment) → IsAttachment a → AreAttachments attached → AreAttachments (with_attachment a attached)
with_one_more a attached is are =
    let lesser = filter (λ (other : Attachment). is_lt (bytes_cmp other.name a.name)) attached in
    let greater = filter (λ (other : Attachment). is_gt (bytes_cmp other.name a.name)) attached in
    let first = staying_attached (λ other. is_lt (bytes_cmp other.name a.name)) attached are in
    let second = staying_attached (λ other. is_gt (bytes_cmp other.name a.name)) attached are in
    let low = all_lesser a.name attached in
    let high = all_greater a.name attached in
    record {
      each = all_append IsAttachment lesser (a ∷ greater) first.each (is, second.each);
      order = subst (AreAscending bytes_cmp) (sym (map_append name_of lesser (a ∷ greater)))
          (join_ascend (map name_of lesser) (a.name ∷ map name_of greater) first.order (high, second.order) (all_before a.name (map name_of lesser) (map name_of greater) low high));
    }

-- paths in strict order ascend
pub paths_ascend : (paths : List (List (List ℕ))) → IsStrictlySortedBy path_cmp paths → AreAscending path_cmp paths
unfolding IsStrictlySortedBy
paths_ascend [] sorted = tt
paths_ascend (p ∷ paths) sorted = (sorted.0, paths_ascend paths sorted.1)

-- and none is the root, where that is not among them
pub none_root : (paths : List (List (List ℕ))) → is_among paths [] ≡ false → AllByRecursion (λ path. path ≢ []) paths
none_root [] out = tt
none_root (p ∷ paths) out =
    let parts = or_parts (eq_by_cmp path_cmp [] p) (is_among paths []) out in
    ((λ root. true≢false (sym (tied_path [] p (sym root)) ∙ parts.0)), none_root paths parts.1)
