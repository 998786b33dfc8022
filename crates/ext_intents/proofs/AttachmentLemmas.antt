-- What a search by halves finds among attachments in the order of their names.
use Rattle.std.proofs.Common.{◌≡◌, ℕ, zero, suc, ◌<◌, ◌≤◌, true, false, cond, List, [], ◌∷◌, length, map, get_or, Option, Some, None, refl, sym, ap, ◌∙◌, subst, arith}
use Rattle.std.specs.Prelude.{slice_get}
use Rattle.std.specs.List.{AllByRecursion, find}
use Rattle.std.specs.List.Sorted.{IsPartitionPoint, IsPartitionedBy}
use Rattle.std.specs.Borrow.{Bor}
use Rattle.std.specs.Option.{option_copied}
use Rattle.std.specs.Ordering.{is_eq, is_lt}
use Rattle.std.specs.Slice.{IsItemAt}
use Rattle.std.specs.declared.cmp.Ordering.{Ordering}
use Rattle.std.specs.declared.cmp.Ordering.TheVariants.{Less, Equal, Greater}
use Rattle.std.proofs.lemmas.Bool.{false≢true, false_from_ne_true}
use Rattle.std.proofs.lemmas.Option.{slice_get-get_or, slice_get_past}
use Rattle.ext_lines.specs.ByteOrder.{bytes_cmp, bytes_total}
use Rattle.ext_text.proofs.ForCallers.{is_less, same_name}
use Rattle.ext_host.specs.Valid.{AreAscending}
use Rattle.ext_host.specs.declared.attachment.Attachment.{Attachment}
use Rattle.ext_attached.specs.Going.{is_of_name}
use Rattle.ext_intents.specs.ServiceItems.{attachment_from, if_named, is_earlier_name}

abbrev names_of : List Attachment → List (List ℕ)
names_of attached = map (λ (attachment : Attachment). attachment.name) attached

not_tied : (o : Ordering) → is_lt o ≡ true → is_eq o ≡ false
not_tied Less is = refl
not_tied Equal is = absurd (false≢true is)
not_tied Greater is = absurd (false≢true is)

-- a name that does not come after one is that of none which comes after it
none_later : (name : List ℕ) (a : Attachment) (attached : List Attachment) → AllByRecursion (λ n. bytes_cmp a.name n ≡ Less) (names_of attached)
    → is_earlier_name name a ≡ false → find (is_of_name name) attached ≡ None
none_later name a [] above from = refl
none_later name a (b ∷ attached) above from =
    let other : is_of_name name b ≡ false = false_from_ne_true (is_of_name name b)
    (λ named. false≢true (sym from ∙ ap is_lt (subst (λ (n : List ℕ). bytes_cmp a.name n ≡ Less) (same_name b.name name named) above.0))) in
    ap (λ t. cond t (Some b) (find (is_of_name name) attached)) other ∙ none_later name a attached above.1 from

-- the attachment of a name is the first that does not come before it, if it has the name
pub find_from : (name : List ℕ) (attached : List Attachment) → AreAscending bytes_cmp (names_of attached)
    → find (is_of_name name) attached ≡ if_named name (attachment_from name attached)
find_from name [] up = refl
find_from name (a ∷ attached) up =
    elim (is_earlier_name name a) as
    (λ b. is_earlier_name name a ≡ b → find (is_of_name name) (a ∷ attached) ≡ if_named name (cond b (attachment_from name attached) (Some a))) [
      | true ↦ λ early.
          ap (λ t. cond t (Some a) (find (is_of_name name) attached)) (not_tied (bytes_cmp a.name name) early) ∙ find_from name attached up.1
      | false ↦ λ from. ap (λ rest. cond (is_of_name name a) (Some a) rest) (none_later name a attached up.0 from)
    ] refl

each_at : (P : List ℕ → Type 0) (attached : List Attachment) (k : ℕ) (d : Attachment) → AllByRecursion P (names_of attached) → k < length attached
    → P (get_or attached k d).name
each_at P [] k d all within = absurd (omega arith)
each_at P (a ∷ attached) zero d all within = all.0
each_at P (a ∷ attached) (suc k) d all within = each_at P attached k d all.1 (omega arith)

-- a name splits the attachments in two
pub name_splits : (name : List ℕ) (attached : List Attachment) → AreAscending bytes_cmp (names_of attached) → IsPartitionedBy (is_earlier_name name) attached
name_splits name [] up i j d le lt early = absurd (omega arith)
name_splits name (a ∷ attached) up zero zero d le lt early = early
name_splits name (a ∷ attached) up (suc i) zero d le lt early = absurd (omega arith)
name_splits name (a ∷ attached) up zero (suc j) d le lt early =
    ap is_lt
    (bytes_total.trans a.name (get_or attached j d).name name
    (each_at (λ n. bytes_cmp a.name n ≡ Less) attached j d up.0 (omega arith)) (is_less _ early))
name_splits name (a ∷ attached) up (suc i) (suc j) d le lt early = name_splits name attached up.1 i j d (omega arith) (omega arith) early

-- at the point where they part stands the first whose name does not come before it
pub at_point : (name : List ℕ) (attached : List Attachment) (i : ℕ) → i ≤ length attached
    → IsPartitionPoint (λ a. is_earlier_name name a ≡ true) (λ a. is_earlier_name name a ≡ false) attached i
    → slice_get attached i ≡ attachment_from name attached
at_point name [] i within at = refl
at_point name (a ∷ attached) zero within at =
    ap (λ b. cond b (attachment_from name attached) (Some a)) (sym (at.1 zero a (omega arith) (omega arith)))
at_point name (a ∷ attached) (suc i) within at =
    at_point name attached i (omega arith)
    ((λ j d low high. at.0 (suc j) d (omega arith) (omega arith)), (λ j d low high. at.1 (suc j) d (omega arith) (omega arith)))
    ∙ ap (λ b. cond b (attachment_from name attached) (Some a)) (sym (at.0 zero a (omega arith) (omega arith)))

-- what is lent at an index is the element there, if there is one
pub item_at : {X : Type 0} (xs : List X) (i : ℕ) (lent : Option (Bor X)) → IsItemAt xs i lent → option_copied lent ≡ slice_get xs i
item_at xs i None is = sym (slice_get_past xs i is.3)
item_at xs i (Some x) is = ap (λ y. Some y) is.1 ∙ sym (slice_get-get_or xs i x.now is.3.0)
