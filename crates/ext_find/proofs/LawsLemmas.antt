-- An entry gives one item, and there is one found list.
use Rattle.std.proofs.Common.{◌≡◌, ℕ, ◌≤◌, Bool, true, false, cond, List, [], ◌∷◌, ◌++◌, Option, Some, None, is_some, refl, sym, ap, ◌∙◌, subst, arith}
use Rattle.std.specs.Prelude.{map, nat_lt}
use mathlib.Core.Logic.{inl, inr}
use Rattle.std.specs.FinMap.{find}
use Rattle.std.specs.FinMap.Entries.{same_entries}
use Rattle.std.specs.Option.{unwrap_or}
use Rattle.std.specs.Ordering.{is_eq, ordering_reverse}
use Rattle.std.specs.declared.cmp.Ordering.{Ordering}
use Rattle.std.specs.declared.cmp.Ordering.TheVariants.{Less, Equal, Greater}
use Rattle.std.proofs.lemmas.Bool.{false≢true, true≢false, ltb-false, ltb-true}
use Rattle.std.proofs.lemmas.Float.{T_from_true}
use Rattle.ext_lines.specs.ByteOrder.{bytes_cmp, bytes_exact, bytes_total}
use Rattle.ext_text.specs.declared.arch.Arch.{Arch}
use Rattle.ext_text.specs.declared.class.Class.{Class}
use Rattle.ext_text.specs.declared.class.Class.TheVariants.{Sysext, Confext, Portable}
use Rattle.ext_text.specs.declared.extension.Extension.TheVariants as extensions
use Rattle.ext_text.proofs.ForCallers.{is_equal}
use Rattle.ext_tree.specs.Part.{part}
use Rattle.ext_tree.specs.Tree.{Entries}
use Rattle.ext_walk.specs.Walk.{parts}
use Rattle.ext_walk.proofs.ForCallers.{same_end}
use Rattle.ext_vers.specs.Order.{orders_exact, orders_total}
use Rattle.ext_vers.specs.Version.{order_of}
use Rattle.ext_find.specs.Ending.{ending_of, stem_of}
use Rattle.ext_find.specs.ExtensionRelease.{release_text}
use Rattle.ext_find.specs.Found.{Gives, IsFirst, AreFound, IsImage, IsPlace, IsReleaseOf, IsUsable, IsUsableIn, LeadsToRaw, by_name}
use Rattle.ext_find.specs.Image.{Breaks, IsReleaseIn, LeadsToFileAt}
use Rattle.ext_find.specs.Laws.{OneFound, OneItem}
use Rattle.ext_find.specs.declared.ending.Ending.{Ending}
use Rattle.ext_find.specs.declared.ending.Ending.TheVariants.{Plain, DotRaw, DotV, DotRawV}
use Rattle.ext_find.specs.declared.found.BreakWhy.{BreakWhy}
use Rattle.ext_find.specs.declared.found.BreakWhy.TheVariants.{NotDirectory, HasOsRelease, NoRelease}
use Rattle.ext_find.specs.declared.found.FoundItem.{FoundItem}
use Rattle.ext_find.specs.declared.found.FoundKind.{FoundKind}
use Rattle.ext_find.specs.declared.found.FoundKind.TheVariants.{Image, Masked, Raw, Broken}
use Rattle.ext_find.proofs.KeepsLemmas.{one_opens}
use Rattle.ext_find.proofs.PickLemmas.{one_pick}

clash : {b : Bool} {A : Type 0} → b ≡ true → b ≡ false → A
clash on off = absurd (true≢false (sym on ∙ off))

-- the kind of an image
abbrev kind_of : Option BreakWhy → FoundKind
kind_of None = Image
kind_of (Some why) = Broken why

-- an image is broken for one reason, or for none
breaks_once : {C : Type 0} (image : Entries C) (class : Class) (hierarchies : List (List ℕ)) (name : List ℕ) (x y : Option BreakWhy) → Breaks image class hierarchies name x → Breaks image class hierarchies name y → x ≡ y
breaks_once image class hierarchies name (Some NotDirectory) (Some NotDirectory) a b = refl
breaks_once image class hierarchies name (Some NotDirectory) (Some HasOsRelease) a b = clash a b.0
breaks_once image class hierarchies name (Some NotDirectory) (Some NoRelease) a b = clash a b.0
breaks_once image class hierarchies name (Some NotDirectory) None a b = clash a b.0
breaks_once image class hierarchies name (Some HasOsRelease) (Some NotDirectory) a b = clash b a.0
breaks_once image class hierarchies name (Some HasOsRelease) (Some HasOsRelease) a b = refl
breaks_once image class hierarchies name (Some HasOsRelease) (Some NoRelease) a b = clash a.1 b.1
breaks_once image class hierarchies name (Some HasOsRelease) None a b = clash a.1 b.1
breaks_once image class hierarchies name (Some NoRelease) (Some NotDirectory) a b = clash b a.0
breaks_once image class hierarchies name (Some NoRelease) (Some HasOsRelease) a b = clash b.1 a.1
breaks_once image class hierarchies name (Some NoRelease) (Some NoRelease) a b = refl
breaks_once image class hierarchies name (Some NoRelease) None a b = absurd (a.2 b.2)
breaks_once image class hierarchies name None (Some NotDirectory) a b = clash b a.0
breaks_once image class hierarchies name None (Some HasOsRelease) a b = clash b.1 a.1
breaks_once image class hierarchies name None (Some NoRelease) a b = absurd (b.2 a.2)
breaks_once image class hierarchies name None None a b = refl

-- names lead to one file inside an image
file_once : {C : Type 0} (es : Entries C) (image names p q : List (List ℕ)) → LeadsToFileAt es image names p → LeadsToFileAt es image names q → p ≡ q
file_once es image names p q a b = a.whole ∙ ap (λ end. image ++ end) (same_end (part image es) names a.end b.end a.ends b.ends) ∙ sym b.whole

release_once : {C : Type 0} (es : Entries C) (image : List (List ℕ)) (class : Class) (name : List ℕ) (r s : Option (List (List ℕ))) → IsReleaseIn es image class name r → IsReleaseIn es image class name s → r ≡ s
release_once es image Sysext name None s a b = absurd a
release_once es image Sysext name (Some p) None a b = absurd b
release_once es image Sysext name (Some p) (Some q) a b = ap Some (file_once es image (parts (release_text extensions.Sysext name)) p q a b)
release_once es image Confext name None s a b = absurd a
release_once es image Confext name (Some p) None a b = absurd b
release_once es image Confext name (Some p) (Some q) a b = ap Some (file_once es image (parts (release_text extensions.Confext name)) p q a b)
release_once es image Portable name r s a b = a ∙ sym b

module _ {C : Type 0} (size : C → ℕ) (es : Entries C) (class : Class) (arch : Arch) (hierarchies : List (List ℕ)) where
  one_place : (path : List (List ℕ)) (stem : List ℕ) (ending : Ending) (p q : List (List ℕ)) → IsPlace size es class arch hierarchies path stem ending p → IsPlace size es class arch hierarchies path stem ending q → p ≡ q
  one_place path stem Plain p q a b = a ∙ sym b
  one_place path stem DotRaw p q a b = absurd a
  one_place path stem DotV p q a b = a.1 ∙ ap (λ n. path ++ n ∷ []) (one_pick es arch path stem a.0 b.0 a.2 b.2) ∙ sym b.1
  one_place path stem DotRawV p q a b = absurd a

  not_both : {A : Type 0} (path : List (List ℕ)) (stem : List ℕ) (ending : Ending) (p : List (List ℕ)) → IsPlace size es class arch hierarchies path stem ending p → LeadsToRaw size es class arch hierarchies path ending → A
  not_both path stem Plain p a raw = absurd raw
  not_both path stem DotRaw p a raw = absurd a
  not_both path stem DotV p a raw = absurd raw
  not_both path stem DotRawV p a raw = absurd a

  one_image : (p : List (List ℕ)) (stem : List ℕ) (x y : Option BreakWhy) → IsImage size es class arch hierarchies p stem x → IsImage size es class arch hierarchies p stem y → x ≡ y
  one_image p stem x y a b =
      breaks_once (part b.0 es) class hierarchies stem x y (subst (λ end. Breaks (part end es) class hierarchies stem x) (same_end es p a.0 b.0 a.1 b.1) a.3) b.3

  module _ (path : List (List ℕ)) (name : List ℕ) where
    both_images : (p q : List (List ℕ)) (x y : Option BreakWhy) → IsPlace size es class arch hierarchies path (stem_of name) (ending_of name) p → IsImage size es class arch hierarchies p (stem_of name) x → IsPlace size es class arch hierarchies path (stem_of name) (ending_of name) q → IsImage size es class arch hierarchies q (stem_of name) y → (p ≡ q) × (kind_of x ≡ kind_of y)
    both_images p q x y at image other another =
        let place = one_place path (stem_of name) (ending_of name) p q at other in
        (place, ap kind_of (one_image q (stem_of name) x y (subst (λ r. IsImage size es class arch hierarchies r (stem_of name) x) place image) another))

    one_kind : (p q : List (List ℕ)) (k l : FoundKind) → Gives size es class arch hierarchies path name p k → Gives size es class arch hierarchies path name q l → (p ≡ q) × (k ≡ l)
    one_kind p q Masked Masked a b = (a.1 ∙ sym b.1, refl)
    one_kind p q Masked Raw a b = clash a.0 b.0
    one_kind p q Masked Image a b = clash a.0 b.0
    one_kind p q Masked (Broken w) a b = clash a.0 b.0
    one_kind p q Raw Masked a b = clash b.0 a.0
    one_kind p q Raw Raw a b = (a.1 ∙ sym b.1, refl)
    one_kind p q Raw Image a b = not_both path (stem_of name) (ending_of name) q b.1 a.2
    one_kind p q Raw (Broken w) a b = not_both path (stem_of name) (ending_of name) q b.1 a.2
    one_kind p q Image Masked a b = clash b.0 a.0
    one_kind p q Image Raw a b = not_both path (stem_of name) (ending_of name) p a.1 b.2
    one_kind p q Image Image a b = both_images p q None None a.1 a.2 b.1 b.2
    one_kind p q Image (Broken w) a b = both_images p q None (Some w) a.1 a.2 b.1 b.2
    one_kind p q (Broken v) Masked a b = clash b.0 a.0
    one_kind p q (Broken v) Raw a b = not_both path (stem_of name) (ending_of name) p a.1 b.2
    one_kind p q (Broken v) Image a b = both_images p q (Some v) None a.1 a.2 b.1 b.2
    one_kind p q (Broken v) (Broken w) a b = both_images p q (Some v) (Some w) a.1 a.2 b.1 b.2

  -- a release file is in one place
  one_release : (place : List (List ℕ)) (stem : List ℕ) (kind : FoundKind) (r s : Option (List (List ℕ))) → IsReleaseOf size es class arch hierarchies place stem kind r → IsReleaseOf size es class arch hierarchies place stem kind s → r ≡ s
  one_release place stem Image r s a b =
      release_once es b.0 class stem r s (subst (λ end. IsReleaseIn es end class stem r) (same_end es place a.0 b.0 a.1 b.1) a.2) b.2
  one_release place stem Masked r s a b = a ∙ sym b
  one_release place stem Raw r s a b = a ∙ sym b
  one_release place stem (Broken why) r s a b = a ∙ sym b

  item_of : (directory : List (List ℕ)) (name : List ℕ) (a b : FoundItem) → IsUsableIn size es class arch hierarchies directory name a → IsUsableIn size es class arch hierarchies directory name b → a ≡ b
  item_of directory name a b first other =
      let named : a.name ≡ b.name = first.stem ∙ sym other.stem in
      let rest = one_kind (directory ++ name ∷ []) name a.place b.place a.kind b.kind first.gives other.gives in
      let release = one_release b.place b.name b.kind a.release b.release (subst (λ k. IsReleaseOf size es class arch hierarchies b.place b.name k a.release) rest.1 (subst (λ p. IsReleaseOf size es class arch hierarchies p b.name a.kind a.release) rest.0 (subst (λ n. IsReleaseOf size es class arch hierarchies a.place n a.kind a.release) named first.release))) other.release in
      λ i. record { name = named i; place = rest.0 i; kind = rest.1 i; release = release i }

  pub one_item : (index : ℕ) (name : List ℕ) (a b : FoundItem) → IsUsable size es class arch hierarchies index name a → IsUsable size es class arch hierarchies index name b → a ≡ b
  one_item index name a b first other =
      item_of other.directory name a b (subst (λ d. IsUsableIn size es class arch hierarchies d name a) (one_opens es class index first.directory other.directory first.opens other.opens) first.entry) other.entry

  -- the item that is found for a stem has that name
  find_name : (xs : List FoundItem) (stem : List ℕ) (item : FoundItem) → find order_of stem (by_name xs) ≡ Some item → item.name ≡ stem
  find_name [] stem item at = absurd (false≢true (ap is_some at))
  find_name (x ∷ xs) stem item at =
      elim (is_eq (order_of stem x.name)) as (λ b. is_eq (order_of stem x.name) ≡ b → cond b (Some x) (find order_of stem (by_name xs)) ≡ Some item → item.name ≡ stem) [
        | true ↦ λ tied here. ap (λ o. (unwrap_or o item).name) (sym here) ∙ sym (orders_exact stem x.name (is_equal _ tied))
        | false ↦ λ _ later. find_name xs stem item later
      ] refl at

  -- of two first entries of a stem neither counts before the other, so they are one
  module _ (i j : ℕ) (n m : List ℕ) (a b : FoundItem) (first : IsFirst size es class arch hierarchies i n a) (other : IsFirst size es class arch hierarchies j m b) (same : a.name ≡ b.name) where
    by_bytes : (r : Ordering) → bytes_cmp n m ≡ r → i ≡ j → a ≡ b
    by_bytes Less is index = absurd (other.first i n a first.usable same (inr (index, is)))
    by_bytes Equal is index =
        one_item j m a b (subst (λ k. IsUsable size es class arch hierarchies k m a) index (subst (λ k. IsUsable size es class arch hierarchies i k a) (bytes_exact n m is) first.usable)) other.usable
    by_bytes Greater is index = absurd (first.first j m b other.usable (sym same) (inr (sym index, bytes_total.antisymm m n ∙ ap ordering_reverse is)))

    same_first : a ≡ b
    same_first =
        elim (nat_lt i j) as (λ t. nat_lt i j ≡ t → a ≡ b) [
          | true ↦ λ less. absurd (other.first i n a first.usable same (inl (ltb-true i j less)))
          | false ↦ λ above. elim (nat_lt j i) as (λ t. nat_lt j i ≡ t → a ≡ b) [
            | true ↦ λ less. absurd (first.first j m b other.usable (sym same) (inl (ltb-true j i less)))
            | false ↦ λ below. let low : i ≤ j = ltb-false j i below in let high : j ≤ i = ltb-false i j above in by_bytes (bytes_cmp n m) refl (omega arith)
          ] refl
        ] refl

  module _ (xs ys : List FoundItem) (first : AreFound size es class arch hierarchies xs) (other : AreFound size es class arch hierarchies ys) where
    found_there : (q : List ℕ) (a : FoundItem) → find order_of q (by_name xs) ≡ Some a → is_some (find order_of q (by_name ys)) ≡ true
    found_there q a at =
        let least = first.least q a at in
        subst (λ k. is_some (find order_of k (by_name ys)) ≡ true) (find_name xs q a at) (other.each least.0 least.1 a least.2.usable)

    found_same : (q : List ℕ) (a b : FoundItem) → find order_of q (by_name xs) ≡ Some a → find order_of q (by_name ys) ≡ Some b → a ≡ b
    found_same q a b at there =
        let one = first.least q a at in
        let two = other.least q b there in
        same_first one.0 two.0 one.1 two.1 a b one.2 two.2 (find_name xs q a at ∙ sym (find_name ys q b there))

  values_named : (xs : List FoundItem) → map (λ e. e.1) (by_name xs) ≡ xs
  values_named [] = refl
  values_named (x ∷ xs) = ap (λ l. x ∷ l) (values_named xs)

  pub one_found : (xs ys : List FoundItem) → AreFound size es class arch hierarchies xs → AreFound size es class arch hierarchies ys → xs ≡ ys
  one_found xs ys first other =
      sym (values_named xs) ∙ ap (map (λ (e : List ℕ × FoundItem). e.1)) (same_entries order_of orders_total orders_exact (by_name xs) (by_name ys) (T_from_true _ first.ordered) (T_from_true _ other.ordered) agree) ∙ values_named ys
    where
      by_case : (q : List ℕ) (o p : Option FoundItem) → find order_of q (by_name xs) ≡ o → find order_of q (by_name ys) ≡ p → o ≡ p
      by_case q None None at there = refl
      by_case q None (Some b) at there = absurd (false≢true (sym (ap is_some at) ∙ found_there ys xs other first q b there))
      by_case q (Some a) None at there = absurd (false≢true (sym (ap is_some there) ∙ found_there xs ys first other q a at))
      by_case q (Some a) (Some b) at there = ap Some (found_same xs ys first other q a b at there)

      agree : (q : List ℕ) → find order_of q (by_name xs) ≡ find order_of q (by_name ys)
      agree q = by_case q (find order_of q (by_name xs)) (find order_of q (by_name ys)) refl refl

pub one_item_law : {C : Type 0} (size : C → ℕ) → OneItem size
one_item_law size es class arch hierarchies index name a b first other = one_item size es class arch hierarchies index name a b first other

pub one_found_law : {C : Type 0} (size : C → ℕ) → OneFound size
one_found_law size es class arch hierarchies found other first second = one_found size es class arch hierarchies found other first second
