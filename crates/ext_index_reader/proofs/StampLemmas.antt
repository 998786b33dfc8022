-- The stamps of homes, once more homes are noted.
use Rattle.std.proofs.Common.{◌≡◌, ◌≢◌, ℕ, true, false, cond, [], ◌∷◌, Option, Some, None, refl, sym, ap, ◌∙◌}
use Rattle.std.proofs.lemmas.Bool.{false_from_ne_true, false≢true}
use Rattle.std.specs.BTreeMap.{insert_entry, is_at}
use Rattle.std.specs.Cmp.{tied_itself, nat_cmp_total}
use Rattle.std.specs.FinMap.{nat_cmp-IsAntisymmetric}
use Rattle.std.specs.Map.{lookup}
use Rattle.std.specs.Ordering.{is_eq, match_ordering, nat_cmp, ordering_then}
use Rattle.std.specs.declared.cmp.Ordering.TheVariants.{Less, Equal, Greater}
use Rattle.ext_text.proofs.ForCallers.{is_equal}
use Rattle.ext_tree.specs.declared.stamp.Stamp.{Stamp}
use Rattle.ext_host.specs.declared.home.Home.{Home}
use Rattle.ext_index_lines.specs.declared.homed.Homed.{Homed}
use Rattle.ext_index_reader.specs.Homes.{FileAgrees, IsOrNone, Stamps, home_cmp, key_of, noted_file, stamp_at}

-- keys that tie are equal, and a key ties itself
pub key_exact : (a b : ℕ × ℕ) → home_cmp a b ≡ Equal → a ≡ b
key_exact a b tied =
    elim (nat_cmp a.0 b.0) as (λ o. nat_cmp a.0 b.0 ≡ o → ordering_then o (nat_cmp a.1 b.1) ≡ Equal → a ≡ b) [
      | Less ↦ λ _ h. absurd (false≢true (ap is_eq h))
      | Equal ↦ λ first second. λ i. (nat_cmp-IsAntisymmetric a.0 b.0 first i, nat_cmp-IsAntisymmetric a.1 b.1 second i)
      | Greater ↦ λ _ h. absurd (false≢true (ap is_eq h))
    ] refl tied

key_tied : (a : ℕ × ℕ) → home_cmp a a ≡ Equal
key_tied a = (λ i. ordering_then (tied_itself nat_cmp_total a.0 i) (tied_itself nat_cmp_total a.1 i))

key_apart : (a b : ℕ × ℕ) → a ≢ b → is_eq (home_cmp a b) ≡ false
key_apart a b other = false_from_ne_true _ (λ tied. other (key_exact a b (is_equal _ tied)))

-- at the key that was put in stands its value
inserted_same : (es : Stamps) (k : ℕ × ℕ) (v : Stamp) → lookup (is_at (home_cmp k)) (insert_entry home_cmp es k v) ≡ Some v
inserted_same [] k v = ap (λ o. cond (is_eq o) (Some v) None) (key_tied k)
inserted_same (e ∷ es) k v =
    elim (home_cmp k e.0) as (λ o. home_cmp k e.0 ≡ o → lookup (is_at (home_cmp k)) (match_ordering o ((k, v) ∷ e ∷ es) ((e.0, v) ∷ es) (e ∷ insert_entry home_cmp es k v)) ≡ Some v) [
      | Less ↦ λ _. ap (λ o. cond (is_eq o) (Some v) (lookup (is_at (home_cmp k)) (e ∷ es))) (key_tied k)
      | Equal ↦ λ tied. ap (λ o. cond (is_eq o) (Some v) (lookup (is_at (home_cmp k)) es)) tied
      | Greater ↦ λ above. ap (λ o. cond (is_eq o) (Some e.1) (lookup (is_at (home_cmp k)) (insert_entry home_cmp es k v))) above ∙ inserted_same es k v
    ] refl

-- at any other key what stood there
inserted_other : (es : Stamps) (k : ℕ × ℕ) (v : Stamp) (q : ℕ × ℕ) → q ≢ k → lookup (is_at (home_cmp q)) (insert_entry home_cmp es k v) ≡ lookup (is_at (home_cmp q)) es
inserted_other [] k v q other = ap (λ b. cond b (Some v) None) (key_apart q k other)
inserted_other (e ∷ es) k v q other =
    elim (home_cmp k e.0) as (λ o. home_cmp k e.0 ≡ o → lookup (is_at (home_cmp q)) (match_ordering o ((k, v) ∷ e ∷ es) ((e.0, v) ∷ es) (e ∷ insert_entry home_cmp es k v)) ≡ lookup (is_at (home_cmp q)) (e ∷ es)) [
      | Less ↦ λ _. ap (λ b. cond b (Some v) (lookup (is_at (home_cmp q)) (e ∷ es))) (key_apart q k other)
      | Equal ↦ λ tied.
          let apart = key_apart q e.0 (λ same. other (same ∙ sym (key_exact k e.0 tied))) in
          ap (λ b. cond b (Some v) (lookup (is_at (home_cmp q)) es)) apart ∙ sym (ap (λ b. cond b (Some e.1) (lookup (is_at (home_cmp q)) es)) apart)
      | Greater ↦ λ _. ap (λ rest. cond (is_eq (home_cmp q e.0)) (Some e.1) rest) (inserted_other es k v q other)
    ] refl

home_same : (a b : Home) → key_of a ≡ key_of b → a ≡ b
home_same a b same = λ i. record { generation = (same i).0; file = (same i).1 }

-- a home is one that was noted or another
pub same_or_other : (a b : Home) → (P : Type 0) → (a ≡ b → P) → (key_of a ≢ key_of b → P) → P
same_or_other a b P same other =
    elim (is_eq (home_cmp (key_of a) (key_of b))) as (λ t. is_eq (home_cmp (key_of a) (key_of b)) ≡ t → P) [
      | true ↦ λ tied. same (home_same a b (key_exact _ _ (is_equal _ tied)))
      | false ↦ λ apart. other (λ e. absurd (false≢true (sym apart ∙ ap is_eq (ap (λ k. home_cmp (key_of a) k) (sym e) ∙ key_tied (key_of a)))))
    ] refl

-- the home of a file that was noted has its stamp
pub noted_same : (stamps : Stamps) (file : Homed) → stamp_at (noted_file stamps file) file.home ≡ Some file.stamp
noted_same stamps file = inserted_same stamps (key_of file.home) file.stamp

-- each other home has what it had
pub noted_other : (stamps : Stamps) (file : Homed) (home : Home) → key_of home ≢ key_of file.home → stamp_at (noted_file stamps file) home ≡ stamp_at stamps home
noted_other stamps file home other = inserted_other stamps (key_of file.home) file.stamp (key_of home) other

-- where a file agrees, a home that had a stamp has it
agreed : (found : Option Stamp) (stamp listed : Stamp) → found ≡ Some stamp → IsOrNone found listed → stamp ≡ listed
agreed None stamp listed is h = let wrong : None ≡ Some stamp = is in cc
agreed (Some s) stamp listed is h = let same : s ≡ stamp = cc in sym same ∙ h

pub noted_keeps : (stamps : Stamps) (file : Homed) (home : Home) (stamp : Stamp) → FileAgrees stamps file → stamp_at stamps home ≡ Some stamp → stamp_at (noted_file stamps file) home ≡ Some stamp
noted_keeps stamps file home stamp agrees has =
    same_or_other home file.home (stamp_at (noted_file stamps file) home ≡ Some stamp)
    (λ same. ap (stamp_at (noted_file stamps file)) same ∙ noted_same stamps file ∙ ap Some (sym (agreed (stamp_at stamps file.home) stamp file.stamp (ap (stamp_at stamps) (sym same) ∙ has) agrees)))
    (λ other. noted_other stamps file home other ∙ has)
