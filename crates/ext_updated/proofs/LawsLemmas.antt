-- What holds after every update.
use Rattle.std.proofs.Common.{◌≡◌, ℕ, Bool, true, false, cond, not, List, [], ◌++◌, length, drop, Option, Some, None, is_some, refl, sym, ap, subst, ◌∙◌}
use Rattle.std.specs.FinMap.Entries.{same_entries}
use Rattle.std.specs.List.{list_any}
use Rattle.std.specs.Ordering.{ordering_reverse}
use Rattle.std.specs.declared.cmp.Ordering.TheVariants.{Less, Equal, Greater}
use Rattle.std.proofs.lemmas.Bool.{and_parts, and_right, false_from_ne_true, or_left}
use Rattle.std.proofs.lemmas.Float.{T_from_true}
use Rattle.std.proofs.lemmas.List.{append-nil}
use Rattle.ext_text.specs.Order.{paths_exact, paths_total}
use Rattle.ext_text.specs.Path.{are_related, is_prefix, is_proper_prefix, path_cmp}
use Rattle.ext_text.specs.SortedPaths.{covers, is_among, meets}
use Rattle.ext_text.proofs.ForCallers.{prefix_trans, proper_first, some_name}
use Rattle.ext_tree.specs.Graft.{is_non_directory_at, or_made}
use Rattle.ext_tree.specs.Refusals.{is_root}
use Rattle.ext_tree.specs.Tree.{lookup}
use Rattle.ext_tree.specs.declared.entry.Entry.{Entry}
use Rattle.ext_tree.proofs.ForCallers.{directory_dir, prefix_append, prefixes}
use Rattle.ext_updated.specs.Clash.{MeetsAnother, meets_another, removed_meets, written_meets}
use Rattle.ext_updated.specs.Items.{written}
use Rattle.ext_updated.specs.Laws.{OneClash, OneUpdated, OthersStay, PiecesMayBePut, PiecesStand, RemovedGoes, StayingStays}
use Rattle.ext_updated.specs.Pieces.{is_above, left_at, paths_of}
use Rattle.ext_updated.specs.declared.piece.Piece.{Piece}
use Rattle.ext_updated.proofs.ClashLemmas.{among_left, among_right, related_back}
use Rattle.ext_updated.proofs.PathsLemmas.{among_any, any_among, prefixes_related}
use Rattle.ext_updated.proofs.PiecesLemmas.{covering}

pub one_clash : {C : Type 0} → OneClash C
one_clash root items None None one other = refl
one_clash root items None (Some q) one other = absurd (one q other.stands)
one_clash root items (Some p) None one other = absurd (other p one.stands)
one_clash root items (Some p) (Some q) one other =
    elim (path_cmp p q) as (λ o. path_cmp p q ≡ o → Some p ≡ Some q) [
      | Less ↦ λ less. absurd (other.least p one.stands less)
      | Equal ↦ λ tied. ap (λ (r : List (List ℕ)). Some r) (paths_exact p q tied)
      | Greater ↦ λ greater. absurd (one.least q other.stands (paths_total.antisymm q p ∙ ap ordering_reverse greater))
    ] refl

pub one_updated : {C : Type 0} → OneUpdated C
one_updated root removed pieces a b x y =
    same_entries path_cmp paths_total paths_exact a b (T_from_true _ x.tree.sorted) (T_from_true _ y.tree.sorted) (λ q.
    elim (covers (paths_of pieces) q) as (λ t. covers (paths_of pieces) q ≡ t → lookup a q ≡ lookup b q) [
      | true ↦ λ covered.
          let at = covering pieces q covered in
          let rest = drop (length at.0.path) q in
          ap (lookup a) at.2 ∙ x.put at.0 rest at.1 ∙ sym (y.put at.0 rest at.1) ∙ sym (ap (lookup b) at.2)
      | false ↦ λ out. elim (is_above pieces q) as (λ t. is_above pieces q ≡ t → lookup a q ≡ lookup b q) [
        | true ↦ λ high. x.above q out high ∙ sym (y.above q out high)
        | false ↦ λ low. x.elsewhere q out low ∙ sym (y.elsewhere q out low)
      ] refl
    ] refl)

still_open : {C : Type 0} (gone : Bool) (o : Option (Entry C)) → is_non_directory_at o ≡ false → is_non_directory_at (cond gone None o) ≡ false
still_open true o opens = refl
still_open false o opens = opens

pub pieces_may : {C : Type 0} → PiecesMayBePut C
pieces_may root items pieces are none below opens = record {
  each = are.each;
  apart = λ p met. none p (meets_another (subst (λ ps. MeetsAnother ps p) are.paths met));
  below_root = ap (λ ps. is_among ps []) are.paths ∙ below;
  opens = λ p q among proper. still_open (covers items.removed q) (lookup root q) (opens p (sym (ap (λ ps. is_among ps p) are.paths) ∙ among) q proper);
}

meets_by : (ps : List (List (List ℕ))) (a path : List (List ℕ)) → is_among ps path ≡ true → are_related a path ≡ true → meets ps a ≡ true
meets_by ps a path among related = among_any (λ p. are_related p a) ps path among (related_back path a ∙ related)

-- where no piece is related to a path, what is at and below it is neither in nor above one
clear_of : {C : Type 0} (pieces : List (Piece C)) (path rest : List (List ℕ)) → ((a : List (List ℕ)) → is_among (paths_of pieces) a ≡ true → are_related a path ≡ true → ⊥)
    → (covers (paths_of pieces) (path ++ rest) ≡ false) × (is_above pieces (path ++ rest) ≡ false)
clear_of pieces path rest apart = (
  false_from_ne_true (covers (paths_of pieces) (path ++ rest)) (λ covered.
      let a = any_among (λ p. is_prefix p (path ++ rest)) (paths_of pieces) covered in
      apart a.0 a.1 (prefixes_related a.0 path (path ++ rest) a.2 (prefix_append path rest))),
  and_right (not (is_root (path ++ rest))) _ (false_from_ne_true (list_any (λ p. is_proper_prefix (path ++ rest) p) (paths_of pieces)) (λ above.
      let b = any_among (λ p. is_proper_prefix (path ++ rest) p) (paths_of pieces) above in
      let below = prefix_trans path (path ++ rest) b.0 (prefix_append path rest) (and_parts (is_prefix (path ++ rest) b.0) _ b.2).0 in
      apart b.0 b.1 (related_back b.0 path ∙ or_left _ _ below))),
)

pub staying_stays : {C : Type 0} → StayingStays C
staying_stays root items pieces new path rest are none is among =
    let clear = clear_of pieces path rest (λ a of_pieces related.
    none a (written_meets (sym (ap (λ ps. is_among ps a) are.paths) ∙ of_pieces) (meets_by (items.removed ++ items.staying) a path (among_right items.removed items.staying path among) related))) in
    let gone = false_from_ne_true (covers items.removed (path ++ rest)) (λ covered.
    let a = any_among (λ p. is_prefix p (path ++ rest)) items.removed covered in
    none a.0 (removed_meets a.1 (meets_by (written items ++ items.staying) a.0 path (among_right (written items) items.staying path among) (prefixes_related a.0 path (path ++ rest) a.2 (prefix_append path rest))))) in
    is.elsewhere (path ++ rest) clear.0 clear.1 ∙ ap (λ b. cond b None (lookup root (path ++ rest))) gone

pub removed_goes : {C : Type 0} → RemovedGoes C
removed_goes root items pieces new path rest are none is among =
    let clear = clear_of pieces path rest (λ a of_pieces related.
    none a (written_meets (sym (ap (λ ps. is_among ps a) are.paths) ∙ of_pieces) (meets_by (items.removed ++ items.staying) a path (among_left items.removed items.staying path among) related))) in
    is.elsewhere (path ++ rest) clear.0 clear.1
    ∙ ap (λ b. cond b None (lookup root (path ++ rest))) (among_any (λ p. is_prefix p (path ++ rest)) items.removed path among (prefix_append path rest))

pub pieces_stand : {C : Type 0} → PiecesStand C
pieces_stand root removed pieces new piece is at = (
  λ rest. is.put piece rest at,
  λ prefix some proper.
      let there = subst (λ r. is_some (lookup new r) ≡ true) (append-nil piece.path) (ap is_some (is.put piece [] at)) in
      directory_dir new prefix (some_name prefix some)
      (prefixes new is.tree prefix piece.path there (and_parts (is_prefix prefix piece.path) _ proper).0 ((proper_first prefix piece.path).0 proper).1),
)

pub others_stay : {C : Type 0} → OthersStay C
others_stay root removed pieces new path e is kept out at =
    let left : left_at root removed path ≡ Some e = ap (λ b. cond b None (lookup root path)) kept ∙ at in
    elim (is_above pieces path) as (λ b. is_above pieces path ≡ b → lookup new path ≡ Some e) [
      | true ↦ λ high. is.above path out high ∙ ap or_made left
      | false ↦ λ low. is.elsewhere path out low ∙ left
    ] refl
