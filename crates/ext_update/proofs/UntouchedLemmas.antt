-- What is not touched stands as before.
use Rattle.std.proofs.Common.{◌≡◌, ℕ, true, false, cond, not, List, ◌++◌, None, ap, ◌∙◌, sym}
use Rattle.std.specs.List.{list_any}
use Rattle.std.proofs.lemmas.Bool.{and_parts, false_from_ne_true, or_right, true≢false}
use Rattle.ext_text.specs.Path.{are_related, is_prefix, is_proper_prefix}
use Rattle.ext_text.specs.SortedPaths.{covers, meets}
use Rattle.ext_text.proofs.ForCallers.{prefix_trans}
use Rattle.ext_tree.specs.Refusals.{is_root}
use Rattle.ext_tree.specs.Tree.{lookup}
use Rattle.ext_tree.proofs.ForCallers.{prefix_append}
use Rattle.ext_updated.specs.Items.{written}
use Rattle.ext_updated.specs.Pieces.{is_above, paths_of}
use Rattle.ext_updated.proofs.ForCallers.{among_any, among_left, among_right, any_among, prefixes_related}
use Rattle.ext_update.specs.Laws.{OtherPartsStay, UntouchedStand}
use Rattle.ext_update.specs.Stages.{items_of, written_pieces}
use Rattle.ext_update.proofs.LawsLemmas.{is_wanted, pieces_written}

-- what is at or below a path that is related to none of them is at or below none, and above none
none_covers : (ps : List (List (List ℕ))) (path q : List (List ℕ)) → meets ps path ≡ false → is_prefix path q ≡ true → covers ps q ≡ false
none_covers ps path q apart below =
    false_from_ne_true (covers ps q) (λ covered.
    let a = any_among (λ p. is_prefix p q) ps covered in
    true≢false (sym (among_any (λ p. are_related p path) ps a.0 a.1 (prefixes_related a.0 path q a.2 below)) ∙ apart))

none_below : (ps : List (List (List ℕ))) (path q : List (List ℕ)) → meets ps path ≡ false → is_prefix path q ≡ true → list_any (λ p. is_proper_prefix q p) ps ≡ false
none_below ps path q apart below =
    false_from_ne_true (list_any (λ p. is_proper_prefix q p) ps) (λ over.
    let b = any_among (λ p. is_proper_prefix q p) ps over in
    let proper = and_parts (is_prefix q b.0) (not (is_prefix b.0 q)) b.2 in
    true≢false (sym (among_any (λ p. are_related p path) ps b.0 b.1 (or_right _ _ (prefix_trans path q b.0 below proper.0))) ∙ apart))

-- none of two lists is related to it
both_apart : (ps qs : List (List (List ℕ))) (path : List (List ℕ)) → meets (ps ++ qs) path ≡ false → (meets ps path ≡ false) × (meets qs path ≡ false)
both_apart ps qs path apart = (
  false_from_ne_true (meets ps path) (λ met.
      let a = any_among (λ p. are_related p path) ps met in
      true≢false (sym (among_any (λ p. are_related p path) (ps ++ qs) a.0 (among_left ps qs a.0 a.1) a.2) ∙ apart)),
  false_from_ne_true (meets qs path) (λ met.
      let a = any_among (λ p. are_related p path) qs met in
      true≢false (sym (among_any (λ p. are_related p path) (ps ++ qs) a.0 (among_right ps qs a.0 a.1) a.2) ∙ apart)),
)

pub untouched_stand : UntouchedStand
untouched_stand host next writes path wants apart rest =
    let is = is_wanted host writes next wants in
    let q = path ++ rest in
    let pieces = written_pieces writes in
    let below : is_prefix path q ≡ true = prefix_append path rest in
    let both = both_apart (written (items_of writes)) writes.removed path apart in
    let out : meets (paths_of pieces) path ≡ false = ap (λ ps. meets ps path) (pieces_written writes is.fits) ∙ both.0 in
    let above : is_above pieces q ≡ false =
    false_from_ne_true (is_above pieces q) (λ over.
    let parts = and_parts (not (is_root q)) (list_any (λ p. is_proper_prefix q p) (paths_of pieces)) over in
    true≢false (sym parts.1 ∙ none_below (paths_of pieces) path q out below)) in
    is.updated.elsewhere q (none_covers (paths_of pieces) path q out below) above
    ∙ ap (λ b. cond b None (lookup host.root q)) (none_covers writes.removed path q both.1 below)

pub other_parts_stay : OtherPartsStay
other_parts_stay host next writes wants = (is_wanted host writes next wants).rest
