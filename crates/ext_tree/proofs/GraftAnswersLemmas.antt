-- What a graft answers: the tree with the part hung into it, or the first of its refusals.
use Rattle.std.proofs.Common.{◌≡◌, ℕ, ◌<◌, ◌≤◌, true, List, [], ◌∷◌, ◌++◌, length, Result, Ok, Err, is_some, sym, ap, ◌∙◌, subst, map, append_assoc, arith}
use Rattle.std.specs.Prelude.{OnErr, OnOk}
use Rattle.std.specs.List.{AllByRecursion}
use Rattle.std.proofs.lemmas.Bool.{false≢true}
use Rattle.std.proofs.lemmas.List.{map-append}
use Rattle.ext_text.specs.Path.{IsPath, is_proper_prefix}
use Rattle.ext_text.proofs.ForCallers.{all_append}
use Rattle.ext_tree.specs.declared.entry.Entry.{Entry}
use Rattle.ext_tree.specs.declared.tree.TreeErr.{TreeErr}
use Rattle.ext_tree.specs.declared.tree.TreeErr.TheVariants.{OutOfMemory, Exists, NotDirectory, Limit, Path}
use Rattle.ext_tree.specs.Graft.{AnswersGraft, Fits, IsGraft, IsTooLong}
use Rattle.ext_tree.specs.Grafting.{AnswersLimit, IsLongPath, StandsBelow, added, hung, joined}
use Rattle.ext_tree.specs.Tree.{Entries, IsTree, IsTreeWithin, lookup, most_entries}
use Rattle.ext_tree.proofs.GraftedLemmas.{tree_grafted}
use Rattle.ext_tree.proofs.GraftJoinLemmas.{joined_grafted, open_above}
use Rattle.ext_tree.proofs.GraftOrderLemmas.{sorted_joined}

pub hung_more : {C : Type 0} (p : List (List ℕ)) (first old new done : Entries C) (e : List (List ℕ) × Entry C) → old ≡ first ++ map (hung p) done → new ≡ old ++ hung p e ∷ [] → new ≡ first ++ map (hung p) (done ++ e ∷ [])
hung_more p first old new done e so_far push =
    push ∙ ap (λ es. es ++ hung p e ∷ []) so_far ∙ append_assoc first (map (hung p) done) (hung p e ∷ []) ∙ ap (λ es. first ++ es) (sym (map-append (hung p) done (e ∷ [])))

pub fits_more : {C : Type 0} (p : List (List ℕ)) (done : Entries C) (e : List (List ℕ) × Entry C) → AllByRecursion (λ x. IsPath (p ++ x.0)) done → IsPath (p ++ e.0) → AllByRecursion (λ x. IsPath (p ++ x.0)) (done ++ e ∷ [])
fits_more p done e so_far path = all_append (λ x. IsPath (p ++ x.0)) done (e ∷ []) so_far (path, tt)

no_proper : (q : List (List ℕ)) → is_proper_prefix q [] ≡ true → ⊥
no_proper [] proper = false≢true proper
no_proper (n ∷ q) proper = false≢true proper

pub graft_root : {C : Type 0} (es u new : Entries C) (p : List (List ℕ)) → p ≡ [] → new ≡ u → IsTreeWithin new → IsGraft es p u new
graft_root es u new p top same is = subst (λ r. IsGraft es r u new) (sym top) (record { tree = is.tree; each = λ q. ap (λ fs. lookup fs q) same })

pub root_answers : {T C : Type 0} (es u new : Entries C) (p : List (List ℕ)) (done : T) → p ≡ [] → new ≡ u → IsTreeWithin new → AnswersGraft {T = T} es p u (Ok done)
root_answers es u new p done top same is = (
  λ q proper. absurd (no_proper q (subst (λ r. is_proper_prefix q r ≡ true) top proper)),
  λ q there. subst (λ r. IsPath (r ++ q)) (sym top) (is.tree.paths q (subst (λ fs. is_some (lookup fs q) ≡ true) (sym same) there)),
  (new, graft_root es u new p top same is, is.count),
)

-- where a path grows too long
pub long_answers : (T : Type 0) {C : Type 0} (es u : Entries C) (p : List (List ℕ)) (standing : ℕ) (e : TreeErr) → IsTree es → StandsBelow es p standing → IsLongPath (IsTooLong p u) e → AnswersGraft {T = T} es p u (Err e)
long_answers T es u p standing OutOfMemory tree stand long = tt
long_answers T es u p standing Exists tree stand long = long
long_answers T es u p standing NotDirectory tree stand long = absurd long
long_answers T es u p standing Path tree stand long = (open_above es p standing tree stand, long)
long_answers T es u p standing Limit tree stand long = absurd long

-- what is joined is the graft
joined_graft : {C : Type 0} (es u : Entries C) (p : List (List ℕ)) (standing : ℕ) → IsTree es → IsTree u → IsPath p → StandsBelow es p standing → Fits p u → IsGraft es p u (joined p es (added p standing u))
joined_graft es u p standing tree part path stand fits = record {
  tree = tree_grafted es u (joined p es (added p standing u)) p tree part path (omega (arith, stand.not_all)) (open_above es p standing tree stand) fits (sorted_joined es u p standing tree part stand) (λ q. joined_grafted es u p q standing tree stand);
  each = λ q. joined_grafted es u p q standing tree stand;
}

-- what the last step leaves: the graft where it is done, and else the tree as before
pub record IsHung {C : Type 0} (es : Entries C) (p : List (List ℕ)) (u : Entries C) (standing : ℕ) : Type 0 where
  pub tree : IsTreeWithin es
  pub part : IsTree u
  pub path : IsPath p
  pub stand : StandsBelow es p standing
  pub fits : Fits p u

pub hung_within : {T C : Type 0} (es u new left : Entries C) (p : List (List ℕ)) (standing : ℕ) (r : Result T TreeErr) → IsHung es p u standing → new ≡ added p standing u → OnOk r (left ≡ joined p es new) → AnswersLimit (length (joined p es new)) r → OnErr r (left ≡ es) → IsTreeWithin left
hung_within es u new left p standing (Ok done) is added_ ok limit err =
    subst IsTreeWithin (sym (ok ∙ ap (joined p es) added_))
    (record { tree = (joined_graft es u p standing is.tree.tree is.part is.path is.stand is.fits).tree; count = subst (λ n. length (joined p es n) ≤ most_entries) added_ limit })
hung_within es u new left p standing (Err e) is added_ ok limit err = subst IsTreeWithin (sym err) is.tree

pub hung_graft : {T C : Type 0} (es u new left : Entries C) (p : List (List ℕ)) (standing : ℕ) (r : Result T TreeErr) → IsHung es p u standing → new ≡ added p standing u → OnOk r (left ≡ joined p es new) → OnOk r (IsGraft es p u left)
hung_graft es u new left p standing (Ok done) is added_ ok =
    subst (IsGraft es p u) (sym (ok ∙ ap (joined p es) added_)) (joined_graft es u p standing is.tree.tree is.part is.path is.stand is.fits)
hung_graft es u new left p standing (Err e) is added_ ok = tt

pub hung_answers : {T C : Type 0} (es u new : Entries C) (p : List (List ℕ)) (standing : ℕ) (r : Result T TreeErr) → IsHung es p u standing → new ≡ added p standing u → AnswersLimit (length (joined p es new)) r → AnswersGraft es p u r
hung_answers es u new p standing (Ok done) is added_ limit = (
  open_above es p standing is.tree.tree is.stand,
  is.fits,
  (joined p es (added p standing u), joined_graft es u p standing is.tree.tree is.part is.path is.stand is.fits, subst (λ n. length (joined p es n) ≤ most_entries) added_ limit),
)
hung_answers es u new p standing (Err OutOfMemory) is added_ limit = tt
hung_answers es u new p standing (Err Exists) is added_ limit = limit
hung_answers es u new p standing (Err NotDirectory) is added_ limit = absurd limit
hung_answers es u new p standing (Err Path) is added_ limit = absurd limit
hung_answers es u new p standing (Err Limit) is added_ limit = (
  open_above es p standing is.tree.tree is.stand,
  is.fits,
  (joined p es (added p standing u), joined_graft es u p standing is.tree.tree is.part is.path is.stand is.fits, subst (λ n. most_entries < length (joined p es n)) added_ limit),
)
