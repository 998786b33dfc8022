-- What marked lists say at each path: an upper list laid over a lower one says what the upper one says, and where
-- nothing is there what the lower one says.
use Rattle.std.proofs.Common.{◌≡◌, ℕ, Bool, true, false, cond, not, ◌||◌, T, List, [], ◌∷◌, Option, Some, None, refl, sym, ap, ◌∙◌, subst}
use Rattle.std.proofs.Math.Bool.{or-false}
use Rattle.std.proofs.lemmas.Bool.{false≢true, false_from_ne_true, and_parts}
use Rattle.std.proofs.lemmas.Float.{T_from_true}
use Rattle.std.specs.Ordering.{eq_by_cmp}
use Rattle.std.specs.FinMap.{find, is_sorted}
use Rattle.std.specs.FinMap.Entries.{below_all, where_key, find-put, find-where_key, is_sorted-put, is_sorted-where_key}
use Rattle.ext_text.specs.Path.{path_cmp, is_prefix}
use Rattle.ext_text.specs.Order.{paths_exact, paths_total}
use Rattle.ext_text.proofs.ForCallers.{true_from_T}
use Rattle.ext_text.proofs.ForCallers.{same_path, tied_path, prefix_self, prefix_trans}
use Rattle.ext_tree.specs.Tree.{as_shown, is_hide}
use Rattle.ext_tree.specs.declared.entry.Entry.{Entry}
use Rattle.ext_layer.specs.Overlay.{Marked, MarkedEntries, Overlay, visible, hidden, absent, first_of_two, some_prefix, cuts_at, overlay_of, overlay_at, said_by, hides, over_entry, lay, over}
use Rattle.ext_layer.proofs.Prefixes.{not_found, some_prefix-same, some_prefix-none, some_prefix-at, some_prefix-or}

pub first_assoc : {C : Type 0} (a b c : Overlay C) → first_of_two (first_of_two a b) c ≡ first_of_two a (first_of_two b c)
first_assoc (visible e) b c = refl
first_assoc hidden b c = refl
first_assoc absent b c = refl

module _ {C : Type 0} where
  -- what an entry says decides
  said_first : (e : Entry C) (w : Overlay C) → first_of_two (said_by e) w ≡ said_by e
  said_first e w = elim (is_hide e) as (λ b. first_of_two (cond b hidden (visible (as_shown e))) w ≡ cond b hidden (visible (as_shown e))) [ true ↦ refl | false ↦ refl ]

  -- the mark of an entry that is laid over a list
  abbrev laid : List (List ℕ) × Marked C → MarkedEntries C → Marked C
  laid u ls = over_entry u.1 (find path_cmp u.0 ls)

  -- what an entry laid over a list leaves of each look-up
  find_lay : (u : List (List ℕ) × Marked C) (ls : MarkedEntries C) (q : List (List ℕ)) → find path_cmp q (lay u ls) ≡ cond (eq_by_cmp path_cmp q u.0) (Some (laid u ls)) (cond (not (hides u q)) (find path_cmp q ls) None)
  find_lay u ls q =
      find-put path_cmp paths_total q u.0 (laid u ls) (where_key path_cmp (λ p. not (hides u p)) ls)
      ∙ ap (cond (eq_by_cmp path_cmp q u.0) (Some (laid u ls))) (find-where_key path_cmp (λ p. not (hides u p)) q (λ x e. ap (λ z. not (hides u z)) (sym (paths_exact q x e))) ls)

  -- a path that an entry hides, other than its own, lies below an entry that cuts
  hidden_below : (u : List (List ℕ) × Marked C) (p : List (List ℕ)) → eq_by_cmp path_cmp p u.0 ≡ false → hides u p ≡ true → (u.1.cuts ≡ true) × (is_prefix u.0 p ≡ true)
  hidden_below u p apart =
      elim u.1.cuts as (λ c. cond c (is_prefix u.0 p) (eq_by_cmp path_cmp p u.0) ≡ true → (c ≡ true) × (is_prefix u.0 p ≡ true)) [
        | true ↦ λ h. (refl, h)
        | false ↦ λ h. absurd (false≢true (sym apart ∙ h))
      ]

  -- an entry that cuts hides each path that it is a prefix of
  hides_below : (u : List (List ℕ) × Marked C) (p : List (List ℕ)) → u.1.cuts ≡ true → is_prefix u.0 p ≡ true → hides u p ≡ true
  hides_below u p c f = ap (λ b. cond b (is_prefix u.0 p) (eq_by_cmp path_cmp p u.0)) c ∙ f

  -- below an entry that does not hide a path, no prefix of the path is cut by it
  not_cut_here : (u : List (List ℕ) × Marked C) (p q : List (List ℕ)) → hides u p ≡ false → is_prefix q p ≡ true → eq_by_cmp path_cmp q u.0 ≡ true → u.1.cuts ≡ false
  not_cut_here u p q bare f t =
      false_from_ne_true u.1.cuts (λ c. false≢true (sym bare ∙ hides_below u p c (subst (λ z. is_prefix z p ≡ true) (same_path q u.0 t) f)))

  not_hidden_here : (u : List (List ℕ) × Marked C) (p q : List (List ℕ)) → hides u p ≡ false → is_prefix q p ≡ true → eq_by_cmp path_cmp q u.0 ≡ false → hides u q ≡ false
  not_hidden_here u p q bare f apart =
      false_from_ne_true (hides u q) (λ h. let x = hidden_below u q apart h in false≢true (sym bare ∙ hides_below u p x.0 (prefix_trans u.0 q p x.1 f)))

  same_cut : (u : List (List ℕ) × Marked C) (ls : MarkedEntries C) (p q : List (List ℕ)) → hides u p ≡ false → is_prefix q p ≡ true → cuts_at (find path_cmp q (lay u ls)) ≡ cuts_at (find path_cmp q ls)
  same_cut u ls p q bare f =
      ap cuts_at (find_lay u ls q)
      ∙ elim (eq_by_cmp path_cmp q u.0) as (λ b. eq_by_cmp path_cmp q u.0 ≡ b → cuts_at (cond b (Some (laid u ls)) (cond (not (hides u q)) (find path_cmp q ls) None)) ≡ cuts_at (find path_cmp q ls)) [
        | true ↦ λ t. ap (λ b. b || cuts_at (find path_cmp u.0 ls)) (not_cut_here u p q bare f t) ∙ ap (λ z. cuts_at (find path_cmp z ls)) (sym (same_path q u.0 t))
        | false ↦ λ t. ap (λ b. cuts_at (cond (not b) (find path_cmp q ls) None)) (not_hidden_here u p q bare f t)
      ] refl

  no_cut : (u : List (List ℕ) × Marked C) (p q : List (List ℕ)) → hides u p ≡ false → is_prefix q p ≡ true → cuts_at (find path_cmp q (u ∷ [])) ≡ false
  no_cut u p q bare f =
      elim (eq_by_cmp path_cmp q u.0) as (λ b. eq_by_cmp path_cmp q u.0 ≡ b → cuts_at (cond b (Some u.1) None) ≡ false) [
        | true ↦ λ t. not_cut_here u p q bare f t
        | false ↦ λ t. refl
      ] refl

  cut_by_laid : (u : List (List ℕ) × Marked C) (ls : MarkedEntries C) → u.1.cuts ≡ true → cuts_at (find path_cmp u.0 (lay u ls)) ≡ true
  cut_by_laid u ls c =
      ap cuts_at (find_lay u ls u.0)
      ∙ ap (λ b. cuts_at (cond b (Some (laid u ls)) (cond (not (hides u u.0)) (find path_cmp u.0 ls) None))) (tied_path u.0 u.0 refl)
      ∙ ap (λ b. b || cuts_at (find path_cmp u.0 ls)) c

  cut_by_one : (u : List (List ℕ) × Marked C) → u.1.cuts ≡ true → cuts_at (find path_cmp u.0 (u ∷ [])) ≡ true
  cut_by_one u c = ap (λ b. cuts_at (cond b (Some u.1) None)) (tied_path u.0 u.0 refl) ∙ c

  -- one entry laid over a list says what it says alone, and else what the list says
  pub lay_overlay : (u : List (List ℕ) × Marked C) (ls : MarkedEntries C) (p : List (List ℕ)) → overlay_at (lay u ls) p ≡ first_of_two (overlay_at (u ∷ []) p) (overlay_at ls p)
  lay_overlay u ls p =
      let cut_laid = some_prefix (λ q. cuts_at (find path_cmp q (lay u ls))) p in
      let cut_one = some_prefix (λ q. cuts_at (find path_cmp q (u ∷ []))) p in
      let cut_list = some_prefix (λ q. cuts_at (find path_cmp q ls)) p in
      let over_it : (h : Bool) → hides u p ≡ h → eq_by_cmp path_cmp p u.0 ≡ false → overlay_of (cond (not h) (find path_cmp p ls) None) cut_laid ≡ first_of_two (overlay_of None cut_one) (overlay_of (find path_cmp p ls) cut_list) = elim [
        | true ↦ λ h apart.
            let x = hidden_below u p apart h in
            let both : cut_laid ≡ true = some_prefix-at (λ q. cuts_at (find path_cmp q (lay u ls))) u.0 p x.1 (cut_by_laid u ls x.0) in
            let one : cut_one ≡ true = some_prefix-at (λ q. cuts_at (find path_cmp q (u ∷ []))) u.0 p x.1 (cut_by_one u x.0) in
            ap (overlay_of None) both ∙ ap (λ b. first_of_two (overlay_of None b) (overlay_of (find path_cmp p ls) cut_list)) (sym one)
        | false ↦ λ h apart.
            let both : cut_laid ≡ cut_list = some_prefix-same _ _ p (λ q f. same_cut u ls p q h f) in
            let one : cut_one ≡ false = some_prefix-none _ p (λ q f. no_cut u p q h f) in
            ap (overlay_of (find path_cmp p ls)) both ∙ ap (λ b. first_of_two (overlay_of None b) (overlay_of (find path_cmp p ls) cut_list)) (sym one)
      ] in
      ap (λ o. overlay_of o cut_laid) (find_lay u ls p)
      ∙ elim (eq_by_cmp path_cmp p u.0) as (λ b. eq_by_cmp path_cmp p u.0 ≡ b → overlay_of (cond b (Some (laid u ls)) (cond (not (hides u p)) (find path_cmp p ls) None)) cut_laid ≡ first_of_two (overlay_of (cond b (Some u.1) None) cut_one) (overlay_of (find path_cmp p ls) cut_list)) [
        | true ↦ λ t. sym (said_first u.1.entry (overlay_of (find path_cmp p ls) cut_list))
        | false ↦ λ t. over_it (hides u p) refl t
      ] refl

  overlay_of_or : (o : Option (Marked C)) (a b : Bool) → overlay_of o (a || b) ≡ first_of_two (overlay_of o a) (overlay_of None b)
  overlay_of_or (Some x) a b = sym (said_first x.entry (overlay_of None b))
  overlay_of_or None true b = refl
  overlay_of_or None false b = refl

  -- the first of the entries in order says something only where the later ones say nothing
  pub cons_overlay : (u : List (List ℕ) × Marked C) (us : MarkedEntries C) (p : List (List ℕ)) → T (below_all path_cmp u.0 us) → overlay_at (u ∷ us) p ≡ first_of_two (overlay_at us p) (overlay_at (u ∷ []) p)
  cons_overlay u us p below =
      let gone : (q : List (List ℕ)) → is_prefix q u.0 ≡ true → find path_cmp q us ≡ None = λ q f. not_found u.0 q f us below in
      let here : (q : List (List ℕ)) → eq_by_cmp path_cmp q u.0 ≡ true → find path_cmp q us ≡ None = λ q t. gone q (subst (λ z. is_prefix q z ≡ true) (same_path q u.0 t) (prefix_self q)) in
      let cut_rest = some_prefix (λ q. cuts_at (find path_cmp q us)) p in
      let cut_one = some_prefix (λ q. cuts_at (find path_cmp q (u ∷ []))) p in
      let each : (q : List (List ℕ)) → cuts_at (find path_cmp q (u ∷ us)) ≡ (cuts_at (find path_cmp q us) || cuts_at (find path_cmp q (u ∷ []))) = λ q. elim (eq_by_cmp path_cmp q u.0) as (λ b. eq_by_cmp path_cmp q u.0 ≡ b → cuts_at (cond b (Some u.1) (find path_cmp q us)) ≡ (cuts_at (find path_cmp q us) || cuts_at (cond b (Some u.1) None))) [
        | true ↦ λ t. ap (λ o. cuts_at o || u.1.cuts) (sym (here q t))
        | false ↦ λ t. sym (or-false (cuts_at (find path_cmp q us)))
      ] refl in
      let cut_both : some_prefix (λ q. cuts_at (find path_cmp q (u ∷ us))) p ≡ (cut_rest || cut_one) = some_prefix-same _ _ p (λ q f. each q) ∙ some_prefix-or (λ q. cuts_at (find path_cmp q us)) (λ q. cuts_at (find path_cmp q (u ∷ []))) p in
      ap (overlay_of (find path_cmp p (u ∷ us))) cut_both
      ∙ elim (eq_by_cmp path_cmp p u.0) as (λ b. eq_by_cmp path_cmp p u.0 ≡ b → overlay_of (cond b (Some u.1) (find path_cmp p us)) (cut_rest || cut_one) ≡ first_of_two (overlay_of (find path_cmp p us) cut_rest) (overlay_of (cond b (Some u.1) None) cut_one)) [
        | true ↦ λ t.
            let rest : cut_rest ≡ false = some_prefix-none _ p (λ q f. ap cuts_at (gone q (subst (λ z. is_prefix q z ≡ true) (same_path p u.0 t) f))) in
            sym ((λ i. first_of_two (overlay_of (here p t i) (rest i)) (said_by u.1.entry)))
        | false ↦ λ t. overlay_of_or (find path_cmp p us) cut_rest cut_one
      ] refl

  pub none_overlay : (p : List (List ℕ)) → overlay_at {C = C} [] p ≡ absent
  none_overlay p = ap (overlay_of None) (some_prefix-none _ p (λ q f. refl))

  -- at each path an upper list in order, laid over a lower one, says what it says, and else what the lower one says
  pub over_overlay : (us ls : MarkedEntries C) (p : List (List ℕ)) → T (is_sorted path_cmp us) → overlay_at (over us ls) p ≡ first_of_two (overlay_at us p) (overlay_at ls p)
  over_overlay [] ls p h = ap (λ v. first_of_two v (overlay_at ls p)) (sym (none_overlay p))
  over_overlay (u ∷ us) ls p h =
      let x = and_parts (below_all path_cmp u.0 us) (is_sorted path_cmp us) (true_from_T _ h) in
      over_overlay us (lay u ls) p (T_from_true _ x.1)
      ∙ ap (first_of_two (overlay_at us p)) (lay_overlay u ls p)
      ∙ sym (first_assoc (overlay_at us p) (overlay_at (u ∷ []) p) (overlay_at ls p))
      ∙ ap (λ v. first_of_two v (overlay_at ls p)) (sym (cons_overlay u us p (T_from_true _ x.0)))

  pub sorted_over : (us ls : MarkedEntries C) → T (is_sorted path_cmp ls) → T (is_sorted path_cmp (over us ls))
  sorted_over [] ls h = h
  sorted_over (u ∷ us) ls h = sorted_over us (lay u ls) (is_sorted-put path_cmp paths_total u.0 (laid u ls) _ (is_sorted-where_key path_cmp (λ p. not (hides u p)) ls h))
