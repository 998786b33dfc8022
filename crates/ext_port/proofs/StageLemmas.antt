-- What is attached, one refusal after the other.
use Rattle.std.proofs.Common.{◌≡◌, ◌||◌, ℕ, Bool, List, [], ◌++◌, Option, Some, None, Ok, Err, inl, inr, refl, sym, ap, ◌∙◌, subst}
use Rattle.std.specs.Prelude.{IfOk, Result}
use Rattle.std.specs.List.{list_any}
use Rattle.std.specs.List.Sorted.{IsStrictlySortedBy}
use Rattle.std.proofs.lemmas.List.Folds.{list_any-append}
use Rattle.ext_text.specs.Path.{path_cmp}
use Rattle.ext_text.specs.declared.which.Which.{Which}
use Rattle.ext_tree.specs.Graft.{is_non_directory_at}
use Rattle.ext_tree.specs.Tree.{Entries, lookup}
use Rattle.ext_host.specs.Held.{HeldFile}
use Rattle.ext_host.specs.Planning.{IsPlannedHost}
use Rattle.ext_host.specs.Valid.{IsValidHost}
use Rattle.ext_host.specs.declared.host.Host.{Host}
use Rattle.ext_updated.specs.Pieces.{MayBePut}
use Rattle.ext_updated.specs.Updated.{IsPieceTooLong, IsUpdated, PieceFits}
use Rattle.ext_attached.specs.Least.{FindsLeast, NonePasses}
use Rattle.ext_attached.proofs.ForCallers.{least_moved}
use Rattle.ext_added.specs.Added.{pieces_of}
use Rattle.ext_added.specs.Tops.{FitsAttaching, tops_of, ways_of}
use Rattle.ext_added.specs.declared.ask.Ask.{Ask}
use Rattle.ext_added.specs.declared.attaching.Attaching.{Attaching}
use Rattle.ext_added.proofs.ForCallers.{may_put, no_top_root}
use Rattle.ext_port.specs.Given.{HasPaths, IsSoundMade}
use Rattle.ext_port.specs.Limits.{first_limit, new_bytes}
use Rattle.ext_port.specs.Steps.{PutWants, RootWants}
use Rattle.ext_port.specs.Wants.{BarMemory, FitsAll, FittingWants, SizedWants}
use Rattle.ext_port.specs.declared.attaching.Attach.{Attach}
use Rattle.ext_port.specs.declared.errors.PortErr.{PortErr}
use Rattle.ext_port.proofs.ContainLemmas.{all_contained}
use Rattle.ext_port.proofs.NextLemmas.{next_is_planned, none_passed}

-- what holds of what is attached, where only a lack of memory comes in its place
pub bar_if_ok : (P : Result Attach PortErr → Type 0) (Q : Attach → Type 0) → ((r : Result Attach PortErr) → P r → IfOk r Q) → (r : Result Attach PortErr) → BarMemory P r → IfOk r Q
bar_if_ok P Q more (Ok attach) is = more (Ok attach) is
bar_if_ok P Q more (Err e) is = tt

-- the least path of some paths, copied, is that of the same paths in another list
pub least_copied : {E : Type 0} (test : List (List ℕ) → Bool) (from to : List (List (List ℕ))) → HasPaths to from → (o : Option (List (List ℕ))) → FindsLeast test from o
    → (r : Result (Option (List (List ℕ))) E) → IfOk r (λ copy. copy ≡ o) → IfOk r (FindsLeast test to)
least_copied test from to has o found (Ok copy) same = subst (FindsLeast test to) (sym same) (least_moved test from to o has found)
least_copied test from to has o found (Err e) same = tt

-- paths that are looked at after some others may stand in any order
pub least_of_same : (test : List (List ℕ) → Bool) (cut from to : List (List (List ℕ))) → HasPaths to from → (o : Option (List (List ℕ))) → FindsLeast test (cut ++ from) o → FindsLeast test (cut ++ to) o
least_of_same test cut from to has o found =
    least_moved test (cut ++ from) (cut ++ to) o (λ t. list_any-append t cut from ∙ ap (λ b. list_any t cut || b) (has t) ∙ sym (list_any-append t cut to)) found

module _ (start : Host) (ask : Ask) (made : Attaching) (image tree : Entries HeldFile) (sound : IsSoundMade start made image tree) where
  -- the pieces may be put where nothing but directories stands above
  pub may_be_put : lookup start.root [] ≡ None → NonePasses (λ path. is_non_directory_at (lookup start.root path)) (ways_of made) → MayBePut start.root [] (pieces_of made image tree)
  may_be_put top open_ = may_put made sound.sorted sound.unit_names start.root top open_ image tree

  module _ (fits : FitsAttaching made) (tops : List (List (List ℕ))) (has : HasPaths (tops_of made) tops) (order : IsStrictlySortedBy path_cmp tops) where
    sized : (root : Entries HeldFile) (o : Option Which) (r : Result Attach PortErr) → RootWants start ask made tops root o r → SizedWants start ask image tree made root o r
    sized root None r is = (tops, record { order = order; same = has }, is)
    sized root (Some which) r is = is

    -- a piece that is too long doesn't fit
    too_long : IsPieceTooLong (pieces_of made image tree) → ¬ FitsAll made image tree
    too_long long all = long.2.2 (all_contained PieceFits (pieces_of made image tree) long.0 all.below long.1 long.2.0 long.2.1)

    pub fitting_wants : (r : Result Attach PortErr) → PutWants start ask made (pieces_of made image tree) tops r → FittingWants start ask image tree made r
    fitting_wants r (inl put) = inl (record { made_fits = fits; below = put.0 }, (put.1.0, put.1.1, sized put.1.0 (first_limit (new_bytes made) put.1.0 start.lower) r put.1.2))
    fitting_wants r (inr long) = inr (too_long long.0, long.1)

    module _ (valid : IsValidHost start) where
      root_planned : (root : Entries HeldFile) → IsUpdated start.root [] (pieces_of made image tree) root → (o : Option Which) → first_limit (new_bytes made) root start.lower ≡ o
          → (r : Result Attach PortErr) → RootWants start ask made tops root o r → IfOk r (λ attach. IsPlannedHost start attach.plan.next)
      root_planned root updated None within r is =
          subst (λ x. IfOk x (λ (attach : Attach). IsPlannedHost start attach.plan.next)) (sym is)
          (next_is_planned start ask made image tree root tops valid sound fits updated has (none_passed (new_bytes made) root start.lower within) order (no_top_root made))
      root_planned root updated (Some which) passed r is = subst (λ x. IfOk x (λ (attach : Attach). IsPlannedHost start attach.plan.next)) (sym is) tt

      pub put_planned : (r : Result Attach PortErr) → PutWants start ask made (pieces_of made image tree) tops r → IfOk r (λ attach. IsPlannedHost start attach.plan.next)
      put_planned r (inl put) = root_planned put.1.0 put.1.1 (first_limit (new_bytes made) put.1.0 start.lower) refl r put.1.2
      put_planned r (inr long) = subst (λ x. IfOk x (λ (attach : Attach). IsPlannedHost start attach.plan.next)) (sym long.1) tt
