-- Walks: what a step keeps, where a walk ends, and that its end is no link.
use Rattle.std.proofs.Common.{◌≡◌, ℕ, suc, zero, ◌+◌, Bool, true, false, cond, List, [], ◌∷◌, ◌++◌, Option, Some, None, is_some, refl, sym, ap, ◌∙◌, subst}
use Rattle.std.specs.Prelude.{nat_le}
use Rattle.std.specs.Option.{option_and_then, unwrap_or}
use Rattle.std.proofs.lemmas.Bool.{true≢false, false≢true}
use Rattle.std.proofs.lemmas.List.{append-nil}
use Rattle.ext_text.specs.Path.{parent}
use Rattle.ext_tree.specs.declared.entry.Entry.{Entry}
use Rattle.ext_tree.specs.Tree.{Entries, IsTree, lookup, is_directory_or_root}
use Rattle.ext_tree.proofs.ForCallers.{parent_child}
use Rattle.ext_walk.specs.Walk.{Walk, walk, EndsFrom, enter, follow, is_absolute, is_idle, is_up, most_links, parts, step, steps}
use Rattle.ext_walk.specs.Steps.{Same, SameThen}

abbrev left_of : Walk → List (List ℕ)
left_of (walk at left links) = left

abbrev place_of : Walk → List (List ℕ)
place_of (walk at left links) = at

-- walks that are there alike are the same
pub from_some : {w v : Walk} → Some w ≡ Some v → w ≡ v
from_some {w} {v} same = ap (λ o. unwrap_or o w) same

-- what is there is not absent
pub no_some : {A : Type 0} {x : A} → None ≡ Some x → ⊥
no_some same = false≢true (ap is_some same)

module _ {C : Type 0} (es : Entries C) where
  -- a walk with no name left has ended
  pub at_end : (at : List (List ℕ)) (links : ℕ) → EndsFrom es (walk at [] links) at
  at_end at links = (0, links, refl)

  -- a walk is the same as itself
  pub same_self : (w : Walk) → Same es w w
  same_self w = record { there = λ end ends. ends; back = λ end ends. ends }

  pub same_then : (w v : Walk) (o : Option Walk) → Same es w v → SameThen es v o → SameThen es w o
  same_then w v None first none = λ end ends. none end (first.there end ends)
  same_then w v (Some u) first second = record { there = λ end ends. second.there end (first.there end ends); back = λ end ends. first.back end (second.back end ends) }

  ended_none : (w : Walk) (at : List (List ℕ)) (links : ℕ) → w ≡ walk at [] links → step es w ≡ None
  ended_none w at links same = ap (step es) same

  -- a step keeps the ends
  pub same_step : (w v : Walk) → step es w ≡ Some v → Same es w v
  same_step w v is = record { there = there; back = λ end ends. (suc ends.0, ends.1, ap (option_and_then (steps es ends.0)) is ∙ ends.2) }
    where
      there : (end : List (List ℕ)) → EndsFrom es w end → EndsFrom es v end
      there end (zero, links, ends) = absurd (no_some (sym (ended_none w end links (from_some ends)) ∙ is))
      there end (suc count, links, ends) = (count, links, sym (ap (option_and_then (steps es count)) is) ∙ ends)

  -- where a name is left and no step leads on there is no end
  pub stuck : (at : List (List ℕ)) (name : List ℕ) (left : List (List ℕ)) (links : ℕ) → step es (walk at (name ∷ left) links) ≡ None → (end : List (List ℕ)) → EndsFrom es (walk at (name ∷ left) links) end → ⊥
  stuck at name left links none end (zero, more, ends) = absurd (no_names (ap left_of (from_some ends)))
    where
      no_names : name ∷ left ≡ [] → ⊥
      no_names same = absurd (cc)
  stuck at name left links none end (suc count, more, ends) = absurd (no_some (sym (ap (option_and_then (steps es count)) none) ∙ ends))

  ended : (n : ℕ) (at b : List (List ℕ)) (links more : ℕ) → steps es n (walk at [] links) ≡ Some (walk b [] more) → at ≡ b
  ended zero at b links more ends = ap place_of (from_some ends)
  ended (suc n) at b links more ends = absurd (no_some ends)

  one_end_from : (n m : ℕ) (w : Walk) (a b : List (List ℕ)) (links more : ℕ) → steps es n w ≡ Some (walk a [] links) → steps es m w ≡ Some (walk b [] more) → a ≡ b
  one_end_from zero m w a b links more first second = ended m a b links more (ap (steps es m) (sym (from_some first)) ∙ second)
  one_end_from (suc n) zero w a b links more first second = sym (ended (suc n) b a more links (ap (steps es (suc n)) (sym (from_some second)) ∙ first))
  one_end_from (suc n) (suc m) w a b links more first second =
      elim (step es w) as (λ o. option_and_then (steps es n) o ≡ Some (walk a [] links) → option_and_then (steps es m) o ≡ Some (walk b [] more) → a ≡ b) [
        | None ↦ λ none _. absurd (no_some none)
        | Some v ↦ λ p q. one_end_from n m v a b links more p q
      ] first second

  -- a walk has one end
  pub one_end : (w : Walk) (a b : List (List ℕ)) → EndsFrom es w a → EndsFrom es w b → a ≡ b
  one_end w a b first second = one_end_from first.0 second.0 w a b first.1 second.1 first.2 second.2

  module _ (at : List (List ℕ)) (name : List ℕ) (left : List (List ℕ)) (links : ℕ) where
    up : Option Walk
    up = cond (is_directory_or_root es at) (Some (walk (parent at) left links)) None

    into : Option Walk
    into = cond (is_directory_or_root es at) (enter (lookup es (at ++ name ∷ [])) at name left links) None

    pub step_idle : is_idle name ≡ true → step es (walk at (name ∷ left) links) ≡ Some (walk at left links)
    unfolding up into
    step_idle idle = ap (λ b. cond b (Some (walk at left links)) (cond (is_up name) up into)) idle

    pub step_up : is_idle name ≡ false → is_up name ≡ true → is_directory_or_root es at ≡ true → step es (walk at (name ∷ left) links) ≡ Some (walk (parent at) left links)
    unfolding up into
    step_up plain above directory =
        ap (λ b. cond b (Some (walk at left links)) (cond (is_up name) up into)) plain ∙ ap (λ b. cond b up into) above ∙ ap (λ b. cond b (Some (walk (parent at) left links)) None) directory

    pub step_barred : is_idle name ≡ false → is_up name ≡ true → is_directory_or_root es at ≡ false → step es (walk at (name ∷ left) links) ≡ None
    unfolding up into
    step_barred plain above directory =
        ap (λ b. cond b (Some (walk at left links)) (cond (is_up name) up into)) plain ∙ ap (λ b. cond b up into) above ∙ ap (λ b. cond b (Some (walk (parent at) left links)) None) directory

    -- what stands at the name decides: where something does, it stands in a directory or the root
    pub step_into : IsTree es → is_idle name ≡ false → is_up name ≡ false → step es (walk at (name ∷ left) links) ≡ enter (lookup es (at ++ name ∷ [])) at name left links
    unfolding up into
    step_into tree plain below =
        ap (λ b. cond b (Some (walk at left links)) (cond (is_up name) up into)) plain ∙ ap (λ b. cond b up into) below
        ∙ elim (is_directory_or_root es at) as (λ b. is_directory_or_root es at ≡ b → cond b (enter (lookup es (at ++ name ∷ [])) at name left links) None ≡ enter (lookup es (at ++ name ∷ [])) at name left links) [
          | true ↦ λ _. refl
          | false ↦ λ other. sym (ap (λ o. enter o at name left links) (nothing (lookup es (at ++ name ∷ [])) refl other))
        ] refl
      where
        nothing : (o : Option (Entry C)) → lookup es (at ++ name ∷ []) ≡ o → is_directory_or_root es at ≡ false → o ≡ None
        nothing None is other = refl
        nothing (Some e) is other =
            absurd (true≢false (sym (subst (λ p. is_directory_or_root es p ≡ true) (parent_child at name) (tree.parents (at ++ name ∷ []) (ap is_some is))) ∙ other))

  next_step : (at : List (List ℕ)) (name : List ℕ) (left : List (List ℕ)) (links : ℕ) (o : Option Walk) → step es (walk at (name ∷ left) links) ≡ o → SameThen es (walk at (name ∷ left) links) o
  next_step at name left links None is = stuck at name left links is
  next_step at name left links (Some v) is = same_step (walk at (name ∷ left) links) v is

  -- what the next name leads to, or that it leads nowhere
  pub go_on : (w : Walk) (at : List (List ℕ)) (name : List ℕ) (before after : List (List ℕ)) (links : ℕ) (o : Option Walk) → Same es w (walk at before links) → before ≡ name ∷ after → step es (walk at (name ∷ after) links) ≡ o → SameThen es w o
  go_on w at name before after links o first is next =
      same_then w (walk at (name ∷ after) links) o (subst (λ l. Same es w (walk at l links)) is first) (next_step at name after links o next)

  pub go_end : (w : Walk) (at before : List (List ℕ)) (links : ℕ) → Same es w (walk at before links) → before ≡ [] → Same es w (walk at [] links)
  go_end w at before links first is = subst (λ l. Same es w (walk at l links)) is first

  -- a link is followed, up to the 40th
  pub follow_on : (w : Walk) (target : List ℕ) (at left : List (List ℕ)) (links : ℕ) → SameThen es w (follow target at left links) → nat_le most_links links ≡ false → Same es w (walk (cond (is_absolute target) [] at) (parts target ++ left) (links + 1))
  follow_on w target at left links then_ few = subst (SameThen es w) (ap (λ b. cond b None (Some (walk (cond (is_absolute target) [] at) (parts target ++ left) (links + 1)))) few) then_

  pub follow_none : (w : Walk) (target : List ℕ) (at left : List (List ℕ)) (links : ℕ) → SameThen es w (follow target at left links) → nat_le most_links links ≡ true → (end : List (List ℕ)) → EndsFrom es w end → ⊥
  follow_none w target at left links then_ many = subst (SameThen es w) (ap (λ b. cond b None (Some (walk (cond (is_absolute target) [] at) (parts target ++ left) (links + 1)))) many) then_

pub start_at : (absolute : Bool) (image from next : List (List ℕ)) → from ≡ image ++ next → cond absolute image from ≡ image ++ cond absolute [] next
start_at true image from next is = sym (append-nil image)
start_at false image from next is = is
