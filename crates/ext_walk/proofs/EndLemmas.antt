-- Where walks end, and the walk in a part of a tree as the code sees it.
use Rattle.std.proofs.Common.{◌≡◌, ℕ, suc, zero, ◌+◌, ◌<◌, ◌≤◌, Bool, true, false, cond, List, [], ◌∷◌, ◌++◌, length, Option, Some, None, is_some, refl, sym, ap, ◌∙◌, subst, arith, length-append}
use Rattle.std.specs.Prelude.{nat_le}
use Rattle.std.specs.Option.{option_and_then}
use Rattle.std.specs.FinMap.Entries.{same_entries}
use Rattle.std.proofs.lemmas.Bool.{false≢true}
use Rattle.std.proofs.lemmas.Float.{T_from_true}
use Rattle.std.proofs.lemmas.List.{append-nil, append_assoc}
use Rattle.ext_text.specs.Path.{IsPath, path_cmp, parent}
use Rattle.ext_text.specs.Order.{paths_total, paths_exact}
use Rattle.ext_tree.specs.declared.entry.Entry.{Entry}
use Rattle.ext_tree.specs.declared.entry.Entry.TheVariants.{Dir, Opaque, File, Link, Hide}
use Rattle.ext_tree.specs.Part.{part}
use Rattle.ext_tree.specs.Tree.{Entries, IsTree, lookup, is_directory_at, is_directory_or_root}
use Rattle.ext_tree.proofs.ForCallers.{parent_append, lookup_part, root_part, tree_part}
use Rattle.ext_walk.specs.Walk.{Walk, walk, Ends, EndsAtNoLink, OneEnd, Resolves, ResolvesIn, enter, follow, is_absolute, is_end, is_idle, is_standing, is_up, most_links, parts, step, steps}
use Rattle.ext_walk.specs.declared.walking.Turn.{Turn}
use Rattle.ext_walk.specs.declared.walking.Turn.TheVariants.{Moved, Met, Barred}
use Rattle.ext_walk.specs.Steps.{Turns, TurnsTo}
use Rattle.ext_walk.proofs.WalkLemmas.{from_some, no_some, one_end, step_idle, step_up, step_barred, step_into}

directory_stands : {C : Type 0} (o : Option (Entry C)) → is_directory_at o ≡ true → is_standing o ≡ true
directory_stands None is = absurd (false≢true is)
directory_stands (Some (Dir attributes)) is = refl
directory_stands (Some (Opaque attributes)) is = refl
directory_stands (Some (File attributes content)) is = absurd (false≢true is)
directory_stands (Some (Link owner target)) is = absurd (false≢true is)
directory_stands (Some Hide) is = absurd (false≢true is)

directory_end : {C : Type 0} (es : Entries C) (p : List (List ℕ)) → is_directory_or_root es p ≡ true → is_end es p ≡ true
directory_end es [] is = refl
directory_end es (n ∷ p) is = directory_stands (lookup es (n ∷ p)) is

child_end : {C : Type 0} (es : Entries C) (p : List (List ℕ)) (n : List ℕ) → is_standing (lookup es (p ++ n ∷ [])) ≡ true → is_end es (p ++ n ∷ []) ≡ true
child_end es [] n is = is
child_end es (m ∷ p) n is = is

there_some : {C : Type 0} (o : Option (Entry C)) → is_directory_at o ≡ true → is_some o ≡ true
there_some None is = absurd (false≢true is)
there_some (Some e) is = refl

parent_end : {C : Type 0} (es : Entries C) → IsTree es → (p : List (List ℕ)) → is_directory_or_root es p ≡ true → is_end es (parent p) ≡ true
parent_end es tree [] is = refl
parent_end es tree (n ∷ p) is = directory_end es (parent (n ∷ p)) (tree.parents (n ∷ p) (there_some (lookup es (n ∷ p)) is))

-- what is asked of a walk, and of a step
abbrev is_placed : {C : Type 0} → Entries C → Walk → Bool
is_placed es (walk at left links) = is_end es at

abbrev may_be : {C : Type 0} → Entries C → Option Walk → Type 0
may_be es None = Unit {0}
may_be es (Some w) = is_placed es w ≡ true

module _ {C : Type 0} (es : Entries C) (tree : IsTree es) where
  followed : (target : List ℕ) (at left : List (List ℕ)) (links : ℕ) → is_end es at ≡ true → may_be es (follow target at left links)
  followed target at left links placed =
      elim (nat_le most_links links) as (λ b. may_be es (cond b None (Some (walk (cond (is_absolute target) [] at) (parts target ++ left) (links + 1))))) [
        | true ↦ tt
        | false ↦ elim (is_absolute target) as (λ b. is_end es (cond b [] at) ≡ true) [ true ↦ refl | false ↦ placed ]
      ]

  entered : (o : Option (Entry C)) (at : List (List ℕ)) (name : List ℕ) (left : List (List ℕ)) (links : ℕ) → lookup es (at ++ name ∷ []) ≡ o → is_end es at ≡ true → may_be es (enter o at name left links)
  entered None at name left links is placed = tt
  entered (Some (Dir attributes)) at name left links is placed = child_end es at name (ap is_standing is)
  entered (Some (Opaque attributes)) at name left links is placed = child_end es at name (ap is_standing is)
  entered (Some (File attributes content)) at name left links is placed = child_end es at name (ap is_standing is)
  entered (Some (Link owner target)) at name left links is placed = followed target at left links placed
  entered (Some Hide) at name left links is placed = tt

  stepped : (at left : List (List ℕ)) (links : ℕ) → is_end es at ≡ true → may_be es (step es (walk at left links))
  stepped at [] links placed = tt
  stepped at (name ∷ left) links placed =
      elim (is_idle name) as (λ b. may_be es (cond b (Some (walk at left links)) (cond (is_up name) (cond (is_directory_or_root es at) (Some (walk (parent at) left links)) None) (cond (is_directory_or_root es at) (enter (lookup es (at ++ name ∷ [])) at name left links) None)))) [
        | true ↦ placed
        | false ↦ elim (is_up name) as (λ b. may_be es (cond b (cond (is_directory_or_root es at) (Some (walk (parent at) left links)) None) (cond (is_directory_or_root es at) (enter (lookup es (at ++ name ∷ [])) at name left links) None))) [
          | true ↦ elim (is_directory_or_root es at) as (λ b. is_directory_or_root es at ≡ b → may_be es (cond b (Some (walk (parent at) left links)) None)) [
            | true ↦ λ is. parent_end es tree at is
            | false ↦ λ _. tt
          ] refl
          | false ↦ elim (is_directory_or_root es at) as (λ b. may_be es (cond b (enter (lookup es (at ++ name ∷ [])) at name left links) None)) [
            | true ↦ entered (lookup es (at ++ name ∷ [])) at name left links refl placed
            | false ↦ tt
          ]
        ]
      ]

  ends_from : (n more : ℕ) (end : List (List ℕ)) (o : Option Walk) → ((next rest : List (List ℕ)) (count : ℕ) → is_end es next ≡ true → steps es n (walk next rest count) ≡ Some (walk end [] more) → is_end es end ≡ true) → may_be es o → option_and_then (steps es n) o ≡ Some (walk end [] more) → is_end es end ≡ true
  ends_from n more end None later may ends = absurd (no_some ends)
  ends_from n more end (Some (walk next rest count)) later may ends = later next rest count may ends

  ends_placed : (n : ℕ) (at left end : List (List ℕ)) (links more : ℕ) → is_end es at ≡ true → steps es n (walk at left links) ≡ Some (walk end [] more) → is_end es end ≡ true
  ends_placed zero at left end links more placed ends = subst (λ w. is_placed es w ≡ true) (from_some ends) placed
  ends_placed (suc n) at left end links more placed ends =
      ends_from n more end (step es (walk at left links)) (λ next rest count here then_. ends_placed n next rest end count more here then_) (stepped at left links placed) ends

pub no_link : {C : Type 0} → EndsAtNoLink C
no_link es names end tree ends = ends_placed es tree ends.0 [] names end 0 ends.1 refl ends.2

pub one_end_law : {C : Type 0} → OneEnd C
one_end_law es names a b first second = one_end es (walk [] names 0) a b first second

standing_some : {C : Type 0} (o : Option (Entry C)) → is_standing o ≡ true → is_some o ≡ true
standing_some None is = absurd (false≢true is)
standing_some (Some e) is = refl

-- so it is a path
pub end_path : {C : Type 0} (es : Entries C) (names end : List (List ℕ)) → IsTree es → Ends es names end → IsPath end
end_path {C = C} es names end tree ends = go end (no_link es names end tree ends)
  where
    go : (p : List (List ℕ)) → is_end es p ≡ true → IsPath p
    go [] is = record { each = tt; depth = omega arith; size = omega arith }
    go (n ∷ p) is = tree.paths (n ∷ p) (standing_some (lookup es (n ∷ p)) is)

pub part_root : {C : Type 0} (es : Entries C) → IsTree es → part [] es ≡ es
part_root es tree = same_entries path_cmp paths_total paths_exact (part [] es) es (T_from_true _ (tree_part [] es tree).sorted) (T_from_true _ tree.sorted) same
  where
    same : (q : List (List ℕ)) → lookup (part [] es) q ≡ lookup es q
    same [] = root_part [] es ∙ sym tree.root
    same (n ∷ q) = lookup_part [] n q es

pub resolves_whole : {C : Type 0} (es : Entries C) (names : List (List ℕ)) (o : Option (List (List ℕ))) → IsTree es → ResolvesIn es [] names o → Resolves es names o
resolves_whole es names None tree in_ = λ end ends. in_ end (subst (λ fs. Ends fs names end) (sym (part_root es tree)) ends)
resolves_whole es names (Some at) tree in_ =
    subst (λ p. Ends es names p) (sym in_.1) (subst (λ fs. Ends fs names in_.0) (part_root es tree) in_.2)

module _ {C : Type 0} (es : Entries C) (image at here : List (List ℕ)) (is : here ≡ image ++ at) where
  child_part : (name : List ℕ) → lookup (part image es) (at ++ name ∷ []) ≡ lookup es (here ++ name ∷ [])
  child_part name = go at ∙ ap (λ p. lookup es (p ++ name ∷ [])) (sym is)
    where
      go : (p : List (List ℕ)) → lookup (part image es) (p ++ name ∷ []) ≡ lookup es ((image ++ p) ++ name ∷ [])
      go [] = lookup_part image name [] es ∙ ap (λ p. lookup es (p ++ name ∷ [])) (sym (append-nil image))
      go (m ∷ p) = lookup_part image m (p ++ name ∷ []) es ∙ ap (lookup es) (sym (append_assoc image (m ∷ p) (name ∷ [])))

  child_names : (name : List ℕ) → here ++ name ∷ [] ≡ image ++ (at ++ name ∷ [])
  child_names name = ap (λ p. p ++ name ∷ []) is ∙ append_assoc image at (name ∷ [])

  pub turns_idle : (name : List ℕ) (new : List (List ℕ)) → is_idle name ≡ true → new ≡ here → Turns es image at name (Moved new)
  turns_idle name new idle same = (at, same ∙ is, λ left links. step_idle (part image es) at name left links idle)

  pub turns_none : (name : List ℕ) → IsTree es → is_idle name ≡ false → is_up name ≡ false → lookup es (here ++ name ∷ []) ≡ None → Turns es image at name Barred
  turns_none name tree plain below none = λ left links.
      step_into (part image es) at name left links (tree_part image es tree) plain below ∙ ap (λ o. enter o at name left links) (child_part name ∙ none)

  pub turns_some : (name : List ℕ) (path : List (List ℕ)) (e : Entry C) (turn : Turn) → IsTree es → is_idle name ≡ false → is_up name ≡ false → path ≡ here ++ name ∷ [] → lookup es (here ++ name ∷ []) ≡ Some e → TurnsTo path e turn → Turns es image at name turn
  turns_some name path (Dir attributes) (Moved new) tree plain below named found to = (at ++ name ∷ [], to ∙ named ∙ child_names name, λ left links. step_into (part image es) at name left links (tree_part image es tree) plain below ∙ ap (λ o. enter o at name left links) (child_part name ∙ found))
  turns_some name path (Dir attributes) (Met target) tree plain below named found to = absurd to
  turns_some name path (Dir attributes) Barred tree plain below named found to = absurd to
  turns_some name path (Opaque attributes) (Moved new) tree plain below named found to = (at ++ name ∷ [], to ∙ named ∙ child_names name, λ left links. step_into (part image es) at name left links (tree_part image es tree) plain below ∙ ap (λ o. enter o at name left links) (child_part name ∙ found))
  turns_some name path (Opaque attributes) (Met target) tree plain below named found to = absurd to
  turns_some name path (Opaque attributes) Barred tree plain below named found to = absurd to
  turns_some name path (File attributes content) (Moved new) tree plain below named found to = (at ++ name ∷ [], to ∙ named ∙ child_names name, λ left links. step_into (part image es) at name left links (tree_part image es tree) plain below ∙ ap (λ o. enter o at name left links) (child_part name ∙ found))
  turns_some name path (File attributes content) (Met target) tree plain below named found to = absurd to
  turns_some name path (File attributes content) Barred tree plain below named found to = absurd to
  turns_some name path (Link owner text) (Moved new) tree plain below named found to = absurd to
  turns_some name path (Link owner text) (Met target) tree plain below named found to = λ left links.
      step_into (part image es) at name left links (tree_part image es tree) plain below ∙ ap (λ o. enter o at name left links) (child_part name ∙ found) ∙ ap (λ t. follow t at left links) (sym to)
  turns_some name path (Link owner text) Barred tree plain below named found to = absurd to
  turns_some name path Hide (Moved new) tree plain below named found to = absurd to
  turns_some name path Hide (Met target) tree plain below named found to = absurd to
  turns_some name path Hide Barred tree plain below named found to = λ left links. step_into (part image es) at name left links (tree_part image es tree) plain below ∙ ap (λ o. enter o at name left links) (child_part name ∙ found)

root_of_image : (image at : List (List ℕ)) → length (image ++ at) ≤ length image → at ≡ []
root_of_image image [] short = refl
root_of_image image (m ∷ at) short = absurd (omega (arith, length-append image (m ∷ at)))

directory_part : {C : Type 0} (es : Entries C) (image : List (List ℕ)) (m : List ℕ) (at : List (List ℕ)) → is_directory_or_root (part image es) (m ∷ at) ≡ is_directory_or_root es (image ++ m ∷ at)
directory_part es [] m at = ap is_directory_at (lookup_part [] m at es)
directory_part es (k ∷ image) m at = ap is_directory_at (lookup_part (k ∷ image) m at es)

-- `..` at the image's root
pub turns_root : {C : Type 0} (es : Entries C) (image at here : List (List ℕ)) (name : List ℕ) (new : List (List ℕ)) → here ≡ image ++ at → length here ≤ length image → is_idle name ≡ false → is_up name ≡ true → new ≡ here → Turns es image at name (Moved new)
turns_root es image at here name new is short plain above same =
    let root : at ≡ [] = root_of_image image at (subst (λ p. length p ≤ length image) is short) in
    subst (λ p. Turns es image p name (Moved new)) (sym root)
    ([], same ∙ is ∙ ap (λ p. image ++ p) root, λ left links. step_up (part image es) [] name left links plain above refl)

-- and elsewhere
pub turns_up : {C : Type 0} (es : Entries C) (image at here : List (List ℕ)) (name : List ℕ) (new : List (List ℕ)) → here ≡ image ++ at → length image < length here → is_idle name ≡ false → is_up name ≡ true → is_directory_or_root es here ≡ true → new ≡ parent here → Turns es image at name (Moved new)
turns_up es image [] here name new is long plain above directory same = absurd (omega (arith, ap length (is ∙ append-nil image)))
turns_up es image (m ∷ at) here name new is long plain above directory same = (
  parent (m ∷ at),
  same ∙ ap parent is ∙ parent_append image m at,
  λ left links. step_up (part image es) (m ∷ at) name left links plain above (directory_part es image m at ∙ ap (is_directory_or_root es) (sym is) ∙ directory),
)

pub turns_barred : {C : Type 0} (es : Entries C) (image at here : List (List ℕ)) (name : List ℕ) → here ≡ image ++ at → length image < length here → is_idle name ≡ false → is_up name ≡ true → is_directory_or_root es here ≡ false → Turns es image at name Barred
turns_barred es image [] here name is long plain above other = absurd (omega (arith, ap length (is ∙ append-nil image)))
turns_barred es image (m ∷ at) here name is long plain above other = λ left links.
    step_barred (part image es) (m ∷ at) name left links plain above (directory_part es image m at ∙ ap (is_directory_or_root es) (sym is) ∙ other)
