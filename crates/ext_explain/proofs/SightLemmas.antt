-- What is seen of a layer along a path: each name of the path leads to one more entry, or the path goes no further.
use Rattle.std.proofs.Common.{◌≡◌, ℕ, ◌<◌, Bool, true, false, cond, List, [], ◌∷◌, ◌++◌, length, Option, Some, None, is_some, refl, sym, ap, ◌∙◌, arith, append_assoc, append-nil, length-append}
use Rattle.std.specs.Option.{option_map}
use Rattle.std.specs.Prelude.{IfSome}
use Rattle.std.proofs.lemmas.Bool.{false≢true}
use Rattle.ext_tree.specs.Part.{part}
use Rattle.ext_tree.specs.Tree.{Entries, IsTree, lookup}
use Rattle.ext_tree.specs.declared.entry.Entry.{Entry}
use Rattle.ext_tree.proofs.ForCallers.{directory_some, lookup_part, prefix_append, prefixes, root_part}
use Rattle.ext_layer.specs.Layered.{cuts_below}
use Rattle.ext_host.specs.Held.{HeldFile}
use Rattle.ext_origin.specs.declared.origin.Finding.{Finding}
use Rattle.ext_explain.specs.Finding.{cover_of, finding_of, first_prefix, found_under}
use Rattle.ext_explain.proofs.PrefixLemmas.{no_prefix, past_root}

-- nothing stands below a path at which nothing stands
nothing_below : {C : Type 0} (es : Entries C) (p q : List (List ℕ)) → IsTree es → 0 < length p → lookup es p ≡ None → lookup es (p ++ q) ≡ None
nothing_below es p [] tree some none = ap (lookup es) (append-nil p) ∙ none
nothing_below es p (m ∷ q) tree some none =
    elim (lookup es (p ++ m ∷ q)) as (λ o. lookup es (p ++ m ∷ q) ≡ o → o ≡ None) [
      | None ↦ λ _. refl
      | Some e ↦ λ there.
          let directory = prefixes es tree p (p ++ m ∷ q) (ap is_some there) (prefix_append p (m ∷ q)) (omega (arith, length-append p (m ∷ q))) in
          absurd (false≢true (sym (ap is_some none) ∙ directory_some es p some directory))
    ] refl

-- what stands below the names of a layer is an entry of the layer
pub entry_of_layer : {C : Type 0} (es : Entries C) (dir path : List (List ℕ)) (o : Option (Entry C)) → (path ≡ [] → ⊥) → o ≡ lookup es (dir ++ path) → IfSome o (λ e. lookup (part dir es) path ≡ Some e)
entry_of_layer es dir path None some is = tt
entry_of_layer es dir [] (Some e) some is = absurd (some refl)
entry_of_layer es dir (n ∷ path) (Some e) some is = lookup_part dir n path es ∙ sym is

module _ {C : Type 0} (es : Entries C) (dir : List (List ℕ)) (n : List ℕ) where
  -- at a name at which nothing stands
  pub found_none : (below : List (List ℕ)) → IsTree es → lookup es (dir ++ n ∷ []) ≡ None → lookup (part dir es) (n ∷ below) ≡ None
  found_none below tree none =
      lookup_part dir n below es ∙ ap (lookup es) (sym (append_assoc dir (n ∷ []) below))
      ∙ nothing_below es (dir ++ n ∷ []) below tree (omega (arith, length-append dir (n ∷ []))) none

  pub cover_none : (below : List (List ℕ)) → IsTree es → lookup es (dir ++ n ∷ []) ≡ None → cover_of (part dir es) (n ∷ below) ≡ None
  cover_none below tree none =
      past_root (λ q. cuts_below (lookup (part dir es) q)) n below (ap cuts_below (root_part dir es))
      ∙ ap (option_map (λ q. n ∷ q)) (no_prefix (λ q. cuts_below (lookup (part dir es) (n ∷ q))) below (λ q. ap cuts_below (found_none q tree none)))

  -- at the last name
  pub found_end : (e : Entry C) → lookup es (dir ++ n ∷ []) ≡ Some e → lookup (part dir es) (n ∷ []) ≡ Some e
  found_end e there = lookup_part dir n [] es ∙ there

  pub cover_end : cover_of (part dir es) (n ∷ []) ≡ None
  cover_end = past_root (λ q. cuts_below (lookup (part dir es) q)) n [] (ap cuts_below (root_part dir es))

  -- at a name with more names below it
  pub found_on : (m : List ℕ) (below : List (List ℕ)) → lookup (part (dir ++ n ∷ []) es) (m ∷ below) ≡ lookup (part dir es) (n ∷ m ∷ below)
  found_on m below =
      lookup_part (dir ++ n ∷ []) m below es ∙ ap (lookup es) (append_assoc dir (n ∷ []) (m ∷ below)) ∙ sym (lookup_part dir n (m ∷ below) es)

  over : (b : Bool) (x : Option (List (List ℕ))) → option_map (λ at. dir ++ at) (option_map (λ q. n ∷ q) (cond b (Some []) x)) ≡ cond b (Some (dir ++ n ∷ [])) (option_map (λ at. (dir ++ n ∷ []) ++ at) x)
  over true x = refl
  over false None = refl
  over false (Some q) = ap Some (sym (append_assoc dir (n ∷ []) q))

  pub cover_on : (m : List ℕ) (below : List (List ℕ)) (e : Entry C) → lookup es (dir ++ n ∷ []) ≡ Some e
      → option_map (λ at. dir ++ at) (cover_of (part dir es) (n ∷ m ∷ below)) ≡ cond (cuts_below (Some e)) (Some (dir ++ n ∷ [])) (option_map (λ at. (dir ++ n ∷ []) ++ at) (cover_of (part (dir ++ n ∷ []) es) (m ∷ below)))
  cover_on m below e there =
      let f : List (List ℕ) → Bool = λ q. cuts_below (lookup (part dir es) q) in
      let g : List (List ℕ) → Bool = λ q. cuts_below (lookup (part (dir ++ n ∷ []) es) q) in
      let x : Option (List (List ℕ)) = option_map (λ q. m ∷ q) (first_prefix (λ q. f (n ∷ m ∷ q)) below) in
      let deeper : first_prefix g (m ∷ below) ≡ x =
      past_root g m below (ap cuts_below (root_part (dir ++ n ∷ []) es)) ∙ (λ i. option_map (λ q. m ∷ q) (first_prefix (λ q. cuts_below (found_on m q i)) below)) in
      ap (option_map (λ at. dir ++ at))
      (past_root f n (m ∷ below) (ap cuts_below (root_part dir es))
      ∙ ap (λ b. option_map (λ q. n ∷ q) (cond b (Some []) x)) (ap cuts_below (found_end e there)))
      ∙ over (cuts_below (Some e)) x
      ∙ ap (λ o. cond (cuts_below (Some e)) (Some (dir ++ n ∷ [])) (option_map (λ at. (dir ++ n ∷ []) ++ at) o)) (sym deeper)

  -- the same at a path whose first name is this one, from the path to which it leads
  module _ (path below : List (List ℕ)) (whole : path ≡ n ∷ below) where
    pub found_nothing : IsTree es → lookup es (dir ++ n ∷ []) ≡ None → lookup (part dir es) path ≡ None
    found_nothing tree none = ap (lookup (part dir es)) whole ∙ found_none below tree none

    pub cover_nothing : IsTree es → lookup es (dir ++ n ∷ []) ≡ None → option_map (λ at. dir ++ at) (cover_of (part dir es) path) ≡ None
    cover_nothing tree none = ap (λ p. option_map (λ at. dir ++ at) (cover_of (part dir es) p)) whole ∙ ap (option_map (λ at. dir ++ at)) (cover_none below tree none)

    pub found_last : below ≡ [] → (e : Entry C) → lookup es (dir ++ n ∷ []) ≡ Some e → lookup (part dir es) path ≡ Some e
    found_last end e there = ap (lookup (part dir es)) (whole ∙ ap (λ b. n ∷ b) end) ∙ found_end e there

    pub cover_last : below ≡ [] → option_map (λ at. dir ++ at) (cover_of (part dir es) path) ≡ None
    cover_last end = ap (λ p. option_map (λ at. dir ++ at) (cover_of (part dir es) p)) (whole ∙ ap (λ b. n ∷ b) end) ∙ ap (option_map (λ at. dir ++ at)) cover_end

  pub found_further : (path below at : List (List ℕ)) → path ≡ n ∷ below → at ≡ dir ++ n ∷ [] → (below ≡ [] → ⊥) → lookup (part at es) below ≡ lookup (part dir es) path
  found_further path [] at whole led more = absurd (more refl)
  found_further path (m ∷ below) at whole led more = ap (λ a. lookup (part a es) (m ∷ below)) led ∙ found_on m below ∙ ap (lookup (part dir es)) (sym whole)

  pub cover_further : (path below at : List (List ℕ)) → path ≡ n ∷ below → at ≡ dir ++ n ∷ [] → (below ≡ [] → ⊥) → (e : Entry C) → lookup es (dir ++ n ∷ []) ≡ Some e
      → option_map (λ q. dir ++ q) (cover_of (part dir es) path) ≡ cond (cuts_below (Some e)) (Some at) (option_map (λ q. at ++ q) (cover_of (part at es) below))
  cover_further path [] at whole led more e there = absurd (more refl)
  cover_further path (m ∷ below) at whole led more e there =
      ap (λ p. option_map (λ q. dir ++ q) (cover_of (part dir es) p)) whole ∙ cover_on m below e there
      ∙ ap (λ a. cond (cuts_below (Some e)) (Some a) (option_map (λ q. a ++ q) (cover_of (part a es) (m ∷ below)))) (sym led)

-- of the whole base, as a part of itself
pub finding_whole : (es : Entries HeldFile) (path : List (List ℕ)) → IsTree es → finding_of (part [] es) path ≡ finding_of es path
finding_whole es path tree = λ i. found_under (same path i) (first_prefix (λ q. cuts_below (same q i)) path)
  where
    same : (q : List (List ℕ)) → lookup (part [] es) q ≡ lookup es q
    same [] = root_part [] es ∙ sym tree.root
    same (n ∷ q) = lookup_part [] n q es

-- what is found of the base below the root is what is found of the base
pub base_finding : (es : Entries HeldFile) (root path : List (List ℕ)) (o : Option Finding) → IsTree es → root ≡ [] → o ≡ finding_of (part root es) path → finding_of es path ≡ o
base_finding es root path o tree at is = sym (is ∙ ap (λ r. finding_of (part r es) path) at ∙ finding_whole es path tree)
