-- Going through the entries of a target: which of its instances were found, and which are left.
use Rattle.std.proofs.Common.{◌≡◌, ℕ, ◌<◌, ◌≤◌, Bool, true, false, cond, List, [], ◌∷◌, ◌++◌, length, length-append, get_or, drop, Option, Some, None, is_some, refl, sym, ap, ◌∙◌, subst, arith}
use Rattle.std.specs.Prelude.{◌⊎◌, IsTrue, not, ◌&&◌}
use mathlib.Core.Logic.{inl, inr}
use Rattle.std.specs.Cmp.{tied_itself}
use Rattle.std.specs.FinMap.{is_sorted}
use Rattle.std.specs.FinMap.Entries.{below_all, where_key}
use Rattle.std.specs.List.{Contains}
use Rattle.std.specs.List.Sorted.{IsStrictlySortedBy}
use Rattle.std.specs.Option.{unwrap_or}
use Rattle.std.specs.Ordering.{eq_by_cmp, is_lt}
use Rattle.std.specs.declared.cmp.Ordering.TheVariants.{Less}
use Rattle.std.proofs.lemmas.Bool.{and_parts, false≢true}
use Rattle.std.proofs.lemmas.List.Elements.{Contains-append_left, Contains-push, Contains-push_cases}
use Rattle.std.proofs.lemmas.List.Sums.{count_by-le-length, length-filter}
use Rattle.ext_text.specs.Path.{is_prefix, is_proper_prefix, path_cmp}
use Rattle.ext_text.specs.Order.{paths_total}
use Rattle.ext_text.proofs.ForCallers.{is_less, prefix_short, prefix_whole, proper_first, same_path, tied_path}
use Rattle.ext_tree.specs.Slices.{is_after}
use Rattle.ext_tree.specs.Tree.{Entries, lookup}
use Rattle.ext_tree.specs.declared.entry.Entry.{Entry}
use Rattle.ext_tree.proofs.ForCallers.{below_append, lookup_where}
use Rattle.ext_vers.specs.Version.{IsVersion}
use Rattle.ext_transfer.specs.declared.transfer.Transfer.{Transfer}
use Rattle.ext_installed.specs.declared.instance.Instance.{Instance}
use Rattle.ext_installed.specs.Instance.{IsResourceOf}
use Rattle.ext_installed.specs.Installed.{instance_cmp}
use Rattle.ext_installed.specs.Resource.{AreItemsOf, InstanceAt, IsItemOf, IsOnlyResource, with_item}
use Rattle.ext_installed.proofs.OrderLemmas.{before_by_path, none_contained, sorted_both, sorted_none, sorted_one}

-- what is kept where a test passes is there, and the test passes
kept_where : {X : Type 0} (b : Bool) (found : Option X) (x : X) → cond b found None ≡ Some x → (b ≡ true) × (found ≡ Some x)
kept_where true found x is = (refl, is)
kept_where false found x is = absurd (cc is)

none_or_some : {X : Type 0} (found : Option X) → (found ≡ None) ⊎ ((x : X) × (found ≡ Some x))
none_or_some None = inl refl
none_or_some (Some x) = inr (x, refl)

-- after the first entry, and what lies below it, there is what comes after it
after_parts : (path other : List (List ℕ)) → is_after path other ≡ true → path_cmp path other ≡ Less
after_parts path other after = is_less (path_cmp path other) (first_part (is_lt (path_cmp path other)) (not (is_prefix path other)) after)
  where
    first_part : (a b : Bool) → a && b ≡ true → a ≡ true
    first_part true b both = refl
    first_part false b both = absurd (false≢true both)

not_after : (path other : List (List ℕ)) → path_cmp path other ≡ Less → is_after path other ≡ false → is_prefix path other ≡ true
not_after path other less after = by_case (is_prefix path other) (sym (ap (λ r. is_lt r && not (is_prefix path other)) less) ∙ after)
  where
    by_case : (b : Bool) → not b ≡ false → b ≡ true
    by_case true is = refl
    by_case false is = absurd (false≢true (sym is))

-- a child of a directory at or below what stands below the directory is that
child_here : (directory path : List (List ℕ)) (name : List ℕ) → is_proper_prefix directory path ≡ true → is_prefix path (directory ++ name ∷ []) ≡ true → path ≡ directory ++ name ∷ []
child_here directory path name below prefix =
    prefix_whole path (directory ++ name ∷ []) prefix (omega (arith, length-append directory (name ∷ []), ((proper_first directory path).0 below).1, prefix_short path (directory ++ name ∷ []) prefix))

module _ {C : Type 0} where
  -- an entry at the head is found at its path
  found_head : (e : List (List ℕ) × Entry C) (others : Entries C) → lookup (e ∷ others) e.0 ≡ Some e.1
  found_head e others = ap (λ b. cond b (Some e.1) (lookup others e.0)) (tied_path e.0 e.0 refl)

  -- what is found among entries after a path comes after it
  found_above : (x : List (List ℕ)) (others : Entries C) (p : List (List ℕ)) (f : Entry C) → below_all path_cmp x others ≡ true → lookup others p ≡ Some f → path_cmp x p ≡ Less
  found_above x [] p f below found = absurd (cc found)
  found_above x (e ∷ es) p f below found =
      let parts = and_parts (is_lt (path_cmp x e.0)) (below_all path_cmp x es) below in
      elim (eq_by_cmp path_cmp p e.0) as (λ b. eq_by_cmp path_cmp p e.0 ≡ b → cond b (Some e.1) (lookup es p) ≡ Some f → path_cmp x p ≡ Less) [
        | true ↦ λ tied _. subst (λ (q : List (List ℕ)). path_cmp x q ≡ Less) (sym (same_path p e.0 tied)) (is_less (path_cmp x e.0) parts.0)
        | false ↦ λ _ later. found_above x es p f parts.1 later
      ] refl found

  -- what is found is the head's, or comes after it
  found_cases : (e : List (List ℕ) × Entry C) (others : Entries C) (p : List (List ℕ)) (f : Entry C) → IsTrue (is_sorted path_cmp (e ∷ others)) → lookup (e ∷ others) p ≡ Some f → (e.0 ≡ p) ⊎ (path_cmp e.0 p ≡ Less)
  found_cases e others p f sorted found =
      elim (eq_by_cmp path_cmp p e.0) as (λ b. eq_by_cmp path_cmp p e.0 ≡ b → cond b (Some e.1) (lookup others p) ≡ Some f → (e.0 ≡ p) ⊎ (path_cmp e.0 p ≡ Less)) [
        | true ↦ λ tied _. inl (sym (same_path p e.0 tied))
        | false ↦ λ _ later. inr (found_above e.0 others p f (and_parts (below_all path_cmp e.0 others) (is_sorted path_cmp others) sorted).0 later)
      ] refl found

  module _ (es : Entries C) (place : ℕ) (transfer : Transfer) where
    -- some entries of the target are left, and the instances that aren't among them were found
    pub record IsReached (rest : Entries C) (items : List Instance) : Type 0 where
      pub sorted : IsTrue (is_sorted path_cmp rest)
      pub same : (p : List (List ℕ)) (e : Entry C) → lookup rest p ≡ Some e → lookup es p ≡ Some e
      pub below : (p : List (List ℕ)) (e : Entry C) → lookup rest p ≡ Some e → is_proper_prefix transfer.target.path p ≡ true
      pub order : IsStrictlySortedBy instance_cmp items
      pub each : (item : Instance) → Contains items item → IsItemOf es place transfer item
      pub passed : (item : Instance) → IsItemOf es place transfer item → lookup rest item.path ≡ None → Contains items item
      pub ahead : (item : Instance) → Contains items item → (p : List (List ℕ)) (e : Entry C) → lookup rest p ≡ Some e → path_cmp item.path p ≡ Less
      pub sound : (item : Instance) → Contains items item → IsVersion item.version

    -- at the start all that lies below the target is left
    pub reached_start : (rest : Entries C) → IsTrue (is_sorted path_cmp rest) → rest ≡ where_key path_cmp (is_proper_prefix transfer.target.path) es → IsReached rest []
    reached_start rest sorted is = record {
      sorted = sorted;
      same = λ p e found. (parts p e found).1;
      below = λ p e found. (parts p e found).0;
      order = sorted_none instance_cmp;
      each = λ item at. absurd (none_contained item at);
      passed = λ item one gone. absurd (not_gone item one gone);
      ahead = λ item at. absurd (none_contained item at);
      sound = λ item at. absurd (none_contained item at);
    }
      where
        kept : (p : List (List ℕ)) → lookup rest p ≡ cond (is_proper_prefix transfer.target.path p) (lookup es p) None
        kept p = ap (λ fs. lookup fs p) is ∙ lookup_where (is_proper_prefix transfer.target.path) p es

        parts : (p : List (List ℕ)) (e : Entry C) → lookup rest p ≡ Some e → (is_proper_prefix transfer.target.path p ≡ true) × (lookup es p ≡ Some e)
        parts p e found = kept_where (is_proper_prefix transfer.target.path p) (lookup es p) e (sym (kept p) ∙ found)

        not_gone : (item : Instance) → IsItemOf es place transfer item → lookup rest item.path ≡ None → ⊥
        not_gone item one gone =
            let below : is_proper_prefix transfer.target.path item.path ≡ true = ap (is_proper_prefix transfer.target.path) one.1.resource.below ∙ below_append transfer.target.path one.1.resource.name [] in
            false≢true (ap is_some (sym gone ∙ kept item.path ∙ ap (λ b. cond b (lookup es item.path) None) below ∙ one.1.there))

    -- at the end nothing is left
    pub reached_end : (items : List Instance) → IsReached [] items → AreItemsOf es place transfer items
    reached_end items reached = record { order = reached.order; each = reached.each; whole = λ item one. reached.passed item one refl; sound = reached.sound }

    module _ (e : List (List ℕ) × Entry C) (others more : Entries C) (after : more ≡ where_key path_cmp (is_after e.0) (e ∷ others)) (items : List Instance) (reached : IsReached (e ∷ others) items) where
      kept_after : (p : List (List ℕ)) → lookup more p ≡ cond (is_after e.0 p) (lookup (e ∷ others) p) None
      kept_after p = ap (λ fs. lookup fs p) after ∙ lookup_where (is_after e.0) p (e ∷ others)

      left : (p : List (List ℕ)) (f : Entry C) → lookup more p ≡ Some f → (is_after e.0 p ≡ true) × (lookup (e ∷ others) p ≡ Some f)
      left p f found = kept_where (is_after e.0 p) (lookup (e ∷ others) p) f (sym (kept_after p) ∙ found)

      -- an instance that was left and no longer is, is the entry itself
      at_entry : (item : Instance) (f : Entry C) → IsItemOf es place transfer item → lookup (e ∷ others) item.path ≡ Some f → lookup more item.path ≡ None → e.0 ≡ item.path
      at_entry item f one found gone = by_order (found_cases e others item.path f reached.sorted found)
        where
          gone_by : (b : Bool) → lookup more item.path ≡ cond b (Some f) None → b ≡ false
          gone_by true is = absurd (cc (sym gone ∙ is))
          gone_by false is = refl

          by_order : (e.0 ≡ item.path) ⊎ (path_cmp e.0 item.path ≡ Less) → e.0 ≡ item.path
          by_order (inl same) = same
          by_order (inr less) =
              let passed = not_after e.0 item.path less (gone_by (is_after e.0 item.path) (kept_after item.path ∙ ap (λ o. cond (is_after e.0 item.path) o None) found)) in
              child_here transfer.target.path e.0 one.1.resource.name (reached.below e.0 e.1 (found_head e others)) (ap (is_prefix e.0) (sym one.1.resource.below) ∙ passed) ∙ sym one.1.resource.below

      -- so it was found, or the entry is a resource of its version
      found_or_here : (item : Instance) → IsItemOf es place transfer item → lookup more item.path ≡ None → Contains items item ⊎ ((e.0 ≡ item.path) × IsResourceOf transfer item.version e.0 e.1)
      found_or_here item one gone = by_case (none_or_some (lookup (e ∷ others) item.path))
        where
          resource : e.0 ≡ item.path → IsResourceOf transfer item.version e.0 e.1
          resource same =
              let entry : one.1.entry ≡ e.1 = ap (λ o. unwrap_or o e.1) (sym one.1.there ∙ ap (lookup es) (sym same) ∙ reached.same e.0 e.1 (found_head e others)) in
              subst (λ (f : Entry C). IsResourceOf transfer item.version e.0 f) entry (subst (λ (p : List (List ℕ)). IsResourceOf transfer item.version p one.1.entry) (sym same) one.1.resource)

          by_case : (lookup (e ∷ others) item.path ≡ None) ⊎ ((f : Entry C) × (lookup (e ∷ others) item.path ≡ Some f)) → Contains items item ⊎ ((e.0 ≡ item.path) × IsResourceOf transfer item.version e.0 e.1)
          by_case (inl none) = inl (reached.passed item one none)
          by_case (inr some) = let same = at_entry item some.0 one some.1 gone in inr (same, resource same)

      -- where the entry is no instance, nothing is found
      reached_none : IsTrue (is_sorted path_cmp more) → ((v : List ℕ) → ¬ IsResourceOf transfer v e.0 e.1) → IsReached more items
      reached_none sorted none = record {
        sorted = sorted;
        same = λ p f found. reached.same p f (left p f found).1;
        below = λ p f found. reached.below p f (left p f found).1;
        order = reached.order;
        each = reached.each;
        passed = λ item one gone. elim (found_or_here item one gone) [ inl found ↦ found | inr here ↦ absurd (none item.version here.1) ];
        ahead = λ item at p f found. reached.ahead item at p f (left p f found).1;
        sound = reached.sound;
      }

      module _ (new : Instance) (placed : new.transfer ≡ place) (path : new.path ≡ e.0) (only : IsOnlyResource transfer new.version e.0 e.1) where
        new_item : IsItemOf es place transfer new
        new_item = (
          placed,
          record {
            entry = e.1;
            there = ap (lookup es) path ∙ reached.same e.0 e.1 (found_head e others);
            resource = subst (λ (p : List (List ℕ)). IsResourceOf transfer new.version p e.1) (sym path) only.resource;
          },
        )

        same_item : (item : Instance) → IsItemOf es place transfer item → e.0 ≡ item.path → IsResourceOf transfer item.version e.0 e.1 → new ≡ item
        same_item item one same resource = λ i. record {
          transfer = (placed ∙ sym one.0) i;
          version = sym (only.one item.version resource) i;
          path = (path ∙ same) i;
        }

        -- where it is one, that is found
        reached_some : IsTrue (is_sorted path_cmp more) → IsReached more (items ++ new ∷ [])
        reached_some sorted = record {
          sorted = sorted;
          same = λ p f found. reached.same p f (left p f found).1;
          below = λ p f found. reached.below p f (left p f found).1;
          order = sorted_both instance_cmp items (new ∷ []) reached.order (sorted_one instance_cmp new) (λ item last at one. subst (λ (x : Instance). instance_cmp item x ≡ Less) (is_new last one) (before_new item at));
          each = λ item at. by_case (λ x. IsItemOf es place transfer x) item at reached.each new_item;
          passed = λ item one gone. elim (found_or_here item one gone) [
            | inl found ↦ Contains-append_left items (new ∷ []) item found
            | inr here ↦ subst (Contains (items ++ new ∷ [])) (same_item item one here.0 here.1) (Contains-push items new)
          ];
          ahead = λ item at p f found. by_case (λ x. path_cmp x.path p ≡ Less) item at
              (λ old there. reached.ahead old there p f (left p f found).1)
              (subst (λ (q : List (List ℕ)). path_cmp q p ≡ Less) (sym path) (after_parts e.0 p (left p f found).0));
          sound = λ item at. by_case (λ x. IsVersion x.version) item at reached.sound only.version;
        }
          where
            is_new : (last : Instance) → Contains (new ∷ []) last → new ≡ last
            is_new last at = elim (Contains-push_cases [] new last at) [ inl none ↦ absurd (none_contained last none) | inr same ↦ same ]

            before_new : (item : Instance) → Contains items item → instance_cmp item new ≡ Less
            before_new item at = before_by_path item new ((reached.each item at).0 ∙ sym placed) (subst (λ (q : List (List ℕ)). path_cmp item.path q ≡ Less) (sym path) (reached.ahead item at e.0 e.1 (found_head e others)))

            by_case : (P : Instance → Type 0) (item : Instance) → Contains (items ++ new ∷ []) item → ((old : Instance) → Contains items old → P old) → P new → P item
            by_case P item at old one = elim (Contains-push_cases items new item at) [ inl there ↦ old item there | inr same ↦ subst P same one ]

      -- after an entry
      pub reached_next : (found : Option Instance) → IsTrue (is_sorted path_cmp more) → InstanceAt place transfer e.0 e.1 found → IsReached more (with_item items found)
      reached_next None sorted none = reached_none sorted none
      reached_next (Some new) sorted is = reached_some new is.0 is.1 is.2 sorted

  -- entries are the first one and the others
  first_entry : (rest : Entries C) (e : List (List ℕ) × Entry C) → 1 ≤ length rest → e ≡ get_or rest 0 e → rest ≡ e ∷ drop 1 rest
  first_entry [] e some is = absurd (omega (arith, some))
  first_entry (f ∷ rest) e some is = ap (λ (x : List (List ℕ) × Entry C). x ∷ rest) (sym is)

  -- fewer entries are left
  pub fewer_left : (rest more : Entries C) (e : List (List ℕ) × Entry C) (names : List (List ℕ)) → 1 ≤ length rest → e ≡ get_or rest 0 e → names ≡ e.0 → more ≡ where_key path_cmp (is_after names) rest → length more < length rest
  fewer_left rest more e names some is named after =
      let others = drop 1 rest in
      let test : List (List ℕ) × Entry C → Bool = λ f. is_after e.0 f.0 in
      let whole = first_entry rest e some is in
      let itself : is_after e.0 e.0 ≡ false = ap (λ r. is_lt r && not (is_prefix e.0 e.0)) (tied_itself paths_total e.0) in
      let left : more ≡ where_key path_cmp (is_after e.0) others =
      after ∙ ap (λ (p : List (List ℕ)). where_key path_cmp (is_after p) rest) named ∙ ap (where_key path_cmp (is_after e.0)) whole
      ∙ ap (λ b. cond b (e ∷ where_key path_cmp (is_after e.0) others) (where_key path_cmp (is_after e.0) others)) itself in
      omega (arith, ap length left, length-filter test others, count_by-le-length test others, ap length whole)

  -- after the first entry that is left
  pub reached_step : (es : Entries C) (place : ℕ) (transfer : Transfer) (rest more : Entries C) (e : List (List ℕ) × Entry C) (names : List (List ℕ)) (items new : List Instance) (found : Option Instance) → 1 ≤ length rest → e ≡ get_or rest 0 e → names ≡ e.0 → more ≡ where_key path_cmp (is_after names) rest → IsTrue (is_sorted path_cmp more) → InstanceAt place transfer e.0 e.1 found → new ≡ with_item items found → IsReached es place transfer rest items → IsReached es place transfer more new
  reached_step es place transfer rest more e names items new found some is named after sorted at kept reached =
      let whole = first_entry rest e some is in
      let left : more ≡ where_key path_cmp (is_after e.0) (e ∷ drop 1 rest) = after ∙ ap (λ (p : List (List ℕ)). where_key path_cmp (is_after p) rest) named ∙ ap (where_key path_cmp (is_after e.0)) whole in
      subst (IsReached es place transfer more) (sym kept) (reached_next es place transfer e (drop 1 rest) more left items (subst (λ (fs : Entries C). IsReached es place transfer fs items) whole reached) found sorted at)
