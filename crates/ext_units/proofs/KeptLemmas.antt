-- What the search for units keeps, visit by visit.
use Rattle.std.proofs.Common.{◌≡◌, ◌⊎◌, ℕ, ◌+◌, ◌<◌, ◌≤◌, Bool, true, false, cond, List, [], ◌∷◌, ◌++◌, Option, Some, None, is_some, inl, inr, refl, sym, ap, ◌∙◌, subst, arith}
use Rattle.std.specs.Prelude.{nat_lt}
use Rattle.std.specs.BTreeMap.{BTreeMap, is_at}
use Rattle.std.specs.Option.{unwrap_or}
use Rattle.std.specs.Ordering.{is_eq}
use Rattle.std.specs.FinMap.Entries.{where_key}
use Rattle.std.specs.Map.{lookup as lookup_in}
use Rattle.std.proofs.lemmas.Bool.{false≢true, ltb-false, ltb-true}
use Rattle.ext_lines.specs.ByteOrder.{bytes_cmp}
use Rattle.ext_text.specs.Path.{path_cmp, is_proper_prefix}
use Rattle.ext_text.proofs.ForCallers.{names_tied, same_name}
use Rattle.ext_tree.specs.Tree.{Entries, lookup}
use Rattle.ext_tree.proofs.ForCallers.{below_append, lookup_where}
use Rattle.ext_walk.specs.Row.{Passes}
use Rattle.ext_units.specs.Kept.{EntryAt, KeepsEntry, KeepsUnits, SaysFirst, earlier_entries, kept_for, visited_entries}
use Rattle.ext_units.specs.Units.{HasEntryAt, IsUnitName, OpensUnits}
use Rattle.ext_units.specs.declared.unit_entry.UnitEntry.{UnitEntry}
use Rattle.ext_units.proofs.DirectoryLemmas.{one_opened}

equal_name : (a : List ℕ) → is_at (bytes_cmp a) a ≡ true
equal_name a = ap is_eq (names_tied a)

module _ (old new : BTreeMap (List ℕ) UnitEntry) (name : List ℕ) where
  -- what is kept stays
  more_kept : (entry : Option UnitEntry) → KeepsEntry old new name entry → (q : List ℕ) → is_some (kept_for old q) ≡ true → is_some (kept_for new q) ≡ true
  more_kept None keeps q there = ap is_some (keeps q) ∙ there
  more_kept (Some entry) keeps q there =
      ap is_some (keeps q)
      ∙ elim (is_some (kept_for old name)) as (λ b. is_some (cond b (kept_for old q) (cond (is_at (bytes_cmp name) q) (Some entry) (kept_for old q))) ≡ true) [
        | true ↦ there
        | false ↦ elim (is_at (bytes_cmp name) q) as (λ b. is_some (cond b (Some entry) (kept_for old q)) ≡ true) [ true ↦ refl | false ↦ there ]
      ]

  -- the entry's own name has one
  own_kept : (entry : UnitEntry) → KeepsEntry old new name (Some entry) → is_some (kept_for new name) ≡ true
  own_kept entry keeps =
      ap is_some (keeps name)
      ∙ elim (is_some (kept_for old name)) as (λ b. is_some (kept_for old name) ≡ b → is_some (cond b (kept_for old name) (cond (is_at (bytes_cmp name) name) (Some entry) (kept_for old name))) ≡ true) [
        | true ↦ λ there. there
        | false ↦ λ _. ap (λ b. is_some (cond b (Some entry) (kept_for old name))) (equal_name name)
      ] refl

less_or_same : (j i : ℕ) → j < i + 1 → (j < i) ⊎ (j ≡ i)
less_or_same j i within =
    elim (nat_lt j i) as (λ b. nat_lt j i ≡ b → (j < i) ⊎ (j ≡ i)) [
      | true ↦ λ less. inl (ltb-true j i less)
      | false ↦ λ other. let above : i ≤ j = ltb-false j i other in inr (omega arith)
    ] refl

module _ {C : Type 0} (es : Entries C) (prefixes : List (List ℕ)) where
  -- an entry in the directory of units is one of the directory to which that leads
  entry_here : (index : ℕ) (directory : List (List ℕ)) → OpensUnits es index directory → (name : List ℕ) → HasEntryAt es index name → is_some (lookup es (directory ++ name ∷ [])) ≡ true
  entry_here index directory opens name has =
      subst (λ d. is_some (lookup es (d ++ name ∷ [])) ≡ true) (one_opened es index has.directory directory has.opens opens) has.there

  -- before any visit nothing is kept
  pub keeps_none : (m : BTreeMap (List ℕ) UnitEntry) → m.entries ≡ [] → KeepsUnits es prefixes (earlier_entries 0) m
  keeps_none m empty = record {
    kept = λ name entry at. absurd (false≢true (sym (ap (λ es. is_some (lookup_in (is_at (bytes_cmp name)) es)) empty) ∙ ap is_some at));
    all = λ index name made named has. absurd (omega (arith, made));
  }

  -- what holds of a directory's visits holds of all visits up to the next directory
  at_index : (m : BTreeMap (List ℕ) UnitEntry) (index : ℕ) → ((name : List ℕ) (entry : UnitEntry) → kept_for m name ≡ Some entry → SaysFirst es prefixes name entry) → ((j : ℕ) (name : List ℕ) → j < index → IsUnitName prefixes name → HasEntryAt es j name → is_some (kept_for m name) ≡ true) → ((name : List ℕ) → IsUnitName prefixes name → HasEntryAt es index name → is_some (kept_for m name) ≡ true) → KeepsUnits es prefixes (earlier_entries (index + 1)) m
  at_index m index kept earlier here = record { kept = kept; all = λ j name made named has. by_case j name named has (less_or_same j index made) }
    where
      by_case : (j : ℕ) (name : List ℕ) → IsUnitName prefixes name → HasEntryAt es j name → (j < index) ⊎ (j ≡ index) → is_some (kept_for m name) ≡ true
      by_case j name named has (inl less) = earlier j name less named has
      by_case j name named has (inr same) = here name named (subst (λ i. HasEntryAt es i name) same has)

  -- visits to a directory that is not there
  pub keeps_closed : (m : BTreeMap (List ℕ) UnitEntry) (index : ℕ) → ((directory : List (List ℕ)) → ¬ OpensUnits es index directory) → KeepsUnits es prefixes (earlier_entries index) m → KeepsUnits es prefixes (earlier_entries (index + 1)) m
  keeps_closed m index closed keeps = at_index m index keeps.kept keeps.all (λ name named has. absurd (closed has.directory has.opens))

  module _ (index : ℕ) (directory : List (List ℕ)) (opens : OpensUnits es index directory) where
    -- at the start all names of the directory are left
    pub keeps_start : (m : BTreeMap (List ℕ) UnitEntry) (rest : Entries C) → rest ≡ where_key path_cmp (is_proper_prefix directory) es → KeepsUnits es prefixes (earlier_entries index) m → KeepsUnits es prefixes (visited_entries index directory rest) m
    keeps_start m rest is keeps = record { kept = keeps.kept; all = all }
      where
        all : (j : ℕ) (name : List ℕ) → visited_entries index directory rest j name → IsUnitName prefixes name → HasEntryAt es j name → is_some (kept_for m name) ≡ true
        all j name (inl less) named has = keeps.all j name less named has
        all j name (inr here) named has =
            let path : List (List ℕ) = directory ++ name ∷ [] in
            let there : is_some (lookup es path) ≡ true = entry_here index directory opens name (subst (λ i. HasEntryAt es i name) here.0 has) in
            absurd (false≢true (sym (ap is_some here.1) ∙ ap (λ fs. is_some (lookup fs path)) is
            ∙ ap is_some (lookup_where (is_proper_prefix directory) path es ∙ ap (λ b. cond b (lookup es path) None) (below_append directory name [])) ∙ there))

    -- at the end none is left
    pub keeps_end : (m : BTreeMap (List ℕ) UnitEntry) (rest : Entries C) → ((name : List ℕ) → lookup rest (directory ++ name ∷ []) ≡ None) → KeepsUnits es prefixes (visited_entries index directory rest) m → KeepsUnits es prefixes (earlier_entries (index + 1)) m
    keeps_end m rest none keeps =
        at_index m index keeps.kept (λ j name less named has. keeps.all j name (inl less) named has)
        (λ name named has. keeps.all index name (inr (refl, none name)) named has)

    module _ (rest more : Entries C) (name : List ℕ) (there : is_some (lookup es (directory ++ name ∷ [])) ≡ true) (next : Passes directory rest name more) (old new : BTreeMap (List ℕ) UnitEntry) (keeps : KeepsUnits es prefixes (visited_entries index directory rest) old) where
      -- an entry whose name has none is the first of its name, and what it says is kept for it
      says_first : (entry : UnitEntry) → EntryAt es prefixes directory name (Some entry) → is_some (kept_for old name) ≡ false → SaysFirst es prefixes name entry
      says_first entry at none = record {
        is_name = at.0;
        index = index;
        first = record {
          entry = record { directory = directory; opens = opens; there = there };
          first = λ earlier less has. false≢true (sym none ∙ keeps.all earlier name (inl less) at.0 has);
        };
        says = at.1;
      }

      kept_next : (entry : UnitEntry) → EntryAt es prefixes directory name (Some entry) → (there : Bool) → is_some (kept_for old name) ≡ there → (q : List ℕ) (found : UnitEntry) → cond there (kept_for old q) (cond (is_at (bytes_cmp name) q) (Some entry) (kept_for old q)) ≡ Some found → SaysFirst es prefixes q found
      kept_next entry at true there q found is = keeps.kept q found is
      kept_next entry at false none q found is = units_by_name (is_at (bytes_cmp name) q) refl is
        where
          units_by_name : (b : Bool) → is_at (bytes_cmp name) q ≡ b → cond b (Some entry) (kept_for old q) ≡ Some found → SaysFirst es prefixes q found
          units_by_name true same is =
              let entry_is : entry ≡ found = ap (λ o. unwrap_or o found) is in
              let name_is : name ≡ q = same_name name q same in
              subst (SaysFirst es prefixes q) entry_is (subst (λ n. SaysFirst es prefixes n entry) name_is (says_first entry at none))
          units_by_name false other is = keeps.kept q found is

      pub keeps_next : (entry : Option UnitEntry) → EntryAt es prefixes directory name entry → KeepsEntry old new name entry → KeepsUnits es prefixes (visited_entries index directory more) new
      keeps_next entry at too = record { kept = kept entry at too; all = λ j n made named has. all j n made named has }
        where
          kept : (entry : Option UnitEntry) → EntryAt es prefixes directory name entry → KeepsEntry old new name entry → (q : List ℕ) (found : UnitEntry) → kept_for new q ≡ Some found → SaysFirst es prefixes q found
          kept None none same q found is = keeps.kept q found (sym (same q) ∙ is)
          kept (Some x) at adds q found is = kept_next x at (is_some (kept_for old name)) refl q found (sym (adds q) ∙ is)

          own : (entry : Option UnitEntry) → EntryAt es prefixes directory name entry → KeepsEntry old new name entry → IsUnitName prefixes name → is_some (kept_for new name) ≡ true
          own None none same named = absurd (none named)
          own (Some x) at adds named = own_kept old new name x adds

          old_made : (j : ℕ) (n : List ℕ) → visited_entries index directory rest j n → IsUnitName prefixes n → HasEntryAt es j n → is_some (kept_for new n) ≡ true
          old_made j n made named has = more_kept old new name entry too n (keeps.all j n made named has)

          here : (n : List ℕ) → IsUnitName prefixes n → HasEntryAt es index n → (lookup rest (directory ++ n ∷ []) ≡ None) ⊎ (n ≡ name) → is_some (kept_for new n) ≡ true
          here n named has (inl gone) = old_made index n (inr (refl, gone)) named has
          here n named has (inr same) = subst (λ m. is_some (kept_for new m) ≡ true) (sym same) (own entry at too (subst (IsUnitName prefixes) same named))

          all : (j : ℕ) (n : List ℕ) → visited_entries index directory more j n → IsUnitName prefixes n → HasEntryAt es j n → is_some (kept_for new n) ≡ true
          all j n (inl less) named has = old_made j n (inl less) named has
          all j n (inr at_) named has = here n named (subst (λ i. HasEntryAt es i n) at_.0 has) (next.passed n at_.1)
