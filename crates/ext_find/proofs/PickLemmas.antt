-- The order of candidates, and what goes on with the best one.
use Rattle.std.proofs.Common.{◌≡◌, ℕ, true, false, cond, List, [], ◌∷◌, ◌++◌, drop, take, length, Option, Some, None, is_some, refl, sym, ap, ◌∙◌, subst}
use Rattle.std.specs.Prelude.{◌⊎◌, nat_eq}
use mathlib.Core.Logic.{inl, inr}
use Rattle.std.specs.Borrow.{Bor}
use Rattle.std.specs.Cmp.{IsTotalOrder, on_total, then_total, tied_itself, upto}
use Rattle.std.specs.Cmp.Lexicographic.{pointwise, texts_ties}
use Rattle.std.specs.FinMap.Entries.{where_key}
use Rattle.std.specs.List.{starts_with}
use Rattle.std.specs.Option.{option_map}
use Rattle.std.specs.Ordering.{is_gt, is_lt, ordering_reverse, ordering_then}
use Rattle.std.specs.declared.cmp.Ordering.{Ordering}
use Rattle.std.specs.declared.cmp.Ordering.TheVariants.{Less, Equal, Greater}
use Rattle.std.proofs.lemmas.Bool.{false≢true, true≢false}
use Rattle.std.proofs.lemmas.List.{append_assoc, take-append-drop}
use Rattle.std.proofs.Math.Seq.{take-append_seam}
use Rattle.ext_lines.specs.ByteOrder.{bytes_exact, bytes_total}
use Rattle.ext_text.specs.Path.{path_cmp}
use Rattle.ext_text.specs.declared.arch.Arch.{Arch}
use Rattle.ext_text.proofs.ForCallers.{same_name, tied_name}
use Rattle.ext_tree.specs.Slices.{is_named}
use Rattle.ext_tree.specs.Tree.{Entries, IsTree, lookup}
use Rattle.ext_tree.proofs.ForCallers.{lookup_where}
use Rattle.ext_walk.specs.Walk.{Ends, is_idle, is_up}
use Rattle.ext_walk.specs.Leads.{LeadsToDirectory}
use Rattle.ext_walk.specs.Row.{Passes}
use Rattle.ext_walk.proofs.ForCallers.{named_child}
use Rattle.ext_vers.specs.Order.{orders_total}
use Rattle.ext_find.specs.Pick.{CandidateAt, IsBest, IsCandidate, IsPick, Picks, better_of, candidate_cmp}
use Rattle.ext_find.specs.Version.{NamesVersion, ReadsVersion, ReadsVersionAfter}
use Rattle.ext_find.specs.declared.pick.Candidate.{Candidate}
use Rattle.ext_find.proofs.PartedLemmas.{child_leads, plain_name, not_up}

pub candidates_total : IsTotalOrder candidate_cmp
candidates_total = then_total (on_total (λ (c : List ℕ × List ℕ). c.0) orders_total) (on_total (λ (c : List ℕ × List ℕ). c.1) bytes_total)

not_above : (r : Ordering) → is_gt r ≡ true → is_gt (ordering_reverse r) ≡ false
not_above Less above = absurd (false≢true above)
not_above Equal above = absurd (false≢true above)
not_above Greater above = refl

-- what does not exceed the best one does not exceed one that does
pub below_better : (a b c : List ℕ × List ℕ) → is_gt (candidate_cmp a b) ≡ false → is_gt (candidate_cmp c b) ≡ true → is_gt (candidate_cmp a c) ≡ false
below_better a b c low high = upto candidates_total a b c low (ap is_gt (candidates_total.antisymm b c) ∙ not_above (candidate_cmp c b) high)

same_candidate : (v w n m : List ℕ) → v ≡ w → n ≡ m → (z : List ℕ × List ℕ) → is_gt (candidate_cmp (v, n) z) ≡ is_gt (candidate_cmp (w, m) z)
same_candidate v w n m p q z = λ i. is_gt (candidate_cmp (p i, q i) z)

pub not_itself : (a : List ℕ × List ℕ) → is_gt (candidate_cmp a a) ≡ false
not_itself a = ap is_gt (tied_itself candidates_total a)

neither : (r s : Ordering) → r ≡ ordering_reverse s → is_gt r ≡ false → is_gt s ≡ false → r ≡ Equal
neither Less Less is low high = absurd (false≢true (ap is_lt (sym is)))
neither Less Equal is low high = absurd (false≢true (ap is_lt (sym is)))
neither Less Greater is low high = absurd (true≢false high)
neither Equal s is low high = refl
neither Greater s is low high = absurd (true≢false low)

second : (r s : Ordering) → ordering_then r s ≡ Equal → s ≡ Equal
second Less s e = cc e
second Equal s e = e
second Greater s e = cc e

module _ {C : Type 0} (es : Entries C) (arch : Arch) (path : List (List ℕ)) (stem : List ℕ) where
  -- there is one pick
  pub one_pick : (a b : List ℕ) → IsPick es arch path stem a → IsPick es arch path stem b → a ≡ b
  one_pick a b first other =
      let tied = neither (candidate_cmp (first.version, a) (other.version, b)) (candidate_cmp (other.version, b) (first.version, a)) (candidates_total.antisymm (first.version, a) (other.version, b)) (other.greatest a first.version first.candidate) (first.greatest b other.version other.candidate) in
      bytes_exact a b (second _ _ tied)

  module _ (directory : List (List ℕ)) (rest more : Entries C) (name : List ℕ) (next : Passes directory rest name more) where
    -- a candidate that is passed now was passed before or has the name
    pub best_next : (best found : Option Candidate) → IsBest es arch path stem directory rest best → CandidateAt es arch path stem name found → IsBest es arch path stem directory more (better_of best found)
    best_next None None best none = λ n v candidate passed. by_case n v candidate (next.passed n passed)
      where
        by_case : (n v : List ℕ) → IsCandidate es arch path stem n v → (lookup rest (directory ++ n ∷ []) ≡ None) ⊎ (n ≡ name) → ⊥
        by_case n v candidate (inl before) = best n v candidate before
        by_case n v candidate (inr same) = none v (subst (λ m. IsCandidate es arch path stem m v) same candidate)
    best_next None (Some c) best found = (subst (λ m. IsCandidate es arch path stem m c.version.now) (sym found.0) found.1, λ n v candidate passed. by_case n v candidate (next.passed n passed))
      where
        by_case : (n v : List ℕ) → IsCandidate es arch path stem n v → (lookup rest (directory ++ n ∷ []) ≡ None) ⊎ (n ≡ name) → is_gt (candidate_cmp (v, n) (c.version.now, c.name.now)) ≡ false
        by_case n v candidate (inl before) = absurd (best n v candidate before)
        by_case n v candidate (inr same) =
            let version : v ≡ c.version.now = found.2 v (subst (λ m. IsCandidate es arch path stem m v) same candidate) in
            let named : n ≡ c.name.now = same ∙ sym found.0 in
            same_candidate v c.version.now n c.name.now version named (c.version.now, c.name.now) ∙ not_itself (c.version.now, c.name.now)
    best_next (Some b) None best none = (best.0, λ n v candidate passed. by_case n v candidate (next.passed n passed))
      where
        by_case : (n v : List ℕ) → IsCandidate es arch path stem n v → (lookup rest (directory ++ n ∷ []) ≡ None) ⊎ (n ≡ name) → is_gt (candidate_cmp (v, n) (b.version.now, b.name.now)) ≡ false
        by_case n v candidate (inl before) = best.1 n v candidate before
        by_case n v candidate (inr same) = absurd (none v (subst (λ m. IsCandidate es arch path stem m v) same candidate))
    best_next (Some b) (Some c) best found =
        elim (is_gt (candidate_cmp (c.version.now, c.name.now) (b.version.now, b.name.now))) as (λ t. is_gt (candidate_cmp (c.version.now, c.name.now) (b.version.now, b.name.now)) ≡ t → IsBest es arch path stem directory more (cond t (Some c) (Some b))) [
          | true ↦ λ above. (subst (λ m. IsCandidate es arch path stem m c.version.now) (sym found.0) found.1, λ n v candidate passed. new n v above candidate (next.passed n passed))
          | false ↦ λ low. (best.0, λ n v candidate passed. old n v low candidate (next.passed n passed))
        ] refl
      where
        new : (n v : List ℕ) → is_gt (candidate_cmp (c.version.now, c.name.now) (b.version.now, b.name.now)) ≡ true → IsCandidate es arch path stem n v → (lookup rest (directory ++ n ∷ []) ≡ None) ⊎ (n ≡ name) → is_gt (candidate_cmp (v, n) (c.version.now, c.name.now)) ≡ false
        new n v above candidate (inl before) = below_better (v, n) (b.version.now, b.name.now) (c.version.now, c.name.now) (best.1 n v candidate before) above
        new n v above candidate (inr same) =
            let version : v ≡ c.version.now = found.2 v (subst (λ m. IsCandidate es arch path stem m v) same candidate) in
            let named : n ≡ c.name.now = same ∙ sym found.0 in
            same_candidate v c.version.now n c.name.now version named (c.version.now, c.name.now) ∙ not_itself (c.version.now, c.name.now)

        old : (n v : List ℕ) → is_gt (candidate_cmp (c.version.now, c.name.now) (b.version.now, b.name.now)) ≡ false → IsCandidate es arch path stem n v → (lookup rest (directory ++ n ∷ []) ≡ None) ⊎ (n ≡ name) → is_gt (candidate_cmp (v, n) (b.version.now, b.name.now)) ≡ false
        old n v low candidate (inl before) = best.1 n v candidate before
        old n v low candidate (inr same) =
            let version : v ≡ c.version.now = found.2 v (subst (λ m. IsCandidate es arch path stem m v) same candidate) in
            let named : n ≡ c.name.now = same ∙ sym found.0 in
            same_candidate v c.version.now n c.name.now version named (b.version.now, b.name.now) ∙ low

  -- a candidate stands in the directory
  pub candidate_there : IsTree es → (directory : List (List ℕ)) (name version : List ℕ) → Ends es path directory → IsCandidate es arch path stem name version → is_some (lookup es (directory ++ name ∷ [])) ≡ true
  candidate_there tree directory name version ends candidate =
      child_leads es tree path directory candidate.leads.0 name ends candidate.leads.1 (ap is_idle candidate.named ∙ plain_name stem candidate.text) (ap is_up candidate.named ∙ not_up stem candidate.text)

  -- once none is left the best is the pick
  pub picked : (directory : List (List ℕ)) (rest : Entries C) (best : Option Candidate) → ((n : List ℕ) → lookup rest (directory ++ n ∷ []) ≡ None) → IsBest es arch path stem directory rest best → Picks es arch path stem (option_map (λ c. c.name) best)
  picked directory rest None none best = λ n pick. best n pick.version pick.candidate (none n)
  picked directory rest (Some c) none best = record { version = c.version.now; candidate = best.0; greatest = λ n v candidate. best.1 n v candidate (none n) }

same_text : (start a b : List ℕ) → start ++ a ≡ start ++ b → a ≡ b
same_text [] a b same = same
same_text (s ∷ start) a b same = same_text start a b (ap (drop 1) same)

whole_name : (stem text : List ℕ) → (stem ++ 95 ∷ []) ++ text ≡ stem ++ 95 ∷ text
whole_name stem text = append_assoc stem (95 ∷ []) text

module _ {C : Type 0} (es : Entries C) (arch : Arch) (path : List (List ℕ)) (stem start name : List ℕ) (is : start ≡ stem ++ 95 ∷ []) where
  start_text : (text : List ℕ) → name ≡ stem ++ 95 ∷ text → name ≡ start ++ text
  start_text text named = named ∙ sym (whole_name stem text) ∙ ap (λ s. s ++ text) (sym is)

  pub none_named : ReadsVersionAfter arch start name None → (version : List ℕ) → ¬ IsCandidate es arch path stem name version
  none_named none version candidate = none candidate.text version (start_text candidate.text candidate.named) candidate.names

  pub one_named : (version : Bor (List ℕ)) → ReadsVersionAfter arch start name (Some version) → LeadsToDirectory es (path ++ name ∷ []) → IsCandidate es arch path stem name version.now × ((other : List ℕ) → IsCandidate es arch path stem name other → other ≡ version.now)
  one_named version reads leads = (
    record { text = reads.0; named = reads.1 ∙ ap (λ s. s ++ reads.0) is ∙ whole_name stem reads.0; names = reads.2.0; leads = leads },
    λ other candidate. reads.2.1 other (subst (λ t. NamesVersion arch t other) (same_text start candidate.text reads.0 (sym (start_text candidate.text candidate.named) ∙ reads.1)) candidate.names),
  )

-- what a name names past its first bytes
pub no_start : (arch : Arch) (start name : List ℕ) → pointwise nat_eq (take (length start) name) start ≡ false → ReadsVersionAfter arch start name None
no_start arch start name other text version named names =
    false≢true (sym other ∙ texts_ties (take (length start) name) start ∙ tied_name (take (length start) name) start (ap (take (length start)) named ∙ take-append_seam start text))

pub past_start : (arch : Arch) (start name text : List ℕ) (o : Option (Bor (List ℕ))) → pointwise nat_eq (take (length start) name) start ≡ true → text ≡ drop (length start) name → ReadsVersion arch text o → ReadsVersionAfter arch start name o
past_start arch start name text o begins is reads = go o reads
  where
    whole : name ≡ start ++ text
    whole = sym (take-append-drop (length start) name) ∙ (λ i. same_name (take (length start) name) start (sym (texts_ties (take (length start) name) start) ∙ begins) i ++ sym is i)

    go : (o : Option (Bor (List ℕ))) → ReadsVersion arch text o → ReadsVersionAfter arch start name o
    go None none = λ other version named. λ names. none version (subst (λ t. NamesVersion arch t version) (same_text start other text (sym named ∙ whole)) names)
    go (Some v) some = (text, whole, some)

begins : (start text : List ℕ) → starts_with nat_eq (start ++ text) start ≡ true
begins start text = texts_ties start (take (length start) (start ++ text)) ∙ tied_name start (take (length start) (start ++ text)) (sym (take-append_seam start text))

-- each candidate is among the names that the directory has with these first bytes
pub candidates_left : {C : Type 0} (es : Entries C) (arch : Arch) (path : List (List ℕ)) (stem start : List ℕ) (directory : List (List ℕ)) (rest : Entries C) → IsTree es → Ends es path directory → start ≡ stem ++ 95 ∷ [] → rest ≡ where_key path_cmp (is_named directory start) es → (name version : List ℕ) → IsCandidate es arch path stem name version → ¬ (lookup rest (directory ++ name ∷ []) ≡ None)
candidates_left es arch path stem start directory rest tree ends is kept name version candidate none =
    let named : is_named directory start (directory ++ name ∷ []) ≡ true = named_child directory start name ∙ ap (λ n. starts_with nat_eq n start) (start_text es arch path stem start name is candidate.text candidate.named) ∙ begins start candidate.text in
    false≢true (sym (ap is_some none) ∙ ap (λ fs. is_some (lookup fs (directory ++ name ∷ []))) kept
    ∙ ap is_some (lookup_where (is_named directory start) (directory ++ name ∷ []) es ∙ ap (λ b. cond b (lookup es (directory ++ name ∷ [])) None) named)
    ∙ candidate_there es arch path stem tree directory name version ends candidate)
