-- The host that comes of another one by its marks: it is valid, its files are those of that host, and so are its marks.
use Rattle.std.proofs.Common.{◌≡◌, ℕ, zero, suc, ◌-◌, ◌≤◌, List, [], ◌∷◌, ◌++◌, length, refl, sym, ap, subst, arith}
use Rattle.std.proofs.lemmas.List.{length-drop}
use Rattle.std.proofs.lemmas.List.Elements.{Contains-append_cases, Contains-append_left}
use Rattle.std.proofs.lemmas.List.Sums.{count_by-le-length, length-filter}
use Rattle.std.proofs.Common.{inl, inr}
use Rattle.std.specs.List.{AllByRecursion, Contains, flat_map}
use Rattle.ext_text.proofs.ForCallers.{all_append}
use Rattle.ext_tree.specs.Tree.{Entries}
use Rattle.ext_host.proofs.ForCallers.{trees_are_drawn}
use Rattle.ext_host.specs.Drawn.{IsDrawnFrom, trees_of}
use Rattle.ext_host.specs.Held.{HeldFile}
use Rattle.ext_host.specs.Host.{hierarchies_in, past_tree}
use Rattle.ext_host.specs.Valid.{IsValidHost, IsValidTree, most_past}
use Rattle.ext_host.specs.declared.past.Past.{Past}
use Rattle.ext_host.specs.declared.host.Host.{Host}
use Rattle.ext_history.specs.Answers.{Forgets, RollsBack}
use Rattle.ext_history.specs.Marks.{AreBefore, back_to, is_other, marked, with_mark, without_mark}
use Rattle.ext_history.specs.Next.{ComesOf}
use Rattle.ext_history.proofs.ListLemmas.{all_drop, all_filter, ascending_filter, ascending_last, ascending_more, contains_drop, contains_filter, one_of}

-- a past tree is valid with these hierarchies
abbrev IsValidMark : Host → Past → Type 0
IsValidMark host mark = IsValidTree (hierarchies_in host) (past_tree mark)

marked_is_valid : (host : Host) (generation keep : ℕ) → AreBefore generation host.past → keep ≤ most_past → IsValidHost host → IsValidHost (with_mark generation keep host)
marked_is_valid host generation keep before most valid =
    let all = host.past ++ marked generation host ∷ [] in
    record {
      scope = valid.scope;
      hierarchies = valid.hierarchies;
      present = valid.present;
      past = all_drop (IsValidMark host) (length all - keep) all (all_append (IsValidMark host) host.past (marked generation host ∷ []) valid.past (valid.present, tt));
      past_count = omega (arith, length-drop (length all - keep) all);
      past_order = ascending_last (length all - keep) all (ascending_more host.past (marked generation host) before valid.past_order);
    }

back_is_valid : (host : Host) (mark : Past) → Contains host.past mark → IsValidHost host → IsValidHost (back_to mark host)
back_is_valid host mark has valid = record {
  scope = valid.scope;
  hierarchies = valid.hierarchies;
  present = one_of (IsValidMark host) host.past mark valid.past has;
  past = valid.past;
  past_count = valid.past_count;
  past_order = valid.past_order;
}

without_is_valid : (host : Host) (which : ℕ) → IsValidHost host → IsValidHost (without_mark which host)
without_is_valid host which valid =
    let fewer = count_by-le-length (is_other which) host.past in
    record {
      scope = valid.scope;
      hierarchies = valid.hierarchies;
      present = valid.present;
      past = all_filter (IsValidMark host) (is_other which) host.past valid.past;
      past_count = omega (arith, length-filter (is_other which) host.past, fewer, valid.past_count);
      past_order = ascending_filter _ (λ (mark : Past). mark.generation) (is_other which) host.past valid.past_order;
    }

-- the trees of marks
abbrev trees_of_marks : List Past → List (Entries HeldFile)
trees_of_marks marks = flat_map (λ mark. mark.root ∷ mark.lower ∷ []) marks

-- both trees of a mark are among some
abbrev HasBoth : List (Entries HeldFile) → Past → Type 0
HasBoth trees mark = Contains trees mark.root × Contains trees mark.lower

later : {X : Type 0} (a b : X) (xs : List X) (x : X) → Contains xs x → Contains (a ∷ b ∷ xs) x
later a b xs x (k, lt, is) = (suc (suc k), omega arith, is)

both_among : (marks : List Past) (mark : Past) → Contains marks mark → HasBoth (trees_of_marks marks) mark
both_among [] mark (k, lt, is) = absurd (omega arith)
both_among (m ∷ marks) mark (zero, lt, is) = ((zero, omega arith, ap (λ (x : Past). x.root) is), (suc zero, omega arith, ap (λ (x : Past). x.lower) is))
both_among (m ∷ marks) mark (suc k, lt, is) =
    let rest = both_among marks mark (k, omega arith, is) in
    (later m.root m.lower (trees_of_marks marks) mark.root rest.0, later m.root m.lower (trees_of_marks marks) mark.lower rest.1)

-- both trees of a host's mark are trees of the host
mark_among : (host : Host) (mark : Past) → Contains host.past mark → HasBoth (trees_of host) mark
mark_among host mark has =
    let both = both_among host.past mark has in
    (later host.root host.lower (trees_of_marks host.past) mark.root both.0, later host.root host.lower (trees_of_marks host.past) mark.lower both.1)

-- where both trees of each of some marks are among others, all of them are
all_among : (trees : List (Entries HeldFile)) (marks : List Past) → AllByRecursion (HasBoth trees) marks → AllByRecursion (Contains trees) (trees_of_marks marks)
all_among trees [] all = tt
all_among trees (mark ∷ marks) all = (all.0.0, (all.0.1, all_among trees marks all.1))

each_mark : (host : Host) (marks : List Past) → ((mark : Past) → Contains marks mark → HasBoth (trees_of host) mark) → AllByRecursion (HasBoth (trees_of host)) marks
each_mark host [] each = tt
each_mark host (mark ∷ marks) each = (each mark (zero, omega arith, refl), each_mark host marks (λ m has. each m (next m has)))
  where
    next : (m : Past) → Contains marks m → Contains (mark ∷ marks) m
    next m (k, lt, is) = (suc k, omega arith, is)

-- a host whose trees are trees of another one is drawn from it
drawn : (host next : Host) → Contains (trees_of host) next.root → Contains (trees_of host) next.lower → ((mark : Past) → Contains next.past mark → HasBoth (trees_of host) mark) → IsDrawnFrom host next
drawn host next root lower marks = trees_are_drawn (trees_of host) (trees_of next) (root, (lower, all_among (trees_of host) next.past (each_mark host next.past marks)))

root_among : (host : Host) → Contains (trees_of host) host.root
root_among host = (zero, omega arith, refl)

lower_among : (host : Host) → Contains (trees_of host) host.lower
lower_among host = (suc zero, omega arith, refl)

-- the only one of a list of one
pub only : {X : Type 0} (x y : X) → Contains (x ∷ []) y → x ≡ y
only x y (zero, lt, is) = is
only x y (suc k, lt, is) = absurd (omega arith)

-- a host with a mark more
pub mark_comes : (host : Host) (generation keep : ℕ) → AreBefore generation host.past → keep ≤ most_past → ComesOf host (marked generation host ∷ []) (with_mark generation keep host)
mark_comes host generation keep before most =
    let all = host.past ++ marked generation host ∷ [] in
    record {
      valid = marked_is_valid host generation keep before most;
      drawn = drawn host (with_mark generation keep host) (root_among host) (lower_among host) (λ mark has. each mark (contains_drop (length all - keep) all mark has));
      past = λ mark has. contains_drop (length all - keep) all mark has;
    }
  where
    new_mark : (mark : Past) → marked generation host ≡ mark → HasBoth (trees_of host) mark
    new_mark mark is = subst (HasBoth (trees_of host)) is (root_among host, lower_among host)

    each : (mark : Past) → Contains (host.past ++ marked generation host ∷ []) mark → HasBoth (trees_of host) mark
    each mark has = elim (Contains-append_cases host.past (marked generation host ∷ []) mark has) [
      | inl old ↦ mark_among host mark old
      | inr new ↦ new_mark mark (only (marked generation host) mark new)
    ]

-- a host gone back to a mark
pub back_comes : (host : Host) (mark : Past) → Contains host.past mark → ComesOf host [] (back_to mark host)
back_comes host mark has =
    let both = mark_among host mark has in
    record {
      valid = back_is_valid host mark has;
      drawn = drawn host (back_to mark host) both.0 both.1 (mark_among host);
      past = λ m among. Contains-append_left host.past [] m among;
    }

-- a host without a mark
pub without_comes : (host : Host) (which : ℕ) → ComesOf host [] (without_mark which host)
without_comes host which = record {
  valid = without_is_valid host which;
  drawn = drawn host (without_mark which host) (root_among host) (lower_among host) (λ mark has. mark_among host mark (contains_filter (is_other which) host.past mark has));
  past = λ mark has. Contains-append_left host.past [] mark (contains_filter (is_other which) host.past mark has);
}

pub rollback_comes : (host next : Host) (to : ℕ) → RollsBack host to next → ComesOf host [] next
rollback_comes host next to back = subst (ComesOf host []) (sym back.is_back) (back_comes host back.mark back.is_mark.among)

pub forget_comes : (host next : Host) (which : ℕ) → Forgets host which next → ComesOf host [] next
forget_comes host next which forgets = subst (ComesOf host []) (sym forgets.is_without) (without_comes host which)
