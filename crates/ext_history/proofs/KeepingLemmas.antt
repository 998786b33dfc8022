-- A mark over changes of a host: it is there, it stays, and a rollback to it gives what was marked.
use Rattle.std.proofs.Common.{◌≡◌, ◌≢◌, ℕ, ◌-◌, ◌<◌, ◌≤◌, inl, inr, true, false, cond, List, [], ◌∷◌, ◌++◌, length, drop, refl, sym, ap, ◌∙◌, subst, arith, length-append}
use Rattle.std.proofs.lemmas.Bool.Decides.{nat_tests}
use Rattle.std.proofs.lemmas.List.{drop-append-le}
use Rattle.std.proofs.lemmas.List.Elements.{Contains-append_cases, Contains-append_left, Contains-push}
use Rattle.std.specs.List.{Contains}
use Rattle.ext_host.specs.Host.{present}
use Rattle.ext_host.specs.Valid.{IsValidHost}
use Rattle.ext_host.specs.declared.past.Past.{Past}
use Rattle.ext_host.specs.declared.host.Host.{Host}
use Rattle.ext_history.specs.Answers.{RollsBack}
use Rattle.ext_history.specs.Laws.{BackAfterAll, BackAtOnce, BackFromAny, ForgetKeeps, ForgetUndoesMark, LeadTo, MarkIsThere, MarkKeeps, MarkStays, NotDroppedStays, RollbackKeeps}
use Rattle.ext_history.specs.Marks.{AreBefore, IsMark, back_to, is_other, marked, others, with_mark, youngest}
use Rattle.ext_history.proofs.ListLemmas.{contains_drop, filter_contains, one_before, one_mark, one_of}
use Rattle.ext_history.proofs.NextLemmas.{forget_comes, mark_comes, only, rollback_comes}

-- the newest of some marks stays where one does
newest_stays : (marks : List Past) (mark : Past) (keep : ℕ) → 0 < keep → Contains (youngest keep (marks ++ mark ∷ [])) mark
newest_stays marks mark keep some =
    let count = length (marks ++ mark ∷ []) - keep in
    let few : count ≤ length marks = omega (arith, length-append marks (mark ∷ [])) in
    subst (λ l. Contains l mark) (sym (drop-append-le count marks (mark ∷ []) few)) (Contains-push (drop count marks) mark)

pub mark_is_there : MarkIsThere
mark_is_there host generation keep some = record { among = newest_stays host.past (marked generation host) keep some; number = refl }

-- where no mark was of the generation, the one that is found is the new one
is_new : (host : Host) (generation keep : ℕ) (mark : Past) → AreBefore generation host.past → IsMark (with_mark generation keep host).past generation mark → marked generation host ≡ mark
is_new host generation keep mark before is =
    let all = host.past ++ marked generation host ∷ [] in
    elim (Contains-append_cases host.past (marked generation host ∷ []) mark (contains_drop (length all - keep) all mark is.among)) [
      | inl old ↦ absurd (not_itself (one_before generation host.past mark before old) is.number)
      | inr new ↦ only (marked generation host) mark new
    ]
  where
    not_itself : mark.generation < generation → mark.generation ≡ generation → ⊥
    not_itself lt same = omega arith

pub back_at_once : BackAtOnce
back_at_once host next generation keep before back =
    let same : next ≡ with_mark generation keep host =
    back.is_back ∙ ap (λ (m : Past). back_to m (with_mark generation keep host)) (sym (is_new host generation keep back.mark before back.is_mark))
    in
    (same, ap (λ (h : Host). present h) same)

-- a rollback of a valid host that has the mark
back_from : (host last next : Host) (generation : ℕ) → IsValidHost last → Contains last.past (marked generation host) → RollsBack last generation next
    → (next ≡ back_to (marked generation host) last) × (present next ≡ present host)
back_from host last next generation valid has back =
    let one : back.mark ≡ marked generation host = one_mark last.past back.mark (marked generation host) valid.past_order back.is_mark.among has back.is_mark.number in
    let same : next ≡ back_to (marked generation host) last = back.is_back ∙ ap (λ (m : Past). back_to m last) one in
    (same, ap (λ (h : Host). present h) same)

pub back_from_any : BackFromAny
back_from_any host generation hosts last next all has back =
    let one = one_of (λ (h : Host). IsValidHost h × Contains h.past (marked generation host)) hosts last all has in
    back_from host last next generation one.0 one.1 back

-- what leads on keeps the mark, and a valid host valid
lead_mark : (generation : ℕ) (mark : Past) (first last : Host) (hosts : List Host) → IsMark first.past generation mark → LeadTo generation first hosts last → IsMark last.past generation mark
lead_mark generation mark first last [] is to = subst (λ (h : Host). IsMark h.past generation mark) (sym to) is
lead_mark generation mark first last (host ∷ hosts) is to = lead_mark generation mark host last hosts (to.0.kept mark is) to.1

lead_valid : (generation : ℕ) (first last : Host) (hosts : List Host) → IsValidHost first → LeadTo generation first hosts last → IsValidHost last
lead_valid generation first last [] valid to = subst IsValidHost (sym to) valid
lead_valid generation first last (host ∷ hosts) valid to = lead_valid generation host last hosts (to.0.valid valid) to.1

pub mark_stays : MarkStays
mark_stays host last generation keep hosts some to =
    lead_mark generation (marked generation host) (with_mark generation keep host) last hosts (mark_is_there host generation keep some) to

pub back_after_all : BackAfterAll
back_after_all host last next generation keep hosts valid before some most to back =
    let marked_valid = (mark_comes host generation keep before most).valid valid in
    back_from host last next generation (lead_valid generation (with_mark generation keep host) last hosts marked_valid to)
    (mark_stays host last generation keep hosts some to).among back

pub rollback_keeps : RollbackKeeps
rollback_keeps host next to generation back = record {
  valid = (rollback_comes host next to back).valid;
  kept = λ mark is. subst (λ (h : Host). IsMark h.past generation mark) (sym back.is_back) is;
}

other_passes : (a b : ℕ) (mark : Past) → a ≢ b → mark.generation ≡ a → is_other b mark ≡ true
other_passes a b mark apart is = grind (arith, nat_tests)

pub forget_keeps : ForgetKeeps
forget_keeps host next which generation apart forgets = record {
  valid = (forget_comes host next which forgets).valid;
  kept = λ mark is. subst (λ (h : Host). IsMark h.past generation mark) (sym forgets.is_without)
      (record { among = filter_contains (is_other which) host.past mark (other_passes generation which mark apart is.number) is.among; number = is.number });
}

-- where there are no more marks than may stay, all do
few : (keep : ℕ) (marks : List Past) → length marks ≤ keep → youngest keep marks ≡ marks
few keep marks le =
    let none : length marks - keep ≡ 0 = omega arith in
    ap (λ n. drop n marks) none

few_more : (keep : ℕ) (marks : List Past) (mark : Past) → length marks < keep → youngest keep (marks ++ mark ∷ []) ≡ marks ++ mark ∷ []
few_more keep marks mark lt = few keep (marks ++ mark ∷ []) (omega (arith, length-append marks (mark ∷ [])))

pub mark_keeps : MarkKeeps
mark_keeps host added keep generation before lt most = record {
  valid = (mark_comes host added keep before most).valid;
  kept = λ mark is. record {
    among = subst (λ l. Contains l mark) (sym (few_more keep host.past (marked added host) lt)) (Contains-append_left host.past (marked added host ∷ []) mark is.among);
    number = is.number;
  };
}

pub not_dropped_stays : NotDroppedStays
not_dropped_stays host next added generation valid comes none has =
    let found = elim (Contains-append_cases host.past added has.0 (comes.past has.0 has.1.among)) as (λ _. IsMark host.past generation has.0) [
      | inl old ↦ record { among = old; number = has.1.number }
      | inr new ↦ absurd (none has.0 (record { among = new; number = has.1.number }))
    ]
    in
    record {
      valid = comes.valid;
      kept = λ mark is. subst (IsMark next.past generation) (one_mark host.past has.0 mark valid.past_order found.among is.among (found.number ∙ sym is.number)) has.1;
    }

before_passes : (generation : ℕ) (mark : Past) → mark.generation < generation → is_other generation mark ≡ true
before_passes generation mark lt = grind (arith, nat_tests)

-- a mark of the generation is none of them
dropped : (generation : ℕ) (mark : Past) → mark.generation ≡ generation → others generation (mark ∷ []) ≡ []
dropped generation mark is =
    let fails : is_other generation mark ≡ false = grind (arith, nat_tests) in
    ap (λ b. cond b (mark ∷ []) []) fails

-- the marks before the generation are those of others, where one of it stands after them
others_end : (generation : ℕ) (marks : List Past) (mark : Past) → AreBefore generation marks → mark.generation ≡ generation → others generation (marks ++ mark ∷ []) ≡ marks
others_end generation [] mark before is = dropped generation mark is
others_end generation (m ∷ marks) mark before is =
    (λ i. cond (before_passes generation m before.0 i) (m ∷ others generation (marks ++ mark ∷ [])) (others generation (marks ++ mark ∷ [])))
    ∙ ap (λ l. m ∷ l) (others_end generation marks mark before.1 is)

pub forget_undoes_mark : ForgetUndoesMark
forget_undoes_mark host next generation keep before lt forgets =
    let past : others generation (youngest keep (host.past ++ marked generation host ∷ [])) ≡ host.past =
    ap (others generation) (few_more keep host.past (marked generation host) lt) ∙ others_end generation host.past (marked generation host) before refl
    in
    forgets.is_without ∙ ap (λ (marks : List Past). record host { past = marks }) past
