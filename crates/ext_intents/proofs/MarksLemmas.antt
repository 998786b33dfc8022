-- What the commands of marks want is fit: a host with a mark more, one gone back to a mark and one without a mark come of the host.
-- A valid host has one mark of a generation, the one that is found.
use Rattle.std.proofs.Common.{◌≡◌, ℕ, zero, suc, ◌+◌, ◌<◌, ◌≤◌, true, false, cond, nat_eq, List, [], ◌∷◌, Option, Some, None, inl, inr, refl, sym, ap, ◌∙◌, subst, arith}
use Rattle.std.specs.Prelude.{Contains}
use Rattle.std.specs.List.{AllByRecursion}
use Rattle.std.proofs.lemmas.Bool.Decides.{nat_tests}
use Rattle.std.proofs.lemmas.List.Elements.{Contains-append_cases}
use Rattle.ext_text.proofs.ForCallers.{all_weaker}
use Rattle.ext_host.specs.Valid.{IsValidHost, most_past}
use Rattle.ext_host.specs.declared.past.Past.{Past}
use Rattle.ext_host.specs.declared.host.Host.{Host}
use Rattle.ext_changes.proofs.ForCallers.{one_list}
use Rattle.ext_history.specs.Answers.{Forgets, RollsBack}
use Rattle.ext_history.specs.Marks.{AreBefore, FindsMark, HasNoMark, IsMark, back_to, marked, with_mark, without_mark}
use Rattle.ext_history.specs.Next.{ComesOf}
use Rattle.ext_history.proofs.ForCallers.{forget_comes, rollback_comes, the_mark}
use Rattle.ext_cmd.specs.Marks.{kept_marks}
use Rattle.ext_cmd.specs.Words.{IsOptionalKeep}
use Rattle.ext_cmd.specs.declared.answer.Answer.TheVariants as answers
use Rattle.ext_cmd.specs.declared.answer.Answer.TheVariants.{Done, Marked}
use Rattle.ext_cmd.specs.declared.refusal.Refusal.TheVariants.{NoMark}
use Rattle.ext_intents.specs.Intents.{IsAnswerOrRefusal, IsFit, IsPlanned, MayBePast, marks, stays}
use Rattle.ext_intents.specs.Marks.{HistoryChangesWants, MarkWants, AnswersChangesSince, forget_intent, forget_of, history_intent, mark_in, rollback_intent, rollback_to}
use Rattle.ext_intents.specs.declared.intent.Intent.{Intent}
use Rattle.ext_intents.specs.declared.intent.Intent.TheVariants.{Answers, Changes, Refuses}

-- as many marks stay as `mark` can be told: 1 to 16
pub keeps_some : (keep : Option ℕ) → IsOptionalKeep keep → (0 < kept_marks keep) × (kept_marks keep ≤ most_past)
keeps_some None is = (omega arith, omega arith)
keeps_some (Some keep) is = let least = is.0 in let most = is.1 in (omega arith, omega arith)

-- a host that was marked, and keeps as many marks as stay, is wanted
pub marked_wants : (number kept : ℕ) (host next : Host) (keep : Option ℕ) → kept ≡ kept_marks keep → next ≡ with_mark number kept host → ComesOf host (marked number host ∷ []) next
    → MarkWants number host keep (Changes next (Marked number))
marked_wants number kept host next keep same is comes =
    let whole : next ≡ with_mark number (kept_marks keep) host = is ∙ ap (λ k. with_mark number k host) same in
    (subst (ComesOf host (marked number host ∷ [])) whole comes, ap (λ (h : Host). Changes h (Marked number)) whole)

-- past trees that are each of a generation from 1 on and before one are marks before it
pub marks_before : (number : ℕ) (pasts : List Past) → AllByRecursion (λ (past : Past). (0 < past.generation) × (past.generation < number)) pasts → AreBefore number pasts
marks_before number pasts all = all_weaker _ _ (λ past is. is.1) pasts all

-- a mark of other marks is one of them and of the first
later_is : (generation : ℕ) (past : Past) (pasts : List Past) (mark : Past) → IsMark pasts generation mark → IsMark (past ∷ pasts) generation mark
later_is generation past pasts mark is = let lt = is.among.1 in record { among = (suc is.among.0, omega arith, is.among.2); number = is.number }

-- there is none where the first is of another generation and there is none among the others
none_at : (generation : ℕ) (past : Past) (pasts : List Past) (mark : Past) → (past.generation ≡ generation → ⊥) → HasNoMark pasts generation → mark.generation ≡ generation → Contains (past ∷ pasts) mark → ⊥
none_at generation past pasts mark other none number (zero, lt, same) = other (ap (λ (m : Past). m.generation) same ∙ number)
none_at generation past pasts mark other none number (suc k, lt, same) = none mark (record { among = (k, omega arith, same); number = number })

found_later : (generation : ℕ) (past : Past) (pasts : List Past) (found : Option Past) → (past.generation ≡ generation → ⊥) → FindsMark generation pasts found → FindsMark generation (past ∷ pasts) found
found_later generation past pasts None other none = λ mark is. none_at generation past pasts mark other none is.number is.among
found_later generation past pasts (Some mark) other is = later_is generation past pasts mark is

-- the mark that is found is one of the generation, and where none is found there is none
pub finds : (generation : ℕ) (pasts : List Past) → FindsMark generation pasts (mark_in generation pasts)
finds generation [] = λ mark is. let lt = is.among.1 in absurd (omega arith)
finds generation (past ∷ pasts) =
    elim (nat_eq past.generation generation) as (λ b. nat_eq past.generation generation ≡ b → FindsMark generation (past ∷ pasts) (cond b (Some past) (mark_in generation pasts))) [
      | true ↦ λ is. let number : past.generation ≡ generation = grind (arith, nat_tests, is) in record { among = (zero, omega arith, refl); number = number }
      | false ↦ λ is. found_later generation past pasts (mark_in generation pasts) (λ same. grind (arith, nat_tests, is, same)) (finds generation pasts)
    ] refl

-- a valid host has one mark of a generation
module _ (host : Host) (valid : IsValidHost host) (number : ℕ) where
  same_found : (mark : Past) (found : Option Past) → IsMark host.past number mark → FindsMark number host.past found → found ≡ Some mark
  same_found mark None is none = absurd (none mark is)
  same_found mark (Some other) is also = ap (λ (m : Past). Some m) (the_mark host number other mark valid also is)

  none_found : (found : Option Past) → HasNoMark host.past number → FindsMark number host.past found → found ≡ None
  none_found None none is = refl
  none_found (Some mark) none is = absurd (none mark is)

  -- so what goes back to it, or drops it, is what is wanted, and so is the refusal where there is none
  pub rolled_back : (next : Host) → RollsBack host number next → Changes next Done ≡ rollback_intent host number
  rolled_back next back =
      ap (λ (h : Host). Changes h Done) back.is_back ∙ sym (ap (rollback_to host number) (same_found back.mark (mark_in number host.past) back.is_mark (finds number host.past)))

  pub not_rolled_back : HasNoMark host.past number → Refuses (NoMark number) ≡ rollback_intent host number
  not_rolled_back none = sym (ap (rollback_to host number) (none_found (mark_in number host.past) none (finds number host.past)))

  pub forgotten : (next : Host) → Forgets host number next → Changes next Done ≡ forget_intent host number
  forgotten next forgets =
      ap (λ (h : Host). Changes h Done) forgets.is_without
      ∙ sym (ap (forget_of host number) (same_found forgets.has.0 (mark_in number host.past) forgets.has.1 (finds number host.past)))

  pub not_forgotten : HasNoMark host.past number → Refuses (NoMark number) ≡ forget_intent host number
  not_forgotten none = sym (ap (forget_of host number) (none_found (mark_in number host.past) none (finds number host.past)))

-- the only one of a list of one, and none of no list
only : (past other : Past) → Contains (past ∷ []) other → past ≡ other
only past other (zero, lt, is) = is
only past other (suc k, lt, is) = absurd (omega arith)

none_of : (past : Past) → Contains [] past → ⊥
none_of past (k, lt, is) = omega arith

-- what comes of a valid host is planned, where the marks that are new are such as a host may get
comes_planned : (coming : ℕ) (host next : Host) (added : List Past) → IsValidHost host → ComesOf host added next → ((past : Past) → Contains added past → MayBePast coming host past)
    → IsPlanned coming (Some host) next
comes_planned coming host next added valid comes new = record {
  valid = comes.valid valid;
  drawn = comes.drawn;
  past = λ past has. elim (Contains-append_cases host.past added past (comes.past past has)) [ inl old ↦ stays old | inr one ↦ new past one ];
}

-- the host as a mark of its generation is one
new_mark : (number : ℕ) (host : Host) (past : Past) → Contains (marked number host ∷ []) past → MayBePast (number + 1) host past
new_mark number host past has = subst (MayBePast (number + 1) host) (only (marked number host) past has) (marks refl refl refl)

pub mark_fits : (number : ℕ) (host : Host) (keep : Option ℕ) (intent : Intent) → IsValidHost host → MarkWants number host keep intent → IsFit (number + 1) (Some host) intent
mark_fits number host keep intent valid wants =
    subst (IsFit (number + 1) (Some host)) (sym wants.1) (comes_planned (number + 1) host _ (marked number host ∷ []) valid wants.0 (new_mark number host))

module _ (coming : ℕ) (host : Host) (number : ℕ) (valid : IsValidHost host) where
  rolled_fits : (found : Option Past) → FindsMark number host.past found → IsFit coming (Some host) (rollback_to host number found)
  rolled_fits None none = tt
  rolled_fits (Some mark) is =
      comes_planned coming host (back_to mark host) [] valid (rollback_comes host (back_to mark host) number (record { mark = mark; is_mark = is; is_back = refl })) (λ past has. absurd (none_of past has))

  pub rollback_fits : IsFit coming (Some host) (rollback_intent host number)
  rollback_fits = rolled_fits (mark_in number host.past) (finds number host.past)

  forgotten_fits : (found : Option Past) → FindsMark number host.past found → IsFit coming (Some host) (forget_of host number found)
  forgotten_fits None none = tt
  forgotten_fits (Some mark) is =
      comes_planned coming host (without_mark number host) [] valid (forget_comes host (without_mark number host) number (record { has = (mark, is); is_without = refl })) (λ past has. absurd (none_of past has))

  pub forget_fits : IsFit coming (Some host) (forget_intent host number)
  forget_fits = forgotten_fits (mark_in number host.past) (finds number host.past)

-- `history` and `history --changes` want a reply
pub history_reply : (host : Host) (intent : Intent) → intent ≡ history_intent host → IsAnswerOrRefusal intent
history_reply host intent is = subst IsAnswerOrRefusal (sym is) tt

since_reply : (host : Host) (number : ℕ) (found : Option Past) (intent : Intent) → AnswersChangesSince host number found intent → IsAnswerOrRefusal intent
since_reply host number None intent is = subst IsAnswerOrRefusal (sym is) tt
since_reply host number (Some mark) intent (list, are, is) = subst IsAnswerOrRefusal (sym is) tt

pub history_changes_reply : (host : Host) (number : ℕ) (intent : Intent) → HistoryChangesWants host number intent → IsAnswerOrRefusal intent
history_changes_reply host number intent wants = since_reply host number (mark_in number host.past) intent wants

-- and there is one
since_once : (host : Host) (number : ℕ) (found : Option Past) (a b : Intent) → AnswersChangesSince host number found a → AnswersChangesSince host number found b → a ≡ b
since_once host number None a b x y = x ∙ sym y
since_once host number (Some mark) a b (list, are, is) (other, also, same) =
    is ∙ ap (λ list. Answers (answers.Changes list)) (one_list _ _ mark.root host.root list other are also) ∙ sym same

pub history_changes_once : (host : Host) (number : ℕ) (a b : Intent) → HistoryChangesWants host number a → HistoryChangesWants host number b → a ≡ b
history_changes_once host number a b x y = since_once host number (mark_in number host.past) a b x y
