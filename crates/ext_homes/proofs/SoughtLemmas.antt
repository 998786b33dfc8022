-- Marks of stamps: one more is set, and those before stay.
use Rattle.std.proofs.Common.{◌≡◌, ℕ, suc, ◌+◌, ◌<◌, Bool, true, List, [], ◌∷◌, ◌++◌, length, take, get_or, set, sym, ap, ◌∙◌, subst, inl, inr, arith, get_or-set_other, get_or-set_same}
use Rattle.std.proofs.lemmas.Bool.{cases_eq}
use Rattle.std.proofs.Math.Seq.{take-suc}
use Rattle.ext_tree.specs.Tree.{Entries}
use Rattle.ext_tree.specs.declared.entry.Entry.{Entry}
use Rattle.ext_tree.specs.declared.entry.Entry.TheVariants.{Dir, Opaque, File, Link, Hide}
use Rattle.ext_tree.specs.declared.stamp.Stamp.{Stamp}
use Rattle.ext_text.proofs.ForCallers.{all_append}
use Rattle.ext_host.specs.Held.{HeldFile}
use Rattle.ext_homes.specs.Sought.{AreSought, EntryAmong, Grows, IsSought, mark_of}

pub marks_stamp : (marks : List Bool) (i : ℕ) (stamp : Stamp) → i ≡ mark_of stamp → i < length marks → IsSought (set marks i true) stamp
marks_stamp marks i stamp is within = subst (λ k. get_or (set marks i true) k true ≡ true) is (get_or-set_same marks i true true within)

pub marks_more : (marks : List Bool) (i : ℕ) → i < length marks → Grows marks (set marks i true)
marks_more marks i within stamp is =
    elim (cases_eq (mark_of stamp) i) [
      | inl here ↦ marks_stamp marks i stamp (sym here) within
      | inr other ↦ get_or-set_other marks i (mark_of stamp) true true other ∙ is
    ]

entry_grows : (old new : List Bool) (e : Entry HeldFile) → Grows old new → EntryAmong (IsSought old) e → EntryAmong (IsSought new) e
entry_grows old new (Dir attributes) grows among = tt
entry_grows old new (Opaque attributes) grows among = tt
entry_grows old new (File attributes held) grows among = λ brings. grows held.stamp (among brings)
entry_grows old new (Link owner target) grows among = tt
entry_grows old new Hide grows among = tt

pub entries_grow : (old new : List Bool) (es : Entries HeldFile) → Grows old new → AreSought old es → AreSought new es
entries_grow old new [] grows among = tt
entries_grow old new (e ∷ es) grows among = (entry_grows old new e.1 grows among.0, entries_grow old new es grows among.1)

-- one entry more
pub sought_on : (old new : List Bool) (es : Entries HeldFile) (e : List (List ℕ) × Entry HeldFile) → Grows old new → AreSought old es → EntryAmong (IsSought new) e.1 → AreSought new (es ++ e ∷ [])
sought_on old new es e grows among here = all_append (λ x. EntryAmong (IsSought new) x.1) es (e ∷ []) (entries_grow old new es grows among) (here, tt)

pub sought_next : (old new : List Bool) (es : Entries HeldFile) (i : ℕ) (e : List (List ℕ) × Entry HeldFile) → get_or es i e ≡ e → i < length es → Grows old new → AreSought old (take i es) → EntryAmong (IsSought new) e.1
    → AreSought new (take (i + 1) es)
sought_next old new es i e is within grows among here =
    let next : take (suc i) es ≡ take i es ++ e ∷ [] = take-suc es i e within ∙ ap (λ x. take i es ++ x ∷ []) is in
    let count : suc i ≡ i + 1 = omega arith in
    subst (λ k. AreSought new (take k es)) count (subst (AreSought new) (sym next) (sought_on old new (take i es) e grows among here))
