-- A run that nothing hinders.
use Rattle.std.proofs.Common.{◌≡◌, ◌⊎◌, ℕ, List, [], ◌∷◌, ◌++◌, Some, IfSome, refl, sym, ◌∙◌, subst, inl, inr, append_assoc, arith}
use Rattle.std.proofs.lemmas.List.{append-nil}
use Rattle.ext_disk.specs.Disk.{Told, BothTold}
use Rattle.ext_published.specs.Asked.{AskSomething, AskedOf, GoesWrong, IsAskWrongAt, IsPublishAsk, asked_words}
use Rattle.ext_gen.specs.Store.{State}
use Rattle.ext_publish.specs.Laws.{IsUnhindered}
use Rattle.ext_publish.specs.Publishing.{EndsQuiet, EndsWith, PubDevices, Publishes}
use Rattle.ext_publish.specs.declared.status.PubStatus.{PubStatus}
use Rattle.ext_publish.specs.declared.status.PubStatus.TheVariants.{Done, Refused, Usage, WriteFault, DiskFault, OutFault, OutOfMemory, BadStore, Unfinished}

-- words that ask something go wrong nowhere
asks_nowhere_wrong : (words : List (List ℕ)) (place : ℕ) → AskSomething words → IsAskWrongAt words place → ⊥
asks_nowhere_wrong words place ask wrong = side wrong.rest wrong.split wrong.wrong
  where
    side : (rest : List (List ℕ)) → words ≡ wrong.prefix ++ rest → GoesWrong wrong.prefix rest → ⊥
    side [] split goes = goes (subst AskSomething (split ∙ append-nil wrong.prefix) ask)
    side (word ∷ rest) split goes = goes (record { more = rest; whole = subst AskSomething (split ∙ sym (append_assoc wrong.prefix (word ∷ []) rest)) ask })

here : (words : List (List ℕ)) (status : PubStatus) (old new : PubDevices) (store d e : Told) → old.store.told ≡ Some store → old.out.told ≡ Some d → new.out.told ≡ Some e
    → IfSome old.store.told (λ x. BothTold (EndsQuiet words status old new x) old.out.told new.out.told) → EndsQuiet words status old new store d e
here words status old new store d e store_is d_is e_is ends =
    subst (λ o. BothTold (EndsQuiet words status old new store) (Some d) o) e_is
    (subst (λ o. BothTold (EndsQuiet words status old new store) o new.out.told) d_is
    (subst (λ o. IfSome o (λ x. BothTold (EndsQuiet words status old new x) old.out.told new.out.told)) store_is ends))

pub unhindered_is_done : (asked : AskedOf) (s : State) (old new : PubDevices) (status : PubStatus) → IsPublishAsk asked → IsUnhindered asked s old new → Publishes (asked_words asked) old new status → (status ≡ Done) ⊎ (status ≡ OutOfMemory)
unhindered_is_done asked s old new status ask free run = each status run (here (asked_words asked) status old new free.store free.d free.e free.store_tells free.out_tells free.out_tells_then run.ends asked ask refl s free.sound free.stands free.quiet)
  where
    each : (status : PubStatus) → Publishes (asked_words asked) old new status → EndsWith s asked free.d free.e old.sink new.sink status → (status ≡ Done) ⊎ (status ≡ OutOfMemory)
    each Done run ends = inl refl
    each (Refused refusal) run ends = absurd (free.no_refusal refusal ends.0)
    each (Usage place) run ends = absurd (asks_nowhere_wrong (asked_words asked) place (record { asked = asked; is = ask; same = refl }) run.words_fit)
    each WriteFault run ends = absurd (free.no_sink_fault run.cause)
    each DiskFault run ends = absurd (free.no_store_fault run.cause)
    each OutFault run ends = absurd (free.no_out_fault run.cause)
    each OutOfMemory run ends = inr refl
    each (BadStore why) run ends = absurd ends
    each Unfinished run ends = absurd (let most = free.few ends.2.0 ends.2.1 in omega (arith, ends.2.2))
