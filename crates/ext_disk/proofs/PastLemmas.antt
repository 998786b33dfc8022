-- A deed as the call that did it: what it changed, and the moments that it added.
use Rattle.std.proofs.Common.{◌≡◌, ℕ, ◌+◌, ◌<◌, ◌≤◌, Bool, true, false, List, [], ◌∷◌, ◌++◌, length, refl, sym, ap, ◌∙◌, subst, inl, arith, length-append}
use Rattle.std.proofs.lemmas.List.{take_all, take-append-le}
use Rattle.ext_disk.specs.Disk.{Told}
use Rattle.ext_disk.specs.Calls.{Call, look, make_dir, make_file, append, sync_file, sync_dir, rename, remove, after, appended_after, DoneTold, FailsTold, DoesTold}
use Rattle.ext_disk.specs.Deeds.{call_of, told_of, replay, given_from, empty_places}
use Rattle.ext_disk.specs.declared.deed.Deed.{Deed}
use Rattle.ext_disk.specs.declared.deed.Deed.TheVariants.{MakeDir, MakeFile, Append, SyncFile, SyncDir, Rename, Remove}
use Rattle.ext_disk.specs.declared.disk_entry.Content.{Content}
use Rattle.ext_disk.proofs.HistoryLemmas.{replay_push}
use Rattle.ext_disk.proofs.Sparing.{later_itself}

done_deed : (deed : Deed) (d e : Told) → e.places ≡ after (call_of deed) d.places → e.appended ≡ appended_after (call_of deed) d.appended → DoneTold (call_of deed) d e
done_deed (MakeDir p) d e places sum = (places, sum)
done_deed (MakeFile p) d e places sum = (places, sum)
done_deed (Append p bytes) d e places sum = (places, sum)
done_deed (SyncFile p) d e places sum = (places, sum)
done_deed (SyncDir p) d e places sum = (places, sum)
done_deed (Rename from to) d e places sum = (places, sum)
done_deed (Remove p) d e places sum = (places, sum)

one_more : (given : List (List (List ℕ) × Content)) (deeds : List Deed) (deed : Deed) (sum : ℕ)
    → DoesTold (call_of deed) true (told_of given deeds sum) (told_of given (deeds ++ deed ∷ []) (appended_after (call_of deed) sum))
one_more given deeds deed sum =
    let longer : length (deeds ++ deed ∷ []) ≡ length deeds + 1 = length-append deeds (deed ∷ []) in
    let pushed : replay given (deeds ++ deed ∷ []) ≡ after (call_of deed) (replay given deeds) = replay_push (given_from empty_places given) deeds deed in
    record {
      later = record { clock = omega (arith, longer); past = λ n upto. ap (replay given) (take-append-le n deeds (deed ∷ []) upto) };
      within = λ n late upto. inl (ap (replay given) (take_all n (deeds ++ deed ∷ []) (omega (arith, longer))) ∙ pushed);
      ends = done_deed deed (told_of given deeds sum) (told_of given (deeds ++ deed ∷ []) (appended_after (call_of deed) sum)) pushed refl;
    }

-- a deed that was added
pub added : (given given' : List (List (List ℕ) × Content)) (deeds deeds' : List Deed) (sum sum' : ℕ) (deed : Deed) (call : Call) → call ≡ call_of deed → given' ≡ given → deeds' ≡ deeds ++ deed ∷ []
    → sum' ≡ appended_after (call_of deed) sum → DoesTold call true (told_of given deeds sum) (told_of given' deeds' sum')
added given given' deeds deeds' sum sum' deed call same given_is deeds_is sum_is =
    subst (λ c. DoesTold c true (told_of given deeds sum) (told_of given' deeds' sum')) (sym same)
    (subst (DoesTold (call_of deed) true (told_of given deeds sum)) (λ i. told_of (sym given_is i) (sym deeds_is i) (sym sum_is i)) (one_more given deeds deed sum))

fails_nothing : (call : Call) (d : Told) → FailsTold call d d
fails_nothing look d = refl
fails_nothing (make_dir p) d = (inl refl, refl)
fails_nothing (make_file p) d = (inl refl, refl)
fails_nothing (append p bytes) d = (inl refl, refl)
fails_nothing (sync_file p) d = refl
fails_nothing (sync_dir p) d = refl
fails_nothing (rename from to) d = (inl refl, refl)
fails_nothing (remove p) d = (inl refl, refl)

none_between : (n m : ℕ) → n < m → m ≤ n → ⊥
none_between n m less most = omega arith

does_nothing : (call : Call) (d : Told) → DoesTold call false d d
does_nothing call d = record {
  later = later_itself d;
  within = λ n late upto. absurd (none_between d.clock n late upto);
  ends = fails_nothing call d;
}

-- a call that failed and changed nothing
pub failed : (call : Call) (d e : Told) → e ≡ d → DoesTold call false d e
failed call d e same = subst (DoesTold call false d) (sym same) (does_nothing call d)

-- a call that reads
pub looked : (done : Bool) (d : Told) → DoesTold look done d d
looked true d = record { later = later_itself d; within = λ n late upto. absurd (none_between d.clock n late upto); ends = refl }
looked false d = does_nothing look d
