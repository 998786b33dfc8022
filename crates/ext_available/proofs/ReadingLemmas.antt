-- Manifests read one after another.
use Rattle.std.proofs.Common.{◌≡◌, ◌≢◌, ◌⊎◌, inl, inr, ℕ, ◌+◌, ◌-◌, ◌^◌, ◌<◌, ◌≤◌, Bool, true, ◌&&◌, List, [], ◌∷◌, ◌++◌, length, length-append, append_assoc, append-nil, Option, Result, Ok, Err, refl, sym, ap, subst, ◌∙◌, arith, codes}
use Rattle.std.specs.Prelude.{nat_lt}
use Rattle.std.specs.List.{list_all, sum_by}
use Rattle.std.proofs.lemmas.Bool.{and_parts, ltb-true}
use Rattle.std.proofs.lemmas.List.Elements.{All-weaker}
use Rattle.std.proofs.lemmas.List.Sums.{AllPass-from_list_all}
use Rattle.std.proofs.lemmas.Str.{IsUtf8-from_ascii}
use Rattle.std.proofs.lemmas.Str.Ascii.{IsAscii-from_all}
use Rattle.ext_text.specs.Causes.{Rose}
use Rattle.ext_text.specs.Name.{IsName, is_name_byte}
use Rattle.ext_text.specs.Path.{path_text}
use Rattle.ext_text.proofs.ForCallers.{length-both, length-path_text}
use Rattle.ext_depot.specs.Depot.{DepotState, Files, IsKept}
use Rattle.ext_depot.specs.DepotText.{IsTextIn}
use Rattle.ext_transfer.specs.Bounds.{KeepsBounds}
use Rattle.ext_transfer.specs.declared.transfer.Transfer.{Transfer}
use Rattle.ext_available.specs.declared.offer.Offer.{Offer}
use Rattle.ext_available.specs.declared.offers_err.OffersErr.{OffersErr}
use Rattle.ext_available.specs.declared.offers_err.OffersErr.TheVariants.{OutOfMemory, Fault, NotInDepot, TooLong, BadManifest}
use Rattle.ext_available.specs.Reading.{AreTold, IfTold, IsTold, OffersCause, manifest_path, offers_and}

-- the name of a manifest is one
pub manifest_named : IsName (codes "SHA256SUMS")
manifest_named =
    let test : ℕ → Bool = λ b. is_name_byte b && nat_lt b 128 in
    let all = AllPass-from_list_all test (codes "SHA256SUMS") refl in
    record {
      non_empty = omega arith;
      at_most_255 = omega arith;
      not_dot = λ e. cc;
      not_dot_dot = λ e. cc;
      plain = All-weaker (λ b. test b ≡ true) (λ b. is_name_byte b ≡ true) (λ b is. (and_parts (is_name_byte b) (nat_lt b 128) is).0) (codes "SHA256SUMS") all;
      utf8 = IsUtf8-from_ascii (codes "SHA256SUMS") (IsAscii-from_all (codes "SHA256SUMS") (All-weaker (λ b. test b ≡ true) (λ b. b < 128) (λ b is. ltb-true b 128 (and_parts (is_name_byte b) (nat_lt b 128) is).1) (codes "SHA256SUMS") all));
    }

-- the path of a manifest is within the limits
pub manifest_fits : (t : Transfer) → KeepsBounds t → (length (manifest_path t) ≤ 64) × (length (path_text (manifest_path t)) ≤ 4096)
manifest_fits t keeps = (
  omega (arith, length-append t.source.path (codes "SHA256SUMS" ∷ []), keeps.source_names),
  omega (arith, length-both t.source.path (codes "SHA256SUMS" ∷ []), length-path_text t.source.path, keeps.source_bytes),
)

-- what each call leaves is kept over both
pub kept_still : (a b c : DepotState) → IsKept a b → IsKept b c → IsKept a c
kept_still a b c first second = record { contents = second.contents ∙ first.contents; count = omega (arith, first.count, second.count) }

rose_still : (a b c : ℕ) → a ≤ b → Rose b c → Rose a c
rose_still a b c le (inl less) = inl (omega arith)
rose_still a b c le (inr most) = inr most

-- a fault that a later call had is one since the first
pub cause_still : (a b c : ℕ) (e : OffersErr) → a ≤ b → OffersCause b c e → OffersCause a c e
cause_still a b c OutOfMemory le cause = tt
cause_still a b c Fault le cause = rose_still a b c le cause
cause_still a b c (NotInDepot path) le cause = tt
cause_still a b c TooLong le cause = tt
cause_still a b c (BadManifest path line) le cause = tt

-- an error that is no fault has its cause
pub cause_of_other : (a b : ℕ) (e : OffersErr) → e ≢ Fault → OffersCause a b e
cause_of_other a b OutOfMemory not = tt
cause_of_other a b Fault not = absurd (not refl)
cause_of_other a b (NotInDepot path) not = tt
cause_of_other a b TooLong not = tt
cause_of_other a b (BadManifest path line) not = tt

-- what errors that texts tell say
pub told_so : (P Q : OffersErr → Type 0) → ((e : OffersErr) → P e → Q e) → (e : OffersErr) → IfTold P e → IfTold Q e
told_so P Q weaker OutOfMemory told = tt
told_so P Q weaker Fault told = tt
told_so P Q weaker (NotInDepot path) told = weaker (NotInDepot path) told
told_so P Q weaker TooLong told = weaker TooLong told
told_so P Q weaker (BadManifest path line) told = weaker (BadManifest path line) told

-- what is told of transfers that are left is told of all, after the offers so far
abbrev pub GoesOn : Option Files → List Transfer → List Transfer → List (List Offer) → Type 0
GoesOn files all left done = (rest : Result (List (List Offer)) OffersErr) → AreTold files left rest → AreTold files all (offers_and done rest)

nothing_before : (rest : Result (List (List Offer)) OffersErr) → rest ≡ offers_and [] rest
nothing_before (Ok all) = refl
nothing_before (Err e) = refl

one_before : (done : List (List Offer)) (os : List Offer) (rest : Result (List (List Offer)) OffersErr) → offers_and done (offers_and (os ∷ []) rest) ≡ offers_and (done ++ os ∷ []) rest
one_before done os (Ok all) = ap Ok (sym (append_assoc done (os ∷ []) all))
one_before done os (Err e) = refl

-- at first
pub goes_on_first : (files : Option Files) (ts : List Transfer) → GoesOn files ts ts []
goes_on_first files ts rest told = subst (AreTold files ts) (nothing_before rest) told

-- after one more transfer
pub goes_on_after : (files : Option Files) (all : List Transfer) (t : Transfer) (ts : List Transfer) (done : List (List Offer)) (os : List Offer) → GoesOn files all (t ∷ ts) done → IsTold files t (Ok os) → GoesOn files all ts (done ++ os ∷ [])
goes_on_after files all t ts done os so_far (text, there, tells) rest (texts, in_files, told) =
    subst (AreTold files all) (one_before done os rest) (so_far (offers_and (os ∷ []) rest) (text ∷ texts, (there, in_files), inr (os, rest, tells, told, refl)))

-- where no transfer is left
pub goes_on_last : (files : Option Files) (all : List Transfer) (done : List (List Offer)) → GoesOn files all [] done → AreTold files all (Ok done)
goes_on_last files all done so_far = subst (λ (x : List (List Offer)). AreTold files all (Ok x)) (append-nil done) (so_far (Ok []) ([], tt, (refl, refl)))

-- where a transfer has an error
pub goes_on_error : (files : Option Files) (all : List Transfer) (t : Transfer) (ts : List Transfer) (done : List (List Offer)) → GoesOn files all (t ∷ ts) done → (e : OffersErr) → IsTold files t (Err e) → AreTold files all (Err e)
goes_on_error files all t ts done so_far e (text, there, tells) = so_far (Err e) (text ∷ [], (there, tt), inl (e, tells, refl, refl))
