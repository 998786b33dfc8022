-- Places looked at one after another.
use Rattle.std.proofs.Common.{◌≡◌, inl, inr, ℕ, List, [], ◌∷◌, ◌++◌, map, append_assoc, append-nil, Option, Result, Ok, Err, refl, sym, ap, subst, ◌∙◌, arith}
use Rattle.std.specs.List.{AllZip}
use Rattle.ext_depot.specs.Depot.{DepotState, Files, IsKept}
use Rattle.ext_transfer.specs.declared.transfer.Transfer.{Transfer}
use Rattle.ext_available.specs.declared.offer.Offer.{Offer}
use Rattle.ext_resources.specs.declared.resource.Resource.{Resource}
use Rattle.ext_resources.specs.declared.resource_err.ResourceErr.{ResourceErr}
use Rattle.ext_resources.specs.declared.resource_err.ResourceErr.TheVariants.{OutOfMemory, Fault, NotInDepot, FileTooLarge, TextTooLong, Mismatch, BadTree}
use Rattle.ext_resources.specs.Told.{AreToldAt, IfToldReason, IsFirstUntaken, TellsResource}
use Rattle.ext_resources.proofs.ResourceLemmas.{told_transfer}

-- what each call leaves is kept over both
pub kept_still : (a b c : DepotState) → IsKept a b → IsKept b c → IsKept a c
kept_still a b c first second = record { contents = second.contents ∙ first.contents; count = omega (arith, first.count, second.count) }

-- what errors that are told say
pub told_so : (P Q : ResourceErr → Type 0) → ((e : ResourceErr) → P e → Q e) → (e : ResourceErr) → IfToldReason P e → IfToldReason Q e
told_so P Q weaker OutOfMemory told = tt
told_so P Q weaker Fault told = tt
told_so P Q weaker (NotInDepot path) told = weaker (NotInDepot path) told
told_so P Q weaker (FileTooLarge path) told = weaker (FileTooLarge path) told
told_so P Q weaker (TextTooLong path) told = weaker (TextTooLong path) told
told_so P Q weaker (Mismatch path listed found) told = weaker (Mismatch path listed found) told
told_so P Q weaker (BadTree path line) told = weaker (BadTree path line) told

-- what is told of places that are left is told of all, after the resources so far
pub record GoesOn (Told : ℕ → Result Resource ResourceErr → Type 0) (all left : List ℕ) (done : List Resource) : Type 0 where
  pub resources : (rest : List Resource) → AreToldAt Told left (Ok rest) → AreToldAt Told all (Ok (done ++ rest))
  pub refused : (e : ResourceErr) → IsFirstUntaken Told left e → IsFirstUntaken Told all e

module _ (Told : ℕ → Result Resource ResourceErr → Type 0) (all : List ℕ) where
  -- at first
  pub goes_on_first : GoesOn Told all all []
  goes_on_first = record { resources = λ rest told. told; refused = λ e told. told }

  -- after one more place
  pub goes_on_after : (place : ℕ) (left : List ℕ) (done : List Resource) (r : Resource) → GoesOn Told all (place ∷ left) done → Told place (Ok r)
      → GoesOn Told all left (done ++ r ∷ [])
  goes_on_after place left done r so_far told = record {
    resources = λ rest more.
        let P : List Resource → Type 0 = λ rs. AreToldAt Told all (Ok rs) in
        subst P (sym (append_assoc done (r ∷ []) rest)) (so_far.resources (r ∷ rest) (told, more));
    refused = λ e later. so_far.refused e (inr (r, told, later));
  }

  -- where no place is left
  pub goes_on_last : (done : List Resource) → GoesOn Told all [] done → AreToldAt Told all (Ok done)
  goes_on_last done so_far =
      let P : List Resource → Type 0 = λ rs. AreToldAt Told all (Ok rs) in
      subst P (append-nil done) (so_far.resources [] tt)

  -- where a place has an error
  pub goes_on_error : (place : ℕ) (left : List ℕ) (done : List Resource) → GoesOn Told all (place ∷ left) done → (e : ResourceErr) → Told place (Err e)
      → IsFirstUntaken Told all e
  goes_on_error place left done so_far e told = so_far.refused e (inl told)

-- the resources that are told are those for the transfers at the places
pub all_transfers : (files : Option Files) (ts : List Transfer) (ss : List (List Offer)) (version : List ℕ) (places : List ℕ) (rs : List Resource)
    → AllZip (λ place r. TellsResource files ts ss version place (Ok r)) places rs → map (λ (r : Resource). r.transfer) rs ≡ places
all_transfers files ts ss version [] [] told = refl
all_transfers files ts ss version [] (r ∷ rs) told = absurd told
all_transfers files ts ss version (place ∷ places) [] told = absurd told
all_transfers files ts ss version (place ∷ places) (r ∷ rs) told =
    ap (λ n. n ∷ map (λ (x : Resource). x.transfer) rs) (told_transfer files ts ss version place r told.0)
    ∙ ap (λ (ns : List ℕ). place ∷ ns) (all_transfers files ts ss version places rs told.1)
