-- The lines of a manifest that a transfer reads as versions.
use Rattle.std.proofs.Common.{◌≡◌, ◌≢◌, ◌↔◌, ◌⊎◌, inl, inr, ℕ, ◌+◌, ◌-◌, ◌<◌, ◌≤◌, Bool, true, false, cond, List, [], ◌∷◌, ◌++◌, length, take, drop, Option, Some, None, refl, sym, ap, subst, ◌∙◌, arith, append_assoc, append-nil}
use Rattle.std.specs.Prelude.{IsTrue, IsSome, codes}
use Rattle.std.specs.Cmp.{tied_itself}
use Rattle.std.specs.FinMap.{is_sorted}
use Rattle.std.specs.FinMap.Entries.{below_all}
use Rattle.std.specs.List.{Contains, cons_option}
use Rattle.std.specs.Ordering.{is_eq, ordering_reverse}
use Rattle.std.specs.declared.cmp.Ordering.{Ordering}
use Rattle.std.specs.declared.cmp.Ordering.TheVariants.{Less, Equal, Greater}
use Rattle.std.specs.Str.{bytes_eq}
use Rattle.std.proofs.lemmas.Bool.{and_parts, false≢true}
use Rattle.ext_lines.specs.ByteOrder.{bytes_cmp, bytes_exact, bytes_total}
use Rattle.ext_text.specs.Name.{IsName}
use Rattle.ext_text.specs.declared.digest.Digest.{Digest}
use Rattle.ext_text.proofs.ForCallers.{is_equal, is_less}
use Rattle.ext_sums.specs.Sums.{Entries, entries_of, listed_entry, said}
use Rattle.ext_sums.specs.declared.sums.Listed.{Listed}
use Rattle.ext_transfer.specs.declared.transfer.ResourceType.{ResourceType}
use Rattle.ext_transfer.specs.declared.transfer.Transfer.{Transfer}
use Rattle.ext_available.specs.declared.offer.Offer.{Offer}
use Rattle.ext_available.specs.Candidates.{AreLeast, AreOffersOf, IsLeastOf, IsListedBy, IsNamedOffer, IsOfferOf, OffersJust}
use Rattle.ext_available.specs.Offers.{AreOffers, find_offer}
use Rattle.ext_available.specs.Resource.{Has, IsCandidate, IsListed, IsReadAs, listed_name}
use Rattle.ext_available.proofs.LeastLemmas.{contains_cases, contains_here, contains_later}
use Rattle.ext_available.proofs.VersionLemmas.{equal_bytes}

-- an offer with the bytes of a digest
abbrev pub offer_with : List ℕ → List ℕ → List ℕ → Offer
offer_with version name digest = record { version = version; name = name; digest = record { 0 = digest } }

-- a name below all names of entries has no digest there
absent : (name : List ℕ) (es : Entries) → below_all bytes_cmp name es ≡ true → said es name ≡ None
absent name [] below = refl
absent name (e ∷ es) below =
    let parts = and_parts _ _ below in
    ap (λ r. cond (is_eq r) (Some e.1) (said es name)) (is_less _ parts.0) ∙ absent name es parts.1

-- what the first entry says
said_here : (e : List ℕ × List ℕ) (es : Entries) → said (e ∷ es) e.0 ≡ Some e.1
said_here e es = ap (λ r. cond (is_eq r) (Some e.1) (said es e.0)) (tied_itself bytes_total e.0)

-- what later entries say, where the names ascend
said_later : (e : List ℕ × List ℕ) (es : Entries) (name digest : List ℕ) → IsTrue (is_sorted bytes_cmp (e ∷ es)) → said es name ≡ Some digest → said (e ∷ es) name ≡ Some digest
said_later e es name digest sorted says =
    elim (is_eq (bytes_cmp name e.0)) as (λ b. is_eq (bytes_cmp name e.0) ≡ b → cond b (Some e.1) (said es name) ≡ Some digest) [
      | true ↦ λ tie.
          let same : name ≡ e.0 = bytes_exact name e.0 (is_equal _ tie) in
          absurd (cc (sym (absent e.0 es (and_parts _ _ sorted).0) ∙ ap (said es) (sym same) ∙ says))
      | false ↦ λ _. says
    ] refl

-- and what the entries say is said by the first or by the others
said_cases : (e : List ℕ × List ℕ) (es : Entries) (name digest : List ℕ) → said (e ∷ es) name ≡ Some digest → (e ≡ (name, digest)) ⊎ (said es name ≡ Some digest)
said_cases e es name digest says =
    elim (is_eq (bytes_cmp name e.0)) as (λ b. is_eq (bytes_cmp name e.0) ≡ b → cond b (Some e.1) (said es name) ≡ Some digest → (e ≡ (name, digest)) ⊎ (said es name ≡ Some digest)) [
      | true ↦ λ tie here. inl (
          let named : e.0 ≡ name = sym (bytes_exact name e.0 (is_equal _ tie)) in
          let listed : e.1 ≡ digest = cc here in
          ap (λ n. (n, e.1)) named ∙ ap (λ d. (name, d)) listed)
      | false ↦ λ _ later. inr later
    ] refl says

-- the offer of a line is a candidate of a manifest that lists the line alone, or first
offer_candidate : (t : Transfer) (line : Listed) (es : Entries) (o : Offer) → IsOfferOf t line o → IsCandidate (listed_entry line ∷ es) t o.version o.name o.digest.0
offer_candidate t line es o is = record {
  listed = record {
    resource = is.resource;
    listed = is.listed;
    digest_said = subst (λ (e : List ℕ × List ℕ). said (e ∷ es) (listed_name t.resources o.name) ≡ Some o.digest.0) (sym is.line_is) (said_here (listed_name t.resources o.name, o.digest.0) es);
  };
  read = is.read;
}

candidate_later : (t : Transfer) (e : List ℕ × List ℕ) (es : Entries) (v n d : List ℕ) → IsTrue (is_sorted bytes_cmp (e ∷ es)) → IsCandidate es t v n d → IsCandidate (e ∷ es) t v n d
candidate_later t e es v n d sorted is = record {
  listed = record { resource = is.listed.resource; listed = is.listed.listed; digest_said = said_later e es (listed_name t.resources n) d sorted is.listed.digest_said };
  read = is.read;
}

option_cases : (found : Option Offer) (rest : List Offer) (o : Offer) → Contains (cons_option found rest) o → (found ≡ Some o) ⊎ Contains rest o
option_cases None rest o has = inr has
option_cases (Some x) rest o has = elim (contains_cases x o rest has) [
  | inl here ↦ inl (ap Some here)
  | inr later ↦ inr later
]

option_here : (found : Option Offer) (rest : List Offer) (o : Offer) → found ≡ Some o → Contains (cons_option found rest) o
option_here found rest o is = subst (λ (f : Option Offer). Contains (cons_option f rest) o) (sym is) (contains_here o rest)

option_later : (found : Option Offer) (rest : List Offer) (o : Offer) → Contains rest o → Contains (cons_option found rest) o
option_later None rest o has = has
option_later (Some x) rest o has = contains_later x o rest has

-- what lines offer are candidates of the manifest of these lines
pub offered_candidate : (t : Transfer) (lines : List Listed) (os : List Offer) (o : Offer) → IsTrue (is_sorted bytes_cmp (entries_of lines)) → AreOffersOf t lines os → Contains os o → IsCandidate (entries_of lines) t o.version o.name o.digest.0
offered_candidate t [] os o sorted are has = absurd (none (subst (λ (x : List Offer). Contains x o) are has))
  where
    none : Contains [] o → ⊥
    none (k, below, is) = omega arith
offered_candidate t (line ∷ lines) os o sorted (found, rest, just, are, is) has = elim (option_cases found rest o (subst (λ (x : List Offer). Contains x o) is has)) [
  | inl here ↦ offer_candidate t line (entries_of lines) o ((just o).1 here)
  | inr later ↦ candidate_later t (listed_entry line) (entries_of lines) o.version o.name o.digest.0 sorted (offered_candidate t lines rest o (and_parts _ _ sorted).1 are later)
]

-- and each candidate is offered
pub candidate_offered : (t : Transfer) (lines : List Listed) (os : List Offer) (o : Offer) → AreOffersOf t lines os → IsCandidate (entries_of lines) t o.version o.name o.digest.0 → Contains os o
candidate_offered t [] os o are is = absurd (cc is.listed.digest_said)
candidate_offered t (line ∷ lines) os o (found, rest, just, are, whole) is =
    subst (λ (x : List Offer). Contains x o) (sym whole) (elim (said_cases (listed_entry line) (entries_of lines) (listed_name t.resources o.name) o.digest.0 is.listed.digest_said) [
      | inl here ↦ option_here found rest o ((just o).0 (record { resource = is.listed.resource; listed = is.listed.listed; line_is = here; read = is.read }))
      | inr later ↦ option_later found rest o (candidate_offered t lines rest o are (record {
        listed = record { resource = is.listed.resource; listed = is.listed.listed; digest_said = later };
        read = is.read;
      }))
    ])

neither_less : (m n : List ℕ) → bytes_cmp m n ≢ Less → bytes_cmp n m ≢ Less → m ≡ n
neither_less m n not other =
    elim (bytes_cmp m n) as (λ r. bytes_cmp m n ≡ r → m ≡ n) [
      | Less ↦ λ less. absurd (not less)
      | Equal ↦ λ tie. bytes_exact m n tie
      | Greater ↦ λ above. absurd (other (bytes_total.antisymm n m ∙ ap ordering_reverse above))
    ] refl

-- a source has a version by one name and one digest
pub has_one : (sums : Entries) (t : Transfer) (v m n d e : List ℕ) → Has sums t v m d → Has sums t v n e → (m ≡ n) × (d ≡ e)
has_one sums t v m n d e first second =
    let same : m ≡ n = neither_less m n (second.least m d first.candidate) (first.least n e second.candidate) in
    let digests : Some d ≡ Some e = sym first.candidate.listed.digest_said ∙ ap (λ (x : List ℕ). said sums (listed_name t.resources x)) same ∙ second.candidate.listed.digest_said in
    (same, cc digests)

-- what is found for a version is of it
pub found_version : (os : List Offer) (v : List ℕ) (o : Offer) → find_offer os v ≡ Some o → o.version ≡ v
found_version [] v o found = absurd (cc found)
found_version (x ∷ os) v o found =
    elim (bytes_eq x.version v) as (λ b. bytes_eq x.version v ≡ b → cond b (Some x) (find_offer os v) ≡ Some o → o.version ≡ v) [
      | true ↦ λ same here. ap (λ (y : Offer). y.version) (let is : o ≡ x = cc here in is) ∙ equal_bytes x.version v same
      | false ↦ λ _ later. found_version os v o later
    ] refl found

-- offers with the same parts are the same
pub same_offer : (a b : Offer) → a.version ≡ b.version → a.name ≡ b.name → a.digest.0 ≡ b.digest.0 → a ≡ b
same_offer a b version name digest =
    ap (λ v. offer_with v a.name a.digest.0) version ∙ ap (λ n. offer_with b.version n a.digest.0) name ∙ ap (λ d. offer_with b.version b.name d) digest

some_found : (found : Option Offer) → IsSome found → (o : Offer) × (found ≡ Some o)
some_found None is = absurd (false≢true is)
some_found (Some o) is = (o, refl)

-- of what lines offer, the least name of each version is what the source offers
pub are_offers : (t : Transfer) (lines : List Listed) (all offers : List Offer) → IsTrue (is_sorted bytes_cmp (entries_of lines)) → AreOffersOf t lines all → AreLeast all offers → AreOffers (entries_of lines) t offers
are_offers t lines all offers sorted are least = record {
  ascending = least.ascending;
  found = λ o. (has o, back o);
}
  where
    has : (o : Offer) → find_offer offers o.version ≡ Some o → Has (entries_of lines) t o.version o.name o.digest.0
    has o found =
        let is = least.found o found in record {
          candidate = offered_candidate t lines all o sorted are is.there;
          least = λ other d candidate. is.least (offer_with o.version other d) (candidate_offered t lines all (offer_with o.version other d) are candidate) refl;
        }

    back : (o : Offer) → Has (entries_of lines) t o.version o.name o.digest.0 → find_offer offers o.version ≡ Some o
    back o is =
        let some = some_found (find_offer offers o.version) (least.each o (candidate_offered t lines all o are is.candidate)) in
        let version : some.0.version ≡ o.version = found_version offers o.version some.0 some.1 in
        let other = has some.0 (ap (find_offer offers) version ∙ some.1) in
        let one = has_one (entries_of lines) t o.version some.0.name o.name some.0.digest.0 o.digest.0 (subst (λ (v : List ℕ). Has (entries_of lines) t v some.0.name some.0.digest.0) version other) is in
        some.1 ∙ ap Some (same_offer some.0 o version one.0 one.1)

-- the lines that are left offer what all offer, after what was found so far
abbrev pub OffersOn : Transfer → List Listed → List Listed → List Offer → Type 0
OffersOn t all left done = (rest : List Offer) → AreOffersOf t left rest → AreOffersOf t all (done ++ rest)

-- after a line that offers something
pub offers_on_after : (t : Transfer) (all : List Listed) (line : Listed) (left : List Listed) (done : List Offer) (found : Option Offer) (o : Offer) → OffersOn t all (line ∷ left) done → OffersJust t line found → found ≡ Some o → OffersOn t all left (done ++ o ∷ [])
offers_on_after t all line left done found o so_far just is rest are =
    let just_o : OffersJust t line (Some o) = subst (OffersJust t line) is just in
    subst (AreOffersOf t all) (sym (append_assoc done (o ∷ []) rest)) (so_far (o ∷ rest) (Some o, rest, just_o, are, refl))

-- or nothing
pub offers_on_without : (t : Transfer) (all : List Listed) (line : Listed) (left : List Listed) (done : List Offer) (found : Option Offer) → OffersOn t all (line ∷ left) done → OffersJust t line found → found ≡ None → OffersOn t all left done
offers_on_without t all line left done found so_far just is rest are =
    let just_none : OffersJust t line None = subst (OffersJust t line) is just in
    so_far rest (None, rest, just_none, are, refl)

-- where no line is left
pub offers_on_last : (t : Transfer) (all : List Listed) (done : List Offer) → OffersOn t all [] done → AreOffersOf t all done
offers_on_last t all done so_far = subst (AreOffersOf t all) (append-nil done) (so_far [] refl)
