-- The versions that each source offers.
use Rattle.std.proofs.Common.{◌≡◌, ◌↔◌, ◌⊎◌, inl, inr, ℕ, ◌<◌, Bool, true, false, cond, ◌||◌, List, [], ◌∷◌, ◌++◌, length, drop, get_or, append-nil, append_assoc, Option, Some, None, refl, sym, ap, subst, ◌∙◌, arith}
use Rattle.std.specs.Prelude.{IsSome}
use Rattle.std.specs.List.{AllByRecursion}
use Rattle.std.specs.Str.{bytes_eq}
use Rattle.std.proofs.lemmas.Bool.{false≢true, or_cases, or_left, or_right}
use Rattle.ext_transfer.specs.declared.transfer.Transfer.{Transfer}
use Rattle.ext_versions.specs.Versions.{AreVersions, has_version}
use Rattle.ext_available.specs.declared.offer.Offer.{Offer}
use Rattle.ext_available.specs.Available.{AreAvailable, AreThoseOf, IsAvailable}
use Rattle.ext_available.specs.Offers.{find_offer, offered_versions}
use Rattle.ext_available.proofs.VersionLemmas.{equal_bytes, same_bytes}

-- what is found of versions that are left is found of all, after those so far
abbrev pub FindsOn : List Transfer → List (List Offer) → List Offer → List Offer → List (List ℕ) → Type 0
FindsOn ts os all left done =
    (rest : List (List ℕ)) → AreThoseOf ts os (offered_versions left) rest → AreThoseOf ts os (offered_versions all) (done ++ rest)

those_more : (ts : List Transfer) (os : List (List Offer)) (w : List ℕ) (vs rest : List (List ℕ)) → IsAvailable ts os w → AreThoseOf ts os vs rest → AreThoseOf ts os (w ∷ vs) (w ∷ rest)
those_more ts os w vs rest is those v = (there, back)
  where
    there : has_version (w ∷ rest) v ≡ true → (has_version (w ∷ vs) v ≡ true) × IsAvailable ts os v
    there has = elim (or_cases (bytes_eq v w) (has_version rest v) has) [
      | inl same ↦ (or_left _ _ same, subst (IsAvailable ts os) (sym (equal_bytes v w same)) is)
      | inr later ↦ let rest_is = (those v).0 later in (or_right _ _ rest_is.0, rest_is.1)
    ]

    back : (has_version (w ∷ vs) v ≡ true) × IsAvailable ts os v → has_version (w ∷ rest) v ≡ true
    back (has, available) = elim (or_cases (bytes_eq v w) (has_version vs v) has) [
      | inl same ↦ or_left _ _ same
      | inr later ↦ or_right _ _ ((those v).1 (later, available))
    ]

those_not : (ts : List Transfer) (os : List (List Offer)) (w : List ℕ) (vs rest : List (List ℕ)) → ¬ IsAvailable ts os w → AreThoseOf ts os vs rest → AreThoseOf ts os (w ∷ vs) rest
those_not ts os w vs rest not those v = (there, back)
  where
    there : has_version rest v ≡ true → (has_version (w ∷ vs) v ≡ true) × IsAvailable ts os v
    there has = let rest_is = (those v).0 has in (or_right _ _ rest_is.0, rest_is.1)

    back : (has_version (w ∷ vs) v ≡ true) × IsAvailable ts os v → has_version rest v ≡ true
    back (has, available) = elim (or_cases (bytes_eq v w) (has_version vs v) has) [
      | inl same ↦ absurd (not (subst (IsAvailable ts os) (equal_bytes v w same) available))
      | inr later ↦ (those v).1 (later, available)
    ]

-- after one more version, which is available
pub finds_on_after : (ts : List Transfer) (os : List (List Offer)) (all : List Offer) (o : Offer) (left : List Offer) (done : List (List ℕ)) → FindsOn ts os all (o ∷ left) done → IsAvailable ts os o.version → FindsOn ts os all left (done ++ o.version ∷ [])
finds_on_after ts os all o left done so_far is rest those =
    subst (AreThoseOf ts os (offered_versions all)) (sym (append_assoc done (o.version ∷ []) rest)) (so_far (o.version ∷ rest) (those_more ts os o.version (offered_versions left) rest is those))

-- or which is not
pub finds_on_without : (ts : List Transfer) (os : List (List Offer)) (all : List Offer) (o : Offer) (left : List Offer) (done : List (List ℕ)) → FindsOn ts os all (o ∷ left) done → ¬ IsAvailable ts os o.version → FindsOn ts os all left done
finds_on_without ts os all o left done so_far not rest those = so_far rest (those_not ts os o.version (offered_versions left) rest not those)

-- where none is left
pub finds_on_last : (ts : List Transfer) (os : List (List Offer)) (all : List Offer) (done : List (List ℕ)) → FindsOn ts os all [] done → AreThoseOf ts os (offered_versions all) done
finds_on_last ts os all done so_far =
    subst (AreThoseOf ts os (offered_versions all)) (append-nil done) (so_far [] (λ v. ((λ has. absurd (false≢true has)), (λ both. absurd (false≢true both.0)))))

-- a version that is offered is one of the versions
offered_has : (os : List Offer) (v : List ℕ) → IsSome (find_offer os v) → has_version (offered_versions os) v ≡ true
offered_has [] v is = absurd (false≢true is)
offered_has (o ∷ os) v is =
    elim (bytes_eq o.version v) as (λ b. bytes_eq o.version v ≡ b → IsSome (cond b (Some o) (find_offer os v)) → bytes_eq v o.version || has_version (offered_versions os) v ≡ true) [
      | true ↦ λ same _. or_left _ _ (subst (λ w. bytes_eq v w ≡ true) (sym (equal_bytes o.version v same)) (same_bytes v))
      | false ↦ λ _ later. or_right _ _ (offered_has os v later)
    ] refl is

-- and one of the versions is offered
has_offered : (os : List Offer) (v : List ℕ) → has_version (offered_versions os) v ≡ true → IsSome (find_offer os v)
has_offered [] v has = absurd (false≢true has)
has_offered (o ∷ os) v has =
    elim (bytes_eq o.version v) as (λ b. bytes_eq o.version v ≡ b → IsSome (cond b (Some o) (find_offer os v))) [
      | true ↦ λ _. refl
      | false ↦ λ other. elim (or_cases (bytes_eq v o.version) (has_version (offered_versions os) v) has) [
        | inl same ↦ absurd
            (false≢true (sym other ∙ subst (λ w. bytes_eq o.version w ≡ true) (sym (equal_bytes v o.version same)) (same_bytes o.version)))
        | inr later ↦ has_offered os v later
      ]
    ] refl

-- of the versions of the first source, those that are available by the others are all that are
pub all_available : (ts : List Transfer) (first : List Offer) (os : List (List Offer)) (found versions : List (List ℕ)) → AreThoseOf ts os (offered_versions first) found → AreVersions found versions → AreAvailable ts (first ∷ os) versions
all_available ts first os found versions those are = record {
  order = are.order;
  each = λ v. (
    (λ has. let both = (those v).0 (sym (are.same v) ∙ has) in
        record { offered = (has_offered first v both.0, both.1.offered); least = both.1.least }),
    (λ is. are.same v ∙ (those v).1 (offered_has first v is.offered.0, record { offered = is.offered.1; least = is.least })),
  );
}

-- a test that is false is not true
pub not_true : (b : Bool) → b ≡ false → ¬ (b ≡ true)
not_true b is other = false≢true (sym is ∙ other)

-- there is a first source, whose offers are those at 0, and the others come after it
pub available_by : (ts : List Transfer) (os others : List (List Offer)) (first : List Offer) (found versions : List (List ℕ)) → 0 < length os → first ≡ get_or os 0 first → others ≡ drop 1 os → AreThoseOf ts others (offered_versions first) found → AreVersions found versions → AreAvailable ts os versions
available_by ts [] others first found versions some is rest those are = absurd (omega arith)
available_by ts (o ∷ os) others first found versions some is rest those are =
    all_available ts o os found versions
    (subst (λ (x : List (List Offer)). AreThoseOf ts x (offered_versions o) found) rest
    (subst (λ (x : List Offer). AreThoseOf ts others (offered_versions x) found) is those)) are
