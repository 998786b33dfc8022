-- What following the parts through a name says of the match, and that a name has one.
use Rattle.std.proofs.Common.{◌≡◌, ℕ, true, false, ◌||◌, List, [], ◌∷◌, ◌++◌, length, drop, Option, Some, None, refl, sym, ap, subst, ◌∙◌, arith}
use Rattle.std.proofs.lemmas.Bool.{both_ways, false_from_ne_true, or_left, or_right, or_from, or_parts}
use Rattle.std.proofs.lemmas.List.{drop_at}
use Rattle.std.proofs.lemmas.List.Folds.{list_any-append}
use Rattle.ext_lines.specs.Prefix.{IsPrefix}
use Rattle.ext_text.specs.declared.digest.Digest.{Digest as Bytes32}
use Rattle.ext_vers.specs.Version.{IsVersion}
use Rattle.ext_pattern.specs.declared.following.SoFar.{SoFar}
use Rattle.ext_pattern.specs.declared.part.Part.{Part}
use Rattle.ext_pattern.specs.declared.wildcard.Wildcard.{Wildcard}
use Rattle.ext_pattern.specs.declared.wildcard.Wildcard.TheVariants.{Version, Digest}
use Rattle.ext_pattern.specs.Following.{AgreesWith, AreOnce, IsCaughtFrom, SpanIsWithin}
use Rattle.ext_pattern.specs.Matching.{IsDividedBy, IsMatch, IsSpan, TakesText, digest_bytes, text_at}
use Rattle.ext_pattern.specs.Part.{AreParts, IsNextPart, has}
use Rattle.ext_pattern.specs.Pattern.{PatternView}
use Rattle.ext_pattern.specs.Wildcard.{same_wildcard}

same_itself : (w : Wildcard) → same_wildcard w w ≡ true
same_itself Version = refl
same_itself Digest = refl

same_wildcards : (v w : Wildcard) → same_wildcard v w ≡ true → v ≡ w
same_wildcards Version Version is = refl
same_wildcards Version Digest is = absurd (cc is)
same_wildcards Digest Version is = absurd (cc is)
same_wildcards Digest Digest is = refl

has_push : (w : Wildcard) (before : List Part) (part : Part) → has w (before ++ part ∷ []) ≡ (has w before || (same_wildcard w part.wildcard || false))
has_push w before part = list_any-append (λ p. same_wildcard w p.wildcard) before (part ∷ [])

-- no wildcard of the parts stands twice, or stands before them
record AreOnceAfter (before parts : List Part) : Type 0 where
  pub once : AreOnce parts
  pub new : (w : Wildcard) → has w before ≡ true → has w parts ≡ false

once_on : (before : List Part) (part : Part) (parts : List Part) → IsNextPart before part → AreOnceAfter (before ++ part ∷ []) parts → AreOnceAfter before (part ∷ parts)
once_on before part parts next later = record {
  once = (later.new part.wildcard (has_push part.wildcard before part ∙ or_right (has part.wildcard before) _ (or_left _ false (same_itself part.wildcard))), later.once);
  new = λ w stands. or_from (same_wildcard w part.wildcard) (has w parts)
      (false_from_ne_true _ (λ same. both_ways (has part.wildcard before) next.once (ap (λ (v : Wildcard). has v before) (sym (same_wildcards w part.wildcard same)) ∙ stands)))
      (later.new w (has_push w before part ∙ or_left _ (same_wildcard w part.wildcard || false) stands));
}

once_after : (before parts : List Part) → AreParts before parts → AreOnceAfter before parts
once_after before [] may = record { once = tt; new = λ _ _. refl }
once_after before (part ∷ parts) may = once_on before part parts may.0 (once_after (before ++ part ∷ []) parts may.1)

-- no wildcard stands twice in a pattern
pub once_in_pattern : (parts all : List Part) → all ≡ parts → AreParts [] parts → AreOnce all
once_in_pattern parts all same may = subst AreOnce (sym same) (once_after [] parts may).once

-- what is taken as the version is one
taken_version : (w : Wildcard) (text version : List ℕ) (digest : Option (List ℕ)) → same_wildcard Version w ≡ true → TakesText w text version digest → IsVersion version
taken_version Version text version digest is takes = takes.1
taken_version Digest text version digest is takes = absurd (cc is)

pub version_followed : (parts : List Part) (whole version : List ℕ) (digest : Option (List ℕ)) → has Version parts ≡ true → IsDividedBy parts whole version digest → IsVersion version
version_followed [] whole version digest stands follows = absurd (cc stands)
version_followed (part ∷ parts) whole version digest stands follows =
    elim (same_wildcard Version part.wildcard) as (λ t. same_wildcard Version part.wildcard ≡ t → (t || has Version parts) ≡ true → IsVersion version) [
      | true ↦ λ is _. taken_version part.wildcard follows.0 version digest is follows.3
      | false ↦ λ _ later. version_followed parts follows.1 version digest later follows.4
    ] refl stands

-- where there is no `@h`, any digest will do
takes_any : (w : Wildcard) (text version : List ℕ) (digest other : Option (List ℕ)) → same_wildcard Digest w ≡ false → TakesText w text version digest → TakesText w text version other
takes_any Version text version digest other is takes = takes
takes_any Digest text version digest other is takes = absurd (cc is)

follows_any : (parts : List Part) (whole version : List ℕ) (digest other : Option (List ℕ)) → has Digest parts ≡ false → IsDividedBy parts whole version digest → IsDividedBy parts whole version other
follows_any [] whole version digest other none follows = follows
follows_any (part ∷ parts) whole version digest other none follows =
    let both = or_parts (same_wildcard Digest part.wildcard) (has Digest parts) none in
    (follows.0, follows.1, follows.2, takes_any part.wildcard follows.0 version digest other both.0 follows.3, follows_any parts follows.1 version digest other both.1 follows.4)

-- what follows the first literal of a name that matches
after_first : (first name rest : List ℕ) → name ≡ first ++ rest → rest ≡ drop (length first) name
after_first first name rest begins = sym (ap (drop (length first)) begins ∙ drop_at first rest (length first) refl)

followed : (p : PatternView) (name version : List ℕ) (digest : Option (List ℕ)) → IsMatch p name version digest → IsDividedBy p.parts (drop (length p.first) name) version digest
followed p name version digest is =
    let F : List ℕ → Type 0 = λ r. IsDividedBy p.parts r version digest in
    subst F (after_first p.first name is.rest is.begins) is.follows

-- nothing was caught so far
abbrev nothing : SoFar
nothing = record { version = None; digest = None }

-- where the parts catch nothing, the name does not match
pub missed : (p : PatternView) (name version : List ℕ) (digest : Option (List ℕ)) → IsCaughtFrom p.parts name (length p.first) nothing None → ¬ IsMatch p name version digest
missed p name version digest caught = λ is. (caught version digest).0 ((tt, tt), followed p name version digest is)

-- they catch a version
no_version : (p : PatternView) (name version : List ℕ) (digest : Option (List ℕ)) (d : Option Bytes32) → has Version p.parts ≡ true → IsCaughtFrom p.parts name (length p.first) nothing (Some (record { version = None; digest = d })) → ¬ IsMatch p name version digest
no_version p name version digest d stands caught = λ is.
    let agrees = (caught version digest).0 ((tt, tt), followed p name version digest is) in
    let empty = version_followed p.parts (drop (length p.first) name) [] digest stands ((caught [] digest).1 (tt, agrees.1)).1 in
    absurd (omega (arith, empty.non_empty))

agrees_so : (d : Option Bytes32) → AgreesWith d (digest_bytes d)
agrees_so None = tt
agrees_so (Some digest) = refl

no_digest : (parts : List Part) (name : List ℕ) (from : ℕ) (span : ℕ × ℕ) (d : Option Bytes32) → has Digest parts ≡ false → IsCaughtFrom parts name from nothing (Some (record { version = Some span; digest = d })) → digest_bytes d ≡ None
no_digest parts name from span None none caught = refl
no_digest parts name from span (Some digest) none caught =
    let follows = ((caught (text_at name span) (Some digest.0)).1 (refl, refl)).1 in
    let agrees = (caught (text_at name span) None).0 ((tt, tt), follows_any parts (drop from name) (text_at name span) (Some digest.0) None none follows) in
    absurd (cc agrees.1)

-- and what they caught is the match
found : (p : PatternView) (name : List ℕ) (span : ℕ × ℕ) (d : Option Bytes32) → IsPrefix p.first name → IsCaughtFrom p.parts name (length p.first) nothing (Some (record { version = Some span; digest = d })) → IsMatch p name (text_at name span) (digest_bytes d)
found p name span d begins caught =
    let F : List ℕ → Type 0 = λ r. IsDividedBy p.parts r (text_at name span) (digest_bytes d) in
    record {
      rest = begins.0;
      begins = begins.1;
      follows = subst F (sym (after_first p.first name begins.0 begins.1)) ((caught (text_at name span) (digest_bytes d)).1 (refl, agrees_so d)).1;
      no_digest = λ none. no_digest p.parts name (length p.first) span d none caught;
    }

-- a version is caught where one is
pub matches_without : (p : PatternView) (name version : List ℕ) (digest : Option (List ℕ)) (caught : SoFar) → has Version p.parts ≡ true → caught.version ≡ None → IsCaughtFrom p.parts name (length p.first) nothing (Some caught) → ¬ IsMatch p name version digest
matches_without p name version digest caught stands none is =
    let P : Option (ℕ × ℕ) → Type 0 = λ v. IsCaughtFrom p.parts name (length p.first) nothing (Some (record { version = v; digest = caught.digest })) in
    no_version p name version digest caught.digest stands (subst P none is)

pub matches_with : (p : PatternView) (name : List ℕ) (caught : SoFar) (span : ℕ × ℕ) → IsPrefix p.first name → caught.version ≡ Some span → SpanIsWithin name caught.version → IsCaughtFrom p.parts name (length p.first) nothing (Some caught) → IsSpan name span × IsMatch p name (text_at name span) (digest_bytes caught.digest)
matches_with p name caught span begins some within is =
    let P : Option (ℕ × ℕ) → Type 0 = λ v. IsCaughtFrom p.parts name (length p.first) nothing (Some (record { version = v; digest = caught.digest })) in
    (subst (SpanIsWithin name) some within, found p name span caught.digest begins (subst P some is))

-- what follows the parts of a pattern that is looked into follows those of the pattern
pub caught_so : (p : PatternView) (parts : List Part) (first name : List ℕ) (so_far : SoFar) (result : Option SoFar) → parts ≡ p.parts → first ≡ p.first → so_far ≡ nothing → IsCaughtFrom parts name (length first) so_far result → IsCaughtFrom p.parts name (length p.first) nothing result
caught_so p parts first name so_far result same begins none caught =
    let P : List Part → Type 0 = λ ps. IsCaughtFrom ps name (length first) so_far result in
    let Q : List ℕ → Type 0 = λ f. IsCaughtFrom p.parts name (length f) so_far result in
    let R : SoFar → Type 0 = λ s. IsCaughtFrom p.parts name (length p.first) s result in
    subst R none (subst Q begins (subst P same caught))

-- a name that begins with the first literal of a pattern that is looked into begins with that of the pattern
pub begins_with_first : (p : PatternView) (first name : List ℕ) → first ≡ p.first → IsPrefix first name → IsPrefix p.first name
begins_with_first p first name same begins = let P : List ℕ → Type 0 = λ f. IsPrefix f name in subst P same begins
