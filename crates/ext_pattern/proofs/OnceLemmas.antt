-- A name matches in one way, and is then the pattern filled.
use Rattle.std.proofs.Common.{◌≡◌, ℕ, true, false, ◌||◌, List, [], ◌∷◌, ◌++◌, Option, Some, refl, sym, ap, subst, ◌∙◌}
use Rattle.std.specs.List.{flat_map}
use Rattle.std.specs.Option.{unwrap_or}
use Rattle.std.proofs.lemmas.Bool.{false≢true}
use Rattle.std.proofs.lemmas.List.{append_cancel_left}
use Rattle.hex.specs.Hex.{encode_lower}
use Rattle.ext_lines.proofs.ForCallers.{hex_injective}
use Rattle.ext_vers.specs.Version.{IsVersion}
use Rattle.ext_pattern.specs.declared.part.Part.{Part}
use Rattle.ext_pattern.specs.declared.wildcard.Wildcard.{Wildcard}
use Rattle.ext_pattern.specs.declared.wildcard.Wildcard.TheVariants.{Version, Digest}
use Rattle.ext_pattern.specs.Filling.{filled, filled_part, text_for}
use Rattle.ext_pattern.specs.Matching.{IsDividedBy, IsMatch, TakesText}
use Rattle.ext_pattern.specs.Part.{has}
use Rattle.ext_pattern.specs.Pattern.{IsPattern, PatternView}
use Rattle.ext_pattern.specs.Wildcard.{same_wildcard}
use Rattle.ext_pattern.proofs.CaughtLemmas.{version_followed}
use Rattle.ext_pattern.proofs.MatchLemmas.{ends_once}

-- one text is taken as one version, or as one digest
version_once : (x : Wildcard) (text v w : List ℕ) (d e : Option (List ℕ)) → same_wildcard Version x ≡ true → TakesText x text v d → TakesText x text w e → v ≡ w
version_once Version text v w d e is one other = sym one.0 ∙ other.0
version_once Digest text v w d e is one other = absurd (cc is)

digest_once : (x : Wildcard) (text v w : List ℕ) (d e : Option (List ℕ)) → same_wildcard Digest x ≡ true → TakesText x text v d → TakesText x text w e → d ≡ e
digest_once Version text v w d e is one other = absurd (cc is)
digest_once Digest text v w d e is one other =
    one.3 ∙ ap Some (hex_injective one.0 other.0 one.2 other.2 (sym one.1 ∙ other.1)) ∙ sym other.3

-- what two ways through the parts have in common
record AreSame (parts : List Part) (v w : List ℕ) (d e : Option (List ℕ)) : Type 0 where
  pub version : has Version parts ≡ true → v ≡ w
  pub digest : has Digest parts ≡ true → d ≡ e

same_on : (part : Part) (parts : List Part) (text v w : List ℕ) (d e : Option (List ℕ)) → TakesText part.wildcard text v d → TakesText part.wildcard text w e → AreSame parts v w d e → AreSame (part ∷ parts) v w d e
same_on part parts text v w d e one other later = record {
  version = elim (same_wildcard Version part.wildcard) as (λ t. same_wildcard Version part.wildcard ≡ t → (t || has Version parts) ≡ true → v ≡ w) [
    | true ↦ λ is _. version_once part.wildcard text v w d e is one other
    | false ↦ λ _ stands. later.version stands
  ] refl;
  digest = elim (same_wildcard Digest part.wildcard) as (λ t. same_wildcard Digest part.wildcard ≡ t → (t || has Digest parts) ≡ true → d ≡ e) [
    | true ↦ λ is _. digest_once part.wildcard text v w d e is one other
    | false ↦ λ _ stands. later.digest stands
  ] refl;
}

follows_once : (parts : List Part) (whole v w : List ℕ) (d e : Option (List ℕ)) → IsDividedBy parts whole v d → IsDividedBy parts whole w e → AreSame parts v w d e
follows_once [] whole v w d e one other = record { version = λ never. absurd (false≢true never); digest = λ never. absurd (false≢true never) }
follows_once (part ∷ parts) whole v w d e one other =
    let ends = ends_once whole other.0 one.0 part.literal other.1 one.1 other.2 one.2 in
    let T : List ℕ → Type 0 = λ t. TakesText part.wildcard t w e in
    let F : List ℕ → Type 0 = λ r. IsDividedBy parts r w e in
    same_on part parts one.0 v w d e one.3 (subst T ends.0 other.3) (follows_once parts one.1 v w d e one.4 (subst F ends.1 other.4))

pub matches_once : (p : PatternView) (name v w : List ℕ) (d e : Option (List ℕ)) → IsPattern p → IsMatch p name v d → IsMatch p name w e → (v ≡ w) × (d ≡ e)
matches_once p name v w d e is one other =
    let same : other.rest ≡ one.rest = append_cancel_left p.first other.rest one.rest (sym other.begins ∙ one.begins) in
    let F : List ℕ → Type 0 = λ r. IsDividedBy p.parts r w e in
    let once = follows_once p.parts one.rest v w d e one.follows (subst F same other.follows) in (
      once.version is.version,
      elim (has Digest p.parts) as (λ t. has Digest p.parts ≡ t → d ≡ e) [
        | true ↦ λ stands. once.digest stands
        | false ↦ λ none. one.no_digest none ∙ sym (other.no_digest none)
      ] refl,
    )

pub version_matched : (p : PatternView) (name version : List ℕ) (digest : Option (List ℕ)) → IsPattern p → IsMatch p name version digest → IsVersion version
version_matched p name version digest is match = version_followed p.parts match.rest version digest is.version match.follows

taken_text : (x : Wildcard) (text version : List ℕ) (digest : Option (List ℕ)) → TakesText x text version digest → text ≡ text_for x version (encode_lower (unwrap_or digest []))
taken_text Version text version digest takes = takes.0
taken_text Digest text version digest takes = takes.1 ∙ ap (λ (d : Option (List ℕ)). encode_lower (unwrap_or d [])) (sym takes.3)

followed_text : (parts : List Part) (whole version : List ℕ) (digest : Option (List ℕ)) → IsDividedBy parts whole version digest → whole ≡ flat_map (filled_part version (encode_lower (unwrap_or digest []))) parts
followed_text [] whole version digest follows = follows
followed_text (part ∷ parts) whole version digest follows =
    follows.2.parted
    ∙ ap (λ (t : List ℕ). t ++ part.literal ++ follows.1) (taken_text part.wildcard follows.0 version digest follows.3)
    ∙ ap (λ (r : List ℕ). text_for part.wildcard version (encode_lower (unwrap_or digest [])) ++ part.literal ++ r) (followed_text parts follows.1 version digest follows.4)

pub matched_filled : (p : PatternView) (name version : List ℕ) (digest : Option (List ℕ)) → IsMatch p name version digest → name ≡ filled p version (unwrap_or digest [])
matched_filled p name version digest is = is.begins ∙ ap (λ (r : List ℕ). p.first ++ r) (followed_text p.parts is.rest version digest is.follows)
