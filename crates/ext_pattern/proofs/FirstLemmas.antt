-- The first of some patterns that matches a name: what it catches is one, and a version.
use Rattle.std.proofs.Common.{◌≡◌, ℕ, List, [], ◌∷◌, Option, Some, None, sym, subst}
use mathlib.Core.Logic.{inl, inr}
use Rattle.std.specs.List.{AllByRecursion}
use Rattle.ext_vers.specs.Version.{IsVersion}
use Rattle.ext_pattern.specs.declared.caught.Caught.{Caught}
use Rattle.ext_pattern.specs.First.{FirstMatches, IsFirstMatch, IsOnlyMatch}
use Rattle.ext_pattern.specs.Matching.{IsMatch, Matches, digest_bytes, text_at}
use Rattle.ext_pattern.specs.Pattern.{IsPattern, PatternView}
use Rattle.ext_pattern.proofs.OnceLemmas.{matches_once, version_matched}

pub first_once : (patterns : List PatternView) (name v w : List ℕ) (d e : Option (List ℕ)) → AllByRecursion IsPattern patterns → IsFirstMatch patterns name v d → IsFirstMatch patterns name w e → (v ≡ w) × (d ≡ e)
first_once [] name v w d e are one other = absurd one
first_once (p ∷ ps) name v w d e are (inl one) (inl other) = matches_once p name v w d e are.0 one other
first_once (p ∷ ps) name v w d e are (inl one) (inr other) = absurd (other.0 v d one)
first_once (p ∷ ps) name v w d e are (inr one) (inl other) = absurd (one.0 w e other)
first_once (p ∷ ps) name v w d e are (inr one) (inr other) = first_once ps name v w d e are.1 one.1 other.1

pub first_version : (patterns : List PatternView) (name version : List ℕ) (digest : Option (List ℕ)) → AllByRecursion IsPattern patterns → IsFirstMatch patterns name version digest → IsVersion version
first_version [] name version digest are match = absurd match
first_version (p ∷ ps) name version digest are (inl match) = version_matched p name version digest are.0 match
first_version (p ∷ ps) name version digest are (inr match) = first_version ps name version digest are.1 match.1

-- both lists of patterns take a name apart alike
pub record AreAlike (some others : List PatternView) (name : List ℕ) : Type 0 where
  pub there : (version : List ℕ) (digest : Option (List ℕ)) → IsFirstMatch some name version digest → IsFirstMatch others name version digest
  pub back : (version : List ℕ) (digest : Option (List ℕ)) → IsFirstMatch others name version digest → IsFirstMatch some name version digest

pub alike_itself : (patterns : List PatternView) (name : List ℕ) → AreAlike patterns patterns name
alike_itself patterns name = record { there = λ version digest first. first; back = λ version digest first. first }

-- what the first pattern does not match is left to the others
pub alike_next : (p : PatternView) (left more all : List PatternView) (name : List ℕ) → left ≡ p ∷ more → AreAlike left all name → Matches p name None → AreAlike more all name
alike_next p left more all name is alike none = record {
  there = λ version digest first. alike.there version digest (subst (λ (ps : List PatternView). IsFirstMatch ps name version digest) (sym is) (inr (none, first)));
  back = λ version digest first. later version digest (subst (λ (ps : List PatternView). IsFirstMatch ps name version digest) is (alike.back version digest first));
}
  where
    later : (version : List ℕ) (digest : Option (List ℕ)) → IsFirstMatch (p ∷ more) name version digest → IsFirstMatch more name version digest
    later version digest (inl here) = absurd (none version digest here)
    later version digest (inr first) = first.1

-- what the first pattern matches is what all match
pub found_first : (p : PatternView) (left more all : List PatternView) (name : List ℕ) (caught : Caught) → left ≡ p ∷ more → AreAlike left all name → Matches p name (Some caught) → FirstMatches all name (Some caught)
found_first p left more all name caught is alike found =
    let version = text_at name caught.version in
    let digest = digest_bytes caught.digest in
    (found.0, alike.there version digest (subst (λ (ps : List PatternView). IsFirstMatch ps name version digest) (sym is) (inl found.1)))

only_here : (p : PatternView) (more : List PatternView) (name v w : List ℕ) (d e : Option (List ℕ)) → IsPattern p → IsMatch p name v d → IsFirstMatch (p ∷ more) name w e → (w ≡ v) × (e ≡ d)
only_here p more name v w d e is match (inl other) = matches_once p name w v e d is other match
only_here p more name v w d e is match (inr other) = absurd (other.0 v d match)

-- and nothing else is caught
pub found_only : (p : PatternView) (left more all : List PatternView) (name : List ℕ) (caught : Caught) → left ≡ p ∷ more → IsPattern p → AreAlike left all name → Matches p name (Some caught) → IsOnlyMatch all name (text_at name caught.version) (digest_bytes caught.digest)
found_only p left more all name caught is pattern alike found = record {
  version = version_matched p name (text_at name caught.version) (digest_bytes caught.digest) pattern found.1;
  one = λ w e first. only_here p more name (text_at name caught.version) w (digest_bytes caught.digest) e pattern found.1 (subst (λ (ps : List PatternView). IsFirstMatch ps name w e) is (alike.back w e first));
}
