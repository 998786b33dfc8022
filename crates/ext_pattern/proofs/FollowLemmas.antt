-- Following the parts of a pattern through a name, one by one.
use Rattle.std.proofs.Common.{◌≡◌, ℕ, ◌+◌, ◌-◌, ◌≤◌, List, [], ◌∷◌, length, take, drop, Option, Some, None, sym, ap, subst, ◌∙◌, arith}
use Rattle.std.proofs.lemmas.List.{drop-drop, length-drop}
use Rattle.hex.specs.Hex.{encode_lower}
use Rattle.ext_lines.proofs.ForCallers.{hex_injective}
use Rattle.ext_text.specs.Digest.{IsDigest}
use Rattle.ext_text.specs.declared.digest.Digest.{Digest as Bytes32}
use Rattle.ext_pattern.specs.declared.following.SoFar.{SoFar}
use Rattle.ext_pattern.specs.declared.part.Part.{Part}
use Rattle.ext_pattern.specs.declared.wildcard.Wildcard.{Wildcard}
use Rattle.ext_pattern.specs.declared.wildcard.Wildcard.TheVariants.{Version, Digest}
use Rattle.ext_pattern.specs.Following.{AgreesWith, IsCaughtBy, IsCaughtFrom, IsUncaught}
use Rattle.ext_pattern.specs.Matching.{EndsAtLiteral, IsDividedBy, TakesText, text_at}
use Rattle.ext_pattern.proofs.MatchLemmas.{ends_once}

-- where no part is left and the name goes on, it does not match
pub missed_at_end : (name : List ℕ) (from : ℕ) (so_far : SoFar) → from ≤ length name → (from ≡ length name → ⊥) → IsCaughtFrom [] name from so_far None
missed_at_end name from so_far within more = λ version digest. (λ both. more (omega (arith, ap length both.1, length-drop from name)), λ never. absurd never)

-- a name after an index on, taken apart where a text ends
pub record IsEnd (name : List ℕ) (from count : ℕ) (literal : List ℕ) : Type 0 where
  pub ends : EndsAtLiteral (drop from name) (text_at name (from, from + count)) literal (drop (from + count + length literal) name)

pub end_at : (name : List ℕ) (from count : ℕ) (literal found rest : List ℕ) → found ≡ literal → rest ≡ drop from name → EndsAtLiteral rest (take count rest) found (drop (count + length found) rest) → IsEnd name from count literal
end_at name from count literal found rest is same ends =
    let L : List ℕ → Type 0 = λ l. EndsAtLiteral rest (take count rest) l (drop (count + length l) rest) in
    let P : List ℕ → Type 0 = λ r. EndsAtLiteral r (take count r) literal (drop (count + length literal) r) in
    let Q : List ℕ → Type 0 = λ r. EndsAtLiteral (drop from name) (take count (drop from name)) literal r in
    let R : ℕ → Type 0 = λ n. EndsAtLiteral (drop from name) (take n (drop from name)) literal (drop (from + count + length literal) name) in
    let further : drop (count + length literal) (drop from name) ≡ drop (from + count + length literal) name =
    drop-drop (count + length literal) from name ∙ ap (λ (n : ℕ). drop n name) (omega arith)
    in
    let counted : count ≡ from + count - from = omega arith in
    record { ends = subst R counted (subst Q further (subst P same (subst L is ends))) }

-- a text that its wildcard doesn't take
pub missed_text : (part : Part) (parts all : List Part) (name : List ℕ) (from count : ℕ) (so_far : SoFar) → all ≡ part ∷ parts → IsEnd name from count part.literal → IsCaughtBy part.wildcard name (text_at name (from, from + count)) so_far None → IsCaughtFrom all name from so_far None
missed_text part parts all name from count so_far whole end by =
    let P : List Part → Type 0 = λ ps. IsCaughtFrom ps name from so_far None in
    subst P (sym whole) (λ version digest. (
      λ both.
          let once = ends_once (drop from name) both.1.0 (text_at name (from, from + count)) part.literal both.1.1 (drop (from + count + length part.literal) name) both.1.2 end.ends in
          let T : List ℕ → Type 0 = λ t. TakesText part.wildcard t version digest in
          (by version digest).0 (both.0, subst T once.0 both.1.3),
      λ none. absurd none,
    ))

-- a text that it takes, and the other parts after it
pub caught_on : (part : Part) (parts all : List Part) (name : List ℕ) (from count : ℕ) (so_far caught : SoFar) (found : List ℕ) (result : Option SoFar) → all ≡ part ∷ parts → found ≡ part.literal → IsEnd name from count part.literal → IsCaughtBy part.wildcard name (text_at name (from, from + count)) so_far (Some caught) → IsCaughtFrom parts name (from + count + length found) caught result → IsCaughtFrom all name from so_far result
caught_on part parts all name from count so_far caught found result whole is end by further =
    let L : List ℕ → Type 0 = λ l. IsCaughtFrom parts name (from + count + length l) caught result in
    let later = subst L is further in
    let P : List Part → Type 0 = λ ps. IsCaughtFrom ps name from so_far result in
    subst P (sym whole) (λ version digest.
    let text = text_at name (from, from + count) in
    let rest = drop (from + count + length part.literal) name in
    let T : List ℕ → Type 0 = λ t. TakesText part.wildcard t version digest in
    let F : List ℕ → Type 0 = λ r. IsDividedBy parts r version digest in (
      λ both.
          let once = ends_once (drop from name) both.1.0 text part.literal both.1.1 rest both.1.2 end.ends in
          (later version digest).0 ((by version digest).0 (both.0, subst T once.0 both.1.3), subst F once.1 both.1.4),
      λ agrees.
          let after = (later version digest).1 agrees in
          let before = (by version digest).1 after.0 in
          (before.0, (text, rest, end.ends, before.1, after.1)),
    ))

-- the digits of a digest are taken by `@h`, which nothing was caught by
pub caught_digest : (wildcard : Wildcard) (name text bytes : List ℕ) (so_far : SoFar) → wildcard ≡ Digest → IsUncaught wildcard so_far → IsDigest bytes → text ≡ encode_lower bytes → IsCaughtBy wildcard name text so_far (Some (record { version = so_far.version; digest = Some (record { 0 = bytes }) }))
caught_digest Version name text bytes so_far is free ok digits = absurd (cc is)
caught_digest Digest name text bytes so_far is free ok digits = λ version digest.
    let W : Option Bytes32 → Type 0 = λ o. AgreesWith o digest in (
      λ both. (both.0.0, both.1.3 ∙ ap Some (hex_injective both.1.0 bytes both.1.2 ok (sym both.1.1 ∙ digits))),
      λ agrees. ((agrees.0, subst W (sym free) tt), (bytes, digits, ok, agrees.1)),
    )
