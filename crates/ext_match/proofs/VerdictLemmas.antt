-- The verdict that holds is the one that the rule computes.
use Rattle.std.proofs.Common.{◌≡◌, ℕ, Bool, true, false, ◌&&◌, ◌⊎◌, inl, inr, List, refl, sym, ap, ◌∙◌}
use Rattle.std.specs.Prelude.{Option, None, Some, IfSome, is_some, codes}
use Rattle.std.specs.Bool.{Decides}
use Rattle.std.specs.FinMap.{get}
use Rattle.std.specs.Option.{unwrap_or}
use Rattle.std.proofs.lemmas.Bool.{false_from_ne_true, false≢true}
use Rattle.std.proofs.lemmas.Bool.Decides.{Decides-and, Decides-or, not_from_Decides}
use Rattle.std.proofs.lemmas.Slice.Eq.{bytes_eq-Decides}
use Rattle.ext_text.specs.Arch.{arch_name}
use Rattle.ext_text.specs.declared.arch.Arch.{Arch}
use Rattle.ext_text.specs.declared.extension.Extension.{Extension}
use Rattle.ext_text.specs.declared.scope.Scope.{Scope}
use Rattle.ext_match.specs.Keys.{level_key}
use Rattle.ext_match.specs.Rule.{RuleHolds, RuleIsMet, is_built, is_same, is_scoped, is_unset_or_either, is_unset_or_same, rule}
use Rattle.ext_match.specs.Verdict.{FitsAnyId, FitsArch, FitsId, FitsLevel, FitsVersion, HasId, HasScope, HaveLevels, IsFitting, IsVerdict, OneVerdict, Release}
use Rattle.ext_match.specs.declared.verdict.Verdict.{Verdict}
use Rattle.ext_match.specs.declared.verdict.Verdict.TheVariants as verdicts

-- the parts are tests

same-decides : (a b : Option (List ℕ)) → Decides (is_same a b) (a ≡ b)
same-decides None None = (λ e. refl, λ e. refl)
same-decides None (Some b) = (λ e. absurd (false≢true e), λ e. cc)
same-decides (Some a) None = (λ e. absurd (false≢true e), λ e. cc)
same-decides (Some a) (Some b) =
    let is = bytes_eq-Decides a b in
    (λ e. ap Some (is.0 e), λ e. is.1 cc)

either-decides : (a b : List ℕ) (o : Option (List ℕ)) → Decides (is_unset_or_either a b o) (IfSome o (λ value. (value ≡ a) ⊎ (value ≡ b)))
either-decides a b None = (λ e. tt, λ u. refl)
either-decides a b (Some value) = Decides-or _ _ (bytes_eq-Decides value a) (bytes_eq-Decides value b)

unset_or_same-decides : (a b : Option (List ℕ)) → Decides (is_unset_or_same a b) (IfSome a (λ value. b ≡ Some value))
unset_or_same-decides None b = (λ e. tt, λ u. refl)
unset_or_same-decides (Some value) b = same-decides b (Some value)

-- what a test answers where its part holds not
no : {P : Type 0} → (r : Bool) → Decides r P → ¬ P → r ≡ false
no r is none = false_from_ne_true r (λ e. none (is.0 e))

-- the outcomes of the tests are those of the parts
record AreOutcomes (host ext : Release) (class : Extension) (scope : Scope) (arch : Arch) (s b n a i l t v : Bool) : Type 0 where
  scoped : Decides s (HasScope ext class scope)
  built : Decides b (FitsArch ext arch)
  named : Decides n (HasId ext)
  any_id : Decides a (FitsAnyId ext)
  same_id : Decides i (FitsId host ext)
  levels : Decides l (HaveLevels host ext class)
  same_level : Decides t (FitsLevel host ext class)
  versioned : Decides v (FitsVersion host ext)

outcomes : (host ext : Release) (class : Extension) (scope : Scope) (arch : Arch) → AreOutcomes host ext class scope arch (is_scoped ext class scope) (is_built ext arch) (is_some (get ext (codes "ID"))) (is_same (get ext (codes "ID")) (Some (codes "_any"))) (is_same (get ext (codes "ID")) (Some (unwrap_or (get host (codes "ID")) (codes "linux")))) (is_some (get host (level_key class)) && is_some (get ext (level_key class))) (is_same (get ext (level_key class)) (get host (level_key class))) (is_unset_or_same (get host (codes "VERSION_ID")) (get ext (codes "VERSION_ID")))
outcomes host ext class scope arch = record {
  scoped = (λ e. e, λ e. e);
  built = either-decides (codes "_any") (arch_name arch) (get ext (codes "ARCHITECTURE"));
  named = (λ e. e, λ e. e);
  any_id = same-decides (get ext (codes "ID")) (Some (codes "_any"));
  same_id = same-decides (get ext (codes "ID")) (Some (unwrap_or (get host (codes "ID")) (codes "linux")));
  levels = Decides-and _ _ (λ e. e, λ e. e) (λ e. e, λ e. e);
  same_level = same-decides (get ext (level_key class)) (get host (level_key class));
  versioned = unset_or_same-decides (get host (codes "VERSION_ID")) (get ext (codes "VERSION_ID"));
}

module _ (host ext : Release) (class : Extension) (scope : Scope) (arch : Arch) where
  holds : (f s b n a i l t v : Bool) → AreOutcomes host ext class scope arch s b n a i l t v → IsVerdict host ext class scope arch f (rule f s b n a i l t v)
  holds true s b n a i l t v is = inl refl
  holds false false b n a i l t v is = (refl, not_from_Decides false is.scoped refl)
  holds false true false n a i l t v is = (refl, is.scoped.0 refl, not_from_Decides false is.built refl)
  holds false true true false a i l t v is = (refl, is.scoped.0 refl, is.built.0 refl, not_from_Decides false is.named refl)
  holds false true true true true i l t v is = inr (record { scoped = is.scoped.0 refl; built = is.built.0 refl; named = is.named.0 refl; made = inl (is.any_id.0 refl) })
  holds false true true true false false l t v is =
      (refl, is.scoped.0 refl, is.built.0 refl, is.named.0 refl, not_from_Decides false is.any_id refl, not_from_Decides false is.same_id refl)
  holds false true true true false true true true v is =
      inr (record { scoped = is.scoped.0 refl; built = is.built.0 refl; named = is.named.0 refl; made = inr (is.same_id.0 refl, inl (is.levels.0 refl, is.same_level.0 refl)) })
  holds false true true true false true true false v is =
      (refl, is.scoped.0 refl, is.built.0 refl, not_from_Decides false is.any_id refl, is.same_id.0 refl, is.levels.0 refl, not_from_Decides false is.same_level refl)
  holds false true true true false true false t true is =
      inr (record { scoped = is.scoped.0 refl; built = is.built.0 refl; named = is.named.0 refl; made = inr (is.same_id.0 refl, inr (not_from_Decides false is.levels refl, is.versioned.0 refl)) })
  holds false true true true false true false t false is =
      (refl, is.scoped.0 refl, is.built.0 refl, not_from_Decides false is.any_id refl, is.same_id.0 refl, not_from_Decides false is.levels refl, not_from_Decides false is.versioned refl)

  any_fits : (f s b n a i l t v : Bool) → s ≡ true → b ≡ true → n ≡ true → a ≡ true → verdicts.Fits ≡ rule f s b n a i l t v
  any_fits true s b n a i l t v es eb en ea = refl
  any_fits false s b n a i l t v es eb en ea = rw (es, eb, en, ea) refl

  release_fits : (f s b n a i l t v : Bool) → s ≡ true → b ≡ true → n ≡ true → i ≡ true → verdicts.Fits ≡ rule false true true true false true l t v → verdicts.Fits ≡ rule f s b n a i l t v
  release_fits true s b n a i l t v es eb en ei so = refl
  release_fits false s b n true i l t v es eb en ei so = rw (es, eb, en) refl
  release_fits false s b n false i l t v es eb en ei so = rw (es, eb, en, ei) so

  fitting : (f s b n a i l t v : Bool) → AreOutcomes host ext class scope arch s b n a i l t v → IsFitting host ext class scope arch → verdicts.Fits ≡ rule f s b n a i l t v
  fitting f s b n a i l t v is fits =
      let es = is.scoped.1 fits.scoped in
      let eb = is.built.1 fits.built in
      let en = is.named.1 fits.named in
      elim (fits.made) [
        | inl any ↦ any_fits f s b n a i l t v es eb en (is.any_id.1 any)
        | inr own ↦ release_fits f s b n a i l t v es eb en (is.same_id.1 own.0) (elim (own.1) [
          | inl level ↦ rw (is.levels.1 level.0, is.same_level.1 level.1) refl
          | inr version ↦ rw (no l is.levels version.0, is.versioned.1 version.1) refl
        ])
      ]

  met : (f s b n a i l t v : Bool) → AreOutcomes host ext class scope arch s b n a i l t v → (w : Verdict) → IsVerdict host ext class scope arch f w → w ≡ rule f s b n a i l t v
  met f s b n a i l t v is verdicts.Fits (inl forced) = rw forced refl
  met f s b n a i l t v is verdicts.Fits (inr fits) = fitting f s b n a i l t v is fits
  met f s b n a i l t v is verdicts.Scope p = rw (p.0, no s is.scoped p.1) refl
  met f s b n a i l t v is verdicts.Architecture p = rw (p.0, is.scoped.1 p.1, no b is.built p.2) refl
  met f s b n a i l t v is verdicts.NoId p = rw (p.0, is.scoped.1 p.1, is.built.1 p.2, no n is.named p.3) refl
  met f s b n a i l t v is verdicts.Id p = rw (p.0, is.scoped.1 p.1, is.built.1 p.2, is.named.1 p.3, no a is.any_id p.4, no i is.same_id p.5) refl
  met f s b n a i l t v is verdicts.Level p =
      rw (p.0, is.scoped.1 p.1, is.built.1 p.2, is.named.1 (ap is_some p.4), no a is.any_id p.3, is.same_id.1 p.4, is.levels.1 p.5, no t is.same_level p.6) refl
  met f s b n a i l t v is verdicts.Version p =
      rw (p.0, is.scoped.1 p.1, is.built.1 p.2, is.named.1 (ap is_some p.4), no a is.any_id p.3, is.same_id.1 p.4, no l is.levels p.5, no v is.versioned p.6) refl

pub rule_holds : RuleHolds
rule_holds host ext class scope arch force = holds host ext class scope arch force _ _ _ _ _ _ _ _ (outcomes host ext class scope arch)

pub rule_is_met : RuleIsMet
rule_is_met host ext class scope arch force v is = met host ext class scope arch force _ _ _ _ _ _ _ _ (outcomes host ext class scope arch) v is

pub one_verdict : OneVerdict
one_verdict host ext class scope arch force v w p q = rule_is_met host ext class scope arch force v p ∙ sym (rule_is_met host ext class scope arch force w q)
