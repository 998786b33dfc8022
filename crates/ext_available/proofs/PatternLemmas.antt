-- Versions that patterns read.
use Rattle.std.proofs.Common.{◌≡◌, ◌↔◌, ◌⊎◌, inl, inr, ℕ, Bool, true, false, List, [], ◌∷◌, Option, Some, None, sym, ap, subst, ◌∙◌, Bor}
use Rattle.std.specs.Prelude.{slice_get}
use Rattle.std.specs.Option.{option_map}
use Rattle.std.proofs.lemmas.Bool.{false≢true}
use Rattle.ext_pattern.specs.Filling.{filled}
use Rattle.ext_pattern.specs.First.{IsFirstMatch}
use Rattle.ext_pattern.specs.Pattern.{PatternView}
use Rattle.ext_transfer.specs.declared.transfer.Transfer.{Transfer}
use Rattle.ext_available.specs.Resource.{IsReadAs, IsReadBack, ReadsVersion}

-- a test whether a name catches a version is one of reading back, where the name is made by the first pattern
pub read_back : (ps : List PatternView) (first : PatternView) (bytes version digest : List ℕ) (b : Bool) → slice_get ps 0 ≡ Some first → bytes ≡ filled first version digest
    → ((b ≡ true) ↔ ((caught : Option (List ℕ)) × IsFirstMatch ps bytes version caught)) → (b ≡ true) ↔ IsReadBack ps version digest
read_back [] first bytes version digest b there is tests = absurd (cc there)
read_back (p ∷ ps) first bytes version digest b there is tests =
    let same : p ≡ first = cc there in
    let P : List ℕ → Type 0 = λ n. (caught : Option (List ℕ)) × IsFirstMatch (p ∷ ps) n version caught in
    let whole : bytes ≡ filled p version digest = is ∙ ap (λ (q : PatternView). filled q version digest) (sym same) in
    ((λ yes. subst P whole (tests.0 yes)), (λ back. tests.1 (subst P (sym whole) back)))

-- what a call of patterns says of a name with a digest
abbrev pub FindsVersion : List PatternView → List ℕ → List ℕ → Option (Bor (List ℕ)) → Type 0
FindsVersion ps name digest found = (v : List ℕ) → ReadsVersion ps name digest v ↔ (option_map (λ r. r.now) found ≡ Some v)

-- a name that the source's patterns do not read is read as no version
pub unread : (t : Transfer) (ps : List PatternView) (name digest : List ℕ) (found : Option (Bor (List ℕ))) → ps ≡ t.source.patterns → found ≡ None → FindsVersion ps name digest found
    → (v : List ℕ) → IsReadAs t v name digest ↔ (None ≡ Some v)
unread t ps name digest found same none reads v = (
  (λ is. absurd (cc (sym (ap (option_map (λ (r : Bor (List ℕ)). r.now)) none) ∙ (reads v).0 (subst (λ (qs : List PatternView). ReadsVersion qs name digest v) (sym same) is.source)))),
  (λ is. absurd (cc is)),
)

-- what is found is a version
pub found_reads : (ps : List PatternView) (name digest : List ℕ) (found : Option (Bor (List ℕ))) (version : Bor (List ℕ)) → found ≡ Some version → FindsVersion ps name digest found → ReadsVersion ps name digest version.now
found_reads ps name digest found version is reads = (reads version.now).1 (ap (option_map (λ (r : Bor (List ℕ)). r.now)) is)

module _ (t : Transfer) (ps qs : List PatternView) (name digest : List ℕ) (found : Option (Bor (List ℕ))) (version : Bor (List ℕ)) (b : Bool)
    (source : ps ≡ t.source.patterns) (target : qs ≡ t.target.patterns) (is : found ≡ Some version) (reads : FindsVersion ps name digest found)
    (back : (b ≡ true) ↔ IsReadBack qs version.now digest) where
  only : (v : List ℕ) → IsReadAs t v name digest → version.now ≡ v
  only v read =
      let there : Some version.now ≡ Some v = sym (ap (option_map (λ (r : Bor (List ℕ)). r.now)) is) ∙ (reads v).0 (subst (λ (xs : List PatternView). ReadsVersion xs name digest v) (sym source) read.source) in
      cc there

  -- one that is read back is the version
  pub read_and_back : b ≡ true → (v : List ℕ) → IsReadAs t v name digest ↔ (Some version.now ≡ Some v)
  read_and_back is_back v = (
    (λ read. ap Some (only v read)),
    (λ same. let one : version.now ≡ v = cc same in
        subst (λ (w : List ℕ). IsReadAs t w name digest) one (record {
          source = subst (λ (xs : List PatternView). ReadsVersion xs name digest version.now) source (found_reads ps name digest found version is reads);
          target = subst (λ (xs : List PatternView). IsReadBack xs version.now digest) target (back.0 is_back);
        })),
  )

  -- and one that is not is none
  pub read_and_lost : b ≡ false → (v : List ℕ) → IsReadAs t v name digest ↔ (None ≡ Some v)
  read_and_lost lost v = (
    (λ read. absurd (false≢true (sym lost ∙ back.1 (subst (λ (xs : List PatternView). IsReadBack xs version.now digest) (sym target) (subst (λ (w : List ℕ). IsReadBack t.target.patterns w digest) (sym (only v read)) read.target))))),
    (λ same. absurd (cc same)),
  )
