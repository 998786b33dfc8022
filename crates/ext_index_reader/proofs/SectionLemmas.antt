-- Sections of an index: so many items, each on its lines. A run over the lines of a section and what follows them tells its
-- items, and items that may follow one another have such a run.
use Rattle.std.proofs.Common.{◌≡◌, ℕ, zero, suc, List, [], ◌∷◌, ◌++◌, length, refl, sym, ap, ◌∙◌, subst, arith, append_assoc}
use Rattle.std.specs.List.{flat_map}
use Rattle.ext_index_reader.specs.State.{at}
use Rattle.ext_index_reader.specs.Step.{StepsThrough, Steps}
use Rattle.ext_index_reader.specs.declared.state.Reading.{Reading}
use Rattle.ext_index_reader.specs.declared.state.SoFar.{SoFar}
use Rattle.ext_index_reader.specs.declared.state.Stage.TheVariants as stages

-- the lines lead from a reading to the end
abbrev pub ToEnd : ℕ → SoFar → Reading → List (List ℕ) → Type 0
ToEnd g e r lines = StepsThrough g r lines (at e stages.Done)

-- one line of them
pub record FirstLine (g : ℕ) (e : SoFar) (r : Reading) (lines : List (List ℕ)) : Type 0 where
  pub line : List ℕ
  pub rest : List (List ℕ)
  pub next : Reading
  pub text : lines ≡ line ∷ rest
  pub step : Steps g r line next
  pub run : ToEnd g e next rest

pub first_line_of : (g : ℕ) (e : SoFar) (r : Reading) (lines : List (List ℕ)) → (r.stage ≡ stages.Done → ⊥) → ToEnd g e r lines → FirstLine g e r lines
first_line_of g e r [] unended run = absurd (unended (ap (λ (x : Reading). x.stage) run))
first_line_of g e r (line ∷ lines) unended run = record { line = line; rest = lines; next = run.0; text = refl; step = run.1; run = run.2 }

-- what has been read after items
abbrev pub after : {S X : Type 0} → (S → X → S) → S → List X → S
after add s [] = s
after add s (x ∷ xs) = after add (add s x) xs

-- each of the items may follow those before it
abbrev pub AllMay : {S X : Type 0} → (S → X → S) → (S → X → Type 0) → S → List X → Type 0
AllMay add May s [] = Unit {0}
AllMay add May s (x ∷ xs) = May s x × AllMay add May (add s x) xs

module _ (g : ℕ) (e : SoFar) {S X : Type 0} (add : S → X → S) (May : S → X → Type 0) (line : X → List (List ℕ)) (state : S → ℕ → Reading) where
  -- one item, and what follows it
  pub record Opened (s : S) (n : ℕ) (lines : List (List ℕ)) : Type 0 where
    pub item : X
    pub may : May s item
    pub rest : List (List ℕ)
    pub text : lines ≡ line item ++ rest
    pub run : ToEnd g e (state (add s item) n) rest

  -- so many items, and what follows them
  pub record Peeled (s : S) (n : ℕ) (lines : List (List ℕ)) : Type 0 where
    pub items : List X
    pub count : length items ≡ n
    pub may : AllMay add May s items
    pub rest : List (List ℕ)
    pub text : lines ≡ flat_map line items ++ rest
    pub run : ToEnd g e (state (after add s items) zero) rest

  module _ (opens : (s : S) (n : ℕ) (lines : List (List ℕ)) → ToEnd g e (state s (suc n)) lines → Opened s n lines) where
    pub peel : (s : S) (n : ℕ) (lines : List (List ℕ)) → ToEnd g e (state s n) lines → Peeled s n lines
    peel s zero lines run = record { items = []; count = refl; may = tt; rest = lines; text = refl; run = run }
    peel s (suc n) lines run =
        let first = opens s n lines run in
        let more = peel (add s first.item) n first.rest first.run in
        record {
          items = first.item ∷ more.items;
          count = let m = more.count in omega arith;
          may = (first.may, more.may);
          rest = more.rest;
          text = first.text ∙ (λ i. line first.item ++ more.text i) ∙ sym (append_assoc (line first.item) (flat_map line more.items) more.rest);
          run = more.run;
        }

  module _ (closes : (s : S) (n : ℕ) (x : X) (rest : List (List ℕ)) → May s x → ToEnd g e (state (add s x) n) rest → ToEnd g e (state s (suc n)) (line x ++ rest)) where
    pub again : (s : S) (items : List X) (rest : List (List ℕ)) → AllMay add May s items → ToEnd g e (state (after add s items) zero) rest → ToEnd g e (state s (length items)) (flat_map line items ++ rest)
    again s [] rest may run = run
    again s (x ∷ xs) rest may run =
        subst (ToEnd g e (state s (suc (length xs)))) (sym (append_assoc (line x) (flat_map line xs) rest)) (closes s (length xs) x (flat_map line xs ++ rest) may.0 (again (add s x) xs rest may.1 run))
