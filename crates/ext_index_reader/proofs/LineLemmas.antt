-- What a line that may not stand next says of every reading of it.
use Rattle.std.proofs.Common.{◌≡◌, ◌↔◌, ℕ, ◌≤◌, Bool, false, inl, inr, List, Option, Some, None, codes, ◌<◌, IsTrue, sym, ◌∙◌, subst, arith}
use Rattle.std.proofs.lemmas.Bool.{false≢true}
use Rattle.ext_tree.specs.declared.entry.Entry.{Entry}
use Rattle.ext_index_lines.specs.Homed.{HasHomedLine, homed_line}
use Rattle.ext_index_lines.specs.declared.homed.Homed.{Homed}
use Rattle.ext_index_reader.specs.Homes.{Agrees}
use Rattle.ext_text.specs.Digest.{IsDigest}
use Rattle.ext_index_lines.specs.Lines.{IsLinePath, item_line, manifest_line, may_tell, number_line, path_line}
use Rattle.ext_index_reader.specs.Reading.{LeadsTo}
use Rattle.ext_index_reader.specs.State.{at_part}
use Rattle.ext_index_reader.specs.Step.{HasRoom, IsUpTo, MayBePast, MayEnter, StepsAt, GivesHierarchy, GivesMerged, most_count}
use Rattle.ext_index_reader.specs.declared.state.PartStage.TheVariants as parts
use Rattle.ext_index_reader.specs.declared.state.Reading.{Reading}
use Rattle.ext_index_reader.specs.declared.state.SoFar.{SoFar}
use Rattle.ext_index_reader.specs.declared.state.Stage.{Stage}
use Rattle.ext_index_reader.specs.declared.state.Stage.TheVariants as stages
use Rattle.ext_text.specs.declared.extension.Extension.TheVariants as extensions
use Rattle.ext_index_reader.proofs.OnceLemmas.{entry_once, item_once, manifest_once, number_same, path_once, refused}

-- a test that fails
pub fails : (P : Type 0) (test : Bool) → (IsTrue test ↔ P) → test ≡ false → ¬ P
fails P test tells out = λ p. absurd (false≢true (sym out ∙ tells.1 p))

-- the entry of a line may not come, and so none of that line may enter
pub entry_not_come : (g : ℕ) (s : SoFar) (line : List ℕ) (x : List (List ℕ) × Entry Homed) (test : Bool) → HasHomedLine x → line ≡ homed_line x → (IsTrue test ↔ (IsTrue (may_tell s.text x.1) × IsUpTo g x.1 × HasRoom s x.1)) → test ≡ false
    → (y : List (List ℕ) × Entry Homed) → HasHomedLine y → line ≡ homed_line y → ¬ MayEnter g s y.1
entry_not_come g s line x test has is tells out =
    refused HasHomedLine homed_line entry_once (λ z. MayEnter g s z.1) line x has is (λ may. fails _ test tells out (may.told, may.up_to, may.room))

-- its file has another stamp than its home
pub entry_not_agrees : (g : ℕ) (s : SoFar) (line : List ℕ) (x : List (List ℕ) × Entry Homed) → HasHomedLine x → line ≡ homed_line x → ¬ Agrees s.homes x.1
    → (y : List (List ℕ) × Entry Homed) → HasHomedLine y → line ≡ homed_line y → ¬ MayEnter g s y.1
entry_not_agrees g s line x has is other = refused HasHomedLine homed_line entry_once (λ z. MayEnter g s z.1) line x has is (λ may. other may.agrees)

-- a line that tells no hierarchy
pub no_hierarchy : (g : ℕ) (s : SoFar) (more : ℕ) (line : List ℕ) → GivesHierarchy line None → (t : Reading) → ¬ StepsAt g s (stages.Hierarchy more) line t
no_hierarchy g s more line none t (inl f) = none extensions.Sysext f.0 f.1 f.3
no_hierarchy g s more line none t (inr f) = none extensions.Confext f.0 f.1 f.3

-- a line that tells none of configuration extensions tells the attachments, or nothing
pub confext_else : (g : ℕ) (s t : SoFar) (line : List ℕ) (found : Option Stage) → GivesMerged (codes "confext") line None → LeadsTo g (at_part s parts.Attached) t line found → LeadsTo g (at_part s parts.Confext) t line found
confext_else g s t line None none leads = λ u step. elim step [ inl f ↦ none f.0 f.1 f.2 f.3 | inr f ↦ leads u f ]
confext_else g s t line (Some stage) none leads = inr leads

-- and one that tells none of system extensions is one of these
pub sysext_else : (g : ℕ) (s t : SoFar) (line : List ℕ) (found : Option Stage) → GivesMerged (codes "sysext") line None → LeadsTo g (at_part s parts.Confext) t line found → LeadsTo g (at_part s parts.Sysext) t line found
sysext_else g s t line None none leads = λ u step. elim step [ inl f ↦ none f.0 f.1 f.2 f.3 | inr f ↦ leads u f ]
sysext_else g s t line (Some stage) none leads = inr leads

-- the generation of a line may not stand next
pub no_generation : (g : ℕ) (s : SoFar) (more : ℕ) (line : List ℕ) (n : ℕ) (test : Bool) → g ≤ 4294967295 → n < g → line ≡ number_line (codes "g") n → (IsTrue test ↔ MayBePast s n) → test ≡ false → (t : Reading) → ¬ StepsAt g s (stages.Generation more) line t
no_generation g s more line n test last low is tells out t step =
    let same = number_same (codes "g") step.0 n (omega (arith, step.2)) (omega arith) (sym step.4 ∙ is) in
    fails _ test tells out (subst (MayBePast s) same step.3)

-- a value that a test tells fails where the test does
pub not_passes : (test value : Bool) → test ≡ value → test ≡ false → ¬ IsTrue value
not_passes test value tells out = λ passes. absurd (false≢true (sym out ∙ tells ∙ passes))

-- the path of a line does not pass, and so none of that line does
pub no_path : (word line : List ℕ) (path : List (List ℕ)) (Q : List (List ℕ) → Bool) (test : Bool) → IsLinePath path → line ≡ path_line word path → test ≡ Q path → test ≡ false
    → (y : List (List ℕ)) → IsLinePath y → line ≡ path_line word y → ¬ IsTrue (Q y)
no_path word line path Q test has is tells out = refused IsLinePath (path_line word) (path_once word) (λ y. IsTrue (Q y)) line path has is (not_passes test (Q path) tells out)

pub no_manifest : (line : List ℕ) (n : ℕ) (path : List (List ℕ)) (Q : List (List ℕ) → Bool) (test : Bool) → n ≤ most_count → IsLinePath path → line ≡ manifest_line n path → test ≡ Q path → test ≡ false
    → (m : ℕ) (y : List (List ℕ)) → m ≤ most_count → IsLinePath y → line ≡ manifest_line m y → ¬ IsTrue (Q y)
no_manifest line n path Q test few has is tells out m y small other e passes =
    let same = manifest_once m n y path (omega arith) (omega arith) other has (sym e ∙ is) in
    not_passes test (Q path) tells out (subst (λ z. IsTrue (Q z)) same.1 passes)

pub no_item : (line digest : List ℕ) (path : List (List ℕ)) (Q : List (List ℕ) → Bool) (test : Bool) → IsDigest digest → IsLinePath path → line ≡ item_line digest path → test ≡ Q path → test ≡ false
    → (d : List ℕ) (y : List (List ℕ)) → IsDigest d → IsLinePath y → line ≡ item_line d y → ¬ IsTrue (Q y)
no_item line digest path Q test id has is tells out d y other_id other e passes =
    let same = item_once d digest y path other_id id other has (sym e ∙ is) in
    not_passes test (Q path) tells out (subst (λ z. IsTrue (Q z)) same.1 passes)
