-- Lines are read in one way: what follows a word, and what follows that.
use Rattle.std.proofs.Common.{◌≡◌, ◌≢◌, ℕ, ◌<◌, List, ◌∷◌, ◌++◌, length, drop, Option, Some, None, Result, Ok, Err, refl, sym, ap, ◌∙◌, true, false, not, eqb, nat_eq}
use Rattle.std.specs.Cmp.Lexicographic.{nat_list_eq_equiv, pointwise}
use Rattle.std.specs.List.{list_all}
use Rattle.std.proofs.lemmas.List.Sums.{AllPass-from_list_all}
use Rattle.std.specs.Prelude.{IfOk, MatchOption}
use Rattle.std.specs.Borrow.{Bor}
use Rattle.ext_lines.specs.Split.{Lacks}
use Rattle.ext_lines.proofs.ForCallers.{split_same}
use Rattle.ext_text.specs.Arch.{arch_name}
use Rattle.ext_text.specs.Path.{IsPath, path_text}
use Rattle.ext_text.specs.declared.arch.Arch.{Arch}
use Rattle.ext_text.specs.declared.arch.Arch.TheVariants.{X86, X86_64, Arm, Arm64, Riscv64, S390x, Ppc64Le, Loongarch64}
use Rattle.ext_index_lines.specs.Lines.{IsLinePath, worded}

-- texts that are told apart differ
pub other_text : (xs ys : List ℕ) → false ≡ pointwise nat_eq xs ys → xs ≡ ys → ⊥
other_text xs ys other same = let tied : pointwise nat_eq xs ys ≡ true = ap (λ zs. pointwise nat_eq zs ys) same ∙ nat_list_eq_equiv.refl ys in cc

-- what follows a word is told by the line
pub after_once : (word xs ys : List ℕ) → worded word xs ≡ worded word ys → xs ≡ ys
after_once word xs ys e = ap (drop 1) (split_same word word (32 ∷ xs) (32 ∷ ys) refl e).1

-- what follows a prefix and then a space
pub found_after_prefix : (found : Option (Bor (List ℕ))) (line word rest : List ℕ) → line ≡ word ++ rest
    → MatchOption found ((r : List ℕ) → rest ≢ 32 ∷ r) (λ r. rest ≡ 32 ∷ r.now)
    → MatchOption found ((r : List ℕ) → line ≢ worded word r) (λ r. line ≡ worded word r.now)
found_after_prefix None line word rest is none = λ r e. none r (split_same word word rest (32 ∷ r) refl (sym is ∙ e)).1
found_after_prefix (Some x) line word rest is some = is ∙ ap (λ xs. word ++ xs) some

-- what a reader finds after the word it finds on the line
pub found_after_word : {A : Type 0} (P : A → Type 0) (text : A → List ℕ) (found : Option A) (line word rest : List ℕ) → line ≡ worded word rest
    → MatchOption found ((x : A) → P x → rest ≢ text x) (λ x. P x × (rest ≡ text x))
    → MatchOption found ((x : A) → P x → line ≢ worded word (text x)) (λ x. P x × (line ≡ worded word (text x)))
found_after_word P text None line word rest is none = λ x has e. none x has (after_once word rest (text x) (sym is ∙ e))
found_after_word P text (Some x) line word rest is some = (some.0, is ∙ ap (worded word) some.1)

pub name_after : {E : Type 0} (P : List ℕ → Type 0) (r : Result (Option (List ℕ)) E) (line word rest : List ℕ) → line ≡ worded word rest
    → IfOk r (λ found. MatchOption found ((x : List ℕ) → P x → rest ≢ x) (λ x. P x × (rest ≡ x)))
    → IfOk r (λ found. MatchOption found ((x : List ℕ) → P x → line ≢ worded word x) (λ x. P x × (line ≡ worded word x)))
name_after P (Err e) line word rest is reads = tt
name_after P (Ok found) line word rest is reads = found_after_word P (λ x. x) found line word rest is reads

-- what a reader of paths finds, as one fact of the path
path_found : (found : Option (List (List ℕ))) (rest : List ℕ)
    → MatchOption found ((p : List (List ℕ)) → IsPath p → 0 < length p → rest ≢ path_text p) (λ p. IsPath p × (0 < length p) × (rest ≡ path_text p))
    → MatchOption found ((p : List (List ℕ)) → IsLinePath p → rest ≢ path_text p) (λ p. IsLinePath p × (rest ≡ path_text p))
path_found None rest none = λ p is e. none p is.within is.non_empty e
path_found (Some p) rest some = (record { within = some.0; non_empty = some.1 }, some.2)

pub path_after : {E : Type 0} (r : Result (Option (List (List ℕ))) E) (line word rest : List ℕ) → line ≡ worded word rest
    → IfOk r (λ found. MatchOption found ((p : List (List ℕ)) → IsPath p → 0 < length p → rest ≢ path_text p) (λ p. IsPath p × (0 < length p) × (rest ≡ path_text p)))
    → IfOk r (λ found. MatchOption found ((p : List (List ℕ)) → IsLinePath p → line ≢ worded word (path_text p)) (λ p. IsLinePath p × (line ≡ worded word (path_text p))))
path_after (Err e) line word rest is reads = tt
path_after (Ok found) line word rest is reads = found_after_word IsLinePath path_text found line word rest is (path_found found rest reads)

-- whether a text lacks a byte can be computed
pub lacks_by : (byte : ℕ) (bytes : List ℕ) → list_all (λ b. not (eqb b byte)) bytes ≡ true → Lacks byte bytes
lacks_by byte bytes test = AllPass-from_list_all (λ b. not (eqb b byte)) bytes test

-- the name of an architecture has no space
pub arch_lacks : (arch : Arch) → Lacks 32 (arch_name arch)
arch_lacks X86 = lacks_by 32 (arch_name X86) refl
arch_lacks X86_64 = lacks_by 32 (arch_name X86_64) refl
arch_lacks Arm = lacks_by 32 (arch_name Arm) refl
arch_lacks Arm64 = lacks_by 32 (arch_name Arm64) refl
arch_lacks Riscv64 = lacks_by 32 (arch_name Riscv64) refl
arch_lacks S390x = lacks_by 32 (arch_name S390x) refl
arch_lacks Ppc64Le = lacks_by 32 (arch_name Ppc64Le) refl
arch_lacks Loongarch64 = lacks_by 32 (arch_name Loongarch64) refl
