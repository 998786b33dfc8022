-- Each line of an index says one thing.
use Rattle.std.proofs.Common.{◌≡◌, ℕ, ◌<◌, ◌≤◌, Bool, true, false, eqb, List, [], ◌∷◌, ◌++◌, length, get_or, drop, refl, sym, ap, ◌∙◌, subst, arith, codes}
use Rattle.std.specs.Prelude.{if◌then◌else◌}
use Rattle.std.proofs.lemmas.Fmt.{decimal_injective}
use Rattle.ext_lines.proofs.ForCallers.{split_once}
use Rattle.ext_text.specs.Arch.{arch_name}
use Rattle.ext_text.specs.Extension.{extension_name}
use Rattle.ext_text.specs.Digest.{IsDigest}
use Rattle.ext_text.specs.Name.{IsName}
use Rattle.ext_text.specs.Scope.{scope_name}
use Rattle.ext_text.specs.declared.arch.Arch.{Arch}
use Rattle.ext_text.specs.declared.arch.Arch.TheVariants.{X86, X86_64, Arm, Arm64, Riscv64, S390x, Ppc64Le, Loongarch64}
use Rattle.ext_text.specs.declared.extension.Extension.{Extension}
use Rattle.ext_text.specs.declared.extension.Extension.TheVariants as extensions
use Rattle.ext_text.specs.declared.scope.Scope.{Scope}
use Rattle.ext_text.specs.declared.scope.Scope.TheVariants as scopes
use Rattle.ext_text.proofs.ForCallers.{path_injective}
use Rattle.ext_tree.specs.declared.entry.Entry.{Entry}
use Rattle.ext_tree.proofs.ForCallers.{digest_once, line_injective, number_once}
use Rattle.ext_index_lines.specs.Homed.{HasHomedLine, homed_form, homed_line}
use Rattle.ext_index_lines.specs.Lines.{IsLinePath, attachment_line, header_line, hierarchy_line, host_line, item_line, manifest_line, number_line, path_line, worded}
use Rattle.ext_index_lines.specs.declared.text_number.TextNumber.{TextNumber}
use Rattle.ext_index_lines.specs.declared.text_number.TextNumber.TheVariants.{One, Later}
use Rattle.ext_index_lines.specs.declared.homed.Homed.{Homed}
use Rattle.ext_index_lines.proofs.ForCallers.{after_once, arch_lacks, homed_once}

-- of two things with one line, both are refused or none is
module _ {X : Type 0} (P : X → Type 0) (text : X → List ℕ) (once : (x y : X) → P x → P y → text x ≡ text y → x ≡ y) where
  pub refused : (Q : X → Type 0) (line : List ℕ) (x : X) → P x → line ≡ text x → ¬ Q x → (y : X) → P y → line ≡ text y → ¬ Q y
  refused Q line x p is bad y q e may = bad (subst Q (once y x q p (sym e ∙ is)) may)

-- texts that begin with other bytes differ
pub other_first : (a b : ℕ) (xs ys : List ℕ) → (a ≡ b → ⊥) → a ∷ xs ≡ b ∷ ys → ⊥
other_first a b xs ys ne e = ne (ap (λ (l : List ℕ). get_or l 0 0) e)

pub name_once : (word : List ℕ) (x y : List ℕ) → IsName x → IsName y → worded word x ≡ worded word y → x ≡ y
name_once word x y p q e = after_once word x y e

pub path_once : (word : List ℕ) (x y : List (List ℕ)) → IsLinePath x → IsLinePath y → path_line word x ≡ path_line word y → x ≡ y
path_once word x y p q e = path_injective x y p.within q.within (after_once word _ _ e)

pub number_same : (word : List ℕ) (m n : ℕ) → m ≤ 4294967295 → n ≤ 4294967295 → number_line word m ≡ number_line word n → m ≡ n
number_same word m n p q e = decimal_injective m n (omega arith) (omega arith) (after_once word _ _ e)

abbrev class_back : List ℕ → Extension
class_back bytes = if eqb (get_or bytes 0 0) 115 then extensions.Sysext else extensions.Confext

class_same : (c : Extension) → class_back (extension_name c) ≡ c
class_same extensions.Sysext = refl
class_same extensions.Confext = refl

first_of_both : (a b xs ys : List ℕ) → 0 < length a → 0 < length b → a ++ xs ≡ b ++ ys → get_or a 0 0 ≡ get_or b 0 0
first_of_both [] b xs ys p q e = absurd (omega arith)
first_of_both (x ∷ a) [] xs ys p q e = absurd (omega arith)
first_of_both (x ∷ a) (y ∷ b) xs ys p q e = ap (λ (l : List ℕ). get_or l 0 0) e

class_some : (c : Extension) → 0 < length (extension_name c)
class_some extensions.Sysext = omega arith
class_some extensions.Confext = omega arith

class_first : (c d : Extension) → get_or (extension_name c) 0 0 ≡ get_or (extension_name d) 0 0 → class_back (extension_name c) ≡ class_back (extension_name d)
class_first c d e = ap (λ n. if eqb n 115 then extensions.Sysext else extensions.Confext) e

pub class_once : (c d : Extension) (xs ys : List ℕ) → worded (extension_name c) xs ≡ worded (extension_name d) ys → (c ≡ d) × (xs ≡ ys)
class_once c d xs ys e =
    let same : c ≡ d = sym (class_same c) ∙ class_first c d (first_of_both (extension_name c) (extension_name d) (32 ∷ xs) (32 ∷ ys) (class_some c) (class_some d) e) ∙ class_same d in
    (same, after_once (extension_name d) xs ys (ap (λ k. worded (extension_name k) xs) (sym same) ∙ e))

pub hierarchy_once : (c d : Extension) (x y : List ℕ) → hierarchy_line c x ≡ hierarchy_line d y → (c ≡ d) × (x ≡ y)
hierarchy_once c d x y e = class_once c d x y (after_once (codes "h") _ _ e)

abbrev arch_back : List ℕ → Arch
arch_back bytes =
    if eqb (length bytes) 6 then X86_64
    else if eqb (length bytes) 7 then Riscv64
    else if eqb (length bytes) 8 then Ppc64Le
    else if eqb (length bytes) 11 then Loongarch64
    else if eqb (get_or bytes 0 0) 120 then X86
    else if eqb (get_or bytes 0 0) 115 then S390x
    else if eqb (length bytes) 3 then Arm
    else Arm64

arch_same : (a : Arch) → arch_back (arch_name a) ≡ a
arch_same X86 = refl
arch_same X86_64 = refl
arch_same Arm = refl
arch_same Arm64 = refl
arch_same Riscv64 = refl
arch_same S390x = refl
arch_same Ppc64Le = refl
arch_same Loongarch64 = refl

abbrev scope_back : List ℕ → Scope
scope_back bytes = if eqb (get_or bytes 0 0) 115 then scopes.System else if eqb (get_or bytes 0 0) 105 then scopes.Initrd else scopes.Portable

scope_same : (s : Scope) → scope_back (scope_name s) ≡ s
scope_same scopes.System = refl
scope_same scopes.Initrd = refl
scope_same scopes.Portable = refl

pub host_once : (a b : Arch) (s t : Scope) → host_line a s ≡ host_line b t → (a ≡ b) × (s ≡ t)
host_once a b s t e =
    let parts = split_once 32 (arch_name a) (arch_name b) (scope_name s) (scope_name t) (arch_lacks a) (arch_lacks b) (after_once (codes "host") _ _ e) in
    (sym (arch_same a) ∙ ap arch_back parts.0 ∙ arch_same b, sym (scope_same s) ∙ ap scope_back parts.1 ∙ scope_same t)

pub header_once : (x y : TextNumber) → header_line x ≡ header_line y → x ≡ y
header_once One One e = refl
header_once One (Later false) e = absurd (let h : 49 ∷ [] ≡ 50 ∷ [] = ap (drop 14) e in other_first 49 50 [] [] (λ z. omega arith) h)
header_once One (Later true) e = absurd (let h : 49 ∷ [] ≡ 51 ∷ [] = ap (drop 14) e in other_first 49 51 [] [] (λ z. omega arith) h)
header_once (Later false) One e = absurd (let h : 50 ∷ [] ≡ 49 ∷ [] = ap (drop 14) e in other_first 50 49 [] [] (λ z. omega arith) h)
header_once (Later false) (Later false) e = refl
header_once (Later false) (Later true) e = absurd (let h : 50 ∷ [] ≡ 51 ∷ [] = ap (drop 14) e in other_first 50 51 [] [] (λ z. omega arith) h)
header_once (Later true) One e = absurd (let h : 51 ∷ [] ≡ 49 ∷ [] = ap (drop 14) e in other_first 51 49 [] [] (λ z. omega arith) h)
header_once (Later true) (Later false) e = absurd (let h : 51 ∷ [] ≡ 50 ∷ [] = ap (drop 14) e in other_first 51 50 [] [] (λ z. omega arith) h)
header_once (Later true) (Later true) e = refl

pub where_once : (x y : Bool) (m n : ℕ) → m ≤ 4294967295 → n ≤ 4294967295 → attachment_line x m ≡ attachment_line y n → (x ≡ y) × (m ≡ n)
where_once true true m n p q e = (refl, number_same (codes "run") m n p q (after_once (codes "a") _ _ e))
where_once true false m n p q e = absurd (other_first 114 101 _ _ (λ z. omega arith) (after_once (codes "a") _ _ e))
where_once false true m n p q e = absurd (other_first 101 114 _ _ (λ z. omega arith) (after_once (codes "a") _ _ e))
where_once false false m n p q e = (refl, number_same (codes "etc") m n p q (after_once (codes "a") _ _ e))

pub manifest_once : (m n : ℕ) (p q : List (List ℕ)) → m ≤ 4294967295 → n ≤ 4294967295 → IsLinePath p → IsLinePath q → manifest_line m p ≡ manifest_line n q → (m ≡ n) × (p ≡ q)
manifest_once m n p q few small ip iq e =
    let number = number_once m n _ _ few small (after_once (codes "k") _ _ e) in
    (number.0, path_injective p q ip.within iq.within number.1)

pub item_once : (d f : List ℕ) (p q : List (List ℕ)) → IsDigest d → IsDigest f → IsLinePath p → IsLinePath q → item_line d p ≡ item_line f q → (d ≡ f) × (p ≡ q)
item_once d f p q id if' ip iq e =
    let digest = digest_once d f _ _ id if' (after_once (codes "m") _ _ e) in
    (digest.0, path_injective p q ip.within iq.within digest.1)

pub entry_once : (x y : List (List ℕ) × Entry Homed) → HasHomedLine x → HasHomedLine y → homed_line x ≡ homed_line y → x ≡ y
entry_once x y p q e = line_injective homed_form homed_once x y p q e
