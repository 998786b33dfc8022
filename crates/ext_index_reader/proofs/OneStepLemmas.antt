-- A line is read in one way, and holds no newline.
use Rattle.std.proofs.Common.{◌≡◌, ℕ, ◌≤◌, Bool, true, false, inl, inr, List, [], ◌∷◌, ◌++◌, sym, ap, ◌∙◌, subst, arith, codes, decimal, refl}
use Rattle.std.specs.List.{AllByRecursion}
use Rattle.ext_lines.specs.Split.{Lacks}
use Rattle.ext_lines.proofs.ForCallers.{decimal_lacks, differs, hex_lacks, lacks_append, lacks_cons}
use Rattle.ext_text.proofs.ForCallers.{path_lacks}
use Rattle.ext_tree.proofs.ForCallers.{line_lacks}
use Rattle.ext_index_lines.proofs.ForCallers.{homed_lack, lacks_by}
use Rattle.ext_text.specs.Arch.{arch_name}
use Rattle.ext_text.specs.Name.{IsName}
use Rattle.ext_text.specs.Path.{path_text}
use Rattle.ext_text.specs.Scope.{scope_name}
use Rattle.ext_text.specs.declared.arch.Arch.{Arch}
use Rattle.ext_text.specs.declared.arch.Arch.TheVariants.{X86, X86_64, Arm, Arm64, Riscv64, S390x, Ppc64Le, Loongarch64}
use Rattle.ext_text.specs.declared.extension.Extension.TheVariants as extensions
use Rattle.ext_text.specs.declared.scope.Scope.{Scope}
use Rattle.ext_text.specs.declared.scope.Scope.TheVariants as scopes
use Rattle.ext_tree.specs.declared.entry.Entry.{Entry}
use Rattle.ext_index_lines.specs.Homed.{homed_form}
use Rattle.ext_index_lines.specs.Lines.{IsLinePath, attachment_line, header_line, number_line, path_line, worded}
use Rattle.ext_index_lines.specs.declared.text_number.TextNumber.{TextNumber}
use Rattle.ext_index_lines.specs.declared.text_number.TextNumber.TheVariants.{One, Later}
use Rattle.ext_index_lines.specs.declared.homed.Homed.{Homed}
use Rattle.ext_index_reader.specs.State.{at, at_part, then_added, then_attached, then_confext, then_hierarchies, then_items, then_kept, then_lower, then_machine, then_past, then_root, then_sysext, with_confext_hier, with_lower, with_root, with_sysext_hier}
use Rattle.ext_index_reader.specs.Step.{AttachedAt, ConfextAt, PartStepsAt, StepsThrough, Steps, StepsAt, SysextAt}
use Rattle.ext_index_reader.specs.declared.state.PartStage.{PartStage}
use Rattle.ext_index_reader.specs.declared.state.PartStage.TheVariants as parts
use Rattle.ext_index_reader.specs.declared.state.Reading.{Reading}
use Rattle.ext_index_reader.specs.declared.state.SoFar.{SoFar}
use Rattle.ext_index_reader.specs.declared.state.Stage.{Stage}
use Rattle.ext_index_reader.specs.declared.state.Stage.TheVariants as stages
use Rattle.ext_index_reader.specs.declared.state.Whose.TheVariants as whose
use Rattle.ext_index_reader.proofs.OnceLemmas.{entry_once, header_once, hierarchy_once, host_once, item_once, manifest_once, name_once, number_same, other_first, path_once, where_once}

-- the number on a line decides what is read then
number_step : (word line : List ℕ) (next : ℕ → Reading) (m n : ℕ) (t u : Reading) → m ≤ 4294967295 → n ≤ 4294967295 → line ≡ number_line word m → line ≡ number_line word n → t ≡ next m → u ≡ next n → t ≡ u
number_step word line next m n t u p q e f is other = is ∙ ap next (number_same word m n p q (sym e ∙ f)) ∙ sym other

attached_once : (s : SoFar) (line : List ℕ) (t u : Reading) → AttachedAt s line t → AttachedAt s line u → t ≡ u
attached_once s line t u p q = number_step (codes "attached") line (then_attached s) p.0 q.0 t u (omega (arith, p.1)) (omega (arith, q.1)) p.2 q.2 p.3 q.3

confext_not_attached : (m n : ℕ) (line : List ℕ) → line ≡ number_line (codes "confext") m → line ≡ number_line (codes "attached") n → ⊥
confext_not_attached m n line e f = other_first 99 97 _ _ (λ z. omega arith) (sym e ∙ f)

sysext_not_confext : (m n : ℕ) (line : List ℕ) → line ≡ number_line (codes "sysext") m → line ≡ number_line (codes "confext") n → ⊥
sysext_not_confext m n line e f = other_first 115 99 _ _ (λ z. omega arith) (sym e ∙ f)

sysext_not_attached : (m n : ℕ) (line : List ℕ) → line ≡ number_line (codes "sysext") m → line ≡ number_line (codes "attached") n → ⊥
sysext_not_attached m n line e f = other_first 115 97 _ _ (λ z. omega arith) (sym e ∙ f)

confext_once : (s : SoFar) (line : List ℕ) (t u : Reading) → ConfextAt s line t → ConfextAt s line u → t ≡ u
confext_once s line t u (inl p) (inl q) = number_step (codes "confext") line (λ n. then_confext s n []) p.0 q.0 t u (omega (arith, p.2)) (omega (arith, q.2)) p.3 q.3 p.4 q.4
confext_once s line t u (inl p) (inr q) = absurd (confext_not_attached p.0 q.0 line p.3 q.2)
confext_once s line t u (inr p) (inl q) = absurd (confext_not_attached q.0 p.0 line q.3 p.2)
confext_once s line t u (inr p) (inr q) = attached_once s line t u p q

sysext_not_later : (s : SoFar) (n : ℕ) (line : List ℕ) (t : Reading) → line ≡ number_line (codes "sysext") n → ConfextAt s line t → ⊥
sysext_not_later s n line t e (inl q) = sysext_not_confext n q.0 line e q.3
sysext_not_later s n line t e (inr q) = sysext_not_attached n q.0 line e q.2

sysext_once : (s : SoFar) (line : List ℕ) (t u : Reading) → SysextAt s line t → SysextAt s line u → t ≡ u
sysext_once s line t u (inl p) (inl q) = number_step (codes "sysext") line (λ n. then_sysext s n []) p.0 q.0 t u (omega (arith, p.2)) (omega (arith, q.2)) p.3 q.3 p.4 q.4
sysext_once s line t u (inl p) (inr q) = absurd (sysext_not_later s p.0 line u p.3 q)
sysext_once s line t u (inr p) (inl q) = absurd (sysext_not_later s q.0 line t q.3 p)
sysext_once s line t u (inr p) (inr q) = confext_once s line t u p q

part_once : (g : ℕ) (s : SoFar) (stage : PartStage) (line : List ℕ) (t u : Reading) → PartStepsAt g s stage line t → PartStepsAt g s stage line u → t ≡ u
part_once g s parts.Sysext line t u p q = sysext_once s line t u p q
part_once g s (parts.SysextName more names) line t u p q = p.4 ∙ ap (λ name. then_sysext s more (names ++ name ∷ [])) (name_once (codes "n") p.0 q.0 p.1 q.1 (sym p.2 ∙ q.2)) ∙ sym q.4
part_once g s parts.Confext line t u p q = confext_once s line t u p q
part_once g s (parts.ConfextName more names) line t u p q = p.4 ∙ ap (λ name. then_confext s more (names ++ name ∷ [])) (name_once (codes "n") p.0 q.0 p.1 q.1 (sym p.2 ∙ q.2)) ∙ sym q.4
part_once g s parts.Attached line t u p q = attached_once s line t u p q
part_once g s (parts.Attachment more) line t u p q =
    let same = where_once p.0 q.0 p.1 q.1 (omega (arith, p.2)) (omega (arith, q.2)) (sym p.3 ∙ q.3) in
    p.4 ∙ (λ i. at_part s (parts.Image more (same.1 i) (same.0 i))) ∙ sym q.4
part_once g s (parts.Image more paths runtime) line t u p q = p.4 ∙ ap (λ name. at_part s (parts.Place more paths runtime name)) (name_once (codes "i") p.0 q.0 p.1 q.1 (sym p.2 ∙ q.2)) ∙ sym q.4
part_once g s (parts.Place more paths runtime name) line t u p q =
    p.3 ∙ ap (λ place. then_added s more paths (record { name = name; place = place; runtime = runtime; added = [] })) (path_once (codes "s") p.0 q.0 p.1 q.1 (sym p.2 ∙ q.2)) ∙ sym q.3
part_once g s (parts.Added more paths a) line t u p q =
    p.4 ∙ ap (λ path. then_added s more paths (record a { added = a.added ++ path ∷ [] })) (path_once (codes "p") p.0 q.0 p.1 q.1 (sym p.2 ∙ q.2)) ∙ sym q.4
part_once g s parts.Kept line t u p q = number_step (codes "kept") line (then_kept s) p.0 q.0 t u (omega (arith, p.1)) (omega (arith, q.1)) p.2 q.2 p.3 q.3
part_once g s (parts.Manifest more) line t u p q =
    let same = manifest_once p.0 q.0 p.1 q.1 (omega (arith, p.2)) (omega (arith, q.2)) p.3 q.3 (sym p.4 ∙ q.4) in
    p.6 ∙ (λ i. then_items s more (same.0 i) (record { path = same.1 i; items = [] })) ∙ sym q.6
part_once g s (parts.Item more items m) line t u p q =
    let same = item_once p.0.0 q.0.0 p.1 q.1 p.2 q.2 p.3 q.3 (sym p.4 ∙ q.4) in
    p.6 ∙ (λ i. then_items s more items (record m { items = m.items ++ (record { path = same.1 i; digest = record { 0 = same.0 i } }) ∷ [] })) ∙ sym q.6
part_once g s parts.Root line t u p q = number_step (codes "root") line (then_root s) p.0 q.0 t u (omega (arith, p.1)) (omega (arith, q.1)) p.2 q.2 p.3 q.3
part_once g s (parts.RootEntry more) line t u p q = p.5 ∙ ap (λ (x : List (List ℕ) × Entry Homed). then_root (with_root s x) more) (entry_once p.0 q.0 p.1 q.1 (sym p.4 ∙ q.4)) ∙ sym q.5
part_once g s parts.Lower line t u p q = number_step (codes "lower") line (then_lower s) p.0 q.0 t u (omega (arith, p.1)) (omega (arith, q.1)) p.2 q.2 p.3 q.3
part_once g s (parts.LowerEntry more) line t u p q = p.6 ∙ ap (λ (x : List (List ℕ) × Entry Homed). then_lower (with_lower s x) more) (entry_once p.0 q.0 p.1 q.1 (sym p.5 ∙ q.5)) ∙ sym q.6

one_step_at : (g : ℕ) (s : SoFar) (stage : Stage) (line : List ℕ) (t u : Reading) → g ≤ 4294967295 → StepsAt g s stage line t → StepsAt g s stage line u → t ≡ u
one_step_at g s stages.Header line t u last p q = p.2 ∙ ap (λ (text : TextNumber). at (record s { text = text }) stages.Machine) (header_once p.0 q.0 (sym p.1 ∙ q.1)) ∙ sym q.2
one_step_at g s stages.Machine line t u last p q =
    let same = host_once p.0 q.0 p.1 q.1 (sym p.3 ∙ q.3) in
    p.4 ∙ (λ i. then_machine (record s { arch = same.0 i; scope = same.1 i })) ∙ sym q.4
one_step_at g s stages.Hierarchies line t u last p q = number_step (codes "hierarchies") line (then_hierarchies s) p.0 q.0 t u (omega (arith, p.2)) (omega (arith, q.2)) p.3 q.3 p.4 q.4
one_step_at g s (stages.Hierarchy more) line t u last (inl p) (inl q) = p.4 ∙ ap (λ name. then_hierarchies (with_sysext_hier s name) more) (hierarchy_once extensions.Sysext extensions.Sysext p.0 q.0 (sym p.3 ∙ q.3)).1 ∙ sym q.4
one_step_at g s (stages.Hierarchy more) line t u last (inl p) (inr q) = absurd (let same = (hierarchy_once extensions.Sysext extensions.Confext p.0 q.0 (sym p.3 ∙ q.3)).0 in cc)
one_step_at g s (stages.Hierarchy more) line t u last (inr p) (inl q) = absurd (let same = (hierarchy_once extensions.Confext extensions.Sysext p.0 q.0 (sym p.3 ∙ q.3)).0 in cc)
one_step_at g s (stages.Hierarchy more) line t u last (inr p) (inr q) = p.4 ∙ ap (λ name. then_hierarchies (with_confext_hier s name) more) (hierarchy_once extensions.Confext extensions.Confext p.0 q.0 (sym p.3 ∙ q.3)).1 ∙ sym q.4
one_step_at g s (stages.Part stage) line t u last p q = part_once g s stage line t u p q
one_step_at g s stages.Past line t u last p q = number_step (codes "past") line (then_past s) p.0 q.0 t u (omega (arith, p.1)) (omega (arith, q.1)) p.2 q.2 p.3 q.3
one_step_at g s (stages.Generation more) line t u last p q =
    number_step (codes "g") line (λ n. at_part (record s { whose = whose.Past n more }) parts.Sysext) p.0 q.0 t u (omega (arith, p.2)) (omega (arith, q.2)) p.4 q.4 p.5 q.5
one_step_at g s stages.End line t u last p q = p.1 ∙ sym q.1
one_step_at g s stages.Done line t u last p q = absurd p

pub one_step : (g : ℕ) (r t u : Reading) (line : List ℕ) → g ≤ 4294967295 → Steps g r line t → Steps g r line u → t ≡ u
one_step g r t u line last p q = one_step_at g r.so_far r.stage line t u last p q

name_plain : (name : List ℕ) → IsName name → Lacks 10 name
name_plain name is = path_lacks 10 (name ∷ []) (omega arith) (is, tt)

word_lacks : (word rest : List ℕ) → Lacks 10 word → Lacks 10 rest → Lacks 10 (worded word rest)
word_lacks word rest p q = lacks_append 10 word (32 ∷ rest) p (lacks_cons 10 32 rest (differs 10 32 (λ e. omega arith)) q)

number_lacks : (word : List ℕ) (n : ℕ) → Lacks 10 word → n ≤ 4294967295 → Lacks 10 (number_line word n)
number_lacks word n p few = word_lacks word (decimal n) p (decimal_lacks 10 n (omega arith) (omega arith))

on_path_lacks : (word : List ℕ) (path : List (List ℕ)) → Lacks 10 word → IsLinePath path → Lacks 10 (path_line word path)
on_path_lacks word path p is = word_lacks word (path_text path) p (path_lacks 10 path (omega arith) is.within.each)

arch_plain : (a : Arch) → Lacks 10 (arch_name a)
arch_plain X86 = lacks_by 10 (arch_name X86) refl
arch_plain X86_64 = lacks_by 10 (arch_name X86_64) refl
arch_plain Arm = lacks_by 10 (arch_name Arm) refl
arch_plain Arm64 = lacks_by 10 (arch_name Arm64) refl
arch_plain Riscv64 = lacks_by 10 (arch_name Riscv64) refl
arch_plain S390x = lacks_by 10 (arch_name S390x) refl
arch_plain Ppc64Le = lacks_by 10 (arch_name Ppc64Le) refl
arch_plain Loongarch64 = lacks_by 10 (arch_name Loongarch64) refl

scope_plain : (s : Scope) → Lacks 10 (scope_name s)
scope_plain scopes.System = lacks_by 10 (scope_name scopes.System) refl
scope_plain scopes.Initrd = lacks_by 10 (scope_name scopes.Initrd) refl
scope_plain scopes.Portable = lacks_by 10 (scope_name scopes.Portable) refl

header_plain : (text : TextNumber) → Lacks 10 (header_line text)
header_plain One = lacks_by 10 (header_line One) refl
header_plain (Later false) = lacks_by 10 (header_line (Later false)) refl
header_plain (Later true) = lacks_by 10 (header_line (Later true)) refl

where_plain : (runtime : Bool) (n : ℕ) → n ≤ 4294967295 → Lacks 10 (attachment_line runtime n)
where_plain true n few = word_lacks (codes "a") (number_line (codes "run") n) (lacks_by 10 (codes "a") refl) (number_lacks (codes "run") n (lacks_by 10 (codes "run") refl) few)
where_plain false n few = word_lacks (codes "a") (number_line (codes "etc") n) (lacks_by 10 (codes "a") refl) (number_lacks (codes "etc") n (lacks_by 10 (codes "etc") refl) few)

attached_lacks : (s : SoFar) (line : List ℕ) (t : Reading) → AttachedAt s line t → Lacks 10 line
attached_lacks s line t p = subst (Lacks 10) (sym p.2) (number_lacks (codes "attached") p.0 (lacks_by 10 (codes "attached") refl) (omega (arith, p.1)))

confext_lacks : (s : SoFar) (line : List ℕ) (t : Reading) → ConfextAt s line t → Lacks 10 line
confext_lacks s line t (inl p) = subst (Lacks 10) (sym p.3) (number_lacks (codes "confext") p.0 (lacks_by 10 (codes "confext") refl) (omega (arith, p.2)))
confext_lacks s line t (inr p) = attached_lacks s line t p

sysext_lacks : (s : SoFar) (line : List ℕ) (t : Reading) → SysextAt s line t → Lacks 10 line
sysext_lacks s line t (inl p) = subst (Lacks 10) (sym p.3) (number_lacks (codes "sysext") p.0 (lacks_by 10 (codes "sysext") refl) (omega (arith, p.2)))
sysext_lacks s line t (inr p) = confext_lacks s line t p

part_lacks : (g : ℕ) (s : SoFar) (stage : PartStage) (line : List ℕ) (t : Reading) → PartStepsAt g s stage line t → Lacks 10 line
part_lacks g s parts.Sysext line t p = sysext_lacks s line t p
part_lacks g s (parts.SysextName more names) line t p = subst (Lacks 10) (sym p.2) (word_lacks (codes "n") p.0 (lacks_by 10 (codes "n") refl) (name_plain p.0 p.1))
part_lacks g s parts.Confext line t p = confext_lacks s line t p
part_lacks g s (parts.ConfextName more names) line t p = subst (Lacks 10) (sym p.2) (word_lacks (codes "n") p.0 (lacks_by 10 (codes "n") refl) (name_plain p.0 p.1))
part_lacks g s parts.Attached line t p = attached_lacks s line t p
part_lacks g s (parts.Attachment more) line t p = subst (Lacks 10) (sym p.3) (where_plain p.0 p.1 (omega (arith, p.2)))
part_lacks g s (parts.Image more paths runtime) line t p = subst (Lacks 10) (sym p.2) (word_lacks (codes "i") p.0 (lacks_by 10 (codes "i") refl) (name_plain p.0 p.1))
part_lacks g s (parts.Place more paths runtime name) line t p = subst (Lacks 10) (sym p.2) (on_path_lacks (codes "s") p.0 (lacks_by 10 (codes "s") refl) p.1)
part_lacks g s (parts.Added more paths a) line t p = subst (Lacks 10) (sym p.2) (on_path_lacks (codes "p") p.0 (lacks_by 10 (codes "p") refl) p.1)
part_lacks g s parts.Kept line t p = subst (Lacks 10) (sym p.2) (number_lacks (codes "kept") p.0 (lacks_by 10 (codes "kept") refl) (omega (arith, p.1)))
part_lacks g s (parts.Manifest more) line t p =
    subst (Lacks 10) (sym p.4)
    (word_lacks (codes "k") _ (lacks_by 10 (codes "k") refl) (word_lacks (decimal p.0) (path_text p.1) (decimal_lacks 10 p.0 (omega arith) (omega (arith, p.2))) (path_lacks 10 p.1 (omega arith) p.3.within.each)))
part_lacks g s (parts.Item more items m) line t p =
    subst (Lacks 10) (sym p.4) (word_lacks (codes "m") _ (lacks_by 10 (codes "m") refl) (word_lacks _ (path_text p.1) (hex_lacks 10 p.0.0 (omega arith) p.2) (path_lacks 10 p.1 (omega arith) p.3.within.each)))
part_lacks g s parts.Root line t p = subst (Lacks 10) (sym p.2) (number_lacks (codes "root") p.0 (lacks_by 10 (codes "root") refl) (omega (arith, p.1)))
part_lacks g s (parts.RootEntry more) line t p = subst (Lacks 10) (sym p.4) (line_lacks homed_form homed_lack p.0 p.1)
part_lacks g s parts.Lower line t p = subst (Lacks 10) (sym p.2) (number_lacks (codes "lower") p.0 (lacks_by 10 (codes "lower") refl) (omega (arith, p.1)))
part_lacks g s (parts.LowerEntry more) line t p = subst (Lacks 10) (sym p.5) (line_lacks homed_form homed_lack p.0 p.1)

step_lacks_at : (g : ℕ) (s : SoFar) (stage : Stage) (line : List ℕ) (t : Reading) → g ≤ 4294967295 → StepsAt g s stage line t → Lacks 10 line
step_lacks_at g s stages.Header line t last p = subst (Lacks 10) (sym p.1) (header_plain p.0)
step_lacks_at g s stages.Machine line t last p =
    subst (Lacks 10) (sym p.3) (word_lacks (codes "host") _ (lacks_by 10 (codes "host") refl) (word_lacks (arch_name p.0) (scope_name p.1) (arch_plain p.0) (scope_plain p.1)))
step_lacks_at g s stages.Hierarchies line t last p = subst (Lacks 10) (sym p.3) (number_lacks (codes "hierarchies") p.0 (lacks_by 10 (codes "hierarchies") refl) (omega (arith, p.2)))
step_lacks_at g s (stages.Hierarchy more) line t last (inl p) = subst (Lacks 10) (sym p.3) (word_lacks (codes "h") (worded (codes "sysext") p.0) (lacks_by 10 (codes "h") refl) (word_lacks (codes "sysext") p.0 (lacks_by 10 (codes "sysext") refl) (name_plain p.0 p.1)))
step_lacks_at g s (stages.Hierarchy more) line t last (inr p) = subst (Lacks 10) (sym p.3) (word_lacks (codes "h") (worded (codes "confext") p.0) (lacks_by 10 (codes "h") refl) (word_lacks (codes "confext") p.0 (lacks_by 10 (codes "confext") refl) (name_plain p.0 p.1)))
step_lacks_at g s (stages.Part stage) line t last p = part_lacks g s stage line t p
step_lacks_at g s stages.Past line t last p = subst (Lacks 10) (sym p.2) (number_lacks (codes "past") p.0 (lacks_by 10 (codes "past") refl) (omega (arith, p.1)))
step_lacks_at g s (stages.Generation more) line t last p = subst (Lacks 10) (sym p.4) (number_lacks (codes "g") p.0 (lacks_by 10 (codes "g") refl) (omega (arith, p.2)))
step_lacks_at g s stages.End line t last p = subst (Lacks 10) (sym p.0) (lacks_by 10 (codes "end") refl)
step_lacks_at g s stages.Done line t last p = absurd p

pub step_lacks : (g : ℕ) (r t : Reading) (line : List ℕ) → g ≤ 4294967295 → Steps g r line t → Lacks 10 line
step_lacks g r t line last p = step_lacks_at g r.so_far r.stage line t last p

-- no line that may stand there has a newline
pub runs_lack : (g : ℕ) (r t : Reading) (lines : List (List ℕ)) → g ≤ 4294967295 → StepsThrough g r lines t → AllByRecursion (Lacks 10) lines
runs_lack g r t [] last run = tt
runs_lack g r t (line ∷ lines) last run = (step_lacks g r run.0 line last run.1, runs_lack g run.0 t lines last run.2)
