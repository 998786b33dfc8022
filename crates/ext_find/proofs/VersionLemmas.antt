-- Texts that end with `_` and an architecture: in one way.
use Rattle.std.proofs.Common.{◌≡◌, ℕ, true, false, Option, Some, None, is_some, List, [], ◌∷◌, ◌++◌, get_or, drop, refl, sym, ap, ◌∙◌, subst, rules}
use mathlib.Core.Logic.{inl, inr}
use Rattle.std.specs.Ordering.{eq_by_cmp}
use Rattle.std.proofs.lemmas.Bool.{false≢true}
use Rattle.ext_lines.specs.ByteOrder.{bytes_cmp}
use Rattle.ext_lines.specs.Split.{Lacks}
use Rattle.ext_lines.proofs.ForCallers.{split_none}
use Rattle.ext_text.specs.Arch.{ReadsArch, arch_name}
use Rattle.ext_text.specs.declared.arch.Arch.{Arch}
use Rattle.ext_text.specs.declared.arch.Arch.TheVariants.{X86, X86_64, Arm, Arm64, Riscv64, S390x, Ppc64Le, Loongarch64}
use Rattle.ext_text.proofs.ForCallers.{same_name, tied_name}
use Rattle.ext_vers.specs.Version.{IsVersion}
use Rattle.ext_find.specs.Version.{HasArch, NamesVersion}

-- a byte is in a text that holds it
holds : (byte : ℕ) (before after : List ℕ) → Lacks byte (before ++ byte ∷ after) → ⊥
holds byte before after lacks = split_none byte (before ++ byte ∷ after) before after lacks refl

-- a text is split at the last of a byte in one way
last_once : (byte : ℕ) (v w a b : List ℕ) → Lacks byte a → Lacks byte b → v ++ byte ∷ a ≡ w ++ byte ∷ b → (v ≡ w) × (a ≡ b)
last_once byte [] [] a b p q e = (refl, ap (drop 1) e)
last_once byte [] (y ∷ w) a b p q e = absurd (split_none byte a w b p (ap (drop 1) e))
last_once byte (x ∷ v) [] a b p q e = absurd (split_none byte b v a q (ap (drop 1) (sym e)))
last_once byte (x ∷ v) (y ∷ w) a b p q e =
    let rest = last_once byte v w a b p q (ap (drop 1) e) in
    let head : x ≡ y = ap (λ (l : List ℕ). get_or l 0 0) e in
    (λ i. head i ∷ rest.0 i, rest.1)

-- no architecture's name has a `_`
lacks_bar : (arch : Arch) → Lacks 95 (arch_name arch)
lacks_bar X86 = search rules
lacks_bar X86_64 = search rules
lacks_bar Arm = search rules
lacks_bar Arm64 = search rules
lacks_bar Riscv64 = search rules
lacks_bar S390x = search rules
lacks_bar Ppc64Le = search rules
lacks_bar Loongarch64 = search rules

-- so it ends with one architecture
one_arch : (text v w : List ℕ) (a b : Arch) → HasArch text v a → HasArch text w b → (v ≡ w) × (arch_name a ≡ arch_name b)
one_arch text v w a b first second = last_once 95 v w (arch_name a) (arch_name b) (lacks_bar a) (lacks_bar b) (sym first.whole ∙ second.whole)

-- a text that has no `_`, or after the last one no architecture, or before it no version, ends with none
pub no_bar : (text : List ℕ) → Lacks 95 text → (version : List ℕ) (arch : Arch) → ¬ HasArch text version arch
no_bar text lacks version arch has = split_none 95 text version (arch_name arch) lacks has.whole

pub no_version : (text before word : List ℕ) → text ≡ before ++ 95 ∷ word → Lacks 95 word → ¬ IsVersion before → (version : List ℕ) (arch : Arch) → ¬ HasArch text version arch
no_version text before word whole lacks none version arch has =
    none (subst IsVersion (last_once 95 version before (arch_name arch) word (lacks_bar arch) lacks (sym has.whole ∙ whole)).0 has.is_version)

pub no_arch : (text before word : List ℕ) → text ≡ before ++ 95 ∷ word → Lacks 95 word → ReadsArch word None → (version : List ℕ) (arch : Arch) → ¬ HasArch text version arch
no_arch text before word whole lacks none version arch has =
    none arch (sym (last_once 95 version before (arch_name arch) word (lacks_bar arch) lacks (sym has.whole ∙ whole)).1)

-- what a text with an architecture names: its version where that is the host's, and nothing else
pub own : (arch a : Arch) (text version word : List ℕ) → HasArch text version a → word ≡ arch_name a → eq_by_cmp bytes_cmp word (arch_name arch) ≡ true → NamesVersion arch text version × ((other : List ℕ) → NamesVersion arch text other → other ≡ version)
own arch a text version word has is tied = (inl here, one)
  where
    same : arch_name a ≡ arch_name arch
    same = sym is ∙ same_name word (arch_name arch) tied

    here : HasArch text version arch
    here = record { whole = has.whole ∙ ap (λ n. version ++ 95 ∷ n) same; is_version = has.is_version }

    one : (other : List ℕ) → NamesVersion arch text other → other ≡ version
    one other (inl another) = (one_arch text other version arch a another has).0
    one other (inr plain) = absurd (plain.2 version a has)

pub foreign : (arch a : Arch) (text version word : List ℕ) → HasArch text version a → word ≡ arch_name a → eq_by_cmp bytes_cmp word (arch_name arch) ≡ false → (other : List ℕ) → ¬ NamesVersion arch text other
foreign arch a text version word has is other_name other (inl another) =
    false≢true (sym other_name ∙ tied_name word (arch_name arch) (is ∙ sym (one_arch text other version arch a another has).1))
foreign arch a text version word has is other_name other (inr plain) = plain.2 version a has

-- what a text without one names: itself where it is a version
pub whole_text : (arch : Arch) (text : List ℕ) → ((version : List ℕ) (a : Arch) → ¬ HasArch text version a) → IsVersion text → NamesVersion arch text text × ((other : List ℕ) → NamesVersion arch text other → other ≡ text)
whole_text arch text none is = (inr (refl, is, none), one)
  where
    one : (other : List ℕ) → NamesVersion arch text other → other ≡ text
    one other (inl has) = absurd (none other arch has)
    one other (inr plain) = sym plain.0

pub no_text : (arch : Arch) (text : List ℕ) → ((version : List ℕ) (a : Arch) → ¬ HasArch text version a) → ¬ IsVersion text → (other : List ℕ) → ¬ NamesVersion arch text other
no_text arch text none not_version other (inl has) = none other arch has
no_text arch text none not_version other (inr plain) = not_version (subst IsVersion (sym plain.0) plain.1)

-- whether a word is an architecture's name
pub read_some : (word : List ℕ) (o : Option Arch) → ReadsArch word o → is_some o ≡ true → (arch : Arch) × (word ≡ arch_name arch)
read_some word None reads some = absurd (false≢true some)
read_some word (Some arch) reads some = (arch, reads)

pub read_none : (word : List ℕ) (o : Option Arch) → ReadsArch word o → is_some o ≡ false → ReadsArch word None
read_none word None reads none = reads
read_none word (Some arch) reads none = absurd (false≢true (sym none))
