-- Architectures, by the names that systemd.unit(5) gives them at ConditionArchitecture=. Which eight of them is this
-- project's own choice.
use Rattle.std.specs.Prelude.{◌≡◌, ◌≢◌, ℕ, List, codes, Option, Some, None}
use Rattle.ext_text.specs.declared.arch.Arch.{Arch}
use Rattle.ext_text.specs.declared.arch.Arch.TheVariants.{X86, X86_64, Arm, Arm64, Riscv64, S390x, Ppc64Le, Loongarch64}

-- the name of an architecture
abbrev pub arch_name : Arch → List ℕ
arch_name X86 = codes "x86"
arch_name X86_64 = codes "x86-64"
arch_name Arm = codes "arm"
arch_name Arm64 = codes "arm64"
arch_name Riscv64 = codes "riscv64"
arch_name S390x = codes "s390x"
arch_name Ppc64Le = codes "ppc64-le"
arch_name Loongarch64 = codes "loongarch64"

-- what reading a text gives: the architecture of this name, or that there is none
abbrev pub ReadsArch : List ℕ → Option Arch → Type 0
ReadsArch text (Some arch) = text ≡ arch_name arch
ReadsArch text None = (arch : Arch) → text ≢ arch_name arch
