-- What makes reading a transfer file plain: each file says one transfer or has one first fault, and what stands for a specifier is
-- not looked at again.
use Rattle.std.specs.Prelude.{◌≡◌, ℕ, ◌⊎◌, ◌==◌, if◌then◌else◌, List, [], ◌∷◌, codes, Option, Some, Ok, Err}
use Rattle.std.specs.FinMap.{FinMap}
use Rattle.ext_lines.specs.ByteOrder.{bytes_cmp}
use Rattle.ext_lines.specs.Split.{Lacks}
use Rattle.ext_text.specs.declared.arch.Arch.{Arch}
use Rattle.ext_transfer.specs.declared.err.TransferErr.TheVariants.{BadTransfer}
use Rattle.ext_transfer.specs.declared.err.TransferFault.{TransferFault}
use Rattle.ext_transfer.specs.declared.transfer.Transfer.{Transfer}
use Rattle.ext_transfer.specs.Specifiers.{expanded}
use Rattle.ext_transfer.specs.Transfer.{transfer_of}

-- a file says a transfer, or has a first fault
abbrev pub TransferOrFault : Type 0
TransferOrFault =
    (file bytes : List ℕ) (host : Option (FinMap bytes_cmp (List ℕ))) (arch : Arch)
    → ((t : Transfer) × (transfer_of file bytes host arch ≡ Ok t))
    ⊎ ((line : ℕ) × (why : TransferFault) × (transfer_of file bytes host arch ≡ Err (BadTransfer line why)))

-- a text without `%` stands for itself, whatever specifiers mean
abbrev pub PlainStaysPlain : Type 0
PlainStaysPlain = (meaning : ℕ → Option (List ℕ)) (text : List ℕ) → Lacks 37 text → expanded meaning text ≡ Some text

-- a text with each `%` written twice
abbrev pub doubled : List ℕ → List ℕ
doubled [] = []
doubled (b ∷ bs) = if b == 37 then 37 ∷ 37 ∷ doubled bs else b ∷ doubled bs

-- it stands for the text, where `%%` means `%`: what was made is not looked at again
abbrev pub DoubledStandsForText : Type 0
DoubledStandsForText =
    (meaning : ℕ → Option (List ℕ)) (text : List ℕ) → meaning 37 ≡ Some (codes "%") → expanded meaning (doubled text) ≡ Some text
