-- The name of the file of a transfer.
use Rattle.std.proofs.Common.{◌≡◌, ℕ, List, Result, Ok, Err, refl, subst}
use Rattle.std.specs.Prelude.{IfOk, Option}
use Rattle.std.specs.FinMap.{FinMap}
use Rattle.ext_lines.specs.ByteOrder.{bytes_cmp}
use Rattle.ext_text.specs.declared.arch.Arch.{Arch}
use Rattle.ext_ini.specs.Reading.{ini_of}
use Rattle.ext_ini.specs.declared.sections.Section.{Section}
use Rattle.ext_transfer.specs.Fault.{if_sound}
use Rattle.ext_transfer.specs.Specifiers.{specified}
use Rattle.ext_transfer.specs.Transfer.{keeping_in, sections_or_fault, source_in, target_in, transfer_in, transfer_of, versions_of}
use Rattle.ext_transfer.specs.declared.err.TransferErr.{TransferErr}
use Rattle.ext_transfer.specs.declared.transfer.Transfer.{Transfer}

-- what holds of each next one holds of what comes out
if_ok_next : {X Y : Type 0} (P : Y → Type 0) (r : Result X TransferErr) (next : X → Result Y TransferErr) → ((x : X) → IfOk (next x) P) → IfOk (if_sound r next) P
if_ok_next P (Ok x) next each = each x
if_ok_next P (Err e) next each = tt

named_in : (file : List ℕ) (meaning : ℕ → Option (List ℕ)) (sections : List Section) → IfOk (transfer_in file meaning sections) (λ t. t.file ≡ file)
named_in file meaning sections =
    let P : Transfer → Type 0 = λ t. t.file ≡ file in
    if_ok_next P (source_in meaning sections) _ (λ source.
    if_ok_next P (target_in meaning source.resources sections) _ (λ target.
    if_ok_next P (keeping_in meaning target.path sections) _ (λ keeping.
    if_ok_next P (versions_of meaning sections) _ (λ versions. refl))))

-- the transfer of a file has the name of the file
pub file_of_transfer : (file bytes : List ℕ) (host : Option (FinMap bytes_cmp (List ℕ))) (arch : Arch) (t : Transfer) → transfer_of file bytes host arch ≡ Ok t → t.file ≡ file
file_of_transfer file bytes host arch t is =
    subst (λ r. IfOk r (λ u. u.file ≡ file)) is
    (if_ok_next (λ (u : Transfer). u.file ≡ file) (sections_or_fault (ini_of bytes)) (λ sections. transfer_in file (specified host arch) sections) (λ sections. named_in file (specified host arch) sections))
