-- The fields of a stamp tell the stamp, and where they end, and hold no newline.
use Rattle.std.proofs.Common.{◌≡◌, arith}
use Rattle.std.specs.Prelude.{decimal}
use Rattle.std.proofs.lemmas.Fmt.{decimal_injective}
use Rattle.hex.specs.Hex.{encode_lower}
use Rattle.ext_lines.proofs.ForCallers.{decimal_lacks, hex_injective, hex_lacks, split_once}
use Rattle.ext_tree.specs.EntryLine.{FieldsLack, FieldsOnce}
use Rattle.ext_tree.specs.TreeText.{stamp_form}
use Rattle.ext_tree.specs.declared.stamp.Stamp.{Stamp}

stamp_same : (s t : Stamp) → s.size ≡ t.size → s.digest.0 ≡ t.digest.0 → s ≡ t
stamp_same s t size digest = λ i. record { size = size i; digest = record { 0 = digest i } }

pub stamps_once : FieldsOnce stamp_form
stamps_once s t xs ys p q e =
    let size = split_once 32 (decimal s.size) (decimal t.size) _ _ (decimal_lacks 32 s.size (omega arith) (omega (arith, p.size))) (decimal_lacks 32 t.size (omega arith) (omega (arith, q.size))) e in
    let digest = split_once 32 (encode_lower s.digest.0) (encode_lower t.digest.0) xs ys (hex_lacks 32 s.digest.0 (omega arith) p.digest) (hex_lacks 32 t.digest.0 (omega arith) q.digest) size.1 in
    (stamp_same s t (decimal_injective s.size t.size (omega (arith, p.size)) (omega (arith, q.size)) size.0) (hex_injective s.digest.0 t.digest.0 p.digest q.digest digest.0), digest.1)

pub stamps_lack : FieldsLack stamp_form
stamps_lack s is = (decimal_lacks 10 s.size (omega arith) (omega (arith, is.size)), (hex_lacks 10 s.digest.0 (omega arith) is.digest, tt))
