-- Bytes have one stamp.
use Rattle.std.proofs.Common.{◌≡◌, ℕ, List, sym, ◌∙◌}
use Rattle.ext_tree.specs.declared.stamp.Stamp.{Stamp}
use Rattle.ext_host.specs.Held.{IsStampOf}

-- bytes have one stamp
pub one_stamp : (bytes : List ℕ) (a b : Stamp) → IsStampOf bytes a → IsStampOf bytes b → a ≡ b
one_stamp bytes a b x y = λ i. record {
  size = (x.size ∙ sym y.size) i;
  digest = record { 0 = (x.digest ∙ sym y.digest) i };
}
