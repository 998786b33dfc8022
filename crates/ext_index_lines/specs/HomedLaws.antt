-- The fields of a stamp and a home tell both, and where they end, and hold no newline.
use Rattle.std.proofs.Common.{◌≡◌, ℕ, ◌<◌, ◌≤◌, ◌%◌, List, ◌∷◌, ◌++◌, arith, ap}
use Rattle.ext_lines.specs.Hexadecimal.{five_digits}
use Rattle.ext_lines.specs.Split.{Lacks}
use Rattle.ext_lines.proofs.ForCallers.{decimal_lacks, five_injective, five_lacks, hex_lacks, split_once}
use Rattle.ext_tree.specs.Fields.{spaced}
use Rattle.ext_tree.specs.EntryLine.{FieldsLack, FieldsOnce}
use Rattle.ext_tree.proofs.ForCallers.{digest_once, number_once}
use Rattle.ext_index_lines.specs.Homed.{IsHome, file_digits, home_fields, homed_form}
use Rattle.ext_host.specs.declared.home.Home.{Home}
use Rattle.ext_index_lines.specs.declared.homed.Homed.{Homed}

pub file_digits-few : (n : ℕ) → n < 1048576 → file_digits n ≡ five_digits n
unfolding file_digits
file_digits-few n few = let same : n % 1048576 ≡ n = omega arith in ap five_digits same

pub file_digits-lack : (byte n : ℕ) → byte < 48 → Lacks byte (file_digits n)
unfolding file_digits
file_digits-lack byte n low = five_lacks byte (n % 1048576) low (omega arith)

file_once : (m n : ℕ) (xs ys : List ℕ) → m ≤ 262143 → n ≤ 262143 → file_digits m ++ 32 ∷ xs ≡ file_digits n ++ 32 ∷ ys → (m ≡ n) × (xs ≡ ys)
unfolding file_digits
file_once m n xs ys p q e =
    let split = split_once 32 (file_digits m) (file_digits n) xs ys (file_digits-lack 32 m (omega arith)) (file_digits-lack 32 n (omega arith)) e in
    let same = five_injective (m % 1048576) (n % 1048576) (omega arith) (omega arith) split.0 in
    (omega arith, split.1)

home_same : (a b : Home) → a.generation ≡ b.generation → a.file ≡ b.file → a ≡ b
home_same a b generation file = λ i. record { generation = generation i; file = file i }

pub home_once : (a b : Home) (xs ys : List ℕ) → IsHome a → IsHome b → spaced (home_fields a) xs ≡ spaced (home_fields b) ys → (a ≡ b) × (xs ≡ ys)
home_once a b xs ys p q e =
    let generation = number_once a.generation b.generation _ _ p.last q.last e in
    let file = file_once a.file b.file xs ys p.file q.file generation.1 in
    (home_same a b generation.0 file.0, file.1)

homed_same : (a b : Homed) → a.stamp.size ≡ b.stamp.size → a.stamp.digest.0 ≡ b.stamp.digest.0 → a.home ≡ b.home → a ≡ b
homed_same a b size digest home = λ i. record { stamp = record { size = size i; digest = record { 0 = digest i } }; home = home i }

-- fields of a file are those of one file
pub homed_once : FieldsOnce homed_form
homed_once a b xs ys p q e =
    let size = number_once a.stamp.size b.stamp.size _ _ (omega (arith, p.stamp.size)) (omega (arith, q.stamp.size)) e in
    let digest = digest_once a.stamp.digest.0 b.stamp.digest.0 _ _ p.stamp.digest q.stamp.digest size.1 in
    let home = home_once a.home b.home xs ys p.home q.home digest.1 in
    (homed_same a b size.0 digest.0 home.0, home.1)

-- no field of a file has a space or a newline
pub homed_lack : FieldsLack homed_form
homed_lack a is = (
  decimal_lacks 10 a.stamp.size (omega arith) (omega (arith, is.stamp.size)),
  (
    hex_lacks 10 a.stamp.digest.0 (omega arith) is.stamp.digest,
    (
      decimal_lacks 10 a.home.generation (omega arith) (omega (arith, is.home.last)),
      (file_digits-lack 10 a.home.file (omega arith), tt),
    ),
  ),
)
