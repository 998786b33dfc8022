-- The fields of a line: a field, its space and what follows are read in one way, and which bytes fields lack.
use Rattle.std.proofs.Common.{◌≡◌, ℕ, ◌<◌, ◌≤◌, List, [], ◌∷◌, ◌++◌, length, append_assoc, drop, refl, sym, ap, ◌∙◌, arith}
use Rattle.std.proofs.lemmas.Fmt.{decimal_injective}
use Rattle.std.specs.Fmt.{decimal}
use Rattle.std.specs.List.{AllByRecursion}
use Rattle.hex.specs.Hex.{encode_lower}
use Rattle.ext_attributes.specs.declared.attributes.Attributes.{Attributes}
use Rattle.ext_attributes.specs.declared.owner.Owner.{Owner}
use Rattle.ext_attributes.specs.Attributes.{IsAttributes, IsOfFile, IsOwner, OfFile, attributes_text, file_attributes_text, owned_number}
use Rattle.ext_attributes.proofs.ForCallers as fields
use Rattle.ext_attributes.proofs.ForCallers.{attributes_lack, file_attributes_lack, owned_lacks}
use Rattle.ext_lines.specs.Split.{Lacks}
use Rattle.ext_lines.proofs.ForCallers.{decimal_lacks, differs, hex_injective, hex_lacks, lacks_append, lacks_cons, split_once, split_same}
use Rattle.ext_text.specs.Digest.{IsDigest}
use Rattle.ext_tree.specs.Fields.{IsTarget, spaced}

-- a field is the attributes of one directory
pub attributes_once : (a b : Attributes) (xs ys : List ℕ) → IsAttributes a → IsAttributes b → attributes_text a ++ 32 ∷ xs ≡ attributes_text b ++ 32 ∷ ys → (a ≡ b) × (xs ≡ ys)
attributes_once a b xs ys p q e =
    let split = split_once 32 (attributes_text a) (attributes_text b) xs ys (attributes_lack 32 a (omega arith) p) (attributes_lack 32 b (omega arith) q) e in
    (fields.attributes_once a b p q split.0, split.1)

-- a field is the attributes of one file
pub file_attributes_once : (a b : OfFile) (xs ys : List ℕ) → IsOfFile a → IsOfFile b → file_attributes_text a ++ 32 ∷ xs ≡ file_attributes_text b ++ 32 ∷ ys → (a ≡ b) × (xs ≡ ys)
file_attributes_once a b xs ys p q e =
    let split = split_once 32 (file_attributes_text a) (file_attributes_text b) xs ys (file_attributes_lack 32 a (omega arith) p) (file_attributes_lack 32 b (omega arith) q) e in
    (fields.file_attributes_once a b p q split.0, split.1)

-- a field is one number with its owner
pub owned_once : (m n : ℕ) (o p : Owner) (xs ys : List ℕ) → m ≤ 4294967295 → n ≤ 4294967295 → IsOwner o → IsOwner p → owned_number m o ++ 32 ∷ xs ≡ owned_number n p ++ 32 ∷ ys → (m ≡ n) × ((o ≡ p) × (xs ≡ ys))
owned_once m n o p xs ys sm sn io ip e =
    let split = split_once 32 (owned_number m o) (owned_number n p) xs ys (owned_lacks 32 m o (omega arith) (omega arith) io) (owned_lacks 32 n p (omega arith) (omega arith) ip) e in
    let both = fields.owned_once m n o p (omega arith) (omega arith) io ip split.0 in
    (both.0, (both.1, split.1))

-- a field is one number
pub number_once : (m n : ℕ) (xs ys : List ℕ) → m ≤ 4294967295 → n ≤ 4294967295 → decimal m ++ 32 ∷ xs ≡ decimal n ++ 32 ∷ ys → (m ≡ n) × (xs ≡ ys)
number_once m n xs ys p q e =
    let split = split_once 32 (decimal m) (decimal n) xs ys (decimal_lacks 32 m (omega arith) (omega arith)) (decimal_lacks 32 n (omega arith) (omega arith)) e in
    (decimal_injective m n (omega arith) (omega arith) split.0, split.1)

-- a field is one digest
pub digest_once : (ds es xs ys : List ℕ) → IsDigest ds → IsDigest es → encode_lower ds ++ 32 ∷ xs ≡ encode_lower es ++ 32 ∷ ys → (ds ≡ es) × (xs ≡ ys)
digest_once ds es xs ys p q e =
    let split = split_once 32 (encode_lower ds) (encode_lower es) xs ys (hex_lacks 32 ds (omega arith) p) (hex_lacks 32 es (omega arith) q) e in
    (hex_injective ds es p q split.0, split.1)

-- what follows the length of a target is the target
pub target_after : (text : List ℕ) (count : ℕ) (o : Owner) (after t rest : List ℕ) (p : Owner) → count ≤ 4096 → IsOwner o → IsOwner p → IsTarget t → text ≡ owned_number count o ++ 32 ∷ after → text ≡ owned_number (length t) p ++ 32 ∷ (t ++ 32 ∷ rest)
    → (length t ≡ count) × ((o ≡ p) × (after ≡ t ++ 32 ∷ rest))
target_after text count o after t rest p small io ip is there e =
    let most = is.at_most_4096 in
    let number = owned_once count (length t) o p after (t ++ 32 ∷ rest) (omega arith) (omega arith) io ip (sym there ∙ e) in
    (sym number.0, number.1)

-- two fields are one target
pub target_once : (o p : Owner) (t u xs ys : List ℕ) → IsOwner o → IsOwner p → IsTarget t → IsTarget u → owned_number (length t) o ++ 32 ∷ (t ++ 32 ∷ xs) ≡ owned_number (length u) p ++ 32 ∷ (u ++ 32 ∷ ys) → (o ≡ p) × ((t ≡ u) × (xs ≡ ys))
target_once o p t u xs ys io ip it iu e =
    let most = it.at_most_4096 in
    let found = target_after (owned_number (length t) o ++ 32 ∷ (t ++ 32 ∷ xs)) (length t) o (t ++ 32 ∷ xs) u ys p (omega arith) io ip iu refl e in
    let split = split_same t u (32 ∷ xs) (32 ∷ ys) (sym found.0) found.1.1 in
    (found.1.0, (split.0, ap (drop 1) split.1))

-- the fields with what follows are the fields alone and then what follows
pub spaced-append : (fields : List (List ℕ)) (rest : List ℕ) → spaced fields [] ++ rest ≡ spaced fields rest
spaced-append [] rest = refl
spaced-append (f ∷ fields) rest = append_assoc f (32 ∷ spaced fields []) rest ∙ ap (λ xs. f ++ 32 ∷ xs) (spaced-append fields rest)

-- fields that were printed, and then what follows them
pub line_printed : (old mid new : List ℕ) (fields : List (List ℕ)) (rest : List ℕ) → mid ≡ old ++ spaced fields [] → new ≡ mid ++ rest → new ≡ old ++ spaced fields rest
line_printed old mid new fields rest begun done =
    done ∙ ap (λ xs. xs ++ rest) begun ∙ append_assoc old (spaced fields []) rest ∙ ap (λ xs. old ++ xs) (spaced-append fields rest)

-- a control byte that stands in no field, and not in what follows, stands nowhere
pub spaced_lacks : (byte : ℕ) (fields : List (List ℕ)) (rest : List ℕ) → byte < 32 → AllByRecursion (Lacks byte) fields → Lacks byte rest → Lacks byte (spaced fields rest)
spaced_lacks byte [] rest low each lacks = lacks
spaced_lacks byte (f ∷ fields) rest low each lacks =
    lacks_append byte f (32 ∷ spaced fields rest) each.0 (lacks_cons byte 32 (spaced fields rest) (differs byte 32 (λ e. omega arith)) (spaced_lacks byte fields rest low each.1 lacks))
