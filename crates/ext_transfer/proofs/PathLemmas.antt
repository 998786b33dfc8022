-- Prefixes, paths within the limits, and links.
use Rattle.std.proofs.Common.{◌≡◌, ℕ, ◌≤◌, Bool, cond, eqb, leb, ◌-◌, List, [], ◌∷◌, ◌++◌, length, length-drop, take, drop, Some, None, Err, refl, sym, ap, ◌∙◌, inl, inr, arith}
use Rattle.std.proofs.lemmas.Bool.{and_from, and_left, and_right, cases_Bool, eq-eqb, eqb-true, false_from_ne_true, le-leb, lt-leb}
use Rattle.std.proofs.Math.Seq.{drop-append_seam, take-length}
use Rattle.ext_lines.specs.Prefix.{IsPrefix}
use Rattle.ext_text.specs.Name.{IsName}
use Rattle.ext_text.specs.Path.{IsPath, Lengthens, path_text}
use Rattle.ext_text.specs.declared.path.PathErr.{PathErr}
use Rattle.ext_text.specs.declared.path.PathErr.TheVariants.{OutOfMemory, TooLong, TooDeep, BadName}
use Rattle.ext_transfer.specs.declared.err.TransferFault.{TransferFault}
use Rattle.ext_transfer.specs.Fault.{GivesOrFaults, or_fault}
use Rattle.ext_transfer.specs.Paths.{after_prefix, is_name_text, name_in, path_fault, within_limits}
use Rattle.ext_transfer.proofs.TestLemmas.{name_passes, passes_name}

-- a text that begins so, after its prefix
pub prefixed : (prefix rest : List ℕ) → after_prefix prefix (prefix ++ rest) ≡ Some rest
prefixed [] rest = refl
prefixed (p ∷ ps) rest = ap (λ (x : Bool). cond x (after_prefix ps (ps ++ rest)) None) (eq-eqb p p refl) ∙ prefixed ps rest

-- a text that does not
pub unprefixed : (prefix text : List ℕ) → (IsPrefix prefix text → ⊥) → after_prefix prefix text ≡ None
unprefixed [] text other = absurd (other (text, refl))
unprefixed (p ∷ ps) [] other = refl
unprefixed (p ∷ ps) (b ∷ bs) other =
    elim (cases_Bool (eqb b p)) [
      | inl same ↦ ap (λ (x : Bool). cond x (after_prefix ps bs) None) same ∙ unprefixed ps bs (λ begins. other (begins.0, cc (eqb-true b p same, begins.1)))
      | inr differ ↦ ap (λ (x : Bool). cond x (after_prefix ps bs) None) differ
    ]

-- what stands after a prefix of so many bytes
pub after_so_many : (prefix text : List ℕ) → IsPrefix prefix text → after_prefix prefix text ≡ Some (drop (length prefix) text)
after_so_many prefix text begins =
    ap (after_prefix prefix) begins.1 ∙ prefixed prefix begins.0
    ∙ ap Some (sym (drop-append_seam prefix begins.0)) ∙ ap (λ (t : List ℕ). Some (drop (length prefix) t)) (sym begins.1)

-- the rest of a text, taken whole
pub whole_rest : (count : ℕ) (text : List ℕ) → take (length text - count) (drop count text) ≡ drop count text
whole_rest count text =
    ap (λ (n : ℕ). take n (drop count text)) (sym (length-drop count text)) ∙ take-length (drop count text)

-- names below others, within the limits or not
pub longer : (names path : List (List ℕ)) → IsPath path → path ≡ names → within_limits names ≡ Some path
longer names path is same =
    let a = leb (length (path_text names)) 4096 in
    let b = leb (length names) 64 in
    let few : length names ≤ 64 = omega (arith, is.depth, ap length same) in
    let short : length (path_text names) ≤ 4096 = omega (arith, is.size, ap (λ (n : List (List ℕ)). length (path_text n)) same) in
    ap (λ (x : Bool). cond x (Some names) None) (and_from a b (le-leb (length (path_text names)) 4096 short) (le-leb (length names) 64 few)) ∙ ap Some (sym same)

pub too_long : (names : List (List ℕ)) (e : PathErr) (line : ℕ) (why : TransferFault) → Lengthens names (Err e) → GivesOrFaults {X = List (List ℕ)} (Err (path_fault e line why)) (or_fault (within_limits names) line why)
too_long names OutOfMemory line why lengthens = tt
too_long names TooLong line why lengthens =
    ap (λ (x : Bool). or_fault (cond x (Some names) None) line why) (and_left (leb (length (path_text names)) 4096) (leb (length names) 64) (lt-leb (length (path_text names)) 4096 lengthens))
too_long names TooDeep line why lengthens =
    ap (λ (x : Bool). or_fault (cond x (Some names) None) line why) (and_right (leb (length (path_text names)) 4096) (leb (length names) 64) (lt-leb (length names) 64 lengthens.1))
too_long names BadName line why lengthens = absurd lengthens

-- a text that is a name, and one that is none
pub named_in : (directory : List (List ℕ)) (text name : List ℕ) → name ≡ text → IsName text → within_limits (directory ++ name ∷ []) ≡ name_in directory text
named_in directory text name same is =
    ap (λ (t : List ℕ). within_limits (directory ++ t ∷ [])) same
    ∙ sym (ap (λ (x : Bool). cond x (within_limits (directory ++ text ∷ [])) None) (name_passes text is))

pub unnamed_in : (directory : List (List ℕ)) (text : List ℕ) → (IsName text → ⊥) → name_in directory text ≡ None
unnamed_in directory text other =
    ap (λ (x : Bool). cond x (within_limits (directory ++ text ∷ [])) None) (false_from_ne_true (is_name_text text) (λ is. other (passes_name text is)))
