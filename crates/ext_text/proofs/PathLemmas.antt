-- The parts of a text between its slashes, and the text of names.
use Rattle.std.proofs.Common.{◌≡◌, ℕ, Err, ◌+◌, ◌-◌, ◌<◌, ◌≤◌, List, [], ◌∷◌, ◌++◌, length, take, drop, refl, sym, ap, subst, ◌∙◌, arith, sum_by, eqb, true, length-append}
use Rattle.std.proofs.lemmas.List.{append-nil, length-drop, length-take, take-append-drop}
use Rattle.std.specs.List.{flat_map, AllByRecursion, AllPass, slice_split}
use Rattle.std.proofs.lemmas.Bool.{and_parts}
use Rattle.std.proofs.lemmas.List.Elements.{All-weaker}
use Rattle.std.proofs.lemmas.List.Sums.{sum_by-append, sum_by-cons, sum_by-take-drop}
use Rattle.ext_lines.specs.Plain.{is_plain_byte}
use Rattle.ext_lines.specs.Split.{Lacks}
use Rattle.ext_lines.proofs.ForCallers.{Differs, differs, first_part, lacks_append, lacks_cons, lacks_nil, one_part, plain_lacks}
use Rattle.ext_text.specs.Name.{IsName, is_name_byte}
use Rattle.ext_text.specs.Path.{IsPath, ReadsPath, path_text, path_parts}
use Rattle.ext_text.specs.declared.path.PathErr.{PathErr}
use Rattle.ext_text.specs.declared.path.PathErr.TheVariants.{OutOfMemory, BadName, TooLong, TooDeep}
use Rattle.ext_text.proofs.ListLemmas.{all_append, all_back, all_prefix}

-- the parts of a text that is not empty
pub parts_some : (bytes : List ℕ) → 0 < length bytes → path_parts bytes ≡ slice_split (λ b. eqb b 47) bytes
parts_some [] some = absurd (omega arith)
parts_some (b ∷ bytes) some = refl

-- the bytes of the names' text: one less than with a slash after each name
pub length-path_text : (ns : List (List ℕ)) → length (path_text ns) ≡ sum_by (λ n. length n + 1) ns - 1
length-path_text [] = refl
length-path_text (n ∷ []) = omega arith
length-path_text (n ∷ m ∷ ns) =
    let size : List ℕ → ℕ = λ n. length n + 1 in
    omega (arith, length-append n (47 ∷ path_text (m ∷ ns)), length-path_text (m ∷ ns), sum_by-cons size n (m ∷ ns), sum_by-cons size m ns)

-- the first name, and each other one after a slash
pub path_text-cons : (n : List ℕ) (ns : List (List ℕ)) → path_text (n ∷ ns) ≡ n ++ flat_map (λ m. 47 ∷ m) ns
path_text-cons n [] = sym (append-nil n)
path_text-cons n (m ∷ ns) = ap (λ (r : List ℕ). n ++ 47 ∷ r) (path_text-cons m ns)

-- the path of both lists of names
pub path_of : (prefix after : List (List ℕ)) → AllByRecursion IsName prefix → AllByRecursion IsName after → length prefix + length after ≤ 64 → sum_by (λ n. length n + 1) prefix + sum_by (λ n. length n + 1) after ≤ 4097 → IsPath (prefix ++ after)
path_of prefix after f b few short = record {
  each = all_append IsName prefix after f b;
  depth = omega (arith, length-append prefix after);
  size = omega (arith, length-path_text (prefix ++ after), sum_by-append (λ (n : List ℕ). length n + 1) prefix after);
}

-- how long the text of both is
pub length-both : (prefix after : List (List ℕ)) → length (path_text (prefix ++ after)) ≡ sum_by (λ n. length n + 1) prefix + sum_by (λ n. length n + 1) after - 1
length-both prefix after = omega (arith, length-path_text (prefix ++ after), sum_by-append (λ (n : List ℕ). length n + 1) prefix after)

-- the first names of a path are within the limits
pub prefix_path : (k : ℕ) (p : List (List ℕ)) → IsPath p → IsPath (take k p)
prefix_path k p is = record {
  each = all_prefix IsName (take k p) (drop k p) (rw take-append-drop is.each);
  depth = omega (arith, length-take k p, is.depth);
  size = omega (arith, length-path_text (take k p), length-path_text p, sum_by-take-drop (λ (n : List ℕ). length n + 1) p k, is.size);
}

-- and so are the last ones
pub rest_path : (k : ℕ) (p : List (List ℕ)) → IsPath p → IsPath (drop k p)
rest_path k p is = record {
  each = all_back IsName (take k p) (drop k p) (rw take-append-drop is.each);
  depth = omega (arith, length-drop k p, is.depth);
  size = omega (arith, length-path_text (drop k p), length-path_text p, sum_by-take-drop (λ (n : List ℕ). length n + 1) p k, is.size);
}

name_plain : (name : List ℕ) → IsName name → AllPass is_plain_byte name
name_plain name is =
    All-weaker (λ c. is_name_byte c ≡ true) (λ c. is_plain_byte c ≡ true) (λ c both. (and_parts _ _ both).0) name is.plain

-- a name lacks the slash
pub name_lacks : (name : List ℕ) → IsName name → Lacks 47 name
name_lacks name is =
    All-weaker (λ c. is_name_byte c ≡ true) (λ c. Differs 47 c) (λ c both. (and_parts _ _ both).1) name is.plain

-- the text of a path lacks each control byte below the space
pub path_lacks : (byte : ℕ) (p : List (List ℕ)) → byte < 32 → AllByRecursion IsName p → Lacks byte (path_text p)
path_lacks byte [] low names = lacks_nil byte
path_lacks byte (n ∷ []) low names = plain_lacks byte n low (name_plain n names.0)
path_lacks byte (n ∷ m ∷ p) low names =
    lacks_append byte n (47 ∷ path_text (m ∷ p)) (plain_lacks byte n low (name_plain n names.0))
    (lacks_cons byte 47 (path_text (m ∷ p)) (differs byte 47 (λ e. omega arith)) (path_lacks byte (m ∷ p) low names.1))

split_text : (p : List (List ℕ)) → AllByRecursion IsName p → 0 < length p
    → slice_split (λ b. eqb b 47) (path_text p) ≡ p
split_text [] names some = absurd (omega arith)
split_text (n ∷ []) names some = one_part 47 n (name_lacks n names.0)
split_text (n ∷ m ∷ p) names some =
    first_part 47 (path_text (n ∷ m ∷ p)) n (path_text (m ∷ p)) (record { whole = refl; prefix_lacks = name_lacks n names.0 })
    ∙ ap (λ (l : List (List ℕ)). n ∷ l) (split_text (m ∷ p) names.1 (omega arith))

-- only the root has the empty text
pub path_text_some : (p : List (List ℕ)) → AllByRecursion IsName p → 0 < length p → 0 < length (path_text p)
path_text_some [] names some = absurd (omega arith)
path_text_some (n ∷ []) names some = names.0.non_empty
path_text_some (n ∷ m ∷ p) names some = omega (arith, length-append n (47 ∷ path_text (m ∷ p)), names.0.non_empty)

-- the parts of a path's text are its names
pub parts_text : (p : List (List ℕ)) → AllByRecursion IsName p → path_parts (path_text p) ≡ p
parts_text [] names = refl
parts_text (n ∷ p) names = parts_some (path_text (n ∷ p)) (path_text_some (n ∷ p) names (omega arith)) ∙ split_text (n ∷ p) names (omega arith)

-- paths with the same text are equal
pub path_injective : (p q : List (List ℕ)) → IsPath p → IsPath q → path_text p ≡ path_text q → p ≡ q
path_injective p q ip iq e = sym (parts_text p ip.each) ∙ ap path_parts e ∙ parts_text q iq.each

-- only the root has the empty text
pub path_not_empty : (p : List (List ℕ)) (text : List ℕ) → IsPath p → 0 < length p → length text ≡ 0
    → text ≡ path_text p → ⊥
path_not_empty p text is some none e = omega (arith, path_text_some p is.each some, ap (λ (l : List ℕ). length l) e)

-- where a text is refused, it is no path's
pub no_path : (text : List ℕ) (e : PathErr) → ReadsPath text (Err e) → (e ≡ OutOfMemory → ⊥)
    → (p : List (List ℕ)) → IsPath p → text ≡ path_text p → ⊥
no_path text OutOfMemory why not_memory p is e = not_memory refl
no_path text TooLong why not_memory p is e = omega (arith, is.size, ap (λ (l : List ℕ). length l) e)
no_path text TooDeep why not_memory p is e =
    omega (arith, is.depth, why.1, ap (λ (l : List (List ℕ)). length l) (ap path_parts e ∙ parts_text p is.each))
no_path text BadName why not_memory p is e =
    why.2 (subst (AllByRecursion IsName) (sym (ap path_parts e ∙ parts_text p is.each)) is.each)
