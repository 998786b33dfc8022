-- Texts of parts with a byte between each two, and the path of a tree's text.
use Rattle.std.proofs.Common.{◌≡◌, ◌≢◌, ℕ, ◌<◌, List, [], ◌∷◌, ◌++◌, length, eqb, refl, sym, ap, ◌∙◌, subst, arith, append_assoc, codes, length-append}
use Rattle.std.specs.List.{AllByRecursion, join_with_byte, slice_split}
use Rattle.std.specs.Prelude.{not, ◌==◌}
use Rattle.std.proofs.lemmas.List.Sums.{AllPass-from_list_all}
use Rattle.ext_lines.specs.Split.{Lacks}
use Rattle.ext_lines.proofs.ForCallers.{first_part, lacks_append, one_part}
use Rattle.ext_text.specs.Name.{IsName}
use Rattle.ext_text.specs.Path.{IsPath, path_parts, path_text}
use Rattle.ext_text.proofs.ForCallers.{name_lacks, parts_some, parts_text, path_not_empty}
use Rattle.ext_cmd.specs.Grammar.{Spells}
use Rattle.ext_cmd.specs.Reading.{RefusesWord}
use Rattle.ext_cmd.specs.Resource.{IsResource, tree_path}
use Rattle.ext_cmd.proofs.WordLemmas.{has_names}
use Rattle.ext_cmd.specs.declared.words.CmdErr.{CmdErr}
use Rattle.ext_cmd.specs.declared.words.CmdErr.TheVariants.{OutOfMemory, Usage}

-- parts that lack the byte are the parts between it
pub split_joined : (byte : ℕ) (parts : List (List ℕ)) → 0 < length parts → AllByRecursion (Lacks byte) parts → slice_split (λ b. eqb b byte) (join_with_byte byte parts) ≡ parts
split_joined byte [] some lack = absurd (omega arith)
split_joined byte (p ∷ []) some lack = one_part byte p lack.0
split_joined byte (p ∷ q ∷ ps) some lack =
    first_part byte (join_with_byte byte (p ∷ q ∷ ps)) p (join_with_byte byte (q ∷ ps)) (record { whole = refl; prefix_lacks = lack.0 })
    ∙ ap (λ (l : List (List ℕ)). p ∷ l) (split_joined byte (q ∷ ps) (omega arith) lack.1)

-- the text of a first name and others
below_text : (name : List ℕ) (names : List (List ℕ)) → 0 < length names → path_text (name ∷ names) ≡ name ++ 47 ∷ path_text names
below_text name [] some = absurd (omega arith)
below_text name (next ∷ names) some = refl

some_tree_path : (path : List (List ℕ)) → 0 < length path → 0 < length (tree_path path)
some_tree_path [] some = absurd (omega arith)
some_tree_path (name ∷ []) some = omega arith
some_tree_path (name ∷ next ∷ path) some = omega arith

-- its text is that of the path, and `.tree` after it
pub text_of_tree_path : (path : List (List ℕ)) → 0 < length path → path_text (tree_path path) ≡ path_text path ++ codes ".tree"
text_of_tree_path [] some = absurd (omega arith)
text_of_tree_path (name ∷ []) some = refl
text_of_tree_path (name ∷ next ∷ path) some =
    below_text name (tree_path (next ∷ path)) (some_tree_path (next ∷ path) (omega arith))
    ∙ ap (λ (l : List ℕ). name ++ 47 ∷ l) (text_of_tree_path (next ∷ path) (omega arith))
    ∙ sym (append_assoc name (47 ∷ path_text (next ∷ path)) (codes ".tree"))

-- its names lack the slash
ending_lacks : Lacks 47 (codes ".tree")
ending_lacks = AllPass-from_list_all (λ b. not (b == 47)) (codes ".tree") refl

tree_path_lacks : (path : List (List ℕ)) → AllByRecursion IsName path → AllByRecursion (Lacks 47) (tree_path path)
tree_path_lacks [] names = tt
tree_path_lacks (name ∷ []) names = (lacks_append 47 name (codes ".tree") (name_lacks name names.0) ending_lacks, tt)
tree_path_lacks (name ∷ next ∷ path) names = (name_lacks name names.0, tree_path_lacks (next ∷ path) names.1)

-- what a path reads back as
parts_of_tree_path : (path : List (List ℕ)) → 0 < length path → AllByRecursion IsName path → path_parts (path_text (tree_path path)) ≡ tree_path path
parts_of_tree_path path some names =
    parts_some (path_text (tree_path path)) (long path some) ∙ split_joined 47 (tree_path path) (some_tree_path path some) (tree_path_lacks path names)
  where
    long : (path : List (List ℕ)) → 0 < length path → 0 < length (path_text (tree_path path))
    long path some = omega (arith, ap length (text_of_tree_path path some), length-append (path_text path) (codes ".tree"))

-- a path whose text is that of the other with `.tree` after it is the path of the tree's text
pub is_tree_path : (path text : List (List ℕ)) → 0 < length path → IsPath path → IsPath text → path_text text ≡ path_text path ++ codes ".tree" → text ≡ tree_path path
is_tree_path path text some is text_is same =
    sym (parts_text text text_is.each) ∙ ap path_parts (same ∙ sym (text_of_tree_path path some)) ∙ parts_of_tree_path path some is.each

-- a path with a text that isn't empty has a name
pub names_of_word : (path : List (List ℕ)) (word : List ℕ) → length word ≢ 0 → word ≡ path_text path → 0 < length path
names_of_word [] word some same = absurd (some (ap length same))
names_of_word (name ∷ path) word some same = omega arith

pub is_resource : (path text : List (List ℕ)) → 0 < length path → IsPath path → IsPath text → path_text text ≡ path_text path ++ codes ".tree" → IsResource path
is_resource path text names is text_is same = record {
  within = is;
  below_root = λ none. omega (arith, ap length none);
  text = subst IsPath (is_tree_path path text names is text_is same) text_is;
}

-- the empty word is none's
pub empty_refused : (word : List ℕ) (place : ℕ) → length word ≡ 0 → RefusesWord (Spells path_text IsResource) word place (Usage place)
empty_refused word place none = (refl, λ it. path_not_empty it.value word it.is.within (has_names it.value it.is.below_root) none it.same)

-- nor is a word that is no path with `.tree` after it
pub tree_refused : (word name : List ℕ) (place : ℕ) (e : CmdErr) → name ≡ word ++ codes ".tree" → RefusesWord (Spells path_text IsPath) name place e → RefusesWord (Spells path_text IsResource) word place e
tree_refused word name place OutOfMemory named refused = tt
tree_refused word name place (Usage at) named refused =
    (refused.0, λ it. refused.1 (record { value = tree_path it.value; is = it.is.text; same = named ∙ ap (λ (l : List ℕ). l ++ codes ".tree") it.same ∙ sym (text_of_tree_path it.value (has_names it.value it.is.below_root)) }))
