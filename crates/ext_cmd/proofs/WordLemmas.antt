-- Words of arguments: that there are some, and what they are words of.
use Rattle.std.proofs.Common.{◌≡◌, ◌≢◌, ℕ, ◌<◌, ◌≤◌, Bool, true, ◌&&◌, List, [], ◌∷◌, length, refl, arith, codes}
use Rattle.std.specs.Prelude.{decimal, nat_lt, not, ◌==◌, ◌^◌}
use Rattle.std.specs.List.{list_all, slice_split}
use Rattle.std.proofs.lemmas.Bool.{and_parts, ltb-true}
use Rattle.std.proofs.lemmas.List.Elements.{All-weaker}
use Rattle.std.proofs.lemmas.List.Splits.{length-slice_split}
use Rattle.std.proofs.lemmas.List.Sums.{AllPass-from_list_all, count_by-le-length, length-filter}
use Rattle.std.proofs.lemmas.Str.{IsUtf8-from_ascii}
use Rattle.std.proofs.lemmas.Str.Ascii.{IsAscii-from_all}
use Rattle.std.specs.Prelude.{Err}
use Rattle.ext_lines.specs.Blanks.{is_blank}
use Rattle.ext_lines.specs.Words.{words_of}
use Rattle.ext_text.specs.Absolute.{absolute}
use Rattle.ext_text.specs.Name.{IsName, is_name_byte}
use Rattle.ext_text.specs.Path.{IsPath, ReadsPath, path_text}
use Rattle.ext_text.specs.declared.path.PathErr.{PathErr}
use Rattle.ext_text.specs.declared.path.PathErr.TheVariants as paths
use Rattle.ext_text.proofs.ForCallers.{no_path, path_injective, path_not_empty}
use Rattle.ext_cmd.specs.Fault.{BeginsWords}
use Rattle.ext_cmd.specs.Grammar.{Any, HasNoMore, IsBelowRootWord, IsImagesWord, IsMarkWord, IsPathWord, IsResourceWord, Spells, Then}
use Rattle.ext_cmd.specs.Reading.{RefusesWord, usage_of}
use Rattle.ext_cmd.specs.Resource.{IsResource}
use Rattle.ext_cmd.specs.Plain.{IsBelowRoot}
use Rattle.ext_cmd.specs.declared.words.CmdErr.TheVariants.{Usage}

-- a byte of a name, of ASCII
abbrev pub is_plain_ascii : ℕ → Bool
is_plain_ascii b = is_name_byte b && nat_lt b 128

-- ASCII bytes of names are a name
pub ascii_name : (bytes : List ℕ) → 0 < length bytes → length bytes ≤ 255 → bytes ≢ 46 ∷ [] → bytes ≢ 46 ∷ 46 ∷ [] → list_all is_plain_ascii bytes ≡ true → IsName bytes
ascii_name bytes some few dot dots plain =
    let all = AllPass-from_list_all is_plain_ascii bytes plain in
    let low = All-weaker (λ b. is_plain_ascii b ≡ true) (λ b. b < 128) (λ b is. ltb-true b 128 (and_parts (is_name_byte b) (nat_lt b 128) is).1) bytes all in
    record {
      non_empty = some;
      at_most_255 = few;
      not_dot = dot;
      not_dot_dot = dots;
      plain = All-weaker (λ b. is_plain_ascii b ≡ true) (λ b. is_name_byte b ≡ true) (λ b is. (and_parts (is_name_byte b) (nat_lt b 128) is).0) bytes all;
      utf8 = IsUtf8-from_ascii bytes (IsAscii-from_all bytes low);
    }

pub a_name : IsName (codes "a")
a_name = ascii_name (codes "a") (omega arith) (omega arith) (λ e. cc) (λ e. cc) refl

a_tree_name : IsName (codes "a.tree")
a_tree_name = ascii_name (codes "a.tree") (omega arith) (omega arith) (λ e. cc) (λ e. cc) refl

pub default_name : IsName (codes "default")
default_name = ascii_name (codes "default") (omega arith) (omega arith) (λ e. cc) (λ e. cc) refl

-- the root, and a path below it
pub root : IsPath []
root = record { each = tt; depth = omega arith; size = omega arith }

a_path : IsPath (codes "a" ∷ [])
a_path = record { each = (a_name, tt); depth = omega arith; size = omega arith }

a_tree_path : IsPath (codes "a.tree" ∷ [])
a_tree_path = record { each = (a_tree_name, tt); depth = omega arith; size = omega arith }

below_root : IsBelowRoot (codes "a" ∷ [])
below_root = record { within = a_path; below_root = λ e. cc }

a_resource : IsResource (codes "a" ∷ [])
a_resource = record { within = a_path; below_root = λ e. cc; text = a_tree_path }

pub some_last_path : BeginsWords (Then IsPathWord HasNoMore) []
some_last_path = record { more = absolute [] ∷ []; whole = (record { value = []; is = root; same = refl }, tt) }

pub some_below_root : BeginsWords (Then IsBelowRootWord HasNoMore) []
some_below_root = record { more = absolute (codes "a" ∷ []) ∷ []; whole = (record { value = codes "a" ∷ []; is = below_root; same = refl }, tt) }

pub some_import : BeginsWords (Then IsResourceWord (Then IsPathWord HasNoMore)) []
some_import = record {
  more = path_text (codes "a" ∷ []) ∷ absolute [] ∷ [];
  whole = (record { value = codes "a" ∷ []; is = a_resource; same = refl }, (record { value = []; is = root; same = refl }, tt));
}

pub some_images : BeginsWords (Then IsImagesWord HasNoMore) []
some_images = record { more = decimal 1 ∷ []; whole = (record { value = 1; is = (omega arith, omega arith); same = refl }, tt) }

pub some_mark : BeginsWords (Then IsMarkWord HasNoMore) []
some_mark = record { more = decimal 1 ∷ []; whole = (record { value = 1; is = (omega arith, omega arith); same = refl }, tt) }

pub some_texts : BeginsWords (Then Any (Then Any HasNoMore)) []
some_texts = record { more = [] ∷ [] ∷ []; whole = (tt, (tt, tt)) }

pub some_text : BeginsWords (Then Any HasNoMore) []
some_text = record { more = [] ∷ []; whole = (tt, tt) }

-- a text that is refused is no path's
pub path_refused : (text : List ℕ) (place : ℕ) (e : PathErr) → ReadsPath text (Err e) → RefusesWord (Spells path_text IsPath) text place (usage_of e place)
path_refused text place paths.OutOfMemory why = tt
path_refused text place paths.TooLong why = (refl, λ word. no_path text paths.TooLong why (λ same. cc) word.value word.is word.same)
path_refused text place paths.TooDeep why = (refl, λ word. no_path text paths.TooDeep why (λ same. cc) word.value word.is word.same)
path_refused text place paths.BadName why = (refl, λ word. no_path text paths.BadName why (λ same. cc) word.value word.is word.same)

-- a path that isn't the root has a name
pub has_names : (path : List (List ℕ)) → path ≢ [] → 0 < length path
has_names [] below = absurd (below refl)
has_names (name ∷ path) below = omega arith

-- the root's word is no word of a path below it
pub root_refused : (word : List ℕ) (path : List (List ℕ)) (place : ℕ) → length path ≡ 0 → word ≡ absolute path → RefusesWord (Spells absolute IsBelowRoot) word place (Usage place)
root_refused word [] place none same = (refl, λ it. path_not_empty it.value [] it.is.within (has_names it.value it.is.below_root) refl (cc (same, it.same)))
root_refused word (name ∷ path) place none same = absurd (omega arith)

-- paths of one word are equal
pub one_path : (p q : List (List ℕ)) → IsPath p → IsPath q → absolute p ≡ absolute q → p ≡ q
one_path p q is also same = path_injective p q is also (cc)

-- a text has no more words than it has bytes, and one
pub words_few : (text : List ℕ) → length text < 2 ^ 63 → length (words_of text) ≤ 2 ^ 63
words_few text short =
    let some : List ℕ → Bool = λ piece. not (length piece == 0) in
    let pieces = slice_split is_blank text in
    omega (arith, short, length-filter some pieces, count_by-le-length some pieces, length-slice_split is_blank text, count_by-le-length is_blank text)
