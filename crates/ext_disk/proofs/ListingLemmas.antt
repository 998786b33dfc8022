-- The names in a folder, read off the entries of a disk in memory in path order.
use Rattle.std.proofs.Common.{◌≡◌, ℕ, Bool, true, false, cond, ◌||◌, List, [], ◌∷◌, ◌++◌, Option, Some, None, refl, sym, ap, ◌∙◌, subst}
use Rattle.std.proofs.lemmas.Bool.{false≢true}
use Rattle.std.proofs.lemmas.Map.Keys.{sorted_head, sorted_tail}
use Rattle.std.specs.BTreeMap.{is_at}
use Rattle.std.specs.Map.{lookup, keys_of}
use Rattle.std.specs.List.{AllByRecursion, list_any}
use Rattle.std.specs.List.Sorted.{IsStrictlySortedBy}
use Rattle.std.specs.Option.{is_some}
use Rattle.std.specs.declared.cmp.Ordering.{Ordering}
use Rattle.std.specs.declared.cmp.Ordering.TheVariants.{Less, Equal, Greater}
use Rattle.std.specs.Ordering.{is_eq, eq_by_cmp, ordering_then}
use Rattle.ext_text.specs.Name.{bytes_cmp}
use Rattle.ext_text.specs.Path.{path_cmp}
use Rattle.ext_text.proofs.ForCallers.{same_name, tied_name, same_path, tied_path, names_tied}
use Rattle.ext_disk.specs.Calls.{child_name}
use Rattle.ext_disk.specs.DiskEntries.{DiskEntries, node_of, place_at, found_place, disk_entry_name}
use Rattle.ext_disk.specs.declared.disk_entry.DiskEntry.{DiskEntry}
use Rattle.ext_disk.proofs.NamesLemmas.{child_last}
use Rattle.ext_disk.proofs.Growth.{none_none, some_same}
use Rattle.ext_disk.proofs.HistoryLemmas.{child_is}

abbrev pub Entries : Type 0
Entries = List (List (List ℕ) × DiskEntry)

abbrev pub add_name : Option (List ℕ) → List (List ℕ) → List (List ℕ)
add_name None names = names
add_name (Some n) names = n ∷ names

-- the names in the folder, in the order of the entries
abbrev pub names_of : List (List ℕ) → Entries → List (List ℕ)
names_of dir [] = []
names_of dir (e ∷ es) = add_name (disk_entry_name dir e.0 e.1) (names_of dir es)

abbrev is_named : List ℕ → Option (List ℕ) → Bool
is_named n None = false
is_named n (Some m) = eq_by_cmp bytes_cmp n m

same_bool : (a b : Bool) → (a ≡ true → b ≡ true) → (b ≡ true → a ≡ true) → a ≡ b
same_bool true b there back = sym (there refl)
same_bool false true there back = back refl
same_bool false false there back = refl

named_child : (dir q : List (List ℕ)) (n : List ℕ) (o : Option (List ℕ)) → child_name dir q ≡ o → is_named n o ≡ true → dir ++ n ∷ [] ≡ q
named_child dir q n None is named = absurd (false≢true named)
named_child dir q n (Some m) is named = ap (λ k. dir ++ k ∷ []) (same_name n m named) ∙ sym (child_is dir q m is)

-- a path is that of a name in the folder where the name that it has there is this one
is_key : (dir q : List (List ℕ)) (n : List ℕ) → eq_by_cmp path_cmp (dir ++ n ∷ []) q ≡ is_named n (child_name dir q)
is_key dir q n = same_bool _ _
    (λ tied.
    ap (λ r. is_named n (child_name dir r)) (sym (same_path (dir ++ n ∷ []) q tied))
    ∙ ap (is_named n) (child_last dir dir n ∙ ap (λ b. cond b (Some n) None) (tied_path dir dir refl)) ∙ tied_name n n refl)
    (λ named. tied_path (dir ++ n ∷ []) q (named_child dir q n (child_name dir q) refl named))

pub none_later : (k : List (List ℕ)) (es : Entries) → AllByRecursion (λ y. path_cmp k y ≡ Less) (keys_of es) → lookup (is_at (path_cmp k)) es ≡ None
none_later k [] less = refl
none_later k (e ∷ es) less = ap (λ r. cond (is_eq r) (Some e.1) (lookup (is_at (path_cmp k)) es)) less.0 ∙ none_later k es less.1

any_added : (there : Bool) (n : List ℕ) (o : Option (List ℕ)) (names : List (List ℕ)) → list_any (eq_by_cmp bytes_cmp n) (add_name (cond there o None) names) ≡ ((cond there (is_named n o) false) || list_any (eq_by_cmp bytes_cmp n) names)
any_added true n None names = refl
any_added true n (Some m) names = refl
any_added false n o names = refl

has_turn : (tied there : Bool) (disk_entry : DiskEntry) (rest : Bool) (later : Option DiskEntry) → there ≡ is_some (node_of disk_entry.content) → rest ≡ is_some (found_place later).node → (tied ≡ true → later ≡ None)
    → ((cond there tied false) || rest) ≡ is_some (found_place (cond tied (Some disk_entry) later)).node
has_turn true true disk_entry rest later is more none = is
has_turn true false disk_entry rest later is more none = more ∙ ap (λ o. is_some (found_place o).node) (none refl) ∙ is
has_turn false true disk_entry rest later is more none = more
has_turn false false disk_entry rest later is more none = more

pub names_have : (dir : List (List ℕ)) (es : Entries) (n : List ℕ) → IsStrictlySortedBy path_cmp (keys_of es)
    → list_any (eq_by_cmp bytes_cmp n) (names_of dir es) ≡ is_some (found_place (lookup (is_at (path_cmp (dir ++ n ∷ []))) es)).node
names_have dir [] n sorted = refl
names_have dir (e ∷ es) n sorted =
    let there = is_some (node_of e.1.content) in
    let path = dir ++ n ∷ [] in
    any_added there n (child_name dir e.0) (names_of dir es)
    ∙ ap (λ b. (cond there b false) || list_any (eq_by_cmp bytes_cmp n) (names_of dir es)) (sym (is_key dir e.0 n))
    ∙ has_turn (eq_by_cmp path_cmp path e.0) there e.1 (list_any (eq_by_cmp bytes_cmp n) (names_of dir es)) (lookup (is_at (path_cmp path)) es) refl
    (names_have dir es n (sorted_tail path_cmp e.0 (keys_of es) sorted))
    (λ tied. ap (λ k. lookup (is_at (path_cmp k)) es) (same_path path e.0 tied) ∙ none_later e.0 es (sorted_head path_cmp e.0 (keys_of es) sorted))

then_equal : (r : Ordering) → ordering_then r Equal ≡ r
then_equal Less = refl
then_equal Equal = refl
then_equal Greater = refl

cmp_in : (dir : List (List ℕ)) (a b : List ℕ) → path_cmp (dir ++ a ∷ []) (dir ++ b ∷ []) ≡ bytes_cmp a b
cmp_in [] a b = then_equal (bytes_cmp a b)
cmp_in (k ∷ dir) a b = ap (λ r. ordering_then r (path_cmp (dir ++ a ∷ []) (dir ++ b ∷ []))) (names_tied k) ∙ cmp_in dir a b

disk_entry_either : (there : Bool) (dir q : List (List ℕ)) (n : List ℕ) → cond there (child_name dir q) None ≡ Some n → q ≡ dir ++ n ∷ []
disk_entry_either true dir q n is = child_is dir q n is
disk_entry_either false dir q n is = none_none n is

pub disk_entry_child : (dir q : List (List ℕ)) (disk_entry : DiskEntry) (n : List ℕ) → disk_entry_name dir q disk_entry ≡ Some n → q ≡ dir ++ n ∷ []
disk_entry_child dir q disk_entry n is = disk_entry_either (is_some (node_of disk_entry.content)) dir q n is

less_added : (dir : List (List ℕ)) (a : List ℕ) (q : List (List ℕ)) (o : Option (List ℕ)) (names : List (List ℕ)) → ((b : List ℕ) → o ≡ Some b → q ≡ dir ++ b ∷ [])
    → path_cmp (dir ++ a ∷ []) q ≡ Less → AllByRecursion (λ b. bytes_cmp a b ≡ Less) names → AllByRecursion (λ b. bytes_cmp a b ≡ Less) (add_name o names)
less_added dir a q None names child less rest = rest
less_added dir a q (Some b) names child less rest = (sym (cmp_in dir a b) ∙ ap (path_cmp (dir ++ a ∷ [])) (sym (child b refl)) ∙ less, rest)

less_names : (dir : List (List ℕ)) (a : List ℕ) (es : Entries) → AllByRecursion (λ y. path_cmp (dir ++ a ∷ []) y ≡ Less) (keys_of es) → AllByRecursion (λ b. bytes_cmp a b ≡ Less) (names_of dir es)
less_names dir a [] less = tt
less_names dir a (e ∷ es) less = less_added dir a e.0 (disk_entry_name dir e.0 e.1) (names_of dir es) (λ b is. disk_entry_child dir e.0 e.1 b is) less.0 (less_names dir a es less.1)

sorted_added : (dir q : List (List ℕ)) (o : Option (List ℕ)) (es : Entries) → ((a : List ℕ) → o ≡ Some a → q ≡ dir ++ a ∷ []) → AllByRecursion (λ y. path_cmp q y ≡ Less) (keys_of es)
    → IsStrictlySortedBy bytes_cmp (names_of dir es) → IsStrictlySortedBy bytes_cmp (add_name o (names_of dir es))
unfolding IsStrictlySortedBy
sorted_added dir q None es child less rest = rest
sorted_added dir q (Some a) es child less rest = (less_names dir a es (subst (λ k. AllByRecursion (λ y. path_cmp k y ≡ Less) (keys_of es)) (child a refl) less), rest)

pub names_sorted : (dir : List (List ℕ)) (es : Entries) → IsStrictlySortedBy path_cmp (keys_of es) → IsStrictlySortedBy bytes_cmp (names_of dir es)
unfolding IsStrictlySortedBy
names_sorted dir [] sorted = tt
names_sorted dir (e ∷ es) sorted = sorted_added dir e.0 (disk_entry_name dir e.0 e.1) es (λ a is. disk_entry_child dir e.0 e.1 a is) sorted.0 (names_sorted dir es sorted.1)

append_one : (xs : List (List ℕ)) (n : List ℕ) (rest : List (List ℕ)) → (xs ++ n ∷ []) ++ rest ≡ xs ++ n ∷ rest
append_one [] n rest = refl
append_one (x ∷ xs) n rest = ap (λ l. x ∷ l) (append_one xs n rest)

pub gathered : (so_far : List (List ℕ)) (o : Option (List ℕ)) (rest all : List (List ℕ)) → so_far ++ add_name o rest ≡ all → (n : List ℕ) → o ≡ Some n → (so_far ++ n ∷ []) ++ rest ≡ all
gathered so_far None rest all is n same = none_none n same
gathered so_far (Some m) rest all is n same = append_one so_far n rest ∙ ap (λ k. so_far ++ k ∷ rest) (sym (some_same m n same)) ∙ is

pub passed : (so_far : List (List ℕ)) (o : Option (List ℕ)) (rest all : List (List ℕ)) → so_far ++ add_name o rest ≡ all → o ≡ None → so_far ++ rest ≡ all
passed so_far o rest all is none = ap (λ x. so_far ++ add_name x rest) (sym none) ∙ is

nil_append : (xs : List (List ℕ)) → xs ++ [] ≡ xs
nil_append [] = refl
nil_append (x ∷ xs) = ap (λ l. x ∷ l) (nil_append xs)

-- when no entry is left, the names are all of them
pub all_gathered : (dir names : List (List ℕ)) (left all : Entries) → names ++ names_of dir left ≡ names_of dir all → left ≡ [] → names ≡ names_of dir all
all_gathered dir names left all is none = sym (nil_append names) ∙ ap (λ es. names ++ names_of dir es) (sym none) ∙ is

place_below : (disk_entries : DiskEntries) (dir : List (List ℕ)) (n : List ℕ) → found_place (lookup (is_at (path_cmp (dir ++ n ∷ []))) disk_entries.entries) ≡ place_at disk_entries (dir ++ n ∷ [])
place_below disk_entries [] n = refl
place_below disk_entries (k ∷ dir) n = refl

pub names_stand : (disk_entries : DiskEntries) (dir names : List (List ℕ)) → names ≡ names_of dir disk_entries.entries → IsStrictlySortedBy path_cmp (keys_of disk_entries.entries)
    → (n : List ℕ) → list_any (eq_by_cmp bytes_cmp n) names ≡ is_some (place_at disk_entries (dir ++ n ∷ [])).node
names_stand disk_entries dir names is sorted n =
    ap (list_any (eq_by_cmp bytes_cmp n)) is ∙ names_have dir disk_entries.entries n sorted ∙ ap (λ x. is_some x.node) (place_below disk_entries dir n)

pub names_in_order : (disk_entries : DiskEntries) (dir names : List (List ℕ)) → names ≡ names_of dir disk_entries.entries → IsStrictlySortedBy path_cmp (keys_of disk_entries.entries) → IsStrictlySortedBy bytes_cmp names
names_in_order disk_entries dir names is sorted = subst (IsStrictlySortedBy bytes_cmp) (sym is) (names_sorted dir disk_entries.entries sorted)
