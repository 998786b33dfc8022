-- The files of a host in the order of a check are those of its trees, and are counted alike.
use Rattle.std.proofs.Common.{◌≡◌, ℕ, zero, suc, ◌+◌, List, [], ◌∷◌, ◌++◌, length, cond, Some, refl, subst, arith}
use Rattle.std.specs.Prelude.{Contains, slice_get}
use Rattle.std.specs.List.{AllByRecursion, flat_map, sum_by}
use Rattle.std.proofs.lemmas.List.{length-append}
use Rattle.std.proofs.lemmas.List.Sums.{sum_by-append, sum_by-cons}
use Rattle.ext_text.specs.Order.{paths_total}
use Rattle.ext_text.specs.Path.{path_cmp}
use Rattle.ext_text.proofs.ForCallers.{all_append, all_weaker}
use Rattle.ext_tree.specs.Tree.{Entries, IsTree, is_file, lookup}
use Rattle.ext_tree.specs.declared.entry.Entry.{Entry}
use Rattle.ext_tree.specs.declared.entry.Entry.TheVariants.{Dir, Opaque, File, Link, Hide}
use Rattle.ext_tree.specs.declared.stamp.Stamp.{Stamp}
use Rattle.ext_tree.proofs.ForCallers.{find_there}
use Rattle.ext_host.specs.Drawn.{HasFile, IsFileOf, trees_of}
use Rattle.ext_host.specs.Held.{HeldFile}
use Rattle.ext_host.specs.Host.{past_tree}
use Rattle.ext_host.specs.Shelf.{IsKeptAs}
use Rattle.ext_host.specs.Valid.{all_bytes, bytes_of}
use Rattle.ext_host.specs.declared.home.Home.{Home}
use Rattle.ext_host.specs.declared.host.Host.{Host}
use Rattle.ext_host.specs.declared.past.Past.{Past}
use Rattle.ext_homes.specs.Giving.{lists_kept}
use Rattle.ext_index.specs.ValidIndex.{IsWellFormed, IsWellFormedTree}
use Rattle.ext_gen.specs.Checking as gen
use Rattle.ext_gen.specs.Checking.{files_of, files_of_both, files_of_host, files_of_past, sizes_of}
use Rattle.ext_gen.specs.Preparing.{trees_of_pasts}
use Rattle.ext_intents.specs.Check.{files_in, host_bytes, host_files}

-- what holds at each index holds of each
pub by_index : {X : Type 0} (P : X → Type 0) (xs : List X) → ((i : ℕ) (x : X) → slice_get xs i ≡ Some x → P x) → AllByRecursion P xs
by_index P [] holds = tt
by_index P (x ∷ xs) holds = (holds zero x refl, by_index P xs (λ i y at. holds (suc i) y at))

files_of_entry : (es : Entries HeldFile) (path : List (List ℕ)) (e : Entry HeldFile) → lookup es path ≡ Some e → AllByRecursion (HasFile es) (gen.files_in e)
files_of_entry es path (Dir attributes) stands = tt
files_of_entry es path (Opaque attributes) stands = tt
files_of_entry es path (File attributes held) stands = (record { path = path; attributes = attributes; stands = stands }, tt)
files_of_entry es path (Link owner target) stands = tt
files_of_entry es path Hide stands = tt

files_of_entries : (whole es : Entries HeldFile) → AllByRecursion (λ x. lookup whole x.0 ≡ Some x.1) es → AllByRecursion (HasFile whole) (files_of es)
files_of_entries whole [] stand = tt
files_of_entries whole (x ∷ es) stand = all_append (HasFile whole) (gen.files_in x.1) (files_of es) (files_of_entry whole x.0 x.1 stand.0) (files_of_entries whole es stand.1)

files_of_tree : (trees : List (Entries HeldFile)) (es : Entries HeldFile) → Contains trees es → IsTree es → AllByRecursion (IsFileOf trees) (files_of es)
files_of_tree trees es among tree =
    all_weaker (HasFile es) (IsFileOf trees) (λ held file. record { tree = es; among = among; file = file }) (files_of es)
    (files_of_entries es es (by_index (λ x. lookup es x.0 ≡ Some x.1) es (λ i x at. find_there path_cmp paths_total es i x tree.sorted at)))

files_of_two : (trees : List (Entries HeldFile)) (root lower : Entries HeldFile) → Contains trees root → Contains trees lower → IsTree root → IsTree lower → AllByRecursion (IsFileOf trees) (files_of_both root lower)
files_of_two trees root lower one two first second = all_append (IsFileOf trees) (files_of root) (files_of lower) (files_of_tree trees root one first) (files_of_tree trees lower two second)

first_of : {X : Type 0} (x : X) (xs : List X) → Contains (x ∷ xs) x
first_of x xs = (zero, omega arith, refl)

more_of : {X : Type 0} (y : X) (xs : List X) (x : X) → Contains xs x → Contains (y ∷ xs) x
more_of y xs x (k, lt, is) = (suc k, omega arith, is)

files_of_pasts : (trees : List (Entries HeldFile)) (past : List Past) → ((es : Entries HeldFile) → Contains (trees_of_pasts past) es → Contains trees es) → AllByRecursion (λ p. IsWellFormedTree (past_tree p)) past
    → AllByRecursion (IsFileOf trees) (flat_map files_of_past past)
files_of_pasts trees [] among formed = tt
files_of_pasts trees (p ∷ past) among formed =
    let rest = trees_of_pasts past in
    all_append (IsFileOf trees) (files_of_past p) (flat_map files_of_past past)
    (files_of_two trees p.root p.lower (among p.root (first_of p.root (p.lower ∷ rest))) (among p.lower (more_of p.root (p.lower ∷ rest) p.lower (first_of p.lower rest))) formed.0.root formed.0.lower)
    (files_of_pasts trees past (λ es has. among es (more_of p.root (p.lower ∷ rest) es (more_of p.lower rest es has))) formed.1)

pub files_are_of_host : (host : Host) → IsWellFormed host → AllByRecursion (IsFileOf (trees_of host)) (files_of_host host)
files_are_of_host host formed =
    let trees = trees_of host in
    let rest = trees_of_pasts host.past in
    all_append (IsFileOf trees) (files_of_both host.root host.lower) (flat_map files_of_past host.past)
    (files_of_two trees host.root host.lower (first_of host.root (host.lower ∷ rest)) (more_of host.root (host.lower ∷ rest) host.lower (first_of host.lower rest)) formed.now.root formed.now.lower)
    (files_of_pasts trees host.past (λ es has. more_of host.root (host.lower ∷ rest) es (more_of host.lower rest es has)) formed.past)

-- one of them is
one_of_all : {X : Type 0} (P : X → Type 0) (before after : List X) (x : X) → AllByRecursion P (before ++ x ∷ after) → P x
one_of_all P [] after x all = all.0
one_of_all P (y ∷ before) after x all = one_of_all P before after x all.1

pub file_of_host : (host : Host) (before after : List HeldFile) (held : HeldFile) → IsWellFormed host → files_of_host host ≡ before ++ held ∷ after → IsFileOf (trees_of host) held
file_of_host host before after held formed is =
    one_of_all (IsFileOf (trees_of host)) before after held (subst (AllByRecursion (IsFileOf (trees_of host))) is (files_are_of_host host formed))

-- a file that is kept at a home with a stamp is listed there with it
pub kept_is_listed : (trees : List (Entries HeldFile)) (held : HeldFile) (home : Home) (listed : Stamp) → IsKeptAs held home listed → IsFileOf trees held → lists_kept trees listed home
kept_is_listed trees held home listed kept file =
    subst (IsFileOf trees) (λ i. record { stamp = kept.stamp i; body = kept.body i }) file

-- a measure of files that adds up, and the same measure of trees
record Measure : Type 1 where
  pub files : List HeldFile → ℕ
  pub tree : Entries HeldFile → ℕ
  pub none : files [] ≡ 0
  pub more : (xs ys : List HeldFile) → files (xs ++ ys) ≡ files xs + files ys
  pub same : (es : Entries HeldFile) → files (files_of es) ≡ tree es

measure_two : (m : Measure) (root lower : Entries HeldFile) → m.files (files_of_both root lower) ≡ m.tree root + m.tree lower
measure_two m root lower =
    let both = m.more (files_of root) (files_of lower) in
    let first = m.same root in
    let second = m.same lower in
    omega arith

measure_pasts : (m : Measure) (past : List Past) → m.files (flat_map files_of_past past) ≡ sum_by m.tree (trees_of_pasts past)
measure_pasts m [] = m.none
measure_pasts m (p ∷ past) =
    let rest = trees_of_pasts past in
    let more = m.more (files_of_past p) (flat_map files_of_past past) in
    let two = measure_two m p.root p.lower in
    let others = measure_pasts m past in
    let first = sum_by-cons m.tree p.root (p.lower ∷ rest) in
    let second = sum_by-cons m.tree p.lower rest in
    omega arith

measure_host : (m : Measure) (host : Host) → m.files (files_of_host host) ≡ sum_by m.tree (trees_of host)
measure_host m host =
    let rest = trees_of_pasts host.past in
    let more = m.more (files_of_both host.root host.lower) (flat_map files_of_past host.past) in
    let two = measure_two m host.root host.lower in
    let others = measure_pasts m host.past in
    let first = sum_by-cons m.tree host.root (host.lower ∷ rest) in
    let second = sum_by-cons m.tree host.lower rest in
    omega arith

number_of_entry : (e : Entry HeldFile) → length (gen.files_in e) ≡ cond (is_file e) 1 0
number_of_entry (Dir attributes) = refl
number_of_entry (Opaque attributes) = refl
number_of_entry (File attributes held) = refl
number_of_entry (Link owner target) = refl
number_of_entry Hide = refl

number_of_tree : (es : Entries HeldFile) → length (files_of es) ≡ files_in es
number_of_tree [] = refl
number_of_tree (x ∷ es) =
    let more = length-append (gen.files_in x.1) (files_of es) in
    let one = number_of_entry x.1 in
    let others = number_of_tree es in
    let first = sum_by-cons (λ (e : List (List ℕ) × Entry HeldFile). cond (is_file e.1) 1 0) x es in
    omega arith

size_of_entry : (e : Entry HeldFile) → sizes_of (gen.files_in e) ≡ bytes_of e
size_of_entry (Dir attributes) = refl
size_of_entry (Opaque attributes) = refl
size_of_entry (File attributes held) = omega (arith, sum_by-cons (λ (h : HeldFile). h.stamp.size) held [])
size_of_entry (Link owner target) = refl
size_of_entry Hide = refl

size_of_tree : (es : Entries HeldFile) → sizes_of (files_of es) ≡ all_bytes es
size_of_tree [] = refl
size_of_tree (x ∷ es) =
    let more = sum_by-append (λ (h : HeldFile). h.stamp.size) (gen.files_in x.1) (files_of es) in
    let one = size_of_entry x.1 in
    let others = size_of_tree es in
    let first = sum_by-cons (λ (e : List (List ℕ) × Entry HeldFile). bytes_of e.1) x es in
    omega arith

pub number_of_host : (host : Host) → length (files_of_host host) ≡ host_files host
number_of_host host = measure_host (record { files = length; tree = files_in; none = refl; more = length-append; same = number_of_tree }) host

pub size_of_host : (host : Host) → sizes_of (files_of_host host) ≡ host_bytes host
size_of_host host = measure_host (record { files = sizes_of; tree = all_bytes; none = refl; more = sum_by-append (λ held. held.stamp.size); same = size_of_tree }) host
