-- Checks of files one after another: what they say together.
use Rattle.std.proofs.Common.{◌≡◌, ℕ, suc, ◌+◌, ◌*◌, ◌^◌, ◌<◌, ◌≤◌, List, [], ◌∷◌, ◌++◌, length, take, drop, get_or, Some, refl, sym, ap, ◌∙◌, subst, arith, append_assoc, append-nil, length-append, drop-cons, take-suc, add-one}
use Rattle.std.specs.Prelude.{Contains, IsTrue, slice_get}
use Rattle.std.specs.FinMap.{find, is_sorted}
use Rattle.std.specs.List.{AllByRecursion, flat_map}
use Rattle.std.proofs.lemmas.List.{take-append-drop}
use Rattle.std.proofs.lemmas.List.Concat.{flat_map-append}
use Rattle.std.proofs.lemmas.List.Elements.{Contains-append_left, Contains-append_right}
use Rattle.std.proofs.lemmas.List.Sums.{sum_by-append, sum_by-cons}
use Rattle.ext_text.specs.Path.{path_cmp}
use Rattle.ext_text.specs.Order.{paths_total}
use Rattle.ext_text.proofs.ForCallers.{all_append, all_back, all_prefix}
use Rattle.ext_disk.specs.Disk.{DiskState}
use Rattle.ext_disk.specs.Since.{Rests}
use Rattle.ext_tree.specs.Tree.{Entries, IsTreeWithin}
use Rattle.ext_tree.specs.declared.entry.Entry.{Entry}
use Rattle.ext_tree.specs.declared.entry.Entry.TheVariants.{Dir, Opaque, File, Link, Hide}
use Rattle.ext_tree.proofs.ForCallers.{find_there}
use Rattle.ext_host.specs.Drawn.{HasFile, trees_of}
use Rattle.ext_host.specs.Held.{HeldFile}
use Rattle.ext_host.specs.Shelf.{ShelfCause}
use Rattle.ext_host.specs.Host.{Hierarchies, HostTree, hierarchies_in, past_tree, present}
use Rattle.ext_host.specs.Valid.{IsValidHost, IsValidTree, all_bytes, bytes_of}
use Rattle.ext_host.specs.declared.body.Body.{Body}
use Rattle.ext_host.specs.declared.body.Body.TheVariants.{Here, Kept, Depot}
use Rattle.ext_host.specs.declared.host.Host.{Host}
use Rattle.ext_host.specs.declared.past.Past.{Past}
use Rattle.ext_host.specs.declared.shelf.ShelfErr.{ShelfErr}
use Rattle.ext_host.specs.declared.shelf.ShelfErr.TheVariants.{OutOfMemory, Fault, Damaged}
use Rattle.ext_store_files.specs.HeldFiles.{body_told, told_at, IsListed}
use Rattle.ext_store_files.specs.Names.{home_path}
use Rattle.ext_store_files.proofs.ForCallers.{rose_since}
use Rattle.ext_gen.specs.Checking.{AreChecked, AreCounted, AreServed, IsAsListed, IsServed, MayCheckPast, StopsAtFile, files_in, files_of, files_of_both, files_of_past, sizes_of}

told_rests : (a b : DiskState) (body : Body) → Rests a b → body_told b body ≡ body_told a body
told_rests a b (Here bytes) rests = refl
told_rests a b (Kept home) rests = ap (λ o. told_at o (home_path home.generation home.file)) rests.told
told_rests a b (Depot path) rests = refl

listed_before : (a b : DiskState) (held : HeldFile) → Rests a b → IsAsListed b held → IsAsListed a held
listed_before a b held rests listed = subst (λ t. IsListed t held.stamp) (told_rests a b held.body rests) listed

all_listed_before : (a b : DiskState) (files : List HeldFile) → Rests a b → AllByRecursion (IsAsListed b) files → AllByRecursion (IsAsListed a) files
all_listed_before a b [] rests all = tt
all_listed_before a b (x ∷ files) rests all = (listed_before a b x rests all.0, all_listed_before a b files rests all.1)

cause_before : (a b c : DiskState) (held : HeldFile) (e : ShelfErr) → Rests a b → ShelfCause b.faults c.faults (body_told b held.body) held e → ShelfCause a.faults c.faults (body_told a held.body) held e
cause_before a b c held OutOfMemory rests cause = tt
cause_before a b c held Fault rests cause = rose_since _ _ _ rests.count cause
cause_before a b c held (Damaged damage) rests cause = subst (λ t. ShelfCause b.faults c.faults t held (Damaged damage)) (told_rests a b held.body rests) cause

-- both were checked
pub checked_more : (a b : DiskState) (xs ys : List HeldFile) (one two whole : ℕ × ℕ) → Rests a b → AreChecked a xs one → AreChecked b ys two
    → whole.0 ≡ one.0 + two.0 → whole.1 ≡ one.1 + two.1 → AreChecked a (xs ++ ys) whole
checked_more a b xs ys one two whole rests first second files bytes =
    let first_number = first.number in
    let second_number = second.number in
    let first_bytes = first.bytes in
    let second_bytes = second.bytes in
    record {
      listed = all_append (IsAsListed a) xs ys first.listed (all_listed_before a b ys rests second.listed);
      number = omega (arith, length-append xs ys);
      bytes = omega (arith, sum_by-append (λ (held : HeldFile). held.stamp.size) xs ys);
    }

-- nothing was
pub checked_none : (a : DiskState) → AreChecked a [] (0, 0)
checked_none a = record { listed = tt; number = refl; bytes = refl }

-- the second was not, and others that follow
pub stops_later : (a b c : DiskState) (xs ys : List HeldFile) (counts : ℕ × ℕ) (e : ShelfErr) → Rests a b → AreChecked a xs counts → StopsAtFile b c ys e → StopsAtFile a c (xs ++ ys) e
stops_later a b c xs ys counts e rests first stops = record {
  before = xs ++ stops.before;
  held = stops.held;
  after = stops.after;
  is = ap (λ l. xs ++ l) stops.is ∙ sym (append_assoc xs stops.before (stops.held ∷ stops.after));
  listed = all_append (IsAsListed a) xs stops.before first.listed (all_listed_before a b stops.before rests stops.listed);
  cause = cause_before a b c stops.held e rests stops.cause;
}

-- the first was not, and others follow
pub stops_early : (a c : DiskState) (ys zs : List HeldFile) (e : ShelfErr) → StopsAtFile a c ys e → StopsAtFile a c (ys ++ zs) e
stops_early a c ys zs e stops = record {
  before = stops.before;
  held = stops.held;
  after = stops.after ++ zs;
  is = ap (λ l. l ++ zs) stops.is ∙ append_assoc stops.before (stops.held ∷ stops.after) zs;
  listed = stops.listed;
  cause = stops.cause;
}

-- one file was not
pub stops_at_once : (a c : DiskState) (held : HeldFile) (e : ShelfErr) → ShelfCause a.faults c.faults (body_told a held.body) held e → StopsAtFile a c (held ∷ []) e
stops_at_once a c held e cause = record { before = []; held = held; after = []; is = refl; listed = tt; cause = cause }

split_here : {X : Type 0} (xs : List X) (i : ℕ) (x : X) → i < length xs → x ≡ get_or xs i x → xs ≡ take i xs ++ x ∷ drop (suc i) xs
split_here xs i x inside is = sym (take-append-drop i xs) ∙ ap (λ l. take i xs ++ l) (drop-cons xs i x inside ∙ ap (λ y. y ∷ drop (suc i) xs) (sym is))

next_here : {X : Type 0} (xs : List X) (i : ℕ) (x : X) → i < length xs → x ≡ get_or xs i x → take (i + 1) xs ≡ take i xs ++ x ∷ []
next_here xs i x inside is = ap (λ n. take n xs) (add-one i) ∙ take-suc xs i x inside ∙ ap (λ y. take i xs ++ y ∷ []) (sym is)

-- the files of the elements so far, of this one, and of those that follow
pub files_split : {X : Type 0} (f : X → List HeldFile) (xs : List X) (i : ℕ) (x : X) → i < length xs → x ≡ get_or xs i x
    → flat_map f xs ≡ flat_map f (take i xs) ++ (f x ++ flat_map f (drop (suc i) xs))
files_split f xs i x inside is = ap (flat_map f) (split_here xs i x inside is) ∙ flat_map-append f (take i xs) (x ∷ drop (suc i) xs)

pub files_next : {X : Type 0} (f : X → List HeldFile) (xs : List X) (i : ℕ) (x : X) → i < length xs → x ≡ get_or xs i x
    → flat_map f (take (i + 1) xs) ≡ flat_map f (take i xs) ++ f x
files_next f xs i x inside is =
    ap (flat_map f) (next_here xs i x inside is) ∙ flat_map-append f (take i xs) (x ∷ []) ∙ ap (λ l. flat_map f (take i xs) ++ l) (append-nil (f x))

-- what holds of an element of a list
pub each_here : {X : Type 0} (P : X → Type 0) (xs : List X) (i : ℕ) (x : X) → i < length xs → x ≡ get_or xs i x → AllByRecursion P xs → P x
each_here P xs i x inside is all = (all_back P (take i xs) (x ∷ drop (suc i) xs) (subst (AllByRecursion P) (split_here xs i x inside is) all)).0

pub served_here : (xs : Entries HeldFile) (i : ℕ) (x : List (List ℕ) × Entry HeldFile) → i < length xs → x ≡ get_or xs i x → AllByRecursion IsServed (files_of xs) → AllByRecursion IsServed (files_in x.1)
served_here xs i x inside is all =
    all_prefix IsServed (files_in x.1) (files_of (drop (suc i) xs))
    (all_back IsServed (files_of (take i xs)) (files_in x.1 ++ files_of (drop (suc i) xs))
    (subst (AllByRecursion IsServed) (files_split (λ e. files_in e.1) xs i x inside is) all))

-- the sums are within the bounds of the whole
pub number_fits : (whole xs ys zs : List HeldFile) (m n most : ℕ) → whole ≡ xs ++ (ys ++ zs) → m ≡ length xs → n ≡ length ys → length whole < most → m + n < most
number_fits whole xs ys zs m n most is first second bound =
    let all = ap length is ∙ length-append xs (ys ++ zs) in
    omega (arith, length-append ys zs)

pub bytes_fit : (whole xs ys zs : List HeldFile) (m n most : ℕ) → whole ≡ xs ++ (ys ++ zs) → m ≡ sizes_of xs → n ≡ sizes_of ys → sizes_of whole < most → m + n < most
bytes_fit whole xs ys zs m n most is first second bound =
    let all = ap sizes_of is ∙ sum_by-append (λ (held : HeldFile). held.stamp.size) xs (ys ++ zs) in
    omega (arith, sum_by-append (λ (held : HeldFile). held.stamp.size) ys zs)

one_entry : (e : Entry HeldFile) → length (files_in e) ≤ 1
one_entry (Dir attributes) = omega arith
one_entry (Opaque attributes) = omega arith
one_entry (File attributes held) = omega arith
one_entry (Link owner target) = omega arith
one_entry Hide = omega arith

-- entries have no more files than they are
length-files_of : (es : Entries HeldFile) → length (files_of es) ≤ length es
length-files_of [] = omega arith
length-files_of (x ∷ es) =
    let rest = length-files_of es in
    let one = one_entry x.1 in
    omega (arith, length-append (files_in x.1) (files_of es))

bytes_of_one : (e : Entry HeldFile) → sizes_of (files_in e) ≡ bytes_of e
bytes_of_one (Dir attributes) = refl
bytes_of_one (Opaque attributes) = refl
bytes_of_one (File attributes held) = omega arith
bytes_of_one (Link owner target) = refl
bytes_of_one Hide = refl

-- and as many bytes
sizes_of-files_of : (es : Entries HeldFile) → sizes_of (files_of es) ≡ all_bytes es
sizes_of-files_of [] = refl
sizes_of-files_of (x ∷ es) =
    let rest = sizes_of-files_of es in
    let one = bytes_of_one x.1 in
    let left = sum_by-append (λ (held : HeldFile). held.stamp.size) (files_in x.1) (files_of es) in
    let right = sum_by-cons (λ (e : List (List ℕ) × Entry HeldFile). bytes_of e.1) x es in
    omega arith

pub few_files : (es pairs : Entries HeldFile) → pairs ≡ es → length es ≤ 262144 → length (files_of pairs) < 2 ^ 64
few_files es pairs same few = subst (λ l. length (files_of l) < 2 ^ 64) (sym same) (let count = length-files_of es in omega arith)

pub few_bytes : (es pairs : Entries HeldFile) → pairs ≡ es → all_bytes es ≤ 4294967296 → sizes_of (files_of pairs) < 2 ^ 64
few_bytes es pairs same few = subst (λ l. sizes_of (files_of l) < 2 ^ 64) (sym same) (let sum = sizes_of-files_of es in omega arith)

pub length-both : (root lower : Entries HeldFile) → AreCounted root lower → length (files_of_both root lower) ≤ 262144
length-both root lower counted =
    let seen = length-files_of root in
    let under = length-files_of lower in
    omega (arith, length-append (files_of root) (files_of lower), counted.entries)

pub sizes_of-both : (root lower : Entries HeldFile) → AreCounted root lower → sizes_of (files_of_both root lower) ≤ 4294967296
sizes_of-both root lower counted =
    let seen = sizes_of-files_of root in
    let under = sizes_of-files_of lower in
    omega (arith, sum_by-append (λ (held : HeldFile). held.stamp.size) (files_of root) (files_of lower), counted.bytes)

pub length-pasts : (pasts : List Past) → AllByRecursion MayCheckPast pasts → length (flat_map files_of_past pasts) ≤ 262144 * length pasts
length-pasts [] may = omega arith
length-pasts (past ∷ pasts) may =
    let rest = length-pasts pasts may.1 in
    let one = length-both past.root past.lower may.0.counted in
    omega (arith, length-append (files_of_past past) (flat_map files_of_past pasts))

pub sizes_of-pasts : (pasts : List Past) → AllByRecursion MayCheckPast pasts → sizes_of (flat_map files_of_past pasts) ≤ 4294967296 * length pasts
sizes_of-pasts [] may = omega arith
sizes_of-pasts (past ∷ pasts) may =
    let rest = sizes_of-pasts pasts may.1 in
    let one = sizes_of-both past.root past.lower may.0.counted in
    omega (arith, sum_by-append (λ (held : HeldFile). held.stamp.size) (files_of_past past) (flat_map files_of_past pasts))

slice_get-after : {X : Type 0} (seen : List X) (x : X) (xs : List X) → slice_get (seen ++ x ∷ xs) (length seen) ≡ Some x
slice_get-after [] x xs = refl
slice_get-after (f ∷ seen) x xs = slice_get-after seen x xs

entry_served : (whole : Entries HeldFile) (path : List (List ℕ)) (e : Entry HeldFile) → find path_cmp path whole ≡ Some e → ((held : HeldFile) → HasFile whole held → IsServed held) → AllByRecursion IsServed (files_in e)
entry_served whole path (Dir attributes) stands each = tt
entry_served whole path (Opaque attributes) stands each = tt
entry_served whole path (File attributes held) stands each = (each held (record { path = path; attributes = attributes; stands = stands }), tt)
entry_served whole path (Link owner target) stands each = tt
entry_served whole path Hide stands each = tt

files_served : (seen es : Entries HeldFile) → IsTrue (is_sorted path_cmp (seen ++ es)) → ((held : HeldFile) → HasFile (seen ++ es) held → IsServed held) → AllByRecursion IsServed (files_of es)
files_served seen [] sorted each = tt
files_served seen (x ∷ es) sorted each =
    let whole : (seen ++ x ∷ []) ++ es ≡ seen ++ x ∷ es = append_assoc seen (x ∷ []) es in
    all_append IsServed (files_in x.1) (files_of es)
    (entry_served (seen ++ x ∷ es) x.0 x.1 (find_there path_cmp paths_total (seen ++ x ∷ es) (length seen) x sorted (slice_get-after seen x es)) each)
    (files_served (seen ++ x ∷ []) es (subst (λ l. IsTrue (is_sorted path_cmp l)) (sym whole) sorted) (λ held has. each held (subst (λ l. HasFile l held) whole has)))

-- the files of a tree among some that are served
pub tree_served : (trees : List (Entries HeldFile)) (es pairs : Entries HeldFile) → AreServed trees → Contains trees es → IsTreeWithin es → pairs ≡ es → AllByRecursion IsServed (files_of pairs)
tree_served trees es pairs served among tree same =
    subst (λ l. AllByRecursion IsServed (files_of l)) (sym same)
    (files_served [] es tree.tree.sorted (λ held has. served held (record { tree = es; among = among; file = has })))

-- the first of two trees is among them, and so is the second
pub first_among : {X : Type 0} (x : X) (xs : List X) → Contains (x ∷ xs) x
first_among x xs = (0, omega arith, refl)

pub second_among : {X : Type 0} (x y : X) (xs : List X) → Contains (x ∷ y ∷ xs) y
second_among x y xs = (1, omega arith, refl)

-- the sums of both are in range
pub both_files : (root lower pairs more : Entries HeldFile) (m n : ℕ) → AreCounted root lower → pairs ≡ root → more ≡ lower → m ≡ length (files_of pairs) → n ≡ length (files_of more) → m + n < 2 ^ 64
both_files root lower pairs more m n counted first second seen under =
    let whole = length-both root lower counted in
    let one = seen ∙ ap (λ l. length (files_of l)) first in
    let two = under ∙ ap (λ l. length (files_of l)) second in
    omega (arith, length-append (files_of root) (files_of lower))

pub both_bytes : (root lower pairs more : Entries HeldFile) (m n : ℕ) → AreCounted root lower → pairs ≡ root → more ≡ lower → m ≡ sizes_of (files_of pairs) → n ≡ sizes_of (files_of more) → m + n < 2 ^ 64
both_bytes root lower pairs more m n counted first second seen under =
    let whole = sizes_of-both root lower counted in
    let one = seen ∙ ap (λ l. sizes_of (files_of l)) first in
    let two = under ∙ ap (λ l. sizes_of (files_of l)) second in
    omega (arith, sum_by-append (λ (held : HeldFile). held.stamp.size) (files_of root) (files_of lower))

pub few_of_pasts : (pasts : List Past) → AllByRecursion MayCheckPast pasts → length pasts ≤ 16 → length (flat_map files_of_past pasts) < 2 ^ 64
few_of_pasts pasts may few = let count = length-pasts pasts may in omega arith

pub small_of_pasts : (pasts : List Past) → AllByRecursion MayCheckPast pasts → length pasts ≤ 16 → sizes_of (flat_map files_of_past pasts) < 2 ^ 64
small_of_pasts pasts may few = let sum = sizes_of-pasts pasts may in omega arith

-- what a host has at one time is within its limits
counted_tree : (hierarchies : Hierarchies) (tree : HostTree) → IsValidTree hierarchies tree → AreCounted tree.root tree.lower
counted_tree hierarchies tree valid = record { entries = valid.limits.entries; bytes = valid.limits.bytes }

served_first : (xs ys : List (Entries HeldFile)) → AreServed (xs ++ ys) → AreServed xs
served_first xs ys served = λ held is. served held (record { tree = is.tree; among = Contains-append_left xs ys is.tree is.among; file = is.file })

served_last : (xs ys : List (Entries HeldFile)) → AreServed (xs ++ ys) → AreServed ys
served_last xs ys served = λ held is. served held (record { tree = is.tree; among = Contains-append_right xs ys is.tree is.among; file = is.file })

abbrev trees_of_pasts : List Past → List (Entries HeldFile)
trees_of_pasts pasts = flat_map (λ past. past.root ∷ past.lower ∷ []) pasts

pasts_may : (hierarchies : Hierarchies) (pasts : List Past) → AllByRecursion (λ past. IsValidTree hierarchies (past_tree past)) pasts → AreServed (trees_of_pasts pasts) → AllByRecursion MayCheckPast pasts
pasts_may hierarchies [] valid served = tt
pasts_may hierarchies (past ∷ pasts) valid served = (
  record {
    counted = counted_tree hierarchies (past_tree past) valid.0;
    served = served_first (past.root ∷ past.lower ∷ []) (trees_of_pasts pasts) served;
  },
  pasts_may hierarchies pasts valid.1 (served_last (past.root ∷ past.lower ∷ []) (trees_of_pasts pasts) served),
)

-- the conditions of both parts
pub may_check_present : (host : Host) → IsValidHost host → AreCounted host.root host.lower
may_check_present host valid = counted_tree (hierarchies_in host) (present host) valid.present

pub served_present : (host : Host) → AreServed (trees_of host) → AreServed (host.root ∷ host.lower ∷ [])
served_present host served = served_first (host.root ∷ host.lower ∷ []) (trees_of_pasts host.past) served

pub may_check_pasts : (host : Host) (pasts : List Past) → pasts ≡ host.past → IsValidHost host → AreServed (trees_of host) → AllByRecursion MayCheckPast pasts
may_check_pasts host pasts same valid served =
    subst (AllByRecursion MayCheckPast) (sym same)
    (pasts_may (hierarchies_in host) host.past valid.past (served_last (host.root ∷ host.lower ∷ []) (trees_of_pasts host.past) served))

-- the sums of both are in range
pub host_files : (host : Host) (pasts : List Past) (m n : ℕ) → AreCounted host.root host.lower → AllByRecursion MayCheckPast pasts → length pasts ≤ 16 → m ≡ length (files_of_both host.root host.lower) → n ≡ length (flat_map files_of_past pasts) → m + n < 2 ^ 64
host_files host pasts m n counted may few first second =
    let one = length-both host.root host.lower counted in
    let two = length-pasts pasts may in
    omega arith

pub host_bytes : (host : Host) (pasts : List Past) (m n : ℕ) → AreCounted host.root host.lower → AllByRecursion MayCheckPast pasts → length pasts ≤ 16 → m ≡ sizes_of (files_of_both host.root host.lower) → n ≡ sizes_of (flat_map files_of_past pasts) → m + n < 2 ^ 64
host_bytes host pasts m n counted may few first second =
    let one = sizes_of-both host.root host.lower counted in
    let two = sizes_of-pasts pasts may in
    omega arith

pub few_pasts : (host : Host) (pasts : List Past) → pasts ≡ host.past → IsValidHost host → length pasts ≤ 16
few_pasts host pasts same valid = subst (λ (l : List Past). length l ≤ 16) (sym same) valid.past_count
