-- What a store's trees have of which inodes tell is in its range.
use Rattle.std.proofs.Common.{◌≡◌, ℕ, suc, zero, ◌<◌, ◌^◌, List, [], ◌∷◌, Option, Some, None, length, refl, sym, ap, ◌∙◌, subst, arith}
use Rattle.std.specs.Prelude.{slice_get, slice_index_or}
use Rattle.std.specs.List.{AllByRecursion, Contains, flat_map}
use Rattle.std.proofs.lemmas.List.Elements.{All-contains, All-from_recursion}
use Rattle.ext_attributes.specs.Attributes.{OfFile}
use Rattle.ext_text.specs.Order.{paths_total}
use Rattle.ext_text.specs.Path.{path_cmp}
use Rattle.ext_tree.specs.Tree.{Entries, IsTree, IsTreeWithin, lookup}
use Rattle.ext_tree.specs.declared.entry.Entry.{Entry}
use Rattle.ext_tree.specs.declared.entry.Entry.TheVariants.{Dir, Opaque, File, Link, Hide}
use Rattle.ext_tree.proofs.ForCallers.{find_there}
use Rattle.ext_host.specs.Drawn.{trees_of}
use Rattle.ext_host.specs.Held.{HeldFile}
use Rattle.ext_host.specs.Host.{hierarchies_in, past_tree}
use Rattle.ext_host.specs.Valid.{AreInRange, IsValidTree}
use Rattle.ext_host.specs.declared.body.Body.{Body}
use Rattle.ext_host.specs.declared.body.Body.TheVariants.{Here, Kept, Depot}
use Rattle.ext_host.specs.declared.past.Past.{Past}
use Rattle.ext_index.specs.ValidIndex.{IsKeptUpTo, IsWellFormedTree}
use Rattle.ext_gen.specs.Opened.{Generation, IsOpened}
use Rattle.ext_gen.proofs.ForCallers.{opened_is_valid, opened_is_valid_for, opened_is_well_formed}
use Rattle.ext_erofs.specs.HomePath.{EntryHasGeneration, HasGeneration, homed_of}
use Rattle.ext_erofs.specs.Homed.{homed_entries}
use Rattle.ext_erofs.specs.Image.{FitsInode}
use Rattle.ext_erofs.proofs.ForCallers.{host_fits}
use Rattle.ext_mount.specs.Asking.{IsTreeAsked}

get_at : {X : Type 0} (xs : List X) (k : ℕ) (x : X) → k < length xs → slice_index_or xs k x ≡ x → slice_get xs k ≡ Some x
get_at [] k x within is = absurd (omega (arith, within))
get_at (y ∷ xs) zero x within is = ap Some is
get_at (y ∷ xs) (suc k) x within is = get_at xs k x (omega (arith, within)) is

-- what holds of each that is among some holds of each of them
each_among : {X : Type 0} (P : X → Type 0) (xs : List X) → ((x : X) → Contains xs x → P x) → AllByRecursion P xs
each_among P [] holds = tt
each_among P (x ∷ xs) holds = (holds x (zero, omega arith, refl), each_among P xs (λ y among. holds y (suc among.0, omega (arith, among.1), among.2)))

-- what holds of one that is among some
among_all : {X : Type 0} (P : X → Type 0) (xs : List X) (x : X) → AllByRecursion P xs → Contains xs x → P x
among_all P xs x all among = All-contains P xs x (All-from_recursion P xs all) among

kept_has_generation : (n : ℕ) (body : Body) → n < 2 ^ 32 → IsKeptUpTo n body → HasGeneration body
kept_has_generation n (Here bytes) number kept = absurd kept
kept_has_generation n (Kept home) number kept = omega (arith, number, kept.last)
kept_has_generation n (Depot path) number kept = absurd kept

entry_kept : (p : List (List ℕ)) (e : Entry HeldFile) → ((held : HeldFile) (attributes : OfFile) → e ≡ File attributes held → HasGeneration held.body) → EntryHasGeneration (p, e)
entry_kept p (Dir attributes) kept = tt
entry_kept p (Opaque attributes) kept = tt
entry_kept p (File attributes held) kept = kept held attributes refl
entry_kept p (Link owner target) kept = tt
entry_kept p Hide kept = tt

-- of a tree of an opened store
tree_fits : (g : Generation) (es : Entries HeldFile) → IsOpened g → IsTree es → AreInRange es → Contains (trees_of g.host) es → AllByRecursion FitsInode (homed_entries homed_of es)
tree_fits g es opened tree range among = host_fits es range (each_among EntryHasGeneration es one)
  where
    one : (x : List (List ℕ) × Entry HeldFile) → Contains es x → EntryHasGeneration x
    one x here =
        let stands : lookup es x.0 ≡ Some x.1 = find_there path_cmp paths_total es here.0 x tree.sorted (get_at es here.0 x here.1 here.2) in
        entry_kept x.0 x.1
        (λ held attributes is. kept_has_generation g.number held.body opened.number.1
        ((opened_is_valid_for g opened).kept held (record { tree = es; among = among; file = record { path = x.0; attributes = attributes; stands = stands ∙ ap (λ (e : Entry HeldFile). Some e) is } })))

-- the trees of past hosts are among the trees of a host
past_among : (pasts : List Past) (past : Past) → Contains pasts past → Contains (flat_map (λ (p : Past). p.root ∷ p.lower ∷ []) pasts) past.root
past_among [] past (k, within, is) = absurd (omega (arith, within))
past_among (p ∷ pasts) past (zero, within, is) = (zero, omega arith, ap (λ (q : Past). q.root) is)
past_among (p ∷ pasts) past (suc k, within, is) = let rest = past_among pasts past (k, omega (arith, within), is) in (suc (suc rest.0), omega (arith, rest.1), rest.2)

-- of the tree that is asked
pub asked_fits : (g : Generation) (mark : Option ℕ) (root : Entries HeldFile) → IsOpened g → IsTreeAsked g.host mark root → AllByRecursion FitsInode (homed_entries homed_of root)
asked_fits g None root opened is =
    subst (λ es. AllByRecursion FitsInode (homed_entries homed_of es)) (sym is)
    (tree_fits g g.host.root opened (opened_is_well_formed g opened).now.root (opened_is_valid g opened).present.limits.root (zero, omega arith, refl))
asked_fits g (Some generation) root opened (past, mark, is) =
    let formed = among_all (λ (p : Past). IsWellFormedTree (past_tree p)) g.host.past past (opened_is_well_formed g opened).past mark.among in
    let valid = among_all (λ (p : Past). IsValidTree (hierarchies_in g.host) (past_tree p)) g.host.past past (opened_is_valid g opened).past mark.among in
    let rest = past_among g.host.past past mark.among in
    subst (λ es. AllByRecursion FitsInode (homed_entries homed_of es)) (sym is)
    (tree_fits g past.root opened formed.root valid.limits.root (suc (suc rest.0), omega (arith, rest.1), rest.2))

-- the tree that is asked is one
pub asked_is_tree : (g : Generation) (mark : Option ℕ) (root : Entries HeldFile) → IsOpened g → IsTreeAsked g.host mark root → IsTreeWithin root
asked_is_tree g None root opened is =
    subst IsTreeWithin (sym is)
    (record { tree = (opened_is_well_formed g opened).now.root; count = (let most = (opened_is_valid g opened).present.limits.entries in omega (arith, most)) })
asked_is_tree g (Some generation) root opened (past, mark, is) =
    let formed = among_all (λ (p : Past). IsWellFormedTree (past_tree p)) g.host.past past (opened_is_well_formed g opened).past mark.among in
    let valid = among_all (λ (p : Past). IsValidTree (hierarchies_in g.host) (past_tree p)) g.host.past past (opened_is_valid g opened).past mark.among in
    let most = valid.limits.entries in
    subst IsTreeWithin (sym is) (record { tree = formed.root; count = omega (arith, most) })
