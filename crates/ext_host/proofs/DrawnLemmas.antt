-- Where the files of what is made of trees come from.
use Rattle.std.proofs.Common.{◌≡◌, ℕ, suc, zero, Bool, true, false, cond, not, ◌&&◌, List, [], ◌∷◌, ◌++◌, length, drop, ◌⊎◌, inl, inr, Option, Some, None, is_some, refl, sym, ap, ◌∙◌, subst, arith}
use Rattle.std.proofs.lemmas.Bool.{and_parts, false≢true}
use Rattle.std.proofs.lemmas.List.Elements.{All-contains, All-from_recursion}
use Rattle.std.specs.Ordering.{eq_by_cmp}
use Rattle.std.specs.List.{AllByRecursion, Contains}
use Rattle.ext_attributes.specs.Attributes.{OfFile}
use Rattle.ext_text.specs.Path.{is_prefix, is_proper_prefix, path_cmp}
use Rattle.ext_tree.specs.Graft.{made, or_made}
use Rattle.ext_tree.specs.Refusals.{is_root}
use Rattle.ext_tree.specs.Tree.{Entries, is_directory, lookup}
use Rattle.ext_tree.proofs.ForCallers.{prefix_split}
use Rattle.ext_tree.specs.declared.entry.Entry.{Entry}
use Rattle.ext_tree.specs.declared.entry.Entry.TheVariants.{File}
use Rattle.ext_host.specs.Drawn.{AreDrawnFrom, HasFile, IsFileOf}
use Rattle.ext_host.specs.Held.{HeldFile}
use Rattle.ext_host.specs.Host.{hierarchies_in, is_in, merged_hierarchies, present}
use Rattle.ext_host.specs.Laws.{BaseIsDrawn, CutIsDrawn, DrawnFromItself, DrawnOneByOne, DrawnThrough, EntriesOfBase, EntriesOfCut, EntriesOfGraft, EntriesOfPart, GraftIsDrawn, PartIsDrawn, TreesAreDrawn, TreesDrawnThrough}

nothing_is : {X : Type 0} (x : X) → None ≡ Some x → ⊥
nothing_is x h = false≢true (ap is_some h)

-- a tree is drawn from itself
pub drawn_from_itself : DrawnFromItself
drawn_from_itself host held home kept file = file

-- what is drawn from a drawn tree is drawn from that one
pub drawn_through : DrawnThrough
drawn_through a b c first second held home kept file = first held home kept (second held home kept file)

pub entries_of_base : EntriesOfBase
entries_of_base host es path e is stands =
    elim (is_in (merged_hierarchies (hierarchies_in host) (present host)) path) as (λ b. cond b (lookup host.lower path) (lookup host.root path) ≡ Some e → (lookup host.root path ≡ Some e) ⊎ (lookup host.lower path ≡ Some e)) [
      | true ↦ λ h. inr h
      | false ↦ λ h. inl h
    ] (sym (is path) ∙ stands)

pub entries_of_part : {C : Type 0} → EntriesOfPart C
entries_of_part es part at path e is stands =
    elim (is_root path) as (λ b. cond b None (lookup es (at ++ path)) ≡ Some e → lookup es (at ++ path) ≡ Some e) [
      | true ↦ λ h. absurd (nothing_is e h)
      | false ↦ λ h. h
    ] (sym (is path) ∙ stands)

pub entries_of_cut : {C : Type 0} → EntriesOfCut C
entries_of_cut es rest at path e is stands =
    elim (is_prefix at path) as (λ b. cond b None (lookup es path) ≡ Some e → lookup es path ≡ Some e) [
      | true ↦ λ h. absurd (nothing_is e h)
      | false ↦ λ h. h
    ] (sym (is path) ∙ stands)

-- the first of some trees is among them, and so is the second
first_among : {X : Type 0} (x : X) (xs : List X) → Contains (x ∷ xs) x
first_among x xs = (zero, omega arith, refl)

second_among : {X : Type 0} (x y : X) (xs : List X) → Contains (x ∷ y ∷ xs) y
second_among x y xs = (suc zero, omega arith, refl)

-- a file of a single tree
of_one : (es : Entries HeldFile) (held : HeldFile) → IsFileOf (es ∷ []) held → HasFile es held
of_one es held is = subst (λ tree. HasFile tree held) (only is.tree is.among) is.file
  where
    only : (tree : Entries HeldFile) → Contains (es ∷ []) tree → tree ≡ es
    only tree (zero, lt, same) = sym same
    only tree (suc k, lt, same) = absurd (omega arith)

-- a host's base is drawn from its trees
pub base_is_drawn : BaseIsDrawn
base_is_drawn host es is held home kept file =
    let f = of_one es held file in
    elim (entries_of_base host es f.path (File f.attributes held) is f.stands) [
      | inl seen ↦ record { tree = host.root; among = first_among host.root (host.lower ∷ []); file = record { path = f.path; attributes = f.attributes; stands = seen } }
      | inr under ↦ record { tree = host.lower; among = second_among host.root host.lower []; file = record { path = f.path; attributes = f.attributes; stands = under } }
    ]

-- a part is drawn
pub part_is_drawn : PartIsDrawn
part_is_drawn es part at is held home kept file =
    let f = of_one part held file in
    record { tree = es; among = first_among es []; file = record { path = at ++ f.path; attributes = f.attributes; stands = entries_of_part es part at f.path (File f.attributes held) is f.stands } }

-- what is left is drawn
pub cut_is_drawn : CutIsDrawn
cut_is_drawn es rest at is held home kept file =
    let f = of_one rest held file in
    record { tree = es; among = first_among es []; file = record { path = f.path; attributes = f.attributes; stands = entries_of_cut es rest at f.path (File f.attributes held) is f.stands } }

some_same : {X : Type 0} (x y : X) → Some x ≡ Some y → x ≡ y
some_same x y h = cc

-- where the entry at a path comes from
abbrev Comes : {C : Type 0} → Entries C → Entries C → List (List ℕ) → List (List ℕ) → Entry C → Type 0
Comes es part at path e = (lookup es path ≡ Some e) ⊎ (((rest : List (List ℕ)) × (path ≡ at ++ rest) × (lookup part rest ≡ Some e)) ⊎ (e ≡ made))

-- an entry that stands, or else a made directory
stands_or_made : {C : Type 0} (es part : Entries C) (at path : List (List ℕ)) (found : Option (Entry C)) (e : Entry C) → lookup es path ≡ found → or_made found ≡ Some e → Comes es part at path e
stands_or_made es part at path None e is h = inr (inr (sym (some_same made e h)))
stands_or_made es part at path (Some f) e is h = inl (is ∙ h)

-- the entry, by the four cases of a path below the root
grafted_below : {C : Type 0} (es part : Entries C) (at path : List (List ℕ)) (e : Entry C) (below here above : Bool) → (below ≡ true → path ≡ at ++ drop (length at) path) → cond below (lookup part (drop (length at) path)) (cond here (Some made) (cond above (or_made (lookup es path)) (lookup es path))) ≡ Some e → Comes es part at path e
grafted_below es part at path e true here above split h = inr (inl (drop (length at) path, split refl, h))
grafted_below es part at path e false true above split h = inr (inr (sym (some_same made e h)))
grafted_below es part at path e false false true split h = stands_or_made es part at path (lookup es path) e refl h
grafted_below es part at path e false false false split h = inl h

pub entries_of_graft : {C : Type 0} → EntriesOfGraft C
entries_of_graft es part new [] path e is stands = inr (inl (path, refl, sym (is.each path) ∙ stands))
entries_of_graft es part new (n ∷ at) path e is stands =
    grafted_below es part (n ∷ at) path e (is_proper_prefix (n ∷ at) path) (eq_by_cmp path_cmp path (n ∷ at)) (is_proper_prefix path (n ∷ at) && not (is_root path))
    (λ below. prefix_split (n ∷ at) path (and_parts (is_prefix (n ∷ at) path) (not (is_prefix path (n ∷ at))) below).0)
    (sym (is.each path) ∙ stands)

file_not_made : (attributes : OfFile) (held : HeldFile) → File attributes held ≡ made → ⊥
file_not_made attributes held h = false≢true (ap is_directory h)

-- a tree with a graft is drawn from both
pub graft_is_drawn : GraftIsDrawn
graft_is_drawn es part new at is held home kept file =
    let f = of_one new held file in
    elim (entries_of_graft es part new at f.path (File f.attributes held) is f.stands) [
      | inl old ↦ record { tree = es; among = first_among es (part ∷ []); file = record { path = f.path; attributes = f.attributes; stands = old } }
      | inr (inl hung) ↦ record { tree = part; among = second_among es part []; file = record { path = hung.0; attributes = f.attributes; stands = hung.2 } }
      | inr (inr dir) ↦ absurd (file_not_made f.attributes held dir)
    ]

-- so are several trees
pub trees_drawn_through : TreesDrawnThrough
trees_drawn_through a b c first second held home kept file = first held home kept (second held home kept file)

-- what holds of each holds of one that is among them
one_of : {X : Type 0} (P : X → Type 0) (xs : List X) (x : X) → AllByRecursion P xs → Contains xs x → P x
one_of P xs x all among = All-contains P xs x (All-from_recursion P xs all) among

-- trees that are drawn one by one are drawn
pub drawn_one_by_one : DrawnOneByOne
drawn_one_by_one old new each held home kept file =
    one_of (λ es. AreDrawnFrom old (es ∷ [])) new file.tree each file.among held home kept
    (record { tree = file.tree; among = first_among file.tree []; file = file.file })

-- a host's trees are drawn from themselves
pub trees_are_drawn : TreesAreDrawn
trees_are_drawn old new each held home kept file =
    record { tree = file.tree; among = one_of (Contains old) new file.tree each file.among; file = file.file }
