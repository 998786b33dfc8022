-- Where each file of a host that has its homes is kept, and which bytes were written there.
use Rattle.std.proofs.Common.{◌≡◌, ℕ, zero, suc, ◌+◌, ◌^◌, ◌<◌, ◌≤◌, true, false, cond, List, [], ◌∷◌, ◌++◌, length, Some, None, refl, sym, ap, ◌∙◌, subst, inl, inr, arith}
use Rattle.std.specs.Prelude.{slice_get, decimal}
use Rattle.std.specs.Option.{is_some}
use Rattle.std.specs.Ordering.{eq_by_cmp}
use Rattle.std.proofs.lemmas.Bool.{false≢true}
use Rattle.ext_attributes.specs.Attributes.{OfFile}
use Rattle.ext_depot.specs.Depot.{DepotState}
use Rattle.ext_text.specs.Path.{path_cmp}
use Rattle.ext_tree.specs.Tree.{Entries, lookup}
use Rattle.ext_tree.specs.declared.entry.Entry.{Entry}
use Rattle.ext_tree.specs.declared.entry.Entry.TheVariants.{Dir, Opaque, File, Link, Hide}
use Rattle.ext_tree.specs.declared.stamp.Stamp.{Stamp}
use Rattle.ext_host.specs.Held.{HeldFile, IsStampOf}
use Rattle.ext_host.specs.Shelf as shelf
use Rattle.ext_host.specs.declared.body.Body.{Body}
use Rattle.ext_host.specs.declared.body.Body.TheVariants.{Here, Kept, Depot}
use Rattle.ext_host.specs.declared.home.Home.{Home}
use Rattle.ext_index_lines.specs.Homes.{home_of}
use Rattle.ext_homes.specs.Placed.{Stored, TakesHome, IsBodyPlaced, IsEntryPlaced, ArePlaced}
use Rattle.ext_gen.proofs.PreparingIndexLemmas.{IsNoLonger, EntryNoLonger, AreNoLonger, fewer_digits}

-- a file as the host has it now: it is one that was kept, at its path; or it has a home that was listed; or it was written under a
-- number, and its bytes have its stamp
pub data IsOrigin (old : Stored) (n : ℕ) (kept : HeldFile → Type 0) (next : ℕ) (written : List (List ℕ)) (held : HeldFile) : Type 0 where
  stayed : (home : Home) → held.body ≡ Kept home → kept held → IsOrigin old n kept next written held
  listed : (home : Home) → held.body ≡ Kept home → old.lists held.stamp home → IsOrigin old n kept next written held
  new : (k : ℕ) (bytes : List ℕ) → held.body ≡ Kept (record { generation = n; file = next + k }) → slice_get written k ≡ Some bytes → IsStampOf bytes held.stamp
      → IsOrigin old n kept next written held

taken_origin : (old : Stored) (n : ℕ) (kept : HeldFile → Type 0) (stamp : Stamp) (brought : shelf.Told) (next : ℕ) (home : Home) (written : List (List ℕ)) (held : HeldFile)
    → held ≡ record { stamp = stamp; body = Kept home } → TakesHome old n stamp brought next home written → IsOrigin old n kept next written held
taken_origin old n kept stamp brought next home written held is (inl least) =
    listed home (ap (λ (h : HeldFile). h.body) is) (subst (λ s. old.lists s home) (ap (λ (h : HeldFile). h.stamp) (sym is)) least.0.listed)
taken_origin old n kept stamp brought next home written held is (inr one) =
    let bytes = one.2 in
    let body : held.body ≡ Kept (record { generation = n; file = next + 0 }) =
    ap (λ (h : HeldFile). h.body) is ∙ ap Kept (one.1 ∙ (λ i. record { generation = n; file = sym (Rattle.std.proofs.Common.add-zero next) i })) in
    new 0 bytes.0 body (ap (λ (l : List (List ℕ)). slice_get l 0) bytes.3) (subst (IsStampOf bytes.0) (ap (λ (h : HeldFile). h.stamp) (sym is)) bytes.2)

body_origin : (old : Stored) (depot : DepotState) (n : ℕ) (kept : HeldFile → Type 0) (before : HeldFile) (body : Body) (next : ℕ) (held : HeldFile) (written : List (List ℕ)) → before.body ≡ body
    → kept before → IsBodyPlaced old depot n before body next held written → IsOrigin old n kept next written held
body_origin old depot n kept before (Here bytes) next held written same was is = taken_origin old n kept before.stamp _ next is.0 written held is.2 is.1
body_origin old depot n kept before (Kept home) next held written same was is =
    stayed home (ap (λ (h : HeldFile). h.body) is.0 ∙ same) (subst kept (sym is.0) was)
body_origin old depot n kept before (Depot path) next held written same was is = taken_origin old n kept before.stamp _ next is.0 written held is.2 is.1

none_is : {X : Type 0} (x : X) → None ≡ Some x → ⊥
none_is x same = false≢true (ap is_some same)

some_is : {X : Type 0} (x y : X) → Some x ≡ Some y → x ≡ y
some_is x y same = cc

file_is : (m : OfFile) (attributes : OfFile) (a b : HeldFile) → File m a ≡ File attributes b → a ≡ b
file_is m attributes a b same = ap held_in same
  where
    held_in : Entry HeldFile → HeldFile
    held_in (Dir k) = a
    held_in (Opaque k) = a
    held_in (File k h) = h
    held_in (Link owner t) = a
    held_in Hide = a

get_first : (first rest : List (List ℕ)) (k : ℕ) (bytes : List ℕ) → slice_get first k ≡ Some bytes → slice_get (first ++ rest) k ≡ Some bytes
get_first [] rest k bytes is = absurd (none_is bytes is)
get_first (b ∷ first) rest zero bytes is = is
get_first (b ∷ first) rest (suc k) bytes is = get_first first rest k bytes is

get_rest : (first rest : List (List ℕ)) (k : ℕ) (bytes : List ℕ) → slice_get rest k ≡ Some bytes → slice_get (first ++ rest) (length first + k) ≡ Some bytes
get_rest [] rest k bytes is = ap (λ j. slice_get rest j) (Rattle.std.proofs.Common.zero-add k) ∙ is
get_rest (b ∷ first) rest k bytes is =
    let one : length (b ∷ first) + k ≡ suc (length first + k) = omega arith in
    ap (λ j. slice_get (b ∷ (first ++ rest)) j) one ∙ get_rest first rest k bytes is

-- of the first files, and of those after them
pub origin_first : (old : Stored) (n : ℕ) (kept more : HeldFile → Type 0) (next : ℕ) (first rest written : List (List ℕ)) (held : HeldFile) → written ≡ first ++ rest → ((h : HeldFile) → kept h → more h)
    → IsOrigin old n kept next first held → IsOrigin old n more next written held
origin_first old n kept more next first rest written held parts wider (stayed home body was) = stayed home body (wider held was)
origin_first old n kept more next first rest written held parts wider (listed home body lists) = listed home body lists
origin_first old n kept more next first rest written held parts wider (new k bytes body at stamp) =
    new k bytes body (ap (λ l. slice_get l k) parts ∙ get_first first rest k bytes at) stamp

pub origin_rest : (old : Stored) (n : ℕ) (kept more : HeldFile → Type 0) (next : ℕ) (first rest written : List (List ℕ)) (held : HeldFile) → written ≡ first ++ rest → ((h : HeldFile) → kept h → more h)
    → IsOrigin old n kept (next + length first) rest held → IsOrigin old n more next written held
origin_rest old n kept more next first rest written held parts wider (stayed home body was) = stayed home body (wider held was)
origin_rest old n kept more next first rest written held parts wider (listed home body lists) = listed home body lists
origin_rest old n kept more next first rest written held parts wider (new k bytes body at stamp) =
    let number : (next + length first) + k ≡ next + (length first + k) = omega arith in
    new (length first + k) bytes (body ∙ ap Kept (λ i. record { generation = n; file = number i })) (ap (λ l. slice_get l (length first + k)) parts ∙ get_rest first rest k bytes at) stamp

-- a file of the entry
entry_origin : (old : Stored) (depot : DepotState) (n : ℕ) (kept : HeldFile → Type 0) (e : Entry HeldFile) (next : ℕ) (f : Entry HeldFile) (written : List (List ℕ)) (attributes : OfFile) (held : HeldFile)
    → ((m : OfFile) (h : HeldFile) → e ≡ File m h → kept h) → IsEntryPlaced old depot n e next f written → f ≡ File attributes held → IsOrigin old n kept next written held
entry_origin old depot n kept (Dir m) next f written attributes held was is same = cc
entry_origin old depot n kept (Opaque m) next f written attributes held was is same = cc
entry_origin old depot n kept (File m before) next f written attributes held was is same =
    subst (IsOrigin old n kept next written) (file_is m attributes is.0 held (sym is.2 ∙ same)) (body_origin old depot n kept before before.body next is.0 written refl (was m before refl) is.1)
entry_origin old depot n kept (Link owner t) next f written attributes held was is same = cc
entry_origin old depot n kept Hide next f written attributes held was is same = cc

-- where each file of a tree that has its homes is kept
pub tree_origin : (old : Stored) (depot : DepotState) (n : ℕ) (es : Entries HeldFile) (next : ℕ) (fs : Entries HeldFile) (written : List (List ℕ)) (p : List (List ℕ)) (attributes : OfFile) (held : HeldFile)
    → ArePlaced old depot n es next fs written → lookup fs p ≡ Some (File attributes held) → IsOrigin old n (λ h. (m : OfFile) × (lookup es p ≡ Some (File m h))) next written held
tree_origin old depot n [] next fs written p attributes held is found = absurd (none_is (File attributes held) (sym (ap (λ l. lookup l p) is.0) ∙ found))
tree_origin old depot n (x ∷ es) next fs written p attributes held (e, more, first, rest, one, two, same, parts) found =
    let after = tree_origin old depot n es (next + length first) more rest p attributes held two in
    elim (eq_by_cmp path_cmp p x.0) as (λ b. cond b (Some e) (lookup more p) ≡ Some (File attributes held) → IsOrigin old n (λ h. (m : OfFile) × (cond b (Some x.1) (lookup es p) ≡ Some (File m h))) next written held) [
      | true ↦ λ h. origin_first old n (λ f. (m : OfFile) × (x.1 ≡ File m f)) (λ f. (m : OfFile) × (Some x.1 ≡ Some (File m f))) next first rest written held parts (λ f was. (was.0, ap Some was.1))
          (entry_origin old depot n (λ f. (m : OfFile) × (x.1 ≡ File m f)) x.1 next e first attributes held (λ m f is. (m, is)) one (some_is e (File attributes held) h))
      | false ↦ λ h. origin_rest old n (λ f. (m : OfFile) × (lookup es p ≡ Some (File m f))) (λ f. (m : OfFile) × (lookup es p ≡ Some (File m f))) next first rest written held parts (λ f was. was) (after h)
    ] (sym (ap (λ l. lookup l p) same) ∙ found)

taken_digits : (old : Stored) (n : ℕ) (stamp : Stamp) (brought : shelf.Told) (next : ℕ) (home : Home) (written : List (List ℕ)) → ((s : Stamp) (h : Home) → old.lists s h → h.generation < n) → n < 2 ^ 64
    → TakesHome old n stamp brought next home written → length (decimal home.generation) ≤ length (decimal n)
taken_digits old n stamp brought next home written earlier small (inl least) = fewer_digits home.generation n (let before = earlier stamp home least.0.listed in omega arith) small
taken_digits old n stamp brought next home written earlier small (inr one) = fewer_digits home.generation n (omega (arith, ap (λ (h : Home). h.generation) one.1)) small

body_digits : (old : Stored) (depot : DepotState) (n : ℕ) (before : HeldFile) (body : Body) (next : ℕ) (held : HeldFile) (written : List (List ℕ)) → ((s : Stamp) (h : Home) → old.lists s h → h.generation < n)
    → n < 2 ^ 64 → before.body ≡ body → IsBodyPlaced old depot n before body next held written → IsNoLonger n n held before
body_digits old depot n before (Here bytes) next held written earlier small same is = record {
  stamp = ap (λ (h : HeldFile). h.stamp) is.2;
  digits = subst (λ b. length (decimal (home_of n held.body).generation) ≤ length (decimal (home_of n b).generation)) (sym same)
      (subst (λ b. length (decimal (home_of n b).generation) ≤ length (decimal n)) (ap (λ (h : HeldFile). h.body) (sym is.2)) (taken_digits old n before.stamp _ next is.0 written earlier small is.1));
}
body_digits old depot n before (Kept home) next held written earlier small same is = record {
  stamp = ap (λ (h : HeldFile). h.stamp) is.0;
  digits = subst (λ h. length (decimal (home_of n h.body).generation) ≤ length (decimal (home_of n before.body).generation)) (sym is.0) (omega arith);
}
body_digits old depot n before (Depot path) next held written earlier small same is = record {
  stamp = ap (λ (h : HeldFile). h.stamp) is.2;
  digits = subst (λ b. length (decimal (home_of n held.body).generation) ≤ length (decimal (home_of n b).generation)) (sym same)
      (subst (λ b. length (decimal (home_of n b).generation) ≤ length (decimal n)) (ap (λ (h : HeldFile). h.body) (sym is.2)) (taken_digits old n before.stamp _ next is.0 written earlier small is.1));
}

entry_digits : (old : Stored) (depot : DepotState) (n : ℕ) (e : Entry HeldFile) (next : ℕ) (f : Entry HeldFile) (written : List (List ℕ)) → ((s : Stamp) (h : Home) → old.lists s h → h.generation < n)
    → n < 2 ^ 64 → IsEntryPlaced old depot n e next f written → EntryNoLonger n n f e
entry_digits old depot n (Dir m) next f written earlier small is = subst (λ x. EntryNoLonger n n x (Dir m)) (sym is.0) refl
entry_digits old depot n (Opaque m) next f written earlier small is = subst (λ x. EntryNoLonger n n x (Opaque m)) (sym is.0) refl
entry_digits old depot n (File m before) next f written earlier small is =
    subst (λ x. EntryNoLonger n n x (File m before)) (sym is.2) (before, refl, body_digits old depot n before before.body next is.0 written earlier small refl is.1)
entry_digits old depot n (Link owner t) next f written earlier small is = subst (λ x. EntryNoLonger n n x (Link owner t)) (sym is.0) refl
entry_digits old depot n Hide next f written earlier small is = subst (λ x. EntryNoLonger n n x Hide) (sym is.0) refl

-- the entries have lines that are no longer
pub placed_digits : (old : Stored) (depot : DepotState) (n : ℕ) (es : Entries HeldFile) (next : ℕ) (fs : Entries HeldFile) (written : List (List ℕ)) → ((s : Stamp) (h : Home) → old.lists s h → h.generation < n)
    → n < 2 ^ 64 → ArePlaced old depot n es next fs written → AreNoLonger n n fs es
placed_digits old depot n [] next fs written earlier small is = subst (λ l. AreNoLonger n n l []) (sym is.0) refl
placed_digits old depot n (x ∷ es) next fs written earlier small (e, more, first, rest, one, two, same, parts) =
    subst (λ l. AreNoLonger n n l (x ∷ es)) (sym same)
    (x.1, es, refl, entry_digits old depot n x.1 next e first earlier small one, placed_digits old depot n es (next + length first) more rest earlier small two)
