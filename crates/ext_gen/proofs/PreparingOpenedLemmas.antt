-- The coming generation is one of a store: its host is valid, and there is an index of it.
use Rattle.std.proofs.Common.{◌≡◌, ◌⊎◌, ℕ, zero, suc, ◌+◌, ◌^◌, ◌<◌, ◌≤◌, Bool, true, false, List, [], ◌∷◌, length, Option, Some, None, IfSome, refl, sym, ap, ◌∙◌, subst, inl, inr, arith}
use Rattle.std.specs.Prelude.{slice_get}
use Rattle.std.specs.List.{Contains}
use Rattle.std.specs.Option.{is_some}
use Rattle.std.proofs.lemmas.Bool.{false≢true}
use Rattle.ext_attributes.specs.Attributes.{OfFile}
use Rattle.ext_depot.specs.Depot.{DepotState}
use Rattle.ext_disk.specs.Disk.{DiskState}
use Rattle.ext_tree.specs.Tree.{Entries, lookup}
use Rattle.ext_tree.specs.declared.entry.Entry.TheVariants.{File}
use Rattle.ext_tree.specs.declared.stamp.Stamp.{Stamp}
use Rattle.ext_host.specs.Drawn.{AreDrawnFrom, HasFile, IsFileOf, trees_of}
use Rattle.ext_host.specs.Held.{HeldFile, IsStampOf}
use Rattle.ext_host.specs.Valid.{IsValidHost}
use Rattle.ext_host.specs.declared.body.Body.{Body}
use Rattle.ext_host.specs.declared.body.Body.TheVariants.{Here, Kept, Depot}
use Rattle.ext_host.specs.declared.home.Home.{Home}
use Rattle.ext_host.specs.declared.host.Host.{Host}
use Rattle.ext_host.proofs.ForCallers.{one_stamp}
use Rattle.ext_index_lines.specs.declared.text_number.TextNumber.TheVariants.{One, Later}
use Rattle.ext_index.specs.ValidIndex.{IsHomeUpTo, IsKeptUpTo, IsWellFormed, most_index_bytes, written_index, written_number, written_text}
use Rattle.ext_index.proofs.ForCallers.{written_is_told}
use Rattle.ext_store_files.specs.Names.{IsGeneration}
use Rattle.ext_homes.specs.Brought.{is_brought}
use Rattle.ext_homes.specs.Giving.{lists_kept, stored_by, trees_before}
use Rattle.ext_homes.specs.Placed.{Stored, IsHostPlaced}
use Rattle.ext_gen.specs.Opened.{Generation, IsOpened}
use Rattle.ext_gen.specs.Preparing.{ArePastBefore, BringNone, coming_number, host_before, trees_of_pasts}
use Rattle.ext_gen.specs.PreparingIndex.{coming_index}
use Rattle.ext_gen.proofs.OpenedLemmas.{opened_is_valid_for}
use Rattle.ext_gen.proofs.PreparingFilesLemmas.{no_file_of_none, opened_home}
use Rattle.ext_gen.proofs.PreparingIndexLemmas.{AreNoLonger, index_within}
use Rattle.ext_gen.proofs.PreparingOriginLemmas.{IsOrigin, stayed, listed, new, origin_first, origin_rest, placed_digits, tree_origin}
use Rattle.ext_gen.proofs.PreparingPlacedLemmas.{host_count}
use Rattle.ext_gen.proofs.PreparingValidLemmas.{placed_is_valid}

pub coming_is : (n : ℕ) (host : Host) → coming_index n host ≡ written_index n host
unfolding coming_index
coming_is n host = refl

-- at a home that the host before lists with the file's stamp; or under a number in the coming generation, where bytes of its stamp
-- were written
pub data IsFrom (lists : Stamp → Home → Type 0) (n : ℕ) (written : List (List ℕ)) (held : HeldFile) : Type 0 where
  before : (home : Home) → held.body ≡ Kept home → lists held.stamp home → IsFrom lists n written held
  coming : (k : ℕ) (bytes : List ℕ) → held.body ≡ Kept (record { generation = n; file = k }) → slice_get written k ≡ Some bytes → IsStampOf bytes held.stamp → IsFrom lists n written held

first_of : (es : Entries HeldFile) (more : List (Entries HeldFile)) (held : HeldFile) → HasFile es held → IsFileOf (es ∷ more) held
first_of es more held file = record { tree = es; among = (zero, omega arith, refl); file = file }

after_first : (es : Entries HeldFile) (more : List (Entries HeldFile)) (held : HeldFile) → IsFileOf more held → IsFileOf (es ∷ more) held
after_first es more held is = record { tree = is.tree; among = (suc is.among.0, omega (arith, is.among.1), is.among.2); file = is.file }

-- a file of trees is one of the first, or of the others
file_side : (es : Entries HeldFile) (more : List (Entries HeldFile)) (held : HeldFile) → IsFileOf (es ∷ more) held → HasFile es held ⊎ IsFileOf more held
file_side es more held is = side is.tree is.among is.file
  where
    side : (tree : Entries HeldFile) → Contains (es ∷ more) tree → HasFile tree held → HasFile es held ⊎ IsFileOf more held
    side tree (zero, lt, same) file = inl (subst (λ t. HasFile t held) (sym same) file)
    side tree (suc k, lt, same) file = inr (record { tree = tree; among = (k, omega (arith, lt), same); file = file })

brings_none : (body : Body) → is_brought body ≡ false → (home : Home) × (body ≡ Kept home)
brings_none (Here bytes) none = absurd (false≢true (sym none))
brings_none (Kept home) none = (home, refl)
brings_none (Depot path) none = absurd (false≢true (sym none))

-- a kept file of trees is listed there
as_listed : (trees : List (Entries HeldFile)) (held : HeldFile) (home : Home) → held.body ≡ Kept home → IsFileOf trees held → lists_kept trees held.stamp home
as_listed trees held home body is = subst (IsFileOf trees) (λ i. record { stamp = held.stamp; body = body i }) is

module _ (trees : List (Entries HeldFile)) (next : Host) (drawn : AreDrawnFrom trees (trees_of next)) where
  -- one that was kept comes from the trees before
  was_before : (n : ℕ) (written : List (List ℕ)) (held : HeldFile) (home : Home) → held.body ≡ Kept home → IsFileOf (trees_of next) held → IsFrom (lists_kept trees) n written held
  was_before n written held home body is = before home body (as_listed trees held home body (drawn held home body is))

  of_origin : (old : Stored) (n number : ℕ) (written : List (List ℕ)) (es : Entries HeldFile) (p : List (List ℕ)) (held : HeldFile) → ((stamp : Stamp) (home : Home) → old.lists stamp home → lists_kept trees stamp home)
      → ((h : HeldFile) → HasFile es h → IsFileOf (trees_of next) h) → number ≡ 0
      → IsOrigin old n (λ h. (m : OfFile) × (lookup es p ≡ Some (File m h))) number written held → IsFrom (lists_kept trees) n written held
  of_origin old n number written es p held lists among start (stayed home body was) =
      was_before n written held home body (among held (record { path = p; attributes = was.0; stands = was.1 }))
  of_origin old n number written es p held lists among start (listed home body is) = before home body (lists held.stamp home is)
  of_origin old n number written es p held lists among start (new k bytes body at stamp) =
      let same : number + k ≡ k = omega (arith, start) in
      coming k bytes (body ∙ ap Kept (λ i. record { generation = n; file = same i })) at stamp

  -- each file of the coming host
  pub host_from : (old : Stored) (depot : DepotState) (n : ℕ) (host : Host) (written : List (List ℕ)) (held : HeldFile)
      → ((stamp : Stamp) (home : Home) → old.lists stamp home → lists_kept trees stamp home) → BringNone (trees_of_pasts next.past) → IsHostPlaced old depot n next host written
      → IsFileOf (trees_of host) held → IsFrom (lists_kept trees) n written held
  host_from old depot n host written held lists none (root, lower, (first, rest, one, two, parts), same) file = of_root (file_side root (lower ∷ trees_of_pasts next.past) held (subst (λ h. IsFileOf (trees_of h) held) same file))
    where
      of_lower : HasFile lower held ⊎ IsFileOf (trees_of_pasts next.past) held → IsFrom (lists_kept trees) n written held
      of_lower (inl is) =
          of_origin old n 0 written next.lower is.path held lists (λ h was. after_first next.root (next.lower ∷ trees_of_pasts next.past) h (first_of next.lower (trees_of_pasts next.past) h was)) refl
          (origin_rest old n _ (λ h. (m : OfFile) × (lookup next.lower is.path ≡ Some (File m h))) 0 first rest written held parts (λ h was. was)
          (tree_origin old depot n next.lower (0 + length first) lower rest is.path is.attributes held two is.stands))
      of_lower (inr is) =
          let kept = brings_none held.body (none held is) in
          was_before n written held kept.0 kept.1 (after_first next.root (next.lower ∷ trees_of_pasts next.past) held (after_first next.lower (trees_of_pasts next.past) held is))

      of_root : HasFile root held ⊎ IsFileOf (lower ∷ trees_of_pasts next.past) held → IsFrom (lists_kept trees) n written held
      of_root (inl is) =
          of_origin old n 0 written next.root is.path held lists (λ h was. first_of next.root (next.lower ∷ trees_of_pasts next.past) h was) refl
          (origin_first old n _ (λ h. (m : OfFile) × (lookup next.root is.path ≡ Some (File m h))) 0 first rest written held parts (λ h was. was)
          (tree_origin old depot n next.root 0 root first is.path is.attributes held one is.stands))
      of_root (inr is) = of_lower (file_side lower (trees_of_pasts next.past) held is)

pub before_home : (from : Option Generation) → IfSome from IsOpened → (stamp : Stamp) (home : Home) → lists_kept (trees_before (host_before from)) stamp home
    → IsHomeUpTo (coming_number from) home × (home.generation < coming_number from)
before_home None opened stamp home is = absurd (no_file_of_none _ is)
before_home (Some g) opened stamp home is =
    let within = opened_home g opened (record { stamp = stamp; body = Kept home }) home is refl in
    (record { first = within.first; last = omega (arith, within.last); file = within.file }, omega (arith, within.last))

pub same_home : (a b : Home) → Kept a ≡ Kept b → a ≡ b
same_home a b same = ap home_in same
  where
    home_in : Body → Home
    home_in (Here bytes) = a
    home_in (Kept home) = home
    home_in (Depot path) = a

pub get_within : (xs : List (List ℕ)) (k : ℕ) (x : List ℕ) → slice_get xs k ≡ Some x → k < length xs
get_within [] k x is = absurd (false≢true (ap is_some is))
get_within (y ∷ xs) zero x is = omega arith
get_within (y ∷ xs) (suc k) x is = let below = get_within xs k x is in omega arith

kept_up_to : (from : Option Generation) (n : ℕ) (written : List (List ℕ)) (held : HeldFile) → IfSome from IsOpened → n ≡ coming_number from → 0 < n → length written ≤ 262144
    → IsFrom (lists_kept (trees_before (host_before from))) n written held → IsKeptUpTo n held.body
kept_up_to from n written held opened number positive few (before home body is) =
    subst (IsKeptUpTo n) (sym body) (subst (λ k. IsHomeUpTo k home) (sym number) (before_home from opened held.stamp home is).0)
kept_up_to from n written held opened number positive few (coming k bytes body at stamp) =
    subst (IsKeptUpTo n) (sym body) (record { first = omega (arith, positive); last = omega arith; file = omega (arith, get_within written k bytes at, few) })

-- two files of one home have one stamp
before_agree : (from : Option Generation) → IfSome from IsOpened → (s t : Stamp) (home : Home) → lists_kept (trees_before (host_before from)) s home → lists_kept (trees_before (host_before from)) t home → s ≡ t
before_agree None opened s t home one two = absurd (no_file_of_none _ one)
before_agree (Some g) opened s t home one two = (opened_is_valid_for g opened).agree (record { stamp = s; body = Kept home }) (record { stamp = t; body = Kept home }) home one two refl refl

not_both : (from : Option Generation) (n k : ℕ) (home other : Home) (stamp : Stamp) → IfSome from IsOpened → n ≡ coming_number from → lists_kept (trees_before (host_before from)) stamp home → home ≡ other
    → other ≡ record { generation = n; file = k } → ⊥
not_both from n k home other stamp opened number is same made = absurd (omega (arith, (before_home from opened stamp home is).1, number, ap (λ (h : Home). h.generation) (same ∙ made)))

agree_from : (from : Option Generation) (n : ℕ) (written : List (List ℕ)) (a b : HeldFile) (home : Home) → IfSome from IsOpened → n ≡ coming_number from → a.body ≡ Kept home → b.body ≡ Kept home
    → IsFrom (lists_kept (trees_before (host_before from))) n written a → IsFrom (lists_kept (trees_before (host_before from))) n written b → a.stamp ≡ b.stamp
agree_from from n written a b home opened number at_a at_b (before one body_a is_a) (before two body_b is_b) =
    before_agree from opened a.stamp b.stamp home
    (subst (lists_kept (trees_before (host_before from)) a.stamp) (same_home one home (sym body_a ∙ at_a)) is_a)
    (subst (lists_kept (trees_before (host_before from)) b.stamp) (same_home two home (sym body_b ∙ at_b)) is_b)
agree_from from n written a b home opened number at_a at_b (before one body_a is_a) (coming k bytes body_b get stamp) =
    absurd (not_both from n k one home a.stamp opened number is_a (same_home one home (sym body_a ∙ at_a)) (same_home home _ (sym at_b ∙ body_b)))
agree_from from n written a b home opened number at_a at_b (coming k bytes body_a get stamp) (before two body_b is_b) =
    absurd (not_both from n k two home b.stamp opened number is_b (same_home two home (sym body_b ∙ at_b)) (same_home home _ (sym at_a ∙ body_a)))
agree_from from n written a b home opened number at_a at_b (coming k bytes body_a get stamp) (coming j other body_b got also) =
    let same : k ≡ j = ap (λ (h : Home). h.file) (same_home (record { generation = n; file = k }) (record { generation = n; file = j }) (sym body_a ∙ at_a ∙ sym at_b ∙ body_b)) in
    let content : bytes ≡ other = some_is bytes other (sym get ∙ ap (λ i. slice_get written i) same ∙ got) in
    one_stamp other a.stamp b.stamp (subst (λ x. IsStampOf x a.stamp) content stamp) also
  where
    some_is : (x y : List ℕ) → Some x ≡ Some y → x ≡ y
    some_is x y same = cc

-- the index of the coming host is no longer than it was counted
pub coming_is_shorter : (from : Option Generation) (n : ℕ) (next host : Host) (disk : DiskState) (depot : DepotState) (written : List (List ℕ)) → IfSome from IsOpened → n ≡ coming_number from → IsGeneration n
    → IsHostPlaced (stored_by (host_before from) disk) depot n next host written → length (coming_index n host) ≤ length (coming_index n next)
coming_is_shorter from n next host disk depot written opened number is (root, lower, (first, rest, one, two, parts), same) =
    let old = stored_by (host_before from) disk in
    let earlier : (s : Stamp) (h : Home) → old.lists s h → h.generation < n = λ s h listed. omega (arith, (before_home from opened s h listed).1, number) in
    let small : n < 2 ^ 64 = omega (arith, is.1) in
    subst (λ h. length (coming_index n h) ≤ length (coming_index n next)) (sym same)
    (index_within n n next root lower (omega arith) (placed_digits old depot n next.root 0 root first earlier small one) (placed_digits old depot n next.lower (0 + length first) lower rest earlier small two))

later_not_one : {owners : Bool} → Later owners ≡ One → ⊥
later_not_one same = cc

pub coming_is_opened : (from : Option Generation) (n : ℕ) (next host : Host) (disk : DiskState) (depot : DepotState) (written : List (List ℕ)) → IfSome from IsOpened → n ≡ coming_number from → IsGeneration n
    → IsValidHost next → AreDrawnFrom (trees_before (host_before from)) (trees_of next) → BringNone (trees_of_pasts next.past) → ArePastBefore n next.past → length (coming_index n next) ≤ most_index_bytes
    → IsHostPlaced (stored_by (host_before from) disk) depot n next host written → IsWellFormed host → IsOpened (record { number = n; text = written_text host; host = host })
coming_is_opened from n next host disk depot written opened number is valid drawn none past fits placed formed =
    let old = stored_by (host_before from) disk in
    let earlier : (s : Stamp) (h : Home) → old.lists s h → h.generation < n = λ s h listed. omega (arith, (before_home from opened s h listed).1, number) in
    let small : n < 2 ^ 64 = omega (arith, is.1) in
    let files : (held : HeldFile) → IsFileOf (trees_of host) held → IsFrom (lists_kept (trees_before (host_before from))) n written held =
    λ held file. host_from (trees_before (host_before from)) next drawn old depot n host written held (λ s h listed. listed) none placed file in
    let few = host_count old depot n next host written placed in
    let root : AreNoLonger n n placed.0 next.root = placed_digits old depot n next.root 0 placed.0 placed.2.0 earlier small placed.2.2 in
    let lower : AreNoLonger n n placed.1 next.lower = placed_digits old depot n next.lower (0 + length placed.2.0) placed.1 placed.2.1 earlier small placed.2.3 in
    let same : host ≡ record next { root = placed.0; lower = placed.1 } = placed.3 in
    let shorter : length (coming_index n host) ≤ length (coming_index n next) =
    subst (λ h. length (coming_index n h) ≤ length (coming_index n next)) (sym same) (index_within n n next placed.0 placed.1 (omega arith) root lower) in
    record {
      number = is;
      bytes = coming_index n host;
      index = (
        written_number host,
        refl,
        record {
          formed = formed;
          valid = record {
            valid = subst IsValidHost (sym same) (placed_is_valid n n next placed.0 placed.1 root lower valid);
            kept = λ held file. kept_up_to from n written held opened number is.0 (omega (arith, few, valid.present.limits.entries)) (files held file);
            agree = λ a b home file_a file_b at_a at_b. agree_from from n written a b home opened number at_a at_b (files a file_a) (files b file_b);
            past = subst (λ h. ArePastBefore n h.past) (sym same) past;
          };
          text = coming_is n host;
          told = written_is_told host;
          text_1 = λ one. absurd (later_not_one one);
          fits = omega (arith, shorter, fits);
        },
      );
    }
