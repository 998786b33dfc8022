-- The parts of a listed host, and its past trees, lead on.
use Rattle.std.proofs.Common.{◌≡◌, ℕ, ◌+◌, ◌<◌, ◌≤◌, List, [], ◌∷◌, ◌++◌, length, refl, sym, ◌∙◌, subst, arith, append_assoc, append-nil, length-append}
use Rattle.std.specs.Prelude.{Contains, map}
use Rattle.std.specs.List.{AllByRecursion, flat_map}
use Rattle.std.specs.Ordering.{nat_cmp}
use Rattle.ext_tree.specs.Tree.{Entries}
use Rattle.ext_host.specs.Drawn.{IsFileOf}
use Rattle.ext_host.specs.Held.{HeldFile}
use Rattle.ext_host.specs.Host.{HostTree, past_tree}
use Rattle.ext_host.specs.Valid.{AreAscending, all_bytes, most_past}
use Rattle.ext_host.specs.declared.past.Past.{Past}
use Rattle.ext_index_lines.specs.declared.text_number.TextNumber.{TextNumber}
use Rattle.ext_index_reader.specs.Index.{past_lines, section_lines}
use Rattle.ext_index_reader.specs.Listed.{IsKeptUpTo, IsListedTree, IsToldTree, IsWellFormedTree}
use Rattle.ext_index_reader.specs.State.{after_parts, at, at_part, hierarchies_so_far, host_of, no_parts, past_done, then_past}
use Rattle.ext_index_reader.specs.declared.state.PartStage.TheVariants as parts
use Rattle.ext_index_reader.specs.declared.state.SoFar.{SoFar}
use Rattle.ext_index_reader.specs.declared.state.Stage.TheVariants as stages
use Rattle.ext_index_reader.specs.declared.state.Whose.TheVariants as whose
use Rattle.ext_index_reader.proofs.FollowLemmas.{ascending_follows}
use Rattle.ext_index_reader.proofs.ListedRowLemmas.{AgreeIn, AreOfFiles, files_in_tree, listed_rows, rows_agree, rows_back, rows_have_lines}
use Rattle.ext_index_reader.proofs.MergedLemmas.{with_parts}
use Rattle.ext_index_reader.proofs.PartsLemmas.{AreFew, IsPartsOf, so_far_after, parts_run, tree_with}
use Rattle.ext_index_reader.proofs.PastLemmas.{generation_of}
use Rattle.ext_index_reader.proofs.RowLemmas.{noted_all}
use Rattle.ext_index_reader.proofs.SectionLemmas.{ToEnd}

-- what has been read after the parts of a tree
abbrev pub after_tree : ℕ → SoFar → HostTree → SoFar
after_tree g s tree = record s {
  homes = noted_all (noted_all s.homes (listed_rows g tree.root)) (listed_rows g tree.lower);
  parts = record {
    sysext = tree.sysext;
    confext = tree.confext;
    attached = tree.attached;
    kept = tree.kept;
    root = tree.root;
    lower = tree.lower;
    bytes = (0 + all_bytes tree.root) + all_bytes tree.lower;
  };
}

-- where the trees of a host keep their files
pub record AreKeptIn (g : ℕ) (trees : List (Entries HeldFile)) : Type 0 where
  pub kept : (held : HeldFile) → IsFileOf trees held → IsKeptUpTo g held.body
  pub agree : AgreeIn trees

-- a tree that an index lists, both of whose lists of entries are among these
pub record IsListedIn (g : ℕ) (trees : List (Entries HeldFile)) (s : SoFar) (tree : HostTree) : Type 0 where
  pub formed : IsWellFormedTree tree
  pub listed : IsListedTree (hierarchies_so_far s) tree
  pub told : IsToldTree s.text tree
  pub few : AreFew tree
  pub root : Contains trees tree.root
  pub lower : Contains trees tree.lower

-- its lines lead on, and the homes that are noted after it are those of the trees' files
pub record TreeLeads (g : ℕ) (trees : List (Entries HeldFile)) (s : SoFar) (tree : HostTree) : Type 0 where
  pub of : AreOfFiles trees (after_tree g s tree).homes
  pub runs : (e : SoFar) (rest : List (List ℕ)) → ToEnd g e (after_parts (after_tree g s tree) s.whose) rest → ToEnd g e (at_part (with_parts s no_parts) parts.Sysext) (section_lines g tree ++ rest)

pub tree_leads : (g : ℕ) (trees : List (Entries HeldFile)) (s : SoFar) (tree : HostTree) → g ≤ 4294967295 → AreKeptIn g trees → AreOfFiles trees s.homes → IsListedIn g trees s tree → TreeLeads g trees s tree
tree_leads g trees s tree last kept of is =
    let roots = listed_rows g tree.root in
    let lowers = listed_rows g tree.lower in
    let root_files = files_in_tree g trees tree.root kept.kept is.root is.formed.root in
    let lower_files = files_in_tree g trees tree.lower kept.kept is.lower is.formed.lower in
    let first = rows_agree g trees kept.agree s.homes tree.root of root_files in
    let second = rows_agree g trees kept.agree (noted_all s.homes roots) tree.lower first.1 lower_files in
    let root_same = rows_back g trees tree.root root_files in
    let lower_same = rows_back g trees tree.lower lower_files in
    let same : tree_with tree roots lowers ≡ tree = λ i. record tree { root = root_same i; lower = lower_same i } in
    let after_same : so_far_after s tree roots lowers ≡ after_tree g s tree = λ i. record s {
      homes = noted_all (noted_all s.homes roots) lowers;
      parts = record {
        sysext = tree.sysext;
        confext = tree.confext;
        attached = tree.attached;
        kept = tree.kept;
        root = root_same i;
        lower = lower_same i;
        bytes = (0 + all_bytes (root_same i)) + all_bytes (lower_same i);
      };
    } in
    let are : IsPartsOf g s tree roots lowers = record {
      formed = subst IsWellFormedTree (sym same) is.formed;
      listed = subst (IsListedTree (hierarchies_so_far s)) (sym same) is.listed;
      root_lines = rows_have_lines g trees tree.root last is.formed.root root_files is.listed.limits.root;
      lower_lines = rows_have_lines g trees tree.lower last is.formed.lower lower_files is.listed.limits.lower;
      root_agree = first.0;
      lower_agree = second.0;
      told = subst (IsToldTree s.text) (sym same) is.told;
    } in
    record {
      of = second.1;
      runs = λ e rest run.
          subst (λ (t : HostTree). ToEnd g e (at_part (with_parts s no_parts) parts.Sysext) (section_lines g t ++ rest)) same
          (parts_run g e s tree roots lowers rest are is.few (subst (λ z. ToEnd g e (after_parts z s.whose) rest) (sym after_same) run));
    }

-- what has been read after one of them
abbrev after_one : ℕ → SoFar → ℕ → Past → SoFar
after_one g s more past = past_done (after_tree g (record s { whose = whose.Past past.generation more }) (past_tree past)) past.generation

-- and after all
abbrev pub after_pasts : ℕ → SoFar → List Past → SoFar
after_pasts g s [] = with_parts s no_parts
after_pasts g s (past ∷ pasts) = after_pasts g (after_one g s (length pasts) past) pasts

-- the host is the same with these past trees
pub host_after_pasts : (g : ℕ) (s : SoFar) (pasts : List Past) → host_of (after_pasts g s pasts) ≡ record (host_of s) { past = s.past ++ pasts }
host_after_pasts g s [] = λ i. record (host_of s) { past = sym (append-nil s.past) i }
host_after_pasts g s (past ∷ pasts) =
    host_after_pasts g (after_one g s (length pasts) past) pasts ∙ (λ i. record (host_of s) { past = append_assoc s.past (past ∷ []) pasts i })

pub text_after_pasts : (g : ℕ) (s : SoFar) (pasts : List Past) → (after_pasts g s pasts).text ≡ s.text
text_after_pasts g s [] = refl
text_after_pasts g s (past ∷ pasts) = text_after_pasts g (after_one g s (length pasts) past) pasts

-- past trees that an index lists after those that were read
pub record ArePastsIn (g : ℕ) (trees : List (Entries HeldFile)) (s : SoFar) (pasts : List Past) : Type 0 where
  pub each : AllByRecursion (λ (past : Past). IsListedIn g trees s (past_tree past)) pasts
  pub before : AllByRecursion (λ (past : Past). (0 < past.generation) × (past.generation < g)) pasts
  pub few : length (s.past ++ pasts) ≤ most_past
  pub order : AreAscending nat_cmp (map generation_of (s.past ++ pasts))

same_hierarchies : (g : ℕ) (trees : List (Entries HeldFile)) (s t : SoFar) (pasts : List Past) → hierarchies_so_far s ≡ hierarchies_so_far t → s.text ≡ t.text → AllByRecursion (λ (past : Past). IsListedIn g trees s (past_tree past)) pasts → AllByRecursion (λ (past : Past). IsListedIn g trees t (past_tree past)) pasts
same_hierarchies g trees s t [] same number each = tt
same_hierarchies g trees s t (past ∷ pasts) same number each = (
  record {
    formed = each.0.formed;
    listed = subst (λ h. IsListedTree h (past_tree past)) same each.0.listed;
    told = subst (λ (text : TextNumber). IsToldTree text (past_tree past)) number each.0.told;
    few = each.0.few;
    root = each.0.root;
    lower = each.0.lower;
  },
  same_hierarchies g trees s t pasts same number each.1,
)

pub pasts_run : (g : ℕ) (e : SoFar) (trees : List (Entries HeldFile)) (s : SoFar) (pasts : List Past) (rest : List (List ℕ)) → g ≤ 4294967295 → AreKeptIn g trees → AreOfFiles trees s.homes → ArePastsIn g trees s pasts → ToEnd g e (at (after_pasts g s pasts) stages.End) rest
    → ToEnd g e (then_past (with_parts s no_parts) (length pasts)) (flat_map (past_lines g) pasts ++ rest)
pasts_run g e trees s [] rest last kept of are run = run
pasts_run g e trees s (past ∷ pasts) rest last kept of are run =
    let more = length pasts in
    let t = record s { whose = whose.Past past.generation more } in
    let next = after_one g s more past in
    let shape = append_assoc s.past (past ∷ []) pasts in
    let long = length-append s.past (past ∷ pasts) in
    let few = are.few in
    let here : IsListedIn g trees t (past_tree past) = record { formed = are.each.0.formed; listed = are.each.0.listed; told = are.each.0.told; few = are.each.0.few; root = are.each.0.root; lower = are.each.0.lower } in
    let leads = tree_leads g trees t (past_tree past) last kept of here in
    let those : ArePastsIn g trees next pasts = record {
      each = same_hierarchies g trees s next pasts refl refl are.each.1;
      before = are.before.1;
      few = subst (λ (ps : List Past). length ps ≤ most_past) (sym shape) are.few;
      order = subst (λ (ps : List Past). AreAscending nat_cmp (map generation_of ps)) (sym shape) are.order;
    } in
    let after = pasts_run g e trees next pasts rest last kept leads.of those run in
    let sections = leads.runs e (flat_map (past_lines g) pasts ++ rest) after in
    let text = append_assoc (section_lines g (past_tree past)) (flat_map (past_lines g) pasts) rest in (
      at_part (with_parts t no_parts) parts.Sysext,
      (past.generation, are.before.0.0, are.before.0.1, record { few = omega arith; order = ascending_follows nat_cmp generation_of s.past past pasts are.order }, refl, refl),
      subst (ToEnd g e (at_part (with_parts t no_parts) parts.Sysext)) (sym text) sections,
    )
