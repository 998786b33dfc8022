-- Past trees, read.
use Rattle.std.proofs.Common.{◌≡◌, ℕ, zero, suc, ◌<◌, ◌≤◌, List, [], ◌∷◌, ◌++◌, length, refl, sym, ap, ◌∙◌, subst, arith, codes, append_assoc, append-nil, length-append}
use Rattle.std.specs.Prelude.{map}
use Rattle.std.specs.Cmp.{nat_cmp_total}
use Rattle.std.specs.List.{AllByRecursion, flat_map}
use Rattle.std.specs.Ordering.{nat_cmp}
use Rattle.ext_tree.specs.Tree.{Entries}
use Rattle.ext_host.specs.Held.{HeldFile}
use Rattle.ext_host.specs.Host.{HostTree, past_tree}
use Rattle.ext_host.specs.Valid.{AreAscending, most_past}
use Rattle.ext_host.specs.declared.past.Past.{Past}
use Rattle.ext_index_lines.specs.Lines.{number_line}
use Rattle.ext_index_reader.specs.Index.{past_lines, section_lines}
use Rattle.ext_index_reader.specs.Listed.{IsListedTree, IsToldTree, IsWellFormedTree}
use Rattle.ext_index_reader.specs.State.{at, hierarchies_so_far, host_of, no_parts, past_done, then_past}
use Rattle.ext_index_reader.specs.declared.state.SoFar.{SoFar}
use Rattle.ext_index_reader.specs.declared.state.Stage.TheVariants as stages
use Rattle.ext_index_reader.specs.declared.state.Whose.TheVariants as whose
use Rattle.ext_index_reader.proofs.FollowLemmas.{ascending_more}
use Rattle.ext_index_reader.proofs.HomeLemmas.{TreesAgree, TreesHaveLines}
use Rattle.ext_index_reader.proofs.MergedLemmas.{with_parts}
use Rattle.ext_index_reader.proofs.PartsLemmas.{so_far_after, parts_read, tree_with}
use Rattle.ext_index_reader.proofs.RowLemmas.{Row, rows_of}
use Rattle.ext_index_reader.proofs.SectionLemmas.{ToEnd, first_line_of}

abbrev pub generation_of : Past → ℕ
generation_of past = past.generation

-- both trees of a past tree
abbrev pub trees_in : Past → List (Entries HeldFile)
trees_in past = past.root ∷ past.lower ∷ []

-- a past tree of this generation, with these entries
abbrev pub past_with : ℕ → HostTree → List Row → List Row → Past
past_with n tree roots lowers = record { generation = n; root = rows_of roots; lower = rows_of lowers; sysext = tree.sysext; confext = tree.confext; attached = tree.attached; kept = tree.kept }

-- what has been read after a past tree
abbrev pub after_past : SoFar → ℕ → ℕ → HostTree → List Row → List Row → SoFar
after_past s n more tree roots lowers = past_done (so_far_after (record s { whose = whose.Past n more }) tree roots lowers) n

module _ (g : ℕ) (e : SoFar) where
  pub record PastsRead (s : SoFar) (n : ℕ) (lines : List (List ℕ)) : Type 0 where
    pub items : List Past
    pub rows : List (List Row)
    pub next : SoFar
    pub rest : List (List ℕ)
    pub count : length items ≡ n
    pub text : lines ≡ flat_map (past_lines g) items ++ rest
    pub run : ToEnd g e (at next stages.End) rest
    pub host : host_of next ≡ record (host_of s) { past = s.past ++ items }
    pub number : next.text ≡ s.text
    pub trees : flat_map trees_in items ≡ map rows_of rows
    pub have_lines : TreesHaveLines rows
    pub agree : TreesAgree g s.homes rows
    pub formed : AllByRecursion (λ (past : Past). IsWellFormedTree (past_tree past)) items
    pub listed : AllByRecursion (λ (past : Past). IsListedTree (hierarchies_so_far s) (past_tree past)) items
    pub told : AllByRecursion (λ (past : Past). IsToldTree s.text (past_tree past)) items
    pub before : AllByRecursion (λ (past : Past). (0 < past.generation) × (past.generation < g)) items
    pub few : length (s.past ++ items) ≤ most_past
    pub order : AreAscending nat_cmp (map generation_of (s.past ++ items))

  pub pasts_read : (n : ℕ) (s : SoFar) (lines : List (List ℕ)) → length s.past ≤ most_past → AreAscending nat_cmp (map generation_of s.past) → ToEnd g e (then_past (with_parts s no_parts) n) lines → PastsRead s n lines
  pasts_read zero s lines few order run = record {
    items = [];
    rows = [];
    next = with_parts s no_parts;
    rest = lines;
    count = refl;
    text = refl;
    run = run;
    host = λ i. record (host_of s) { past = sym (append-nil s.past) i };
    number = refl;
    trees = refl;
    have_lines = tt;
    agree = tt;
    formed = tt;
    listed = tt;
    told = tt;
    before = tt;
    few = subst (λ (ps : List Past). length ps ≤ most_past) (sym (append-nil s.past)) few;
    order = subst (λ (ps : List Past). AreAscending nat_cmp (map generation_of ps)) (sym (append-nil s.past)) order;
  }
  pasts_read (suc more) s lines few order run =
      let first = first_line_of g e (at (with_parts s no_parts) (stages.Generation more)) lines (λ z. cc) run in
      let n = first.step.0 in
      let may = first.step.3 in
      let p = parts_read g e (record s { whose = whose.Past n more }) first.rest (subst (λ r. ToEnd g e r first.rest) first.step.5 first.run) in
      let past = past_with n p.tree p.roots p.lowers in
      let long = length-append s.past (past ∷ []) in
      let room = may.few in
      let next = pasts_read more (after_past s n more p.tree p.roots p.lowers) p.rest (omega arith) (ascending_more nat_cmp generation_of nat_cmp_total.trans s.past past order may.order) p.run in
      let shape = append_assoc s.past (past ∷ []) next.items in
      record {
        items = past ∷ next.items;
        rows = p.roots ∷ p.lowers ∷ next.rows;
        next = next.next;
        rest = next.rest;
        count = let count = next.count in omega arith;
        text = text_of lines first.line first.rest p.rest next.rest n p.tree p.roots p.lowers next.items first.text first.step.4 p.text next.text;
        run = next.run;
        host = next.host ∙ (λ i. record (host_of s) { past = shape i });
        number = next.number;
        trees = (λ i. rows_of p.roots ∷ rows_of p.lowers ∷ next.trees i);
        have_lines = (p.are.root_lines, (p.are.lower_lines, next.have_lines));
        agree = (p.are.root_agree, (p.are.lower_agree, next.agree));
        formed = (p.are.formed, next.formed);
        listed = (p.are.listed, next.listed);
        told = (p.are.told, next.told);
        before = ((first.step.1, first.step.2), next.before);
        few = subst (λ (ps : List Past). length ps ≤ most_past) shape next.few;
        order = subst (λ (ps : List Past). AreAscending nat_cmp (map generation_of ps)) shape next.order;
      }
    where
      text_of : (lines : List (List ℕ)) (line : List ℕ) (r1 r2 rest : List (List ℕ)) (n : ℕ) (tree : HostTree) (roots lowers : List Row) (items : List Past)
          → lines ≡ line ∷ r1 → line ≡ number_line (codes "g") n → r1 ≡ section_lines g (tree_with tree roots lowers) ++ r2 → r2 ≡ flat_map (past_lines g) items ++ rest → lines ≡ flat_map (past_lines g) (past_with n tree roots lowers ∷ items) ++ rest
      text_of lines line r1 r2 rest n tree roots lowers items t1 is t2 t3 =
          t1
          ∙ (λ i. is i ∷ t2 i)
          ∙ ap (λ r. number_line (codes "g") n ∷ (section_lines g (tree_with tree roots lowers) ++ r)) t3
          ∙ ap (λ r. number_line (codes "g") n ∷ r) (sym (append_assoc (section_lines g (tree_with tree roots lowers)) (flat_map (past_lines g) items) rest))
