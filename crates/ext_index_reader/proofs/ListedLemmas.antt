-- The text of a listed host says that host.
use Rattle.std.proofs.Common.{◌≡◌, ℕ, zero, suc, ◌+◌, ◌≤◌, Bool, List, [], ◌∷◌, ◌++◌, length, refl, sym, ap, subst, arith, codes, length-append}
use Rattle.std.specs.Prelude.{Contains}
use Rattle.std.specs.List.{AllByRecursion, flat_map}
use Rattle.ext_tree.specs.Tree.{Entries}
use Rattle.ext_host.specs.Drawn.{trees_of}
use Rattle.ext_host.specs.Held.{HeldFile}
use Rattle.ext_host.specs.Host.{hierarchies_in, past_tree, present}
use Rattle.ext_host.specs.declared.host.Host.{Host}
use Rattle.ext_host.specs.declared.past.Past.{Past}
use Rattle.ext_index_lines.specs.Lines.{number_line}
use Rattle.ext_index_lines.specs.declared.text_number.TextNumber.{TextNumber}
use Rattle.ext_index_lines.specs.declared.text_number.TextNumber.TheVariants.{One, Later}
use Rattle.ext_index_reader.specs.Index.{index_lines, index_text, lines_1, lines_2, machine_lines, past_lines, section_lines}
use Rattle.ext_index_reader.specs.Laws.{IsListing}
use Rattle.ext_index_reader.specs.Listed.{IsListedHost, IsListedTree, IsOfText1, IsToldHost, IsToldTree, IsWellFormed, IsWellFormedTree}
use Rattle.ext_index_reader.specs.Reading.{IsSaid}
use Rattle.ext_index_reader.specs.State.{at, at_part, hierarchies_so_far, host_done, host_of, start, then_hierarchies, then_past, with_defaults}
use Rattle.ext_index_reader.specs.declared.said.Said.{Said}
use Rattle.ext_index_reader.specs.declared.state.PartStage.TheVariants as parts
use Rattle.ext_index_reader.specs.declared.state.SoFar.{SoFar}
use Rattle.ext_index_reader.specs.declared.state.Stage.TheVariants as stages
use Rattle.ext_index_reader.proofs.ClassRunLemmas.{classes_run}
use Rattle.ext_index_reader.proofs.FewLemmas.{few_of_lines, few_of_pasts, lines_below_bytes}
use Rattle.ext_index_reader.proofs.HierarchyLemmas.{with_classes}
use Rattle.ext_index_reader.proofs.ListedPartLemmas.{AreKeptIn, ArePastsIn, IsListedIn, after_pasts, after_tree, host_after_pasts, pasts_run, tree_leads, text_after_pasts}
use Rattle.ext_index_reader.proofs.ListedRowLemmas.{none_noted}
use Rattle.ext_index_reader.proofs.ListingLemmas.{begun}
use Rattle.ext_index_reader.proofs.PartsLemmas.{AreFew}
use Rattle.ext_index_reader.proofs.SectionLemmas.{ToEnd}

first_among : {X : Type 0} (x : X) (xs : List X) → Contains (x ∷ xs) x
first_among x xs = (zero, omega arith, refl)

later_among : {X : Type 0} (x y : X) (xs : List X) → Contains xs x → Contains (y ∷ xs) x
later_among x y xs among = let low = among.1 in (suc among.0, omega arith, among.2)

abbrev both_trees : Past → List (Entries HeldFile)
both_trees past = past.root ∷ past.lower ∷ []

-- both trees of each past tree are among all of them
pasts_among : (whole : List (Entries HeldFile)) (pasts : List Past) → ((es : Entries HeldFile) → Contains (flat_map both_trees pasts) es → Contains whole es) → AllByRecursion (λ (past : Past). Contains whole past.root × Contains whole past.lower) pasts
pasts_among whole [] holds = tt
pasts_among whole (past ∷ pasts) holds =
    let rest = flat_map both_trees pasts in (
      (holds past.root (first_among past.root (past.lower ∷ rest)), holds past.lower (later_among past.lower past.root (past.lower ∷ rest) (first_among past.lower rest))),
      pasts_among whole pasts (λ es among. holds es (later_among es past.root (past.lower ∷ rest) (later_among es past.lower rest among))),
    )

pasts_listed : (g : ℕ) (trees : List (Entries HeldFile)) (s : SoFar) (pasts : List Past) → AllByRecursion (λ (past : Past). IsWellFormedTree (past_tree past)) pasts → AllByRecursion (λ (past : Past). IsListedTree (hierarchies_so_far s) (past_tree past)) pasts
    → AllByRecursion (λ (past : Past). IsToldTree s.text (past_tree past)) pasts → AllByRecursion (λ (past : Past). AreFew (past_tree past)) pasts → AllByRecursion (λ (past : Past). Contains trees past.root × Contains trees past.lower) pasts → AllByRecursion (λ (past : Past). IsListedIn g trees s (past_tree past)) pasts
pasts_listed g trees s [] formed listed told few among = tt
pasts_listed g trees s (past ∷ pasts) formed listed told few among =
    (record { formed = formed.0; listed = listed.0; told = told.0; few = few.0; root = among.0.0; lower = among.0.1 }, pasts_listed g trees s pasts formed.1 listed.1 told.1 few.1 among.1)

record LinesSay (g : ℕ) (text : TextNumber) (host : Host) : Type 0 where
  so_far : SoFar
  runs : ToEnd g so_far start (index_lines text g host)
  is : host_of so_far ≡ host
  number : so_far.text ≡ text

short_2 : (owners : Bool) (g : ℕ) (host : Host) → length (lines_2 owners g host) ≤ 1073741824 → (length (section_lines g (present host)) ≤ 1073741824) × (length (flat_map (past_lines g) host.past) ≤ 1073741824)
short_2 owners g host short =
    let pasts = flat_map (past_lines g) host.past in
    let sections = section_lines g (present host) in
    let one = length-append (machine_lines owners host) (sections ++ (number_line (codes "past") (length host.past) ∷ (pasts ++ codes "end" ∷ []))) in
    let two = length-append sections (number_line (codes "past") (length host.past) ∷ (pasts ++ codes "end" ∷ [])) in
    let three = length-append pasts (codes "end" ∷ []) in
    (omega arith, omega arith)

says_2 : (owners : Bool) (g : ℕ) (host : Host) → g ≤ 4294967295 → IsWellFormed host → IsListedHost g host → IsToldHost (Later owners) host → length (lines_2 owners g host) ≤ 1073741824 → LinesSay g (Later owners) host
says_2 owners g host last formed listed told short =
    let trees = trees_of host in
    let s0 = begun (Later owners) host.arch host.scope in
    let s1 = with_classes s0 host.sysext_hier host.confext_hier in
    let s2 = host_done (after_tree g s1 (present host)) in
    let e = after_pasts g s2 host.past in
    let kept : AreKeptIn g trees = record { kept = listed.homes.kept; agree = listed.homes.agree } in
    let lengths = short_2 owners g host short in
    let rest = flat_map both_trees host.past in
    let now : IsListedIn g trees s1 (present host) = record {
      formed = formed.now;
      listed = listed.now;
      told = told.now;
      few = few_of_lines g 1073741824 (present host) (omega arith) lengths.0;
      root = first_among host.root (host.lower ∷ rest);
      lower = later_among host.lower host.root (host.lower ∷ rest) (first_among host.lower rest);
    } in
    let leads = tree_leads g trees s1 (present host) last kept (none_noted trees) now in
    let among = pasts_among trees host.past (λ es among. later_among es host.root (host.lower ∷ rest) (later_among es host.lower rest among)) in
    let those : ArePastsIn g trees s2 host.past = record {
      each = pasts_listed g trees s2 host.past formed.past listed.past told.past (few_of_pasts g 1073741824 host.past (omega arith) lengths.1) among;
      before = listed.past_before;
      few = listed.past_count;
      order = listed.past_order;
    } in
    let pasts = pasts_run g e trees s2 host.past (codes "end" ∷ []) last kept leads.of those (at e stages.Done, (refl, refl), refl) in
    let few = listed.past_count in
    let sections = leads.runs e _ (then_past s2 (length host.past), (length host.past, omega arith, refl, refl), pasts) in
    let sysext = listed.hierarchies.sysext in
    let confext = listed.hierarchies.confext in
    let classes = classes_run g e s0 host.sysext_hier host.confext_hier _ refl refl sysext.non_empty confext.non_empty sysext.order confext.order sysext.at_most_16 confext.at_most_16 listed.hierarchies.apart formed.sysext_hier formed.confext_hier sections in
    let some_sysext = sysext.non_empty in
    let some_confext = confext.non_empty in
    let few_sysext = sysext.at_most_16 in
    let few_confext = confext.at_most_16 in
    let count = length host.sysext_hier + length host.confext_hier in
    record {
      so_far = e;
      runs = (
        at (record start.so_far { text = Later owners }) stages.Machine,
        (Later owners, refl, refl),
        (
          at s0 stages.Hierarchies,
          (host.arch, host.scope, listed.scope, refl, refl),
          (then_hierarchies s0 count, (count, omega arith, omega arith, refl, refl), classes),
        ),
      );
      is = host_after_pasts g s2 host.past;
      number = text_after_pasts g s2 host.past;
    }

short_1 : (g : ℕ) (host : Host) → length (lines_1 g host) ≤ 1073741824 → length (section_lines g (present host)) ≤ 1073741824
short_1 g host short = let one = length-append (section_lines g (present host)) (codes "end" ∷ []) in omega arith

says_1 : (g : ℕ) (host : Host) → g ≤ 4294967295 → IsWellFormed host → IsListedHost g host → IsToldHost One host → IsOfText1 host → length (lines_1 g host) ≤ 1073741824 → LinesSay g One host
says_1 g host last formed listed told of_1 short =
    let trees = trees_of host in
    let s1 = with_defaults (begun One host.arch host.scope) in
    let e = host_done (after_tree g s1 (present host)) in
    let kept : AreKeptIn g trees = record { kept = listed.homes.kept; agree = listed.homes.agree } in
    let rest = flat_map both_trees host.past in
    let hierarchies : hierarchies_in host ≡ hierarchies_so_far s1 = λ i. record { sysext = of_1.sysext_hier i; confext = of_1.confext_hier i } in
    let now : IsListedIn g trees s1 (present host) = record {
      formed = formed.now;
      listed = subst (λ h. IsListedTree h (present host)) hierarchies listed.now;
      told = told.now;
      few = few_of_lines g 1073741824 (present host) (omega arith) (short_1 g host short);
      root = first_among host.root (host.lower ∷ rest);
      lower = later_among host.lower host.root (host.lower ∷ rest) (first_among host.lower rest);
    } in
    let leads = tree_leads g trees s1 (present host) last kept (none_noted trees) now in
    let sections = leads.runs e (codes "end" ∷ []) (at e stages.Done, (refl, refl), refl) in
    record {
      so_far = e;
      runs = (
        at (record start.so_far { text = One }) stages.Machine,
        (One, refl, refl),
        (at_part s1 parts.Sysext, (host.arch, host.scope, listed.scope, refl, refl), sections),
      );
      is = λ i. record host { sysext_hier = sym of_1.sysext_hier i; confext_hier = sym of_1.confext_hier i; past = sym of_1.past i };
      number = refl;
    }

says : (g : ℕ) (text : TextNumber) (host : Host) → g ≤ 4294967295 → IsWellFormed host → IsListedHost g host → IsToldHost text host → (text ≡ One → IsOfText1 host) → length (index_lines text g host) ≤ 1073741824 → LinesSay g text host
says g One host last formed listed told of_1 short = says_1 g host last formed listed told (of_1 refl) short
says g (Later owners) host last formed listed told of_1 short = says_2 owners g host last formed listed told short

-- what lines list is what they say
pub listed_is_said : (g : ℕ) (bytes : List ℕ) (said : Said) → g ≤ 4294967295 → length bytes ≤ 1073741824 → IsListing g bytes said → IsSaid g bytes said
listed_is_said g bytes said last short listing =
    let lines = index_lines said.text g said.host in
    let long : length bytes ≡ length (index_text said.text g said.host) = ap length listing.text in
    let fewer = lines_below_bytes lines in
    let say = says g said.text said.host last listing.formed listing.listed listing.told listing.text_1 (omega arith) in
    record {
      so_far = say.so_far;
      through = record { lines = lines; text = listing.text; runs = say.runs };
      host = sym say.is;
      number = sym say.number;
    }
