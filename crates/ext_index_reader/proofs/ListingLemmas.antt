-- Lines that run through are the text of a host that an index lists.
use Rattle.std.proofs.Common.{◌≡◌, ◌≢◌, ℕ, ◌+◌, ◌<◌, ◌≤◌, Bool, List, [], ◌∷◌, ◌++◌, length, refl, sym, ap, ◌∙◌, subst, arith, codes}
use Rattle.std.specs.Prelude.{map}
use Rattle.std.specs.List.{flat_map}
use Rattle.ext_lines.specs.Lines.{lines_text}
use Rattle.ext_text.specs.declared.arch.Arch.{Arch}
use Rattle.ext_text.specs.declared.extension.Extension.TheVariants.{Sysext, Confext}
use Rattle.ext_text.specs.declared.scope.Scope.{Scope}
use Rattle.ext_text.specs.declared.scope.Scope.TheVariants.{Portable}
use Rattle.ext_host.specs.Drawn.{IsFileOf, trees_of}
use Rattle.ext_host.specs.Host.{HostTree, default_hierarchies, present}
use Rattle.ext_host.specs.Valid.{AreOfClasses}
use Rattle.ext_host.specs.declared.host.Host.{Host}
use Rattle.ext_host.specs.declared.past.Past.{Past}
use Rattle.ext_index_lines.specs.Lines.{header_line, host_line, number_line}
use Rattle.ext_index_lines.specs.declared.text_number.TextNumber.{TextNumber}
use Rattle.ext_index_lines.specs.declared.text_number.TextNumber.TheVariants.{One, Later}
use Rattle.ext_index_reader.specs.Index.{index_lines, index_text, lines_2, past_lines, section_lines}
use Rattle.ext_index_reader.specs.Laws.{IsListing}
use Rattle.ext_index_reader.specs.Listed.{AreKeptUpTo, IsListedHost, IsOfText1, IsToldHost, IsWellFormed}
use Rattle.ext_index_reader.specs.Reading.{IsSaid}
use Rattle.ext_index_reader.specs.State.{at, at_part, host_done, host_of, start, then_machine, with_defaults}
use Rattle.ext_index_reader.specs.declared.said.Said.{Said}
use Rattle.ext_index_reader.specs.declared.state.PartStage.TheVariants as parts
use Rattle.ext_index_reader.specs.declared.state.Reading.{Reading}
use Rattle.ext_index_reader.specs.declared.state.SoFar.{SoFar}
use Rattle.ext_index_reader.specs.declared.state.Stage.TheVariants as stages
use Rattle.ext_index_reader.proofs.DefaultLemmas.{defaults_are_classes}
use Rattle.ext_index_reader.proofs.HierarchyLemmas.{AreClasses, class_lines, classes_read, with_classes}
use Rattle.ext_index_reader.proofs.HomeLemmas.{TreesAgree, TreesHaveLines, files_agree, files_are_kept}
use Rattle.ext_index_reader.proofs.PartsLemmas.{so_far_after, parts_read}
use Rattle.ext_index_reader.proofs.PastLemmas.{pasts_read}
use Rattle.ext_index_reader.proofs.RowLemmas.{Row, rows_of}
use Rattle.ext_index_reader.proofs.SectionLemmas.{ToEnd, first_line_of}

-- what leads from the end on to the end is nothing
done_nothing : (g : ℕ) (e s : SoFar) (lines : List (List ℕ)) → ToEnd g e (at s stages.Done) lines → (lines ≡ []) × (s ≡ e)
done_nothing g e s [] run = (refl, ap (λ (r : Reading). r.so_far) run)
done_nothing g e s (line ∷ lines) run = absurd run.1

-- the last line
end_read : (g : ℕ) (e s : SoFar) (lines : List (List ℕ)) → ToEnd g e (at s stages.End) lines → (lines ≡ codes "end" ∷ []) × (s ≡ e)
end_read g e s lines run =
    let first = first_line_of g e (at s stages.End) lines (λ z. cc) run in
    let last = done_nothing g e s first.rest (subst (λ r. ToEnd g e r first.rest) first.step.1 first.run) in
    (first.text ∙ (λ i. first.step.0 i ∷ last.0 i), last.1)

-- with these hierarchies, entries and past trees
abbrev host_with : Arch → Scope → List (List ℕ) → List (List ℕ) → HostTree → List Row → List Row → List Past → Host
host_with arch scope sysext confext tree roots lowers past = record {
  arch = arch;
  scope = scope;
  root = rows_of roots;
  lower = rows_of lowers;
  sysext = tree.sysext;
  confext = tree.confext;
  attached = tree.attached;
  kept = tree.kept;
  sysext_hier = sysext;
  confext_hier = confext;
  past = past;
}

later_not_one : (owners : Bool) → Later owners ≡ One → ⊥
later_not_one owners same = cc

-- what the lines say of it
record IsHostRead (g : ℕ) (e : SoFar) (text : TextNumber) (lines : List (List ℕ)) : Type 0 where
  host : Host
  is : host_of e ≡ host
  number : e.text ≡ text
  formed : IsWellFormed host
  listed : IsListedHost g host
  told : IsToldHost text host
  text_1 : text ≡ One → IsOfText1 host
  whole : lines ≡ index_lines text g host

-- where its files are kept
homes_of : (g : ℕ) (host : Host) (rows : List (List Row)) → trees_of host ≡ map rows_of rows → TreesHaveLines rows → TreesAgree g [] rows → AreKeptUpTo g host
homes_of g host rows same lines agree = record {
  kept = λ held is. files_are_kept g rows lines agree held (subst (λ trees. IsFileOf trees held) same is);
  agree = λ a b home is_a is_b at_a at_b. files_agree g rows agree a b home (subst (λ trees. IsFileOf trees a) same is_a) (subst (λ trees. IsFileOf trees b) same is_b) at_a at_b;
}

-- hierarchies of both classes, of each some
classes_of : (s : SoFar) → AreClasses s → 0 < length s.sysext_hier → 0 < length s.confext_hier → AreOfClasses (record { sysext = s.sysext_hier; confext = s.confext_hier })
classes_of s are some other = record {
  sysext = record { non_empty = some; at_most_16 = are.sysext_few; order = are.sysext_order };
  confext = record { non_empty = other; at_most_16 = are.confext_few; order = are.confext_order };
  apart = are.apart;
}

-- what has been read after the line of the machine
abbrev pub begun : TextNumber → Arch → Scope → SoFar
begun text arch scope = record start.so_far { text = text; arch = arch; scope = scope }

no_classes : (text : TextNumber) (arch : Arch) (scope : Scope) → AreClasses (begun text arch scope)
no_classes text arch scope = record {
  sysext_names = tt;
  confext_names = tt;
  sysext_order = tt;
  confext_order = tt;
  sysext_few = omega arith;
  confext_few = omega arith;
  apart = tt;
}

text_2 : (owners : Bool) (g : ℕ) (host : Host) (lines : List (List ℕ)) (l3 : List ℕ) (r3 r4 r5 : List (List ℕ)) (l6 : List ℕ) (r6 r7 : List (List ℕ)) (n m : ℕ)
    → lines ≡ l3 ∷ r3 → l3 ≡ number_line (codes "hierarchies") n → length host.sysext_hier + length host.confext_hier ≡ n → r3 ≡ class_lines host.sysext_hier host.confext_hier ++ r4 → r4 ≡ section_lines g (present host) ++ r5
    → r5 ≡ l6 ∷ r6 → l6 ≡ number_line (codes "past") m → length host.past ≡ m → r6 ≡ flat_map (past_lines g) host.past ++ r7 → r7 ≡ codes "end" ∷ [] → header_line (Later owners) ∷ host_line host.arch host.scope ∷ lines ≡ lines_2 owners g host
text_2 owners g host lines l3 r3 r4 r5 l6 r6 r7 n m t3 is3 count3 t4 t5 t6 is6 count6 t7 t8 =
    let classes = class_lines host.sysext_hier host.confext_hier in
    let sections = section_lines g (present host) in
    let tail : r5 ≡ number_line (codes "past") (length host.past) ∷ (flat_map (past_lines g) host.past ++ codes "end" ∷ []) =
    t6 ∙ (λ i. is6 i ∷ t7 i) ∙ (λ i. number_line (codes "past") (sym count6 i) ∷ (flat_map (past_lines g) host.past ++ t8 i)) in
    ap (λ ls. header_line (Later owners) ∷ host_line host.arch host.scope ∷ ls) (t3 ∙ (λ i. is3 i ∷ t4 i) ∙ (λ i. number_line (codes "hierarchies") (sym count3 i) ∷ (classes ++ t5 i)) ∙ ap (λ r. number_line (codes "hierarchies") (length host.sysext_hier + length host.confext_hier) ∷ (classes ++ (sections ++ r))) tail)

read_2 : (owners : Bool) (g : ℕ) (e : SoFar) (arch : Arch) (scope : Scope) (lines : List (List ℕ)) → scope ≢ Portable → ToEnd g e (at (begun (Later owners) arch scope) stages.Hierarchies) lines
    → IsHostRead g e (Later owners) (header_line (Later owners) ∷ host_line arch scope ∷ lines)
read_2 owners g e arch scope lines other run =
    let s = begun (Later owners) arch scope in
    let three = first_line_of g e (at s stages.Hierarchies) lines (λ z. cc) run in
    let n = three.step.0 in
    let classes = classes_read g e n s three.rest (no_classes (Later owners) arch scope) (subst (λ r. ToEnd g e r three.rest) three.step.4 three.run) in
    let many = three.step.1 in
    let some = classes.some (omega arith) in
    let s4 = with_classes s classes.sysext classes.confext in
    let now = parts_read g e s4 classes.rest classes.run in
    let s5 = host_done (so_far_after s4 now.tree now.roots now.lowers) in
    let six = first_line_of g e (at s5 stages.Past) now.rest (λ z. cc) now.run in
    let past = pasts_read g e six.step.0 s5 six.rest (omega arith) tt (subst (λ r. ToEnd g e r six.rest) six.step.3 six.run) in
    let end = end_read g e past.next past.rest past.run in
    let host = host_with arch scope classes.sysext classes.confext now.tree now.roots now.lowers past.items in
    record {
      host = host;
      is = ap host_of (sym end.1) ∙ past.host;
      number = ap (λ (z : SoFar). z.text) (sym end.1) ∙ past.number;
      formed = record { sysext_hier = classes.are.sysext_names; confext_hier = classes.are.confext_names; now = now.are.formed; past = past.formed };
      listed = record {
        scope = other;
        hierarchies = classes_of s4 classes.are some.0 some.1;
        now = now.are.listed;
        past = past.listed;
        past_count = past.few;
        past_order = past.order;
        past_before = past.before;
        homes = homes_of g host (now.roots ∷ now.lowers ∷ past.rows) (λ i. rows_of now.roots ∷ rows_of now.lowers ∷ past.trees i) (now.are.root_lines, (now.are.lower_lines, past.have_lines)) (now.are.root_agree, (now.are.lower_agree, past.agree));
      };
      told = record { now = now.are.told; past = past.told };
      text_1 = λ wrong. absurd (later_not_one owners wrong);
      whole = text_2 owners g host lines three.line three.rest classes.rest now.rest six.line six.rest past.rest n six.step.0 three.text three.step.3 classes.count classes.text now.text six.text six.step.2 past.count past.text end.0;
    }

read_1 : (g : ℕ) (e : SoFar) (arch : Arch) (scope : Scope) (lines : List (List ℕ)) → scope ≢ Portable → ToEnd g e (at_part (with_defaults (begun One arch scope)) parts.Sysext) lines → IsHostRead g e One (header_line One ∷ host_line arch scope ∷ lines)
read_1 g e arch scope lines other run =
    let s = with_defaults (begun One arch scope) in
    let classes = defaults_are_classes (begun One arch scope) in
    let now = parts_read g e s lines run in
    let s5 = host_done (so_far_after s now.tree now.roots now.lowers) in
    let end = end_read g e s5 now.rest now.run in
    let host = host_with arch scope (default_hierarchies Sysext) (default_hierarchies Confext) now.tree now.roots now.lowers [] in
    record {
      host = host;
      is = ap host_of (sym end.1);
      number = ap (λ (z : SoFar). z.text) (sym end.1);
      formed = record { sysext_hier = classes.sysext_names; confext_hier = classes.confext_names; now = now.are.formed; past = tt };
      listed = record {
        scope = other;
        hierarchies = classes_of s classes (omega arith) (omega arith);
        now = now.are.listed;
        past = tt;
        past_count = omega arith;
        past_order = tt;
        past_before = tt;
        homes = homes_of g host (now.roots ∷ now.lowers ∷ []) refl (now.are.root_lines, (now.are.lower_lines, tt)) (now.are.root_agree, (now.are.lower_agree, tt));
      };
      told = record { now = now.are.told; past = tt };
      text_1 = λ _. record { sysext_hier = refl; confext_hier = refl; past = refl };
      whole = ap (λ ls. header_line One ∷ host_line arch scope ∷ ls) (now.text ∙ ap (λ r. section_lines g (present host) ++ r) end.0);
    }

read_machine : (g : ℕ) (e : SoFar) (text : TextNumber) (arch : Arch) (scope : Scope) (lines : List (List ℕ)) → scope ≢ Portable → ToEnd g e (then_machine (begun text arch scope)) lines → IsHostRead g e text (header_line text ∷ host_line arch scope ∷ lines)
read_machine g e One arch scope lines other run = read_1 g e arch scope lines other run
read_machine g e (Later owners) arch scope lines other run = read_2 owners g e arch scope lines other run

-- what the lines say, and as the text of which number
record IsWholeRead (g : ℕ) (e : SoFar) (lines : List (List ℕ)) : Type 0 where
  text : TextNumber
  read : IsHostRead g e text lines

read_whole : (g : ℕ) (e : SoFar) (lines : List (List ℕ)) → ToEnd g e start lines → IsWholeRead g e lines
read_whole g e lines run =
    let one = first_line_of g e start lines (λ z. cc) run in
    let text = one.step.0 in
    let s1 = record start.so_far { text = text } in
    let second = first_line_of g e (at s1 stages.Machine) one.rest (λ z. cc) (subst (λ r. ToEnd g e r one.rest) one.step.2 one.run) in
    let arch = second.step.0 in
    let scope = second.step.1 in
    let read = read_machine g e text arch scope second.rest second.step.2 (subst (λ r. ToEnd g e r second.rest) second.step.4 second.run) in
    let same : header_line text ∷ host_line arch scope ∷ second.rest ≡ lines = sym (one.text ∙ (λ i. one.step.1 i ∷ second.text i) ∙ (λ i. header_line text ∷ second.step.3 i ∷ second.rest)) in
    record { text = text; read = subst (IsHostRead g e text) same read }

-- what lines say is what they list
pub said_is_listed : (g : ℕ) (bytes : List ℕ) (said : Said) → g ≤ 4294967295 → IsSaid g bytes said → IsListing g bytes said
said_is_listed g bytes said last is =
    let whole = read_whole g is.so_far is.through.lines is.through.runs in
    let read = whole.read in
    let host : read.host ≡ said.host = sym (is.host ∙ read.is) in
    let text : whole.text ≡ said.text = sym (is.number ∙ read.number) in
    record {
      formed = subst IsWellFormed host read.formed;
      listed = subst (IsListedHost g) host read.listed;
      told = subst (λ (t : TextNumber). IsToldHost t said.host) text (subst (IsToldHost whole.text) host read.told);
      text_1 = λ one. subst IsOfText1 host (read.text_1 (text ∙ one));
      text = is.through.text ∙ ap lines_text read.whole ∙ (λ i. index_text (text i) g (host i));
    }
