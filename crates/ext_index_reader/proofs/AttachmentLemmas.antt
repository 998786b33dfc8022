-- The lines of attachments, read and printed.
use Rattle.std.proofs.Common.{◌≡◌, ℕ, zero, suc, ◌≤◌, Bool, List, [], ◌∷◌, ◌++◌, length, refl, sym, ap, ◌∙◌, subst, arith, codes}
use Rattle.std.specs.List.{AllByRecursion, flat_map}
use Rattle.ext_lines.specs.ByteOrder.{bytes_cmp, bytes_total}
use Rattle.ext_text.specs.Order.{paths_total}
use Rattle.ext_text.specs.Path.{IsPath, path_cmp}
use Rattle.ext_text.proofs.ForCallers.{all_weaker}
use Rattle.ext_host.specs.Valid.{AreAscending, AreAttachments, IsAttachment}
use Rattle.ext_host.specs.declared.attachment.Attachment.{Attachment}
use Rattle.ext_index_lines.specs.Lines.{IsLinePath, attachment_line, number_line, path_line, worded}
use Rattle.ext_index_reader.specs.Index.{attachment_lines}
use Rattle.ext_index_reader.specs.Listed.{IsWellFormedAttachment}
use Rattle.ext_index_reader.specs.State.{at_part, then_added, then_attached}
use Rattle.ext_index_reader.specs.Step.{most_count}
use Rattle.ext_index_reader.specs.declared.state.PartStage.TheVariants as parts
use Rattle.ext_index_reader.specs.declared.state.Parts.{Parts}
use Rattle.ext_index_reader.specs.declared.state.Reading.{Reading}
use Rattle.ext_index_reader.specs.declared.state.SoFar.{SoFar}
use Rattle.ext_index_reader.proofs.FollowLemmas.{MayJoin, after_snoc, joined, joins, snoc}
use Rattle.ext_index_reader.proofs.MergedLemmas.{flat_single, map_same, with_parts}
use Rattle.ext_index_reader.proofs.SectionLemmas.{Opened, ToEnd, again, first_line_of, peel}

-- the root is the path of no line
pub line_path_some : (path : List (List ℕ)) → IsLinePath path → path ≡ [] → ⊥
line_path_some path is root = let zero : length path ≡ 0 = ap length root in let some = is.non_empty in omega arith

pub line_path : (path : List (List ℕ)) → IsPath path → (path ≡ [] → ⊥) → IsLinePath path
line_path [] is some = absurd (some refl)
line_path (n ∷ path) is some = record { within = is; non_empty = omega arith }

pub line_paths : (paths : List (List (List ℕ))) → AllByRecursion IsPath paths → AllByRecursion (λ path. path ≡ [] → ⊥) paths → AllByRecursion IsLinePath paths
line_paths [] is some = tt
line_paths (p ∷ paths) is some = (line_path p is.0 some.0, line_paths paths is.1 some.1)

abbrev PathJoins : List (List (List ℕ)) → List (List ℕ) → Type 0
PathJoins paths path = MayJoin path_cmp (λ p. p) IsLinePath paths path

abbrev added_lines : List (List ℕ) → List (List ℕ)
added_lines path = path_line (codes "p") path ∷ []

-- an attachment that an index lists
pub record IsListedAttachment (a : Attachment) : Type 0 where
  pub valid : IsAttachment a
  pub formed : IsWellFormedAttachment a
  pub few : length a.added ≤ most_count

abbrev AttachmentJoins : List Attachment → Attachment → Type 0
AttachmentJoins attached a = MayJoin bytes_cmp (λ (a : Attachment). a.name) IsListedAttachment attached a

module _ (g : ℕ) (e s : SoFar) (p : Parts) where
  abbrev state_with : List Attachment → SoFar
  state_with attached = with_parts s (record p { attached = attached })

  abbrev attached_state : List Attachment → ℕ → Reading
  attached_state attached n = then_attached (state_with attached) n

  module _ (attached : List Attachment) (n : ℕ) (name : List ℕ) (place : List (List ℕ)) (runtime : Bool) where
    abbrev with_added : List (List (List ℕ)) → Attachment
    with_added added = record { name = name; place = place; runtime = runtime; added = added }

    abbrev added_state : List (List (List ℕ)) → ℕ → Reading
    added_state added k = then_added (state_with attached) n k (with_added added)

    added_opens : (added : List (List (List ℕ))) (k : ℕ) (lines : List (List ℕ)) → ToEnd g e (added_state added (suc k)) lines → Opened g e snoc PathJoins added_lines added_state added k lines
    added_opens added k lines run =
        let first = first_line_of g e (at_part (state_with attached) (parts.Added n k (with_added added))) lines (λ z. cc) run in
        record {
          item = first.step.0;
          may = (first.step.1, first.step.3);
          rest = first.rest;
          text = first.text ∙ ap (λ l. l ∷ first.rest) first.step.2;
          run = subst (λ r. ToEnd g e r first.rest) first.step.4 first.run;
        }

    added_closes : (added : List (List (List ℕ))) (k : ℕ) (path : List (List ℕ)) (rest : List (List ℕ)) → PathJoins added path → ToEnd g e (added_state (snoc added path) k) rest → ToEnd g e (added_state added (suc k)) (added_lines path ++ rest)
    added_closes added k path rest may run = (added_state (snoc added path) k, (path, may.0, refl, may.1, refl), run)

  opens : (attached : List Attachment) (n : ℕ) (lines : List (List ℕ)) → ToEnd g e (attached_state attached (suc n)) lines → Opened g e snoc AttachmentJoins attachment_lines attached_state attached n lines
  opens attached n lines run =
      let s1 = state_with attached in
      let one = first_line_of g e (at_part s1 (parts.Attachment n)) lines (λ z. cc) run in
      let runtime = one.step.0 in
      let paths = one.step.1 in
      let run1 = subst (λ r. ToEnd g e r one.rest) one.step.4 one.run in
      let two = first_line_of g e (at_part s1 (parts.Image n paths runtime)) one.rest (λ z. cc) run1 in
      let name = two.step.0 in
      let run2 = subst (λ r. ToEnd g e r two.rest) two.step.4 two.run in
      let three = first_line_of g e (at_part s1 (parts.Place n paths runtime name)) two.rest (λ z. cc) run2 in
      let place = three.step.0 in
      let run3 = subst (λ r. ToEnd g e r three.rest) three.step.3 three.run in
      let all = peel g e snoc PathJoins added_lines (added_state attached n name place runtime) (added_opens attached n name place runtime) [] paths three.rest run3 in
      let chain = joined path_cmp (λ p. p) IsLinePath paths_total.trans [] all.items tt all.may in
      record {
        item = with_added attached n name place runtime all.items;
        may = (
          record {
            valid = record {
              place = line_path_some place three.step.1;
              added = all_weaker IsLinePath (λ path. path ≡ [] → ⊥) line_path_some all.items chain.1;
              order = subst (AreAscending path_cmp) (map_same all.items) chain.0;
            };
            formed = record { name = two.step.1; place = three.step.1.within; added = all_weaker IsLinePath IsPath (λ path is. is.within) all.items chain.1 };
            few = let count = all.count in let few = one.step.2 in omega arith;
          },
          two.step.3,
        );
        rest = all.rest;
        text = one.text
            ∙ (λ i. one.step.3 i ∷ two.text i)
            ∙ (λ i. attachment_line runtime paths ∷ two.step.2 i ∷ three.text i)
            ∙ (λ i. attachment_line runtime paths ∷ worded (codes "i") name ∷ three.step.2 i ∷ all.text i)
            ∙ (λ i. attachment_line runtime (sym all.count i) ∷ worded (codes "i") name ∷ path_line (codes "s") place ∷ (flat_single (path_line (codes "p")) all.items i ++ all.rest));
        run = subst (λ (ps : List (List (List ℕ))). ToEnd g e (added_state attached n name place runtime ps zero) all.rest) (after_snoc [] all.items) all.run;
      }

  closes : (attached : List Attachment) (n : ℕ) (a : Attachment) (rest : List (List ℕ)) → AttachmentJoins attached a → ToEnd g e (attached_state (snoc attached a) n) rest → ToEnd g e (attached_state attached (suc n)) (attachment_lines a ++ rest)
  closes attached n a rest may run =
      let s1 = state_with attached in
      let valid = may.0.valid in
      let formed = may.0.formed in
      let state = added_state attached n a.name a.place a.runtime in
      let paths = line_paths a.added formed.added valid.added in
      let up = subst (AreAscending path_cmp) (sym (map_same a.added)) valid.order in
      let end = subst (λ (ps : List (List (List ℕ))). ToEnd g e (state ps zero) rest) (sym (after_snoc [] a.added)) run in
      let paths_run = again g e snoc PathJoins added_lines state (added_closes attached n a.name a.place a.runtime) [] a.added rest (joins path_cmp (λ p. p) IsLinePath [] a.added up paths) end in
      let shown = subst (λ (ls : List (List ℕ)). ToEnd g e (state [] (length a.added)) (ls ++ rest)) (flat_single (path_line (codes "p")) a.added) paths_run in (
        at_part s1 (parts.Image n (length a.added) a.runtime),
        (a.runtime, length a.added, may.0.few, refl, refl),
        (
          at_part s1 (parts.Place n (length a.added) a.runtime a.name),
          (a.name, formed.name, refl, may.1, refl),
          (state [] (length a.added), (a.place, line_path a.place formed.place valid.place, refl, refl), shown),
        ),
      )

  abbrev pub before_attached : Reading
  before_attached = at_part (with_parts s (record p { attached = [] })) parts.Attached

  abbrev pub after_attached : List Attachment → Reading
  after_attached attached = at_part (state_with attached) parts.Kept

  abbrev pub counted_attachments : List Attachment → List (List ℕ)
  counted_attachments attached = number_line (codes "attached") (length attached) ∷ flat_map attachment_lines attached

  pub record AttachedRead (lines : List (List ℕ)) : Type 0 where
    pub items : List Attachment
    pub rest : List (List ℕ)
    pub text : lines ≡ counted_attachments items ++ rest
    pub run : ToEnd g e (after_attached items) rest
    pub formed : AllByRecursion IsWellFormedAttachment items
    pub valid : AreAttachments items

  pub attached_read : (lines : List (List ℕ)) → ToEnd g e before_attached lines → AttachedRead lines
  attached_read lines run =
      let first = first_line_of g e before_attached lines (λ z. cc) run in
      let run1 = subst (λ r. ToEnd g e r first.rest) first.step.3 first.run in
      let all = peel g e snoc AttachmentJoins attachment_lines attached_state opens [] first.step.0 first.rest run1 in
      let chain = joined bytes_cmp (λ (a : Attachment). a.name) IsListedAttachment bytes_total.trans [] all.items tt all.may in
      record {
        items = all.items;
        rest = all.rest;
        text = first.text ∙ (λ i. first.step.2 i ∷ all.text i) ∙ (λ i. number_line (codes "attached") (sym all.count i) ∷ (flat_map attachment_lines all.items ++ all.rest));
        run = subst (λ (attached : List Attachment). ToEnd g e (attached_state attached zero) all.rest) (after_snoc [] all.items) all.run;
        formed = all_weaker IsListedAttachment IsWellFormedAttachment (λ a is. is.formed) all.items chain.1;
        valid = record { each = all_weaker IsListedAttachment IsAttachment (λ a is. is.valid) all.items chain.1; order = chain.0 };
      }

  listed : (attached : List Attachment) → AllByRecursion IsAttachment attached → AllByRecursion IsWellFormedAttachment attached → AllByRecursion (λ (a : Attachment). length a.added ≤ most_count) attached → AllByRecursion IsListedAttachment attached
  listed [] valid formed few = tt
  listed (a ∷ attached) valid formed few = (record { valid = valid.0; formed = formed.0; few = few.0 }, listed attached valid.1 formed.1 few.1)

  pub attached_run : (attached : List Attachment) (rest : List (List ℕ)) → AreAttachments attached → AllByRecursion IsWellFormedAttachment attached → length attached ≤ most_count → AllByRecursion (λ (a : Attachment). length a.added ≤ most_count) attached
      → ToEnd g e (after_attached attached) rest → ToEnd g e before_attached (counted_attachments attached ++ rest)
  attached_run attached rest valid formed few each run =
      let end = subst (λ (as' : List Attachment). ToEnd g e (attached_state as' zero) rest) (sym (after_snoc [] attached)) run in
      let all = again g e snoc AttachmentJoins attachment_lines attached_state closes [] attached rest (joins bytes_cmp (λ (a : Attachment). a.name) IsListedAttachment [] attached valid.order (listed attached valid.each formed each)) end in
      (attached_state [] (length attached), (length attached, few, refl, refl), all)
