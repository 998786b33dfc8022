-- A host with another tree that is seen, other attachments, and without the manifests that are related to what was touched.
use Rattle.std.proofs.Common.{◌≡◌, ℕ, zero, suc, ◌+◌, ◌≤◌, Bool, true, false, cond, not, ◌||◌, if◌then◌else◌, List, [], ◌∷◌, length, inl, inr, refl, sym, ap, ◌∙◌, arith}
use Rattle.std.specs.Prelude.{Contains}
use Rattle.std.specs.List.{AllByRecursion, flat_map}
use Rattle.std.specs.Ordering.{eq_by_cmp}
use Rattle.std.proofs.lemmas.Bool.{and_from, and_parts, false≢true, false_from_ne_true, or_cases, or_left, or_right, true≢false}
use Rattle.ext_lines.specs.ByteOrder.{bytes_cmp}
use Rattle.ext_text.specs.Path.{are_related, is_prefix}
use Rattle.ext_text.specs.SortedPaths.{meets}
use Rattle.ext_text.proofs.ForCallers.{all_weaker, prefix_trans, same_name, tied_name}
use Rattle.ext_tree.specs.Tree.{Entries, lookup, most_entries}
use Rattle.ext_host.specs.Drawn.{AreDrawnFrom, IsDrawnFrom, trees_of}
use Rattle.ext_host.specs.Held.{HeldFile}
use Rattle.ext_host.specs.Host.{base_at, hierarchies_in, is_in, present}
use Rattle.ext_host.specs.ReadOnly.{merged_in}
use Rattle.ext_host.specs.Touch.{untouched_all}
use Rattle.ext_host.specs.Valid.{AreAttachments, AreInRange, HasItems, IsValidHost, all_bytes, most_bytes}
use Rattle.ext_host.specs.declared.attachment.Attachment.{Attachment}
use Rattle.ext_host.specs.declared.host.Host.{Host}
use Rattle.ext_host.specs.declared.manifest.Manifest.{Manifest}
use Rattle.ext_host.specs.declared.past.Past.{Past}
use Rattle.ext_host.proofs.ForCallers.{drawn_one_by_one, touched_all_is_valid, trees_are_drawn}

-- two prefixes of one path are related
both_related : (p q x : List (List ℕ)) → is_prefix p x ≡ true → is_prefix q x ≡ true → are_related p q ≡ true
both_related [] q x first second = refl
both_related (n ∷ p) [] x first second = refl
both_related (n ∷ p) (m ∷ q) [] first second = absurd (false≢true first)
both_related (n ∷ p) (m ∷ q) (k ∷ x) first second =
    let a = and_parts (eq_by_cmp bytes_cmp n k) (is_prefix p x) first in
    let b = and_parts (eq_by_cmp bytes_cmp m k) (is_prefix q x) second in
    let same : n ≡ m = same_name n k a.0 ∙ sym (same_name m k b.0) in
    elim (or_cases (is_prefix p q) (is_prefix q p) (both_related p q x a.1 b.1)) [
      | inl below ↦ or_left _ _ (and_from _ _ (tied_name n m same) below)
      | inr above ↦ or_right _ _ (and_from _ _ (tied_name m n (sym same)) above)
    ]

-- what is below a path that is related to another one that is not
unrelated_below : (t m q : List (List ℕ)) → are_related t m ≡ false → is_prefix m q ≡ true → are_related t q ≡ false
unrelated_below t m q apart below = false_from_ne_true (are_related t q) (λ related. elim (or_cases (is_prefix t q) (is_prefix q t) related) [
  | inl above ↦ true≢false (sym (both_related t m q above below) ∙ apart)
  | inr under ↦ true≢false (sym (or_right (is_prefix t m) _ (prefix_trans m q t below under)) ∙ apart)
])

pub unmet_below : (touched : List (List (List ℕ))) (m q : List (List ℕ)) → meets touched m ≡ false → is_prefix m q ≡ true → meets touched q ≡ false
unmet_below [] m q out below = refl
unmet_below (t ∷ touched) m q out below = or_none (are_related t m) (meets touched m) (are_related t q) (meets touched q) out
    (λ apart. unrelated_below t m q apart below) (λ rest. unmet_below touched m q rest below)
  where
    or_none : (a b c d : Bool) → (a || b) ≡ false → (a ≡ false → c ≡ false) → (b ≡ false → d ≡ false) → (c || d) ≡ false
    or_none true b c d none first second = absurd (true≢false none)
    or_none false b c d none first second = ap (λ x. x || d) (first refl) ∙ second none

-- at each path that is related to no touched one both trees have the same
abbrev pub SameOutside : List (List (List ℕ)) → Entries HeldFile → Entries HeldFile → Type 0
SameOutside touched old new = (q : List (List ℕ)) → meets touched q ≡ false → lookup new q ≡ lookup old q

-- the new tree is within the limits, with what lies under the view
pub record IsSizedWith (host : Host) (root : Entries HeldFile) : Type 0 where
  pub range : AreInRange root
  pub entries : length root + length host.lower ≤ most_entries
  pub bytes : all_bytes root + all_bytes host.lower ≤ most_bytes

-- the host with the tree, these attachments and what is left of the manifests
abbrev pub changed : List (List (List ℕ)) → Entries HeldFile → List Attachment → Host → Host
changed touched root attached host = record host { root = root; attached = attached; kept = untouched_all touched host.kept }

module _ (host : Host) (touched : List (List (List ℕ))) (root : Entries HeldFile) (attached : List Attachment) (same : SameOutside touched host.root root) where
  base_moves : (q : List (List ℕ)) → meets touched q ≡ false → base_at (hierarchies_in host) (present (changed touched root attached host)) q ≡ base_at (hierarchies_in host) (present host) q
  base_moves q out = ap (λ x. if is_in (merged_in host) q then lookup host.lower q else x) (same q out)

  items_move : (m : Manifest) → meets touched m.path ≡ false → HasItems (base_at (hierarchies_in host) (present host)) m → HasItems (base_at (hierarchies_in host) (present (changed touched root attached host))) m
  items_move m out items =
      let moves = λ (q : List (List ℕ)) (below : is_prefix m.path q ≡ true). base_moves q (unmet_below touched m.path q out below) in
      record {
        each = all_weaker _ _ (λ item has. (has.0, (has.1.0, has.1.1, moves item.path has.0 ∙ has.1.2, has.1.3))) m.items items.each;
        whole = λ q attributes held below stands. items.whole q attributes held below (sym (moves q below) ∙ stands);
      }

  all_items_move : (kept : List Manifest) → AllByRecursion (HasItems (base_at (hierarchies_in host) (present host))) kept
      → AllByRecursion (HasItems (base_at (hierarchies_in host) (present (changed touched root attached host)))) (untouched_all touched kept)
  all_items_move [] items = tt
  all_items_move (m ∷ kept) items =
      let rest = all_items_move kept items.1 in
      elim (meets touched m.path) as (λ b. meets touched m.path ≡ b
      → AllByRecursion (HasItems (base_at (hierarchies_in host) (present (changed touched root attached host)))) (cond (not b) (m ∷ untouched_all touched kept) (untouched_all touched kept))) [
        | true ↦ λ _. rest
        | false ↦ λ out. (items_move m out items.0, rest)
      ] refl

  -- the host is valid
  pub changed_is_valid : IsValidHost host → IsSizedWith host root → AreAttachments attached → IsValidHost (changed touched root attached host)
  changed_is_valid valid sized attachments =
      let kept = (touched_all_is_valid host touched valid).present.kept in
      record {
        scope = valid.scope;
        hierarchies = valid.hierarchies;
        present = record {
          lower = valid.present.lower;
          limits = record { root = sized.range; lower = valid.present.limits.lower; entries = sized.entries; bytes = sized.bytes };
          sysext = valid.present.sysext;
          confext = valid.present.confext;
          attached = attachments;
          kept = record { each = kept.each; order = kept.order; apart = kept.apart; items = all_items_move host.kept valid.present.kept.items };
        };
        past = valid.past;
        past_count = valid.past_count;
        past_order = valid.past_order;
      }

contains_rest : {X : Type 0} (x : X) (xs : List X) (y : X) → Contains xs y → Contains (x ∷ xs) y
contains_rest x xs y (k, lt, is) = (suc k, omega arith, is)

all_in : {X : Type 0} (xs whole : List X) → ((y : X) → Contains xs y → Contains whole y) → AllByRecursion (Contains whole) xs
all_in [] whole among = tt
all_in (x ∷ xs) whole among = (among x (zero, omega arith, refl), all_in xs whole (λ y has. among y (contains_rest x xs y has)))

-- one tree, and others that are among the old ones
rest_drawn : (old rest : List (Entries HeldFile)) → AllByRecursion (Contains old) rest → AllByRecursion (λ es. AreDrawnFrom old (es ∷ [])) rest
rest_drawn old [] among = tt
rest_drawn old (es ∷ rest) among = (trees_are_drawn old (es ∷ []) (among.0, tt), rest_drawn old rest among.1)

-- its files are those of the host, where those of its tree are
pub changed_is_drawn : (host : Host) (root : Entries HeldFile) (attached : List Attachment) (kept : List Manifest) → AreDrawnFrom (trees_of host) (root ∷ [])
    → IsDrawnFrom host (record host { root = root; attached = attached; kept = kept })
changed_is_drawn host root attached kept drawn =
    let past : List (Entries HeldFile) = flat_map (λ (p : Past). p.root ∷ p.lower ∷ []) host.past in
    let rest : AllByRecursion (Contains (trees_of host)) (host.lower ∷ past) = all_in (host.lower ∷ past) (trees_of host) (λ y has. contains_rest host.root (host.lower ∷ past) y has) in
    drawn_one_by_one (trees_of host) (root ∷ host.lower ∷ past) (drawn, rest_drawn (trees_of host) (host.lower ∷ past) rest)
