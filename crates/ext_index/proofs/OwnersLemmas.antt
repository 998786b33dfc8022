-- The text that is written has a line for each entry, and a number tells its text.
use Rattle.std.proofs.Common.{◌≡◌, Bool, true, false, List, [], ◌∷◌, refl, ap, arith}
use Rattle.std.specs.Prelude.{◌||◌, not}
use Rattle.std.specs.List.{AllByRecursion, list_any}
use Rattle.ext_tree.specs.Tree.{Entries, is_plain_entry}
use Rattle.ext_host.specs.Held.{HeldFile}
use Rattle.ext_host.specs.Host.{HostTree, past_tree, present}
use Rattle.ext_host.specs.declared.host.Host.{Host}
use Rattle.ext_host.specs.declared.past.Past.{Past}
use Rattle.ext_index_lines.specs.declared.text_number.TextNumber.{TextNumber}
use Rattle.ext_index_lines.specs.declared.text_number.TextNumber.TheVariants.{One, Later}
use Rattle.ext_index_reader.specs.Listed.{AreTold, IsToldHost, IsToldTree}
use Rattle.ext_index.specs.ValidIndex.{has_owners, host_has_owners, text_number, tree_has_owners, written_number}

or_right : (a b : Bool) → b ≡ true → (a || b) ≡ true
or_right true b is = refl
or_right false b is = is

entries_told : (owners : Bool) (es : Entries HeldFile) → (has_owners es ≡ true → owners ≡ true) → AreTold (Later owners) es
entries_told owners [] some = tt
entries_told owners (x ∷ es) some =
    (first (is_plain_entry x.1) refl, entries_told owners es (λ later. some (or_right (not (is_plain_entry x.1)) (has_owners es) later)))
  where
    first : (plain : Bool) → is_plain_entry x.1 ≡ plain → (plain || owners) ≡ true
    first true is = refl
    first false is = some (ap (λ b. not b || has_owners es) is)

tree_told : (owners : Bool) (tree : HostTree) → (tree_has_owners tree ≡ true → owners ≡ true) → IsToldTree (Later owners) tree
tree_told owners tree some = record {
  root = entries_told owners tree.root (λ root. some (ap (λ b. b || has_owners tree.lower) root));
  lower = entries_told owners tree.lower (λ lower. some (or_right (has_owners tree.root) (has_owners tree.lower) lower));
}

pasts_told : (owners : Bool) (pasts : List Past) → (list_any (λ past. tree_has_owners (past_tree past)) pasts ≡ true → owners ≡ true) → AllByRecursion (λ past. IsToldTree (Later owners) (past_tree past)) pasts
pasts_told owners [] some = tt
pasts_told owners (past ∷ pasts) some = (
  tree_told owners (past_tree past) (λ first. some (ap (λ b. b || list_any (λ p. tree_has_owners (past_tree p)) pasts) first)),
  pasts_told owners pasts (λ later. some (or_right (tree_has_owners (past_tree past)) (list_any (λ p. tree_has_owners (past_tree p)) pasts) later)),
)

pub written_is_told : (host : Host) → IsToldHost (written_number host) host
written_is_told host = record {
  now = tree_told (host_has_owners host) (present host) (λ now. ap (λ b. b || list_any (λ past. tree_has_owners (past_tree past)) host.past) now);
  past = pasts_told (host_has_owners host) host.past (λ past. or_right (tree_has_owners (present host)) (list_any (λ past. tree_has_owners (past_tree past)) host.past) past);
}

-- a number of a text tells it
pub text_number_once : (x y : TextNumber) → text_number x ≡ text_number y → x ≡ y
text_number_once One One e = refl
text_number_once One (Later false) e = absurd (omega (arith, e))
text_number_once One (Later true) e = absurd (omega (arith, e))
text_number_once (Later false) One e = absurd (omega (arith, e))
text_number_once (Later false) (Later false) e = refl
text_number_once (Later false) (Later true) e = absurd (omega (arith, e))
text_number_once (Later true) One e = absurd (omega (arith, e))
text_number_once (Later true) (Later false) e = absurd (omega (arith, e))
text_number_once (Later true) (Later true) e = refl
