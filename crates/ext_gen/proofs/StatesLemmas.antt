-- States of a store: what a state rests on, which trees stand for it, and what a stop leaves of a disk that stands for one.
use Rattle.std.proofs.Common.{◌≡◌, ◌⊎◌, ℕ, true, false, ◌&&◌, not, List, [], Option, Some, None, refl, sym, ap, ◌∙◌, inl, inr}
use Rattle.std.proofs.lemmas.Bool.{false≢true, and_parts, and_from, not-true, cond-false}
use Rattle.std.specs.Option.{is_some}
use Rattle.std.specs.Ordering.{eq_by_cmp}
use Rattle.ext_text.specs.Path.{path_cmp}
use Rattle.ext_disk.specs.Disk.{Node, Tree, Place, Places, Swing, MayLeave, absent, is_durable, is_synced, now, root_place}
use Rattle.ext_store_files.specs.Names.{current_path}
use Rattle.ext_gen.specs.Store.{State, none, at, generation_in, Points, Stands}
use Rattle.ext_gen.specs.Sound.{IsGenerationPath, base_folder, base_index, base_home, IsBaseDurable, MayHold, as_now, as_before, as_after, with_current, IsMember, IsSound, IsEither, IsDurably}

-- it lies apart from `current`
pub base_apart : (s : State) (p : List (List ℕ)) → IsGenerationPath s p → eq_by_cmp path_cmp current_path p ≡ false
base_apart s p (base_folder g contents) = refl
base_apart s p (base_index g contents) = refl
base_apart s p (base_home g contents held kept is) = refl

-- a tree with something else at `current` has at each of these paths what it had
pub with_apart : (content : Option Node) (t : Tree) (s : State) (p : List (List ℕ)) → IsGenerationPath s p → with_current content t p ≡ t p
with_apart content t s p base = cond-false _ content (t p) (base_apart s p base)

-- what a tree stands for depends on `current` and on what the state rests on alone
pub stands_same : (t u : Tree) (s : State) → u current_path ≡ t current_path → ((p : List (List ℕ)) → IsGenerationPath s p → u p ≡ t p) → Stands t s → Stands u s
stands_same t u none same base stands = same ∙ stands
stands_same t u (at g contents) same base stands =
    let points = stands.0 in
    let files = stands.1 in (
      record {
        number = points.number;
        current = same ∙ points.current;
        bytes = points.bytes;
        index = base _ (base_index g contents) ∙ points.index;
        reads = points.reads;
      },
      record {
        stands = λ held kept is. base _ (base_home g contents held kept is) ∙ files.stands held kept is;
        stamped = files.stamped;
      },
    )

-- a tree that stands for a state points to its generation
pub stands_points : (t : Tree) (s : State) → Stands t s → Points t (generation_in s)
stands_points t none stands = stands
stands_points t (at g contents) stands = stands.0

-- with what stands at `current` there, it is the same tree
pub stands_with : (t : Tree) (s : State) → Stands t s → Stands (with_current (t current_path) t) s
stands_with t s stands = stands_same t (with_current (t current_path) t) s refl (λ p base. with_apart (t current_path) t s p base) stands

pub stands_without : (t : Tree) (s : State) → Stands (with_current (t current_path) t) s → Stands t s
stands_without t s stands = stands_same (with_current (t current_path) t) t s refl (λ p base. sym (with_apart (t current_path) t s p base)) stands

-- a tree that has this at `current`, and elsewhere what another has
stands_left : (t u : Tree) (content : Option Node) (s : State) → u current_path ≡ content → ((p : List (List ℕ)) → IsGenerationPath s p → u p ≡ t p) → Stands (with_current content t) s → Stands u s
stands_left t u content s is base stands = stands_same (with_current content t) u s is (λ p b. base p b ∙ sym (with_apart content t s p b)) stands

synced_parts : (place : Place) → is_synced place ≡ true → (place.unsynced_name ≡ false) × (is_some place.unsynced_rename ≡ false)
synced_parts place is = let parts = and_parts (not place.unsynced_name) (not (is_some place.unsynced_rename)) is in (not-true place.unsynced_name parts.0, not-true (is_some place.unsynced_rename) parts.1)

synced_from : (place : Place) → place.unsynced_name ≡ false → place.unsynced_rename ≡ None → is_synced place ≡ true
synced_from place tight still = and_from _ _ (ap not tight) (ap (λ o. not (is_some o)) still)

no_swing : (o : Option Swing) (w : Swing) → is_some o ≡ false → o ≡ Some w → ⊥
no_swing o w still some = false≢true (sym still ∙ ap is_some some)

-- `current` is durable where it, and the root, are synced, and its bytes are
current_parts : (d : Places) → is_durable d current_path ≡ true → (is_synced (d current_path) ≡ true) × ((d current_path).unsynced_bytes ≡ false)
current_parts d durable =
    let parts = and_parts (is_synced (d []) && is_synced (d current_path)) (not (d current_path).unsynced_bytes) durable in
    ((and_parts (is_synced (d [])) (is_synced (d current_path)) parts.0).1, not-true (d current_path).unsynced_bytes parts.1)

current_durable : (d : Places) → d [] ≡ root_place → (d current_path).unsynced_name ≡ false → (d current_path).unsynced_bytes ≡ false → (d current_path).unsynced_rename ≡ None → is_durable d current_path ≡ true
current_durable d root tight hard still =
    and_from _ _ (and_from _ _ (ap is_synced root) (synced_from (d current_path) tight still)) (ap not hard)

-- a durable store stands for its state with whatever `current` may have
pub durably_each : (s : State) (d : Places) → IsDurably s d → (o : Option Swing) → (d current_path).unsynced_rename ≡ o → is_some o ≡ false → (content : Option Node) → MayHold d content → Stands (with_current content (now d)) s
durably_each s d durably o is still content as_now = stands_with (now d) s durably.stands
durably_each s d durably o is still content (as_before w unsynced_rename) = absurd (no_swing o w still (sym is ∙ unsynced_rename))
durably_each s d durably o is still content (as_after w unsynced_rename) = absurd (no_swing o w still (sym is ∙ unsynced_rename))

-- it is with no unsynced name, bytes or rename
pub durably_marks : (s : State) (d : Places) → IsDurably s d → ((d current_path).unsynced_name ≡ false) × ((d current_path).unsynced_bytes ≡ false) × (is_some (d current_path).unsynced_rename ≡ false)
durably_marks s d durably =
    let parts = current_parts d durably.current in
    let marks = synced_parts (d current_path) parts.0 in
    (marks.0, parts.1, marks.1)

-- a store that is durable is sound
pub durably_is_sound : (s : State) (d : Places) → IsDurably s d → IsSound d
durably_is_sound s d durably =
    let marks = durably_marks s d durably in
    record {
      synced = marks.0;
      hard = marks.1;
      each = λ content may. (s, durably_each s d durably _ refl marks.2 content may, durably.base);
    }

-- and stands for one of two states, of which the first is its own
pub durably_is_either : (s u : State) (d : Places) → IsDurably s d → IsEither s u d
durably_is_either s u d durably =
    let marks = durably_marks s d durably in
    record {
      synced = marks.0;
      hard = marks.1;
      each = λ content may. inl (durably_each s d durably _ refl marks.2 content may, durably.base);
    }

sound_side : (d : Places) (s u : State) (content : Option Node) → (Stands (with_current content (now d)) s × IsBaseDurable d s) ⊎ (Stands (with_current content (now d)) u × IsBaseDurable d u)
    → (x : State) × Stands (with_current content (now d)) x × IsBaseDurable d x
sound_side d s u content (inl one) = (s, one.0, one.1)
sound_side d s u content (inr other) = (u, other.0, other.1)

-- one that stands for one of two states is sound
pub either_is_sound : (s u : State) (d : Places) → IsEither s u d → IsSound d
either_is_sound s u d either = record {
  synced = either.synced;
  hard = either.hard;
  each = λ content may. sound_side d s u content (either.each content may);
}

-- a sound store stands for a state now
pub sound_now : (d : Places) → IsSound d → (s : State) × Stands (now d) s × IsMember d s
sound_now d sound =
    let one = sound.each _ as_now in
    (one.0, stands_without (now d) one.0 one.1, record { node = (d current_path).node; may = as_now; stands = one.1; durable = one.2 })

-- what a stop leaves at `current`, where it is with neither an unsynced name nor unsynced bytes, is something that it may have
left_current : (d : Places) (t : Tree) → d [] ≡ root_place → (d current_path).unsynced_name ≡ false → (d current_path).unsynced_bytes ≡ false → MayLeave d t
    → (o : Option Swing) → (d current_path).unsynced_rename ≡ o → (content : Option Node) × MayHold d content × (t current_path ≡ content)
left_current d t root tight hard left None still = ((d current_path).node, as_now, left.durable current_path (current_durable d root tight hard still))
left_current d t root tight hard left (Some w) unsynced_rename =
    elim (left.unsynced_rename current_path w unsynced_rename (and_from _ _ (ap is_synced root) refl)) [
      | inl before ↦ (w.before, as_before w unsynced_rename, before)
      | inr after ↦ (w.after, as_after w unsynced_rename, after)
    ]

pub may_hold_left : (d : Places) (t : Tree) → d [] ≡ root_place → (d current_path).unsynced_name ≡ false → (d current_path).unsynced_bytes ≡ false → MayLeave d t
    → (content : Option Node) × MayHold d content × (t current_path ≡ content)
may_hold_left d t root tight hard left = left_current d t root tight hard left (d current_path).unsynced_rename refl

-- a stop leaves a tree that stands for a state for which a sound store may stand
pub sound_left : (d : Places) (t : Tree) → d [] ≡ root_place → IsSound d → MayLeave d t → (s : State) × IsMember d s × Stands t s
sound_left d t root sound left =
    let held = may_hold_left d t root sound.synced sound.hard left in
    let one = sound.each held.0 held.1 in (
      one.0,
      record { node = held.0; may = held.1; stands = one.1; durable = one.2 },
      stands_left (now d) t held.0 one.0 held.2 (λ p base. left.durable p (one.2 p base)) one.1,
    )

either_side : (d : Places) (t : Tree) (s u : State) (content : Option Node) → MayLeave d t → t current_path ≡ content
    → (Stands (with_current content (now d)) s × IsBaseDurable d s) ⊎ (Stands (with_current content (now d)) u × IsBaseDurable d u) → (x : State) × ((x ≡ s) ⊎ (x ≡ u)) × Stands t x
either_side d t s u content left is (inl one) = (s, inl refl, stands_left (now d) t content s is (λ p base. left.durable p (one.1 p base)) one.0)
either_side d t s u content left is (inr other) = (u, inr refl, stands_left (now d) t content u is (λ p base. left.durable p (other.1 p base)) other.0)

-- and one of two states
pub either_left : (s u : State) (d : Places) (t : Tree) → d [] ≡ root_place → IsEither s u d → MayLeave d t → (x : State) × ((x ≡ s) ⊎ (x ≡ u)) × Stands t x
either_left s u d t root either left =
    let held = may_hold_left d t root either.synced either.hard left in
    either_side d t s u held.0 left held.2 (either.each held.0 held.1)

-- and the one state for which a durable store stands
pub durably_left : (s : State) (d : Places) (t : Tree) → IsDurably s d → MayLeave d t → Stands t s
durably_left s d t durably left = stands_same (now d) t s (left.durable current_path durably.current) (λ p base. left.durable p (durably.base p base)) durably.stands

-- an empty disk durably stands for none
nothing_rests : (p : List (List ℕ)) → IsGenerationPath none p → ⊥
nothing_rests p base = elim base [ ]

pub empty_is_durably : (d : Places) → d [] ≡ root_place → d current_path ≡ absent → IsDurably none d
empty_is_durably d root empty = record {
  current = current_durable d root (ap (λ (x : Place). x.unsynced_name) empty) (ap (λ (x : Place). x.unsynced_bytes) empty) (ap (λ (x : Place). x.unsynced_rename) empty);
  base = λ p base. absurd (nothing_rests p base);
  stands = ap (λ (x : Place). x.node) empty;
}
