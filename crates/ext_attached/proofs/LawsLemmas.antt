-- The laws of what is attached.
use Rattle.std.proofs.Common.{◌≡◌, ◌≢◌, ℕ, true, false, cond, not, List, [], ◌∷◌, Some, None, refl, sym, ap, ◌∙◌}
use Rattle.std.specs.FinMap.Entries.{where_key}
use Rattle.std.specs.List.{filter, find, flat_map}
use Rattle.std.proofs.lemmas.Bool.{false_from_ne_true}
use Rattle.ext_text.specs.Path.{path_cmp}
use Rattle.ext_text.proofs.ForCallers.{same_name}
use Rattle.ext_tree.specs.Cut.{cut_all}
use Rattle.ext_tree.specs.Tree.{Entries}
use Rattle.ext_host.specs.Held.{HeldFile}
use Rattle.ext_host.specs.Touch.{untouched_all}
use Rattle.ext_host.specs.declared.attachment.Attachment.{Attachment}
use Rattle.ext_host.specs.declared.manifest.Manifest.{Manifest}
use Rattle.ext_units.specs.ImageName.{first_part, image_name}
use Rattle.ext_attached.specs.Going.{cut_paths, gone, goes, is_of_name, staying, without}
use Rattle.ext_attached.specs.Laws.{DetachedIsPlanned, OneLeast, OthersStayAttached, WithoutAgain}
use Rattle.ext_attached.specs.State.{state_with}
use Rattle.ext_attached.specs.declared.going.By.{By}
use Rattle.ext_attached.specs.declared.going.By.TheVariants.{Name, FirstPart}
use Rattle.ext_attached.proofs.GoingLemmas.{detached_is_planned}
use Rattle.ext_attached.proofs.LeastLemmas.{one_least}

pub planned_law : DetachedIsPlanned
planned_law by text host valid = detached_is_planned by text host valid

pub least_law : OneLeast
least_law test paths a b x y = one_least test paths a b x y

-- none of those that stay has the name
none_named : (name : List ℕ) (attached : List Attachment) → find (is_of_name name) (staying Name name attached) ≡ None
none_named name [] = refl
none_named name (a ∷ attached) =
    elim (is_of_name name a) as (λ b. is_of_name name a ≡ b → find (is_of_name name) (cond (not b) (a ∷ staying Name name attached) (staying Name name attached)) ≡ None) [
      | true ↦ λ _. none_named name attached
      | false ↦ λ other. ap (λ b. cond b (Some a) (find (is_of_name name) (staying Name name attached))) other ∙ none_named name attached
    ] refl

-- one that goes has no other name
others_named : (name other : List ℕ) (attached : List Attachment) → other ≢ name → find (is_of_name other) (staying Name name attached) ≡ find (is_of_name other) attached
others_named name other [] apart = refl
others_named name other (a ∷ attached) apart =
    elim (is_of_name name a) as (λ b. is_of_name name a ≡ b → find (is_of_name other) (cond (not b) (a ∷ staying Name name attached) (staying Name name attached)) ≡ find (is_of_name other) (a ∷ attached)) [
      | true ↦ λ here.
          others_named name other attached apart
          ∙ sym (ap (λ b. cond b (Some a) (find (is_of_name other) attached)) (false_from_ne_true (is_of_name other a) (λ also. apart (sym (same_name a.name other also) ∙ same_name a.name name here))))
      | false ↦ λ _. ap (cond (is_of_name other a) (Some a)) (others_named name other attached apart)
    ] refl

pub states_law : OthersStayAttached
states_law host name = (
  ap state_with (none_named name host.attached),
  λ other apart. ap state_with (others_named name other host.attached apart),
)

-- those that stay stay, and none of them goes
stay_again : (by : By) (text : List ℕ) (attached : List Attachment) → staying by text (staying by text attached) ≡ staying by text attached
stay_again by text [] = refl
stay_again by text (a ∷ attached) =
    elim (goes by text a) as (λ b. goes by text a ≡ b → staying by text (cond (not b) (a ∷ staying by text attached) (staying by text attached)) ≡ cond (not b) (a ∷ staying by text attached) (staying by text attached)) [
      | true ↦ λ _. stay_again by text attached
      | false ↦ λ stays.
          ap (λ b. cond (not b) (a ∷ staying by text (staying by text attached)) (staying by text (staying by text attached))) stays
          ∙ ap (λ rest. a ∷ rest) (stay_again by text attached)
    ] refl

none_goes : (by : By) (text : List ℕ) (attached : List Attachment) → gone by text (staying by text attached) ≡ []
none_goes by text [] = refl
none_goes by text (a ∷ attached) =
    elim (goes by text a) as (λ b. goes by text a ≡ b → gone by text (cond (not b) (a ∷ staying by text attached) (staying by text attached)) ≡ []) [
      | true ↦ λ _. none_goes by text attached
      | false ↦ λ stays. ap (λ b. cond b (a ∷ gone by text (staying by text attached)) (gone by text (staying by text attached))) stays ∙ none_goes by text attached
    ] refl

all_where : (es : Entries HeldFile) → where_key path_cmp (λ _. true) es ≡ es
all_where [] = refl
all_where (e ∷ es) = ap (λ rest. e ∷ rest) (all_where es)

all_left : (kept : List Manifest) → filter (λ (_ : Manifest). true) kept ≡ kept
all_left [] = refl
all_left (m ∷ kept) = ap (λ rest. m ∷ rest) (all_left kept)

pub again_law : WithoutAgain
again_law image host =
    let text = first_part (image_name image) in
    let next = without image host in
    let none : cut_paths FirstPart text next ≡ [] = ap paths (none_goes FirstPart text host.attached) in
    λ i. record next {
      root = (ap (λ ps. cut_of ps next.root) none ∙ all_where next.root) i;
      attached = stay_again FirstPart text host.attached i;
      kept = (ap (λ ps. untouched_all ps next.kept) none ∙ all_left next.kept) i;
    }
  where
    paths : List Attachment → List (List (List ℕ))
    paths attached = flat_map (λ (a : Attachment). a.added) attached

    cut_of : List (List (List ℕ)) → Entries HeldFile → Entries HeldFile
    cut_of ps es = cut_all ps es
