-- The host without some of its attachments.
use Rattle.std.proofs.Common.{◌≡◌, ℕ, zero, suc, ◌≤◌, Bool, true, false, cond, not, ◌||◌, if◌then◌else◌, List, [], ◌∷◌, length, map, Some, None, Ok, Err, refl, sym, ap, ◌∙◌, subst, arith}
use Rattle.std.specs.Prelude.{Contains, IfOk, Result}
use Rattle.std.specs.FinMap.Entries.{where_key}
use Rattle.std.specs.List.{AllByRecursion, filter, list_any}
use Rattle.std.specs.declared.cmp.Ordering.{Ordering}
use Rattle.std.specs.declared.cmp.Ordering.TheVariants.{Less}
use Rattle.std.proofs.lemmas.Bool.{or_parts}
use Rattle.std.proofs.lemmas.List.Sums.{sum_by-cons}
use Rattle.std.proofs.lemmas.Option.{none-some}
use Rattle.ext_lines.specs.ByteOrder.{bytes_cmp}
use Rattle.ext_text.specs.Path.{are_related, is_prefix, path_cmp}
use Rattle.ext_text.specs.SortedPaths.{covers, meets}
use Rattle.ext_tree.specs.Cut.{cut_all}
use Rattle.ext_tree.specs.EntryLine.{IsWritable}
use Rattle.ext_tree.specs.Tree.{Entries, lookup}
use Rattle.ext_tree.specs.declared.entry.Entry.{Entry}
use Rattle.ext_tree.specs.declared.entry.Entry.TheVariants.{File}
use Rattle.ext_tree.proofs.ForCallers.{is_cut_all}
use Rattle.ext_host.specs.Drawn.{AreDrawnFrom, HasFile, trees_of}
use Rattle.ext_host.specs.Held.{HeldFile}
use Rattle.ext_host.specs.Planning.{IsPlannedHost}
use Rattle.ext_host.specs.Touch.{untouched_all}
use Rattle.ext_host.specs.Valid.{AreAscending, AreAttachments, IsAttachment, IsValidHost, all_bytes, bytes_of, held_form}
use Rattle.ext_host.specs.declared.attachment.Attachment.{Attachment}
use Rattle.ext_host.specs.declared.host.Host.{Host}
use Rattle.ext_host.specs.declared.host.Plan.{Plan}
use Rattle.ext_host.specs.declared.manifest.Manifest.{Manifest}
use Rattle.ext_attached.specs.Detaching.{Detaches}
use Rattle.ext_attached.specs.Going.{cut_paths, detached, goes, staying}
use Rattle.ext_attached.specs.declared.errors.DetachErr.{DetachErr}
use Rattle.ext_attached.specs.declared.going.By.{By}
use Rattle.ext_attached.specs.declared.going.By.TheVariants.{Name}
use Rattle.ext_attached.proofs.ChangedLemmas.{SameOutside, changed_is_drawn, changed_is_valid}

-- what holds of each holds of those that are left
all_kept : {X : Type 0} (P : X → Type 0) (f : X → Bool) (xs : List X) → AllByRecursion P xs → AllByRecursion P (filter f xs)
all_kept P f [] all = tt
all_kept P f (x ∷ xs) all =
    elim (f x) as (λ b. AllByRecursion P (cond b (x ∷ filter f xs) (filter f xs))) [
      | true ↦ (all.0, all_kept P f xs all.1)
      | false ↦ all_kept P f xs all.1
    ]

all_values : {X Y : Type 0} (g : X → Y) (P : Y → Type 0) (f : X → Bool) (xs : List X) → AllByRecursion P (map g xs) → AllByRecursion P (map g (filter f xs))
all_values g P f [] all = tt
all_values g P f (x ∷ xs) all =
    elim (f x) as (λ b. AllByRecursion P (map g (cond b (x ∷ filter f xs) (filter f xs)))) [
      | true ↦ (all.0, all_values g P f xs all.1)
      | false ↦ all_values g P f xs all.1
    ]

ascending_kept : {X Y : Type 0} (R : Y → Y → Ordering) (g : X → Y) (f : X → Bool) (xs : List X) → AreAscending R (map g xs) → AreAscending R (map g (filter f xs))
ascending_kept R g f [] up = tt
ascending_kept R g f (x ∷ xs) up =
    let rest = ascending_kept R g f xs up.1 in
    elim (f x) as (λ b. AreAscending R (map g (cond b (x ∷ filter f xs) (filter f xs)))) [
      | true ↦ (all_values g (λ y. R (g x) y ≡ Less) f xs up.0, rest)
      | false ↦ rest
    ]

-- attachments of which some are left out are attachments in order
pub staying_attached : (f : Attachment → Bool) (attached : List Attachment) → AreAttachments attached → AreAttachments (filter f attached)
staying_attached f attached is = record {
  each = all_kept IsAttachment f attached is.each;
  order = ascending_kept bytes_cmp (λ (a : Attachment). a.name) f attached is.order;
}

-- entries that pass a test of their paths are no more, and have no more bytes
bytes_where : (test : List (List ℕ) → Bool) (es : Entries HeldFile) → all_bytes (where_key path_cmp test es) ≤ all_bytes es
bytes_where test [] = omega arith
bytes_where test (x ∷ es) =
    let size : List (List ℕ) × Entry HeldFile → ℕ = λ e. bytes_of e.1 in
    let rest = bytes_where test es in
    elim (test x.0) as (λ b. all_bytes (cond b (x ∷ where_key path_cmp test es) (where_key path_cmp test es)) ≤ all_bytes (x ∷ es)) [
      | true ↦ omega (arith, sum_by-cons size x es, sum_by-cons size x (where_key path_cmp test es))
      | false ↦ omega (arith, sum_by-cons size x es)
    ]

length_where : (test : List (List ℕ) → Bool) (es : Entries HeldFile) → length (where_key path_cmp test es) ≤ length es
length_where test [] = omega arith
length_where test (x ∷ es) =
    let rest = length_where test es in
    elim (test x.0) as (λ b. length (cond b (x ∷ where_key path_cmp test es) (where_key path_cmp test es)) ≤ length (x ∷ es)) [
      | true ↦ omega arith
      | false ↦ omega arith
    ]

all_where : (P : Entry HeldFile → Type 0) (test : List (List ℕ) → Bool) (es : Entries HeldFile) → AllByRecursion (λ x. P x.1) es → AllByRecursion (λ x. P x.1) (where_key path_cmp test es)
all_where P test [] all = tt
all_where P test (x ∷ es) all =
    elim (test x.0) as (λ b. AllByRecursion (λ (y : List (List ℕ) × Entry HeldFile). P y.1) (cond b (x ∷ where_key path_cmp test es) (where_key path_cmp test es))) [
      | true ↦ (all.0, all_where P test es all.1)
      | false ↦ all_where P test es all.1
    ]

-- what is related to none of the paths is at or below none
pub unmet_uncovered : (paths : List (List (List ℕ))) (q : List (List ℕ)) → meets paths q ≡ false → covers paths q ≡ false
unmet_uncovered [] q out = refl
unmet_uncovered (p ∷ paths) q out =
    let parts = or_parts (are_related p q) (meets paths q) out in
    let own = or_parts (is_prefix p q) (is_prefix q p) parts.0 in
    ap (λ b. b || covers paths q) own.0 ∙ unmet_uncovered paths q parts.1

cut_same : (paths : List (List (List ℕ))) (es : Entries HeldFile) → SameOutside paths es (cut_all paths es)
cut_same paths es q out = is_cut_all paths es q ∙ ap (λ b. if b then None else lookup es q) (unmet_uncovered paths q out)

only_tree : (es tree : Entries HeldFile) → Contains (es ∷ []) tree → tree ≡ es
only_tree es tree (zero, lt, same) = sym same
only_tree es tree (suc k, lt, same) = absurd (omega arith)

-- an entry of what is left is one of the tree
pub cut_found : (paths : List (List (List ℕ))) (es : Entries HeldFile) (q : List (List ℕ)) (e : Entry HeldFile) → lookup (cut_all paths es) q ≡ Some e → lookup es q ≡ Some e
cut_found paths es q e found =
    elim (covers paths q) as (λ b. (if b then None else lookup es q) ≡ Some e → lookup es q ≡ Some e) [
      | true ↦ λ none. absurd (none-some e none)
      | false ↦ λ there. there
    ] (sym (is_cut_all paths es q) ∙ found)

cut_drawn : (host : Host) (paths : List (List (List ℕ))) → AreDrawnFrom (trees_of host) (cut_all paths host.root ∷ [])
cut_drawn host paths held home kept file =
    let f = subst (λ tree. HasFile tree held) (only_tree (cut_all paths host.root) file.tree file.among) file.file in
    record {
      tree = host.root;
      among = (zero, omega arith, refl);
      file = record { path = f.path; attributes = f.attributes; stands = cut_found paths host.root f.path (File f.attributes held) f.stands };
    }

pub detached_is_planned : (by : By) (text : List ℕ) (host : Host) → IsValidHost host → IsPlannedHost host (detached by text host)
detached_is_planned by text host valid =
    let paths = cut_paths by text host in
    let test = λ (q : List (List ℕ)). not (covers paths q) in
    let root = cut_all paths host.root in
    let attached = staying by text host.attached in
    let fewer = length_where test host.root in
    let less = bytes_where test host.root in
    let entries = valid.present.limits.entries in
    let bytes = valid.present.limits.bytes in
    record {
      valid = changed_is_valid host paths root attached (cut_same paths host.root) valid
          (record {
            range = all_where (IsWritable held_form) test host.root valid.present.limits.root;
            entries = omega arith;
            bytes = omega arith;
          })
          (staying_attached (λ a. not (goes by text a)) host.attached valid.present.attached);
      drawn = changed_is_drawn host root attached (untouched_all paths host.kept) (cut_drawn host paths);
    }

-- paths in another order cut the same and touch the same
pub same_detached : (host : Host) (xs ys : List (List (List ℕ))) (attached : List Attachment) → ((t : List (List ℕ) → Bool) → list_any t xs ≡ list_any t ys)
    → ◌≡◌ {A = Host} (record host { root = cut_all xs host.root; attached = attached; kept = untouched_all xs host.kept })
    (record host { root = cut_all ys host.root; attached = attached; kept = untouched_all ys host.kept })
same_detached host xs ys attached same = λ i. record host {
  root = where_key path_cmp (λ q. not (same (λ p. is_prefix p q) i)) host.root;
  attached = attached;
  kept = filter (λ (m : Manifest). not (same (λ p. are_related p m.path) i)) host.kept;
}

-- so the host of a plan is valid, and its files are those of the host
pub plan_planned : (host : Host) (name : List ℕ) → IsValidHost host → (r : Result Plan DetachErr) → Detaches host name r → IfOk r (λ plan. IsPlannedHost host plan.next)
plan_planned host name valid (Ok plan) is = subst (IsPlannedHost host) (sym is.2) (detached_is_planned Name name host valid)
plan_planned host name valid (Err e) is = tt
