-- What each part of a change leaves for the next one, and that at the end all is durable.
use Rattle.std.proofs.Common.{◌≡◌, ◌⊎◌, ℕ, ◌+◌, ◌<◌, Bool, true, false, not, ◌&&◌, List, [], ◌∷◌, take, drop, length, Option, Some, None, IfSome, Result, Ok, refl, sym, ap, ◌∙◌, subst, inl, inr, arith}
use Rattle.std.specs.List.{sum_by}
use Rattle.std.specs.Option.{is_some}
use Rattle.std.specs.Ordering.{eq_by_cmp}
use Rattle.std.proofs.lemmas.Bool.{false≢true, and_parts, and_from, cases_Bool, not_from_false}
use Rattle.ext_lines.specs.Hexadecimal.{five_digits}
use Rattle.ext_text.specs.Path.{is_prefix}
use Rattle.ext_text.proofs.ForCallers.{prefix_self, same_name}
use Rattle.ext_disk.specs.Disk.{Node, Places, Told, DiskState, BothTold, IsDisk, IsTree, is_durable, is_folder, is_synced}
use Rattle.ext_disk.specs.Fixed.{IsUnchangedAt, Stays}
use Rattle.ext_store_files.specs.Appended.{raised}
use Rattle.ext_store_files.specs.LeftOvers.{is_left_path}
use Rattle.ext_store_files.specs.Names.{IsGeneration, current_text, generation_name, generation_path, home_folder, home_path, index_name, index_path, next_name, next_path}
use Rattle.ext_store_files.specs.Removal.{IsClear, Removes}
use Rattle.ext_store_files.specs.Writing.{is_at, nowhere, Holds, IsMade, Works, WorksTold}
use Rattle.ext_store_files.proofs.ForCallers.{holds_map, holds_both, holds_then, told_then, is_left, within_none}
use Rattle.ext_store_files.specs.declared.errors.CleanErr.{CleanErr}
use Rattle.ext_depot.specs.Depot.{DepotState}
use Rattle.ext_host.specs.declared.host.Host.{Host}
use Rattle.ext_homes.specs.Giving.{Gives}
use Rattle.ext_homes.specs.declared.giving.Placed.{Placed}
use Rattle.ext_homes.specs.Written.{AreWritten, HasOnlyHomes, Writes, is_below}
use Rattle.ext_gen.specs.PreparingPaths.{is_coming, IsComing, MakesTold, Makes}
use Rattle.ext_gen.specs.PreparingStages.{AreSynced, CompletesGeneration, Fills, FillsTold, HasFolder, HasHomeFolders, IsAbsent, IsComplete, IsFilled, IsFolderAt, IsIndexed, IsGenerationOpen, IsPutSynced}
use Rattle.ext_gen.proofs.PreparingMovesLemmas.{stays_holds, still_written, told_fact}
use Rattle.ext_gen.proofs.PreparingPathsLemmas.{not_true, contraposed}

clear_at : (needed : ℕ → Bool) (n : ℕ) → IsGeneration n → needed n ≡ false → (d : Places) → IsClear (is_left_path needed) d → IsAbsent (generation_path n) d
clear_at needed n is free d clear = clear (generation_path n) (is_left needed (generation_name n) (inr (n, is, refl, free)))

clear_told : {T : Type 0} (most : ℕ) (reach : List (List ℕ) → Bool) (r : Result T CleanErr) → (t : T) → r ≡ Ok t → (x y : Option Told) → BothTold (Removes most reach r) x y → IfSome y (λ e. IsClear reach e.places)
clear_told {T} most reach r t is x y removes =
    let good : Result T CleanErr = Ok t in
    told_fact (IsClear reach) (Removes most reach good) (λ d e told. told.2) x y (subst (λ z. BothTold (Removes most reach z) x y) is removes)

-- so the folder of the coming generation may be made
pub absent_after : {T : Type 0} (most : ℕ) (needed : ℕ → Bool) (n : ℕ) (r : Result T CleanErr) (t : T) → r ≡ Ok t → IsGeneration n → needed n ≡ false → (old new : DiskState)
    → BothTold (Removes most (is_left_path needed) r) old.told new.told → Holds (IsAbsent (generation_path n)) new
absent_after most needed n r t done is free old new removes =
    holds_map (IsClear (is_left_path needed)) (IsAbsent (generation_path n)) (clear_at needed n is free) new.told (clear_told most (is_left_path needed) r t done old.told new.told removes)

none_or : (A : Type 0) (o : Option A) → o ≡ None → is_some o ≡ true → ⊥
none_or A o none some = false≢true (sym (ap is_some none) ∙ some)

open_at : (needed : ℕ → Bool) (n : ℕ) (d e : Places) → IsClear (is_left_path needed) d → ((p : List (List ℕ)) → is_at (generation_path n) p ≡ false → (e p).node ≡ (d p).node)
    → IsMade (generation_path n) e → IsGenerationOpen needed n e
open_at needed n d e clear same is = record {
  made = is;
  no_next = same next_path refl ∙ clear next_path (is_left needed next_name (inl refl));
  clear = λ p left some. here p left some (cases_Bool (is_at (generation_path n) p));
}
  where
    here : (p : List (List ℕ)) → is_left_path needed p ≡ true → is_some (e p).node ≡ true → (is_at (generation_path n) p ≡ true) ⊎ (is_at (generation_path n) p ≡ false) → p ≡ generation_path n
    here p left some (inl at) = sym (Rattle.ext_text.proofs.ForCallers.same_path (generation_path n) p at)
    here p left some (inr out) = absurd (none_or _ (e p).node (same p out ∙ clear p left) some)

-- the folder was made where the left-overs were
pub opened_after : {T : Type 0} (many : ℕ) (needed : ℕ → Bool) (n : ℕ) (r : Result T CleanErr) (t : T) → r ≡ Ok t → (old mid new : DiskState)
    → BothTold (Removes many (is_left_path needed) r) old.told mid.told → Works (is_prefix (generation_path n)) (is_at (generation_path n)) 0 mid new → Holds (IsMade (generation_path n)) new
    → Holds (IsGenerationOpen needed n) new
opened_after many needed n r t done old mid new removes works is =
    holds_both (IsMade (generation_path n)) (λ e. IsMade (generation_path n) e → IsGenerationOpen needed n e) (IsGenerationOpen needed n) (λ e one gives. gives one) new.told is
    (holds_then (IsClear (is_left_path needed)) (λ e. IsMade (generation_path n) e → IsGenerationOpen needed n e) (WorksTold (is_at (generation_path n)) 0)
    (λ d e clear told. open_at needed n d.places e.places clear told.now) mid.told new.told
    (clear_told many (is_left_path needed) r t done old.told mid.told removes) works.told)

-- five bytes against three
index_is_no_folder : (k : ℕ) → index_name ≡ take 3 (five_digits k) → ⊥
index_is_no_folder k same = absurd (omega (arith, ap length same))

not_below_itself : (n : ℕ) → is_below n (generation_path n) ≡ false
not_below_itself n = ap (λ b. b && not b) (prefix_self (generation_path n))

next_not_below : (n : ℕ) → is_below n next_path ≡ false
next_not_below n = refl

index_is_below : (n : ℕ) → is_below n (index_path n) ≡ true
index_is_below n = Rattle.ext_store_files.proofs.ForCallers.proper_append (generation_path n) index_name []

second_name : (n k : ℕ) → (index_path n ≡ home_folder n k) ⊎ (index_path n ≡ home_path n k) → index_name ≡ take 3 (five_digits k)
second_name n k (inl same) = ap (λ (p : List (List ℕ)). Rattle.std.proofs.Common.get_or p 1 []) same
second_name n k (inr same) = ap (λ (p : List (List ℕ)). Rattle.std.proofs.Common.get_or p 1 []) same

-- no file of the generation is its index
no_index_of : (n count : ℕ) (e : Places) → HasOnlyHomes n count e → IsAbsent (index_path n) e
no_index_of n count e only = none_from (e (index_path n)).node (λ some. let home = only (index_path n) (index_is_below n) some in index_is_no_folder home.0 (second_name n home.0 home.2))
  where
    none_from : (o : Option Node) → (is_some o ≡ true → ⊥) → o ≡ None
    none_from None never = refl
    none_from (Some x) never = absurd (never refl)

still_all_written : (n j : ℕ) (written : List (List ℕ)) (d e : Places) → ((k : ℕ) → Stays d e (home_path n k)) → AreWritten n j written d → AreWritten n j written e
still_all_written n j [] d e stays is = tt
still_all_written n j (bytes ∷ more) d e stays is = (still_written (home_path n j) bytes d e (stays j) is.0, still_all_written n (j + 1) more d e stays is.1)

still_folder : (n : ℕ) (d e : Places) → Stays d e (generation_path n) → HasFolder n d → HasFolder n e
still_folder n d e stays is = record { stands = stays.node ∙ is.stands; hard = stays.hard is.hard }

made_folder : (n : ℕ) (d : Places) → IsMade (generation_path n) d → HasFolder n d
made_folder n d is = record { stands = is.node; hard = is.hard }

-- all but that names are synced
abbrev IsWrittenAll : ℕ → List (List ℕ) → Places → Type 0
IsWrittenAll n written e = HasFolder n e × AreWritten n 0 written e × IsAbsent (index_path n) e × IsAbsent next_path e

written_stays : (n : ℕ) (written : List (List ℕ)) (d e : Places) → ((p : List (List ℕ)) → nowhere p ≡ false → Stays d e p) → IsWrittenAll n written d → IsWrittenAll n written e
written_stays n written d e stays all = (
  still_folder n d e (stays (generation_path n) refl) all.0,
  still_all_written n 0 written d e (λ k. stays (home_path n k) refl) all.1,
  (stays (index_path n) refl).node ∙ all.2,
  (stays next_path refl).node ∙ all.3,
)

written_all : (n : ℕ) (written : List (List ℕ)) (r s : DiskState) (most : ℕ) → Holds (IsMade (generation_path n)) r → Holds (IsAbsent next_path) r → Works (is_below n) (is_below n) most r s
    → BothTold (Writes n 0 written) r.told s.told → Holds (IsWrittenAll n written) s
written_all n written r s most is none works writes =
    holds_both (λ e. HasFolder n e × IsAbsent next_path e) (λ e. AreWritten n 0 written e × IsAbsent (index_path n) e) (IsWrittenAll n written) (λ e one two. (one.0, two.0, two.1, one.1)) s.told
    (holds_both (HasFolder n) (IsAbsent next_path) (λ e. HasFolder n e × IsAbsent next_path e) (λ e one two. (one, two)) s.told
    (stays_holds (is_below n) (IsMade (generation_path n)) (HasFolder n) r s (λ d e stays made. still_folder n d e (stays (generation_path n) (not_below_itself n)) (made_folder n d made)) works.spares is)
    (stays_holds (is_below n) (IsAbsent next_path) (IsAbsent next_path) r s (λ d e stays absent. (stays next_path (next_not_below n)).node ∙ absent) works.spares none))
    (told_fact (λ e. AreWritten n 0 written e × IsAbsent (index_path n) e) (Writes n 0 written) (λ d e told. (told.files, no_index_of n (0 + length written) e.places told.homes.only)) r.told s.told writes)

-- the files were written, and then their names synced
pub filled_after : (n : ℕ) (written : List (List ℕ)) (r s t : DiskState) (most : ℕ) → Holds (IsMade (generation_path n)) r → Holds (IsAbsent next_path) r
    → Works (is_below n) (is_below n) most r s → BothTold (Writes n 0 written) r.told s.told → Works nowhere nowhere 0 s t → Holds (AreSynced n (length written)) t
    → Holds (IsFilled n written) t
filled_after n written r s t most is none works writes syncing synced =
    holds_both (IsWrittenAll n written) (AreSynced n (length written)) (IsFilled n written)
    (λ e all names. record { generation = all.0; files = all.1; synced = names; no_index = all.2; no_next = all.3 }) t.told
    (stays_holds nowhere (IsWrittenAll n written) (IsWrittenAll n written) s t (written_stays n written) syncing.spares (written_all n written r s most is none works writes)) synced

pub both_with : (R S : Told → Told → Type 0) (P : Places → Type 0) → ((d e : Told) → R d e → P e.places → S d e) → (x y : Option Told) → BothTold R x y → IfSome y (λ e. P e.places) → BothTold S x y
both_with R S P gives None None both is = tt
both_with R S P gives None (Some e) both is = absurd both
both_with R S P gives (Some d) None both is = absurd both
both_with R S P gives (Some d) (Some e) both is = gives d e both is

-- and nothing else was appended
pub fills_told : (n : ℕ) (written : List (List ℕ)) (r s t : DiskState) → BothTold (Writes n 0 written) r.told s.told → Works nowhere nowhere 0 s t → Holds (IsFilled n written) t
    → BothTold (FillsTold n written) r.told t.told
fills_told n written r s t writes syncing filled =
    both_with (λ d e. e.appended ≡ raised d.appended (sum_by length written)) (FillsTold n written) (IsFilled n written) (λ d e sum is. record { filled = is; appended = sum }) r.told t.told
    (told_then (Writes n 0 written) (WorksTold nowhere 0) (λ d e. e.appended ≡ raised d.appended (sum_by length written)) (λ c d e x y. within_none d.appended e.appended y.appended ∙ x.appended) r.told s.told t.told writes syncing.told)
    filled

-- the folders of the files stand
pub home_folders : (n files : ℕ) (written : List (List ℕ)) (x y : Option Told) → files ≡ length written → BothTold (Writes n 0 written) x y → IfSome y (λ e. HasHomeFolders n files e.places)
home_folders n files written x y count writes =
    told_fact (HasHomeFolders n files) (Writes n 0 written) (λ d e told k below. ap is_folder (told.homes.folders k (omega (arith, below, count)))) x y writes

-- homes were given, and then the names synced
pub fills_after : (from : Option Host) (n : ℕ) (host : Host) (most : ℕ) (r s t : DiskState) (depot : DepotState) (placed : Placed) → Holds (IsMade (generation_path n)) r → Holds (IsAbsent next_path) r
    → Works (is_below n) (is_below n) most r s → Gives from n host r s depot placed → Works nowhere nowhere 0 s t → Holds (AreSynced n placed.files) t → Fills from n host r t depot placed
fills_after from n host most r s t depot placed is none works gives syncing synced =
    let filled : Holds (IsFilled n gives.written) t =
    filled_after n gives.written r s t most is none works gives.told syncing (subst (λ k. Holds (AreSynced n k) t) gives.count synced) in
    record {
      written = gives.written;
      homes = gives.homes;
      count = gives.count;
      told = fills_told n gives.written r s t gives.told syncing filled;
    }

made_at : (n count : ℕ) (d e : Places) → IsMade (generation_path n) d → ((p : List (List ℕ)) → is_below n p ≡ false → (e p).node ≡ (d p).node) → HasOnlyHomes n count e → (p : List (List ℕ))
    → ((e p).node ≡ (d p).node) ⊎ IsComing n count p
made_at n count d e is same only p = elim (cases_Bool (is_below n p)) [
  | inl below ↦ one below (e p).node refl
  | inr out ↦ inl (same p out)
]
  where
    at_home : (k : ℕ) → k < count → (p ≡ home_folder n k) ⊎ (p ≡ home_path n k) → IsComing n count p
    at_home k below (inl same) = subst (IsComing n count) (sym same) (Rattle.ext_gen.specs.PreparingPaths.folder k below)
    at_home k below (inr same) = subst (IsComing n count) (sym same) (Rattle.ext_gen.specs.PreparingPaths.file k below)

    one : is_below n p ≡ true → (o : Option Node) → (e p).node ≡ o → ((e p).node ≡ (d p).node) ⊎ IsComing n count p
    one below None none = inl (none ∙ sym (is.empty p below))
    one below (Some node) some = let home = only p below (ap is_some some) in inr (at_home home.0 home.1 home.2)

homes_told : (n count most : ℕ) (x y : Option Told) → IfSome x (λ d. IsMade (generation_path n) d.places) → BothTold (WorksTold (is_below n) most) x y → IfSome y (λ e. HasOnlyHomes n count e.places)
    → BothTold (MakesTold n count most) x y
homes_told n count most None None is works only = tt
homes_told n count most None (Some e) is works only = absurd works
homes_told n count most (Some d) None is works only = absurd works
homes_told n count most (Some d) (Some e) is works only = record { now = made_at n count d.places e.places is works.now only; appended = works.appended }

below_coming : (n : ℕ) (p : List (List ℕ)) → is_below n p ≡ true → is_coming n p ≡ true
below_coming n p below =
    Rattle.ext_gen.proofs.PreparingPathsLemmas.below_is_coming n p (and_parts (is_prefix (generation_path n) p) (not (is_prefix p (generation_path n))) below).0

pub homes_make : (n count most : ℕ) (old new : DiskState) → Holds (IsMade (generation_path n)) old → Works (is_below n) (is_below n) most old new → Holds (HasOnlyHomes n count) new
    → Makes n count most old new
homes_make n count most old new is works only = record {
  spares = Rattle.ext_disk.proofs.ForCallers.spares_wider (is_below n) (is_coming n) old new (λ p out. contraposed (is_below n p) (is_coming n p) (below_coming n p) out) works.spares;
  told = homes_told n count most old.told new.told is works.told only;
}

index_not_above : (n : ℕ) → is_prefix (index_path n) (generation_path n) ≡ false
index_not_above n = not_true (is_prefix (index_path n) (generation_path n)) (λ is. false≢true (and_parts (eq_by_cmp Rattle.ext_text.specs.Name.bytes_cmp (generation_name n) (generation_name n)) false is).1)

index_no_home : (n k : ℕ) → is_prefix (index_path n) (home_path n k) ≡ false
index_no_home n k = not_true (is_prefix (index_path n) (home_path n k))
    (λ is. index_is_no_folder k (same_name index_name (take 3 (five_digits k))
    (and_parts (eq_by_cmp Rattle.ext_text.specs.Name.bytes_cmp index_name (take 3 (five_digits k))) true
    (and_parts (eq_by_cmp Rattle.ext_text.specs.Name.bytes_cmp (generation_name n) (generation_name n)) (eq_by_cmp Rattle.ext_text.specs.Name.bytes_cmp index_name (take 3 (five_digits k)) && true) is).1).0))

index_put : (n : ℕ) (text : List ℕ) (d e : Places) → ((p : List (List ℕ)) → is_prefix (index_path n) p ≡ false → Stays d e p) → IsPutSynced (generation_path n) (index_path n) text e
    → (written : List (List ℕ)) → IsFilled n written d → IsIndexed n written text e
index_put n text d e stays put written filled = record {
  generation = still_folder n d e (stays (generation_path n) (index_not_above n)) filled.generation;
  files = still_all_written n 0 written d e (λ k. stays (home_path n k) (index_no_home n k)) filled.files;
  synced = λ k below. (stays (home_path n k) (index_no_home n k)).synced (filled.synced k below);
  index = put;
  no_next = (stays next_path refl).node ∙ filled.no_next;
}

root_synced : (e : Places) → IsTree e → is_synced (e []) ≡ true
root_synced e tree = ap is_synced tree.root

durable_at_one : (e : Places) (a : List ℕ) → is_synced (e []) ≡ true → is_synced (e (a ∷ [])) ≡ true → (e (a ∷ [])).unsynced_bytes ≡ false → is_durable e (a ∷ []) ≡ true
durable_at_one e a root one hard = and_from _ _ (and_from _ _ root one) (not_from_false _ hard)

durable_at_two : (e : Places) (a b : List ℕ) → is_synced (e []) ≡ true → is_synced (e (a ∷ [])) ≡ true → is_synced (e (a ∷ b ∷ [])) ≡ true → (e (a ∷ b ∷ [])).unsynced_bytes ≡ false
    → is_durable e (a ∷ b ∷ []) ≡ true
durable_at_two e a b root one two hard = and_from _ _ (and_from _ _ root (and_from _ _ one two)) (not_from_false _ hard)

durable_at_three : (e : Places) (a b c : List ℕ) → is_synced (e []) ≡ true → is_synced (e (a ∷ [])) ≡ true → is_synced (e (a ∷ b ∷ [])) ≡ true → is_synced (e (a ∷ b ∷ c ∷ [])) ≡ true
    → (e (a ∷ b ∷ c ∷ [])).unsynced_bytes ≡ false → is_durable e (a ∷ b ∷ c ∷ []) ≡ true
durable_at_three e a b c root one two three hard = and_from _ _ (and_from _ _ root (and_from _ _ one (and_from _ _ two three))) (not_from_false _ hard)

hard_at : (n j : ℕ) (written : List (List ℕ)) (e : Places) (k : ℕ) → k < length written → AreWritten n j written e → (e (home_path n (j + k))).unsynced_bytes ≡ false
hard_at n j [] e k below are = absurd (omega (arith, below))
hard_at n j (bytes ∷ more) e Prim.Native.Nat.zero below are = ap (λ i. (e (home_path n i)).unsynced_bytes) (Rattle.std.proofs.Common.add-zero j) ∙ are.0.hard
hard_at n j (bytes ∷ more) e (Prim.Native.Nat.suc k) below are =
    let one : j + Prim.Native.Nat.suc k ≡ (j + 1) + k = omega arith in
    ap (λ i. (e (home_path n i)).unsynced_bytes) one ∙ hard_at n (j + 1) more e k (omega (arith, below)) are.1

next_put : (n : ℕ) (text : List ℕ) (d e : Places) → IsTree e → ((p : List (List ℕ)) → is_prefix next_path p ≡ false → Stays d e p) → IsPutSynced [] next_path (current_text n) e
    → (written : List (List ℕ)) → IsIndexed n written text d → IsComplete n written text e
next_put n text d e tree stays put written is =
    let root = root_synced e tree in
    let top : is_synced (e (generation_path n)) ≡ true = put.names (generation_name n) in
    let indexed = stays (index_path n) refl in
    let files : AreWritten n 0 written e = still_all_written n 0 written d e (λ k. stays (home_path n k) refl) is.files in
    record {
      generation = durable_at_one e (generation_name n) root top ((stays (generation_path n) refl).hard is.generation.hard);
      index = durable_at_two e (generation_name n) index_name root top (indexed.synced (is.index.names index_name)) (indexed.hard is.index.written.hard);
      index_is = indexed.node ∙ is.index.written.node;
      next = durable_at_one e next_name root (put.names next_name) put.written.hard;
      next_is = put.written.node;
      durable = λ k below.
          durable_at_three e (generation_name n) (take 3 (five_digits k)) (drop 3 (five_digits k)) root top
          ((stays (home_folder n k) refl).synced (is.index.names (take 3 (five_digits k))))
          ((stays (home_path n k) refl).synced (is.synced k below))
          (ap (λ i. (e (home_path n i)).unsynced_bytes) (sym (Rattle.std.proofs.Common.zero-add k)) ∙ hard_at n 0 written e k below files);
      files = files;
    }

completes_told : (n : ℕ) (text : List ℕ) (x y z : Option Told) → IfSome z IsDisk → BothTold (λ d e. (p : List (List ℕ)) → is_prefix (index_path n) p ≡ false → IsUnchangedAt d e p) x y
    → IfSome y (λ e. IsPutSynced (generation_path n) (index_path n) text e.places) → BothTold (λ d e. (p : List (List ℕ)) → is_prefix next_path p ≡ false → IsUnchangedAt d e p) y z
    → IfSome z (λ e. IsPutSynced [] next_path (current_text n) e.places) → BothTold (CompletesGeneration n text) x z
completes_told n text None None None disk one put two last = tt
completes_told n text None None (Some f) disk one put two last = absurd two
completes_told n text None (Some e) z disk one put two last = absurd one
completes_told n text (Some d) None z disk one put two last = absurd one
completes_told n text (Some d) (Some e) None disk one put two last = absurd two
completes_told n text (Some d) (Some e) (Some f) disk one put two last =
    λ written filled.
    next_put n text e.places f.places disk.tree (λ p out. (two p out).stays) last written
    (index_put n text d.places e.places (λ p out. (one p out).stays) put written filled)

-- the index was put, and then `next`
pub completed : (n : ℕ) (text : List ℕ) (a b : ℕ) (r s t : DiskState) → IfSome t.told IsDisk → Works (is_prefix (index_path n)) (is_at (index_path n)) a r s
    → Holds (IsPutSynced (generation_path n) (index_path n) text) s → Works (is_prefix next_path) (is_at next_path) b s t → Holds (IsPutSynced [] next_path (current_text n)) t
    → BothTold (CompletesGeneration n text) r.told t.told
completed n text a b r s t disk one put two last = completes_told n text r.told s.told t.told disk one.spares.told put two.spares.told last

pub filled_folder : (n : ℕ) (written : List (List ℕ)) (old new : DiskState) → BothTold (FillsTold n written) old.told new.told → Holds (IsFolderAt (generation_path n)) new
filled_folder n written old new told = told_fact (IsFolderAt (generation_path n)) (FillsTold n written) (λ d e fills. ap is_folder fills.filled.generation.stands) old.told new.told told

pub filled_no_index : (n : ℕ) (written : List (List ℕ)) (old new : DiskState) → BothTold (FillsTold n written) old.told new.told → Holds (IsAbsent (index_path n)) new
filled_no_index n written old new told = told_fact (IsAbsent (index_path n)) (FillsTold n written) (λ d e fills. fills.filled.no_index) old.told new.told told

pub filled_no_next : (n : ℕ) (written : List (List ℕ)) (old new : DiskState) → BothTold (FillsTold n written) old.told new.told → Holds (IsAbsent next_path) new
filled_no_next n written old new told = told_fact (IsAbsent next_path) (FillsTold n written) (λ d e fills. fills.filled.no_next) old.told new.told told
