-- What a complete generation is to a store: all is there for it beside the state for which the store durably stands.
use Rattle.std.proofs.Common.{◌≡◌, ◌⊎◌, ℕ, ◌+◌, ◌<◌, zero, suc, Bool, true, false, List, [], ◌∷◌, Option, Some, None, IfSome, Result, Ok, Err, IfOk, refl, sym, ap, ◌∙◌, subst, inl, inr, arith}
use Rattle.std.specs.Prelude.{slice_get, unwrap_or, ◌==◌}
use Rattle.std.specs.Option.{is_some}
use Rattle.std.specs.Ordering.{eq_by_cmp}
use Rattle.std.proofs.lemmas.Bool.{false≢true, cases_Bool, cond-true, cond-false, eq-eqb, eqb-true}
use Rattle.ext_text.specs.Path.{path_cmp}
use Rattle.ext_text.proofs.ForCallers.{tied_path}
use Rattle.ext_depot.specs.Depot.{DepotState}
use Rattle.ext_disk.specs.Disk.{file, Places, Told, DiskState, BothTold, IsDisk, Tree, is_durable, is_no_folder, now}
use Rattle.ext_disk.specs.Fixed.{IsUnchangedAt, Spares}
use Rattle.ext_host.specs.Drawn.{AreDrawnFrom, IsFileOf, trees_of}
use Rattle.ext_host.specs.Held.{HeldFile, IsStampOf}
use Rattle.ext_host.specs.declared.body.Body.TheVariants.{Kept}
use Rattle.ext_host.specs.declared.home.Home.{Home}
use Rattle.ext_host.specs.declared.host.Host.{Host}
use Rattle.ext_index_lines.specs.declared.text_number.TextNumber.{TextNumber}
use Rattle.ext_index.specs.ValidIndex.{GivesIndex, written_number, written_text}
use Rattle.ext_index.proofs.ForCallers.{text_number_once}
use Rattle.ext_store_files.specs.LeftOvers.{is_left_over}
use Rattle.ext_store_files.specs.Names.{IsGeneration, current_path, generation_name, generation_path, home_path, index_path, next_name, next_path}
use Rattle.ext_store_files.specs.Writing.{IsWritten}
use Rattle.ext_store_files.proofs.ForCallers.{is_left as name_is_left}
use Rattle.ext_homes.specs.Giving.{lists_kept, stored_by, trees_before}
use Rattle.ext_homes.specs.Written.{AreWritten}
use Rattle.ext_gen.specs.Opened.{Generation, IsOpened}
use Rattle.ext_gen.specs.declared.errors.StoreErr.{StoreErr}
use Rattle.ext_gen.specs.Store.{State, none, at, generation_in, IsCurrent, IsKeptFile, Points}
use Rattle.ext_gen.specs.Sound.{IsGenerationPath, base_folder, base_index, base_home, IsDurably, IsReady, KeepsDurably, with_current}
use Rattle.ext_gen.specs.Preparing.{BringNone, PointsBefore, Prepares, PreparesTold, coming_number, contents_after, contents_of, host_before, is_left, is_needed, trees_of_pasts}
use Rattle.ext_gen.specs.PreparingIndex.{coming_index}
use Rattle.ext_gen.specs.PreparingStages.{IsComplete}
use Rattle.ext_gen.specs.PreparingWork.{ChangedTold, Completed}
use Rattle.ext_gen.proofs.DurableLemmas.{durably_kept}
use Rattle.ext_gen.proofs.OpenedLemmas.{current_is_opened}
use Rattle.ext_gen.proofs.PointsLemmas.{one_generation}
use Rattle.ext_gen.proofs.StatesLemmas.{stands_points}
use Rattle.ext_gen.proofs.PreparingChangeLemmas.{needed_not_left, not_next, one_number}
use Rattle.ext_gen.proofs.PreparingFilesLemmas.{before_needed, file_needed, no_file_of_none, opened_home}
use Rattle.ext_gen.proofs.PreparingOpenedLemmas.{IsFrom, before, coming, before_home, coming_is, get_within, host_from, same_home}

-- the state before rests on nothing that is removed or written
base_out : (s : State) (p : List (List ℕ)) → IfSome (generation_in s) IsOpened → IsGenerationPath s p → is_left (generation_in s) p ≡ false
base_out s p opened (base_folder g contents) = needed_not_left (is_needed (Some g)) g.number opened.number (before_needed g)
base_out s p opened (base_index g contents) = needed_not_left (is_needed (Some g)) g.number opened.number (before_needed g)
base_out s p opened (base_home g contents held kept is) =
    let within = opened_home g opened held kept is.file is.body in
    needed_not_left (is_needed (Some g)) kept.generation (omega (arith, within.first), omega (arith, within.last, opened.number.1)) (file_needed g held kept is.file is.body)

-- nor is `current`
pub current_out : (from : Option Generation) → is_left from current_path ≡ false
current_out None = refl
current_out (Some g) = refl

points_opened : (t : Tree) (from : Option Generation) → Points t from → IfSome from IsOpened
points_opened t None points = tt
points_opened t (Some g) points = current_is_opened g t points

bases_out : (from : Option Generation) (x : Option Told) → IfSome x (λ d. Points (now d.places) from)
    → IfSome x (λ d. (s : State) → IsDurably s d.places → (p : List (List ℕ)) → IsGenerationPath s p → is_left from p ≡ false)
bases_out from None points = tt
bases_out from (Some d) points =
    λ s durably p base.
    let same : generation_in s ≡ from = one_generation (now d.places) (generation_in s) from (stands_points (now d.places) s durably.stands) points in
    subst (λ o. is_left o p ≡ false) same (base_out s p (subst (λ o. IfSome o IsOpened) (sym same) (points_opened (now d.places) from points)) base)

-- so a state stays durable
pub change_keeps_durably : (from : Option Generation) (old new : DiskState) → IfSome old.told IsDisk → PointsBefore from old → Spares (is_left from) old new → BothTold KeepsDurably old.told new.told
change_keeps_durably from old new disk points spares = durably_kept (is_left from) old new disk (current_out from) (bases_out from old.told points) spares

-- the index that was written is that of the generation
opened_reads : (n : ℕ) (host : Host) → IsOpened (record { number = n; text = written_text host; host = host }) → GivesIndex n (coming_index n host) (host, written_text host)
opened_reads n host opened =
    let number : opened.index.0 ≡ written_number host = text_number_once opened.index.0 (written_number host) (sym opened.index.1) in
    let same : opened.bytes ≡ coming_index n host = opened.index.2.text ∙ ap (λ (text : TextNumber). Rattle.ext_index.specs.Index.index_text text n host) number ∙ sym (coming_is n host) in
    subst (λ b. GivesIndex n b (host, written_text host)) same opened.index

-- with what is at `next` at `current`, it is current
is_current : (n : ℕ) (host : Host) (written : List (List ℕ)) (e : Places) → IsOpened (record { number = n; text = written_text host; host = host }) → IsComplete n written (coming_index n host) e
    → IsCurrent (with_current (e next_path).node (now e)) (record { number = n; text = written_text host; host = host })
is_current n host written e opened complete = record {
  number = opened.number;
  current = cond-true (eq_by_cmp path_cmp current_path current_path) (e next_path).node (e current_path).node (tied_path current_path current_path refl) ∙ complete.next_is;
  bytes = coming_index n host;
  index = cond-false (eq_by_cmp path_cmp current_path (index_path n)) (e next_path).node (e (index_path n)).node refl ∙ complete.index_is;
  reads = opened_reads n host opened;
}

written_at : (n j : ℕ) (written : List (List ℕ)) (e : Places) (k : ℕ) (bytes : List ℕ) → AreWritten n j written e → slice_get written k ≡ Some bytes → IsWritten (home_path n (j + k)) bytes e
written_at n j [] e k bytes are is = absurd (false≢true (ap is_some is))
written_at n j (b ∷ more) e zero bytes are is =
    subst (λ i. IsWritten (home_path n i) bytes e) (sym (Rattle.std.proofs.Common.add-zero j)) (subst (λ x. IsWritten (home_path n j) x e) (some_is b bytes is) are.0)
  where
    some_is : (x y : List ℕ) → Some x ≡ Some y → x ≡ y
    some_is x y same = cc
written_at n j (b ∷ more) e (suc k) bytes are is =
    let one : (j + 1) + k ≡ j + suc k = omega arith in
    subst (λ i. IsWritten (home_path n i) bytes e) one (written_at n (j + 1) more e k bytes are.1 is)

contents_coming : (n : ℕ) (written : List (List ℕ)) (s : State) (k : ℕ) (bytes : List ℕ) → slice_get written k ≡ Some bytes → contents_after n written s (record { generation = n; file = k }) ≡ bytes
contents_coming n written s k bytes is = cond-true (n == n) _ _ (eq-eqb n n refl) ∙ ap (λ o. unwrap_or o []) is

contents_before : (n : ℕ) (written : List (List ℕ)) (s : State) (home : Home) → home.generation < n → contents_after n written s home ≡ contents_of s home
contents_before n written s home earlier = cond-false (home.generation == n) _ _ (Rattle.ext_gen.proofs.PreparingPathsLemmas.not_true (home.generation == n) (λ same. absurd (omega (arith, earlier, eqb-true home.generation n same))))

-- one of them: it is durable where it is kept, with bytes of its stamp
record IsThere (n : ℕ) (written : List (List ℕ)) (s : State) (e : Places) (held : HeldFile) (home : Home) : Type 0 where
  stands : (e (home_path home.generation home.file)).node ≡ Some (file (contents_after n written s home))
  stamped : IsStampOf (contents_after n written s home) held.stamp
  durable : is_durable e (home_path home.generation home.file) ≡ true

-- of the state before
old_there : (s : State) (n : ℕ) (written : List (List ℕ)) (e : Places) (held : HeldFile) (home : Home) → IfSome (generation_in s) IsOpened → n ≡ coming_number (generation_in s) → IsDurably s e
    → lists_kept (trees_before (host_before (generation_in s))) held.stamp home → IsThere n written s e held home
old_there none n written e held home opened number durably listed = absurd (no_file_of_none _ listed)
old_there (at g contents) n written e held home opened number durably listed =
    let kept : IsKeptFile g.host (record { stamp = held.stamp; body = Kept home }) home = record { file = listed; body = refl } in
    let same = contents_before n written (at g contents) home (omega (arith, (before_home (Some g) opened held.stamp home listed).1, number)) in
    let files = durably.stands.1 in
    record {
      stands = files.stands (record { stamp = held.stamp; body = Kept home }) home kept ∙ ap (λ b. Some (file b)) (sym same);
      stamped = subst (λ b. IsStampOf b held.stamp) (sym same) (files.stamped (record { stamp = held.stamp; body = Kept home }) home kept);
      durable = durably.base (home_path home.generation home.file) (base_home g contents (record { stamp = held.stamp; body = Kept home }) home kept);
    }

new_there : (s : State) (n : ℕ) (host : Host) (written : List (List ℕ)) (e : Places) (held : HeldFile) (k : ℕ) (bytes : List ℕ) → IsComplete n written (coming_index n host) e → slice_get written k ≡ Some bytes
    → IsStampOf bytes held.stamp → IsThere n written s e held (record { generation = n; file = k })
new_there s n host written e held k bytes complete get stamp =
    let same = contents_coming n written s k bytes get in
    let is : IsWritten (home_path n k) bytes e = subst (λ i. IsWritten (home_path n i) bytes e) (Rattle.std.proofs.Common.zero-add k) (written_at n 0 written e k bytes complete.files get) in
    record {
      stands = is.node ∙ ap (λ b. Some (file b)) (sym same);
      stamped = subst (λ b. IsStampOf b held.stamp) (sym same) stamp;
      durable = complete.durable k (get_within written k bytes get);
    }

all_there : (s : State) (n : ℕ) (host : Host) (written : List (List ℕ)) (e : Places) (held : HeldFile) (home : Home) → IfSome (generation_in s) IsOpened → n ≡ coming_number (generation_in s) → IsDurably s e
    → IsComplete n written (coming_index n host) e → held.body ≡ Kept home → IsFrom (lists_kept (trees_before (host_before (generation_in s)))) n written held → IsThere n written s e held home
all_there s n host written e held home opened number durably complete body (before other is listed) =
    old_there s n written e held home opened number durably (subst (lists_kept (trees_before (host_before (generation_in s))) held.stamp) (same_home other home (sym is ∙ body)) listed)
all_there s n host written e held home opened number durably complete body (coming k bytes is get stamp) =
    subst (IsThere n written s e held) (same_home (record { generation = n; file = k }) home (sym is ∙ body)) (new_there s n host written e held k bytes complete get stamp)

-- where each file of the coming host comes from
abbrev FilesFrom : Option Generation → ℕ → List (List ℕ) → Host → Type 0
FilesFrom from n written host = (held : HeldFile) → IsFileOf (trees_of host) held → IsFrom (lists_kept (trees_before (host_before from))) n written held

base_durable : (s : State) (n : ℕ) (host : Host) (written : List (List ℕ)) (e : Places) → IsComplete n written (coming_index n host) e
    → ((held : HeldFile) (home : Home) → IsKeptFile host held home → IsThere n written s e held home) → (u : State) → u ≡ at (record { number = n; text = written_text host; host = host }) (contents_after n written s)
    → (p : List (List ℕ)) → IsGenerationPath u p → is_durable e p ≡ true
base_durable s n host written e complete there u same p (base_folder g contents) = subst (λ (k : ℕ). is_durable e (generation_path k) ≡ true) (sym (ap number_in same)) complete.generation
  where
    number_in : State → ℕ
    number_in none = 0
    number_in (at h c) = h.number
base_durable s n host written e complete there u same p (base_index g contents) = subst (λ (k : ℕ). is_durable e (index_path k) ≡ true) (sym (ap number_in same)) complete.index
  where
    number_in : State → ℕ
    number_in none = 0
    number_in (at h c) = h.number
base_durable s n host written e complete there u same p (base_home g contents held kept is) = (there held kept (subst (λ h. IsKeptFile h held kept) (ap host_in same) is)).durable
  where
    host_in : State → Host
    host_in none = host
    host_in (at h c) = h.host

is_ready : (s : State) (n : ℕ) (host : Host) (written : List (List ℕ)) (e : Places) → IfSome (generation_in s) IsOpened → n ≡ coming_number (generation_in s) → IsDurably s e
    → IsOpened (record { number = n; text = written_text host; host = host }) → IsComplete n written (coming_index n host) e → FilesFrom (generation_in s) n written host
    → IsReady s (at (record { number = n; text = written_text host; host = host }) (contents_after n written s)) e
is_ready s n host written e opened number durably fresh complete files =
    let there : (held : HeldFile) (home : Home) → IsKeptFile host held home → IsThere n written s e held home =
    λ held home is. all_there s n host written e held home opened number durably complete is.body (files held is.file) in
    record {
      durably = durably;
      next = complete.next;
      coming = (
        is_current n host written e fresh complete,
        record {
          stands = λ held home is. cond-false (eq_by_cmp path_cmp current_path (home_path home.generation home.file)) (e next_path).node (e (home_path home.generation home.file)).node refl ∙ (there held home is).stands;
          stamped = λ held home is. (there held home is).stamped;
        },
      );
      base = base_durable s n host written e complete there (at (record { number = n; text = written_text host; host = host }) (contents_after n written s)) refl;
    }

generations_of : (needed : ℕ → Bool) (n : ℕ) (e : Places) → IsGeneration n
    → ((name : List ℕ) → is_left_over needed name ≡ true → is_some (e (name ∷ [])).node ≡ true → (name ≡ next_name) ⊎ (name ≡ generation_name n))
    → (m : ℕ) → IsGeneration m → is_some (e (generation_path m)).node ≡ true → (m ≡ n) ⊎ (needed m ≡ true)
generations_of needed n e fresh names m is some = one (cases_Bool (needed m))
  where
    name_of : (generation_name m ≡ next_name) ⊎ (generation_name m ≡ generation_name n) → (m ≡ n) ⊎ (needed m ≡ true)
    name_of (inl same) = absurd (not_next m same)
    name_of (inr same) = inl (one_number m n is fresh same)

    one : (needed m ≡ true) ⊎ (needed m ≡ false) → (m ≡ n) ⊎ (needed m ≡ true)
    one (inl need) = inr need
    one (inr free) = name_of (names (generation_name m) (name_is_left needed (generation_name m) (inr (m, is, refl, free))) some)

no_folder_current : (t : Tree) (from : Option Generation) → Points t from → is_no_folder (t current_path) ≡ true
no_folder_current t None points = ap is_no_folder points
no_folder_current t (Some g) points = ap is_no_folder points.current

prepares_told : (from : Option Generation) (n : ℕ) (host : Host) (written : List (List ℕ)) (x y : Option Told) → n ≡ coming_number from → IsOpened (record { number = n; text = written_text host; host = host })
    → FilesFrom from n written host → IfSome x (λ d. Points (now d.places) from) → BothTold KeepsDurably x y → BothTold (λ d e. (p : List (List ℕ)) → is_left from p ≡ false → IsUnchangedAt d e p) x y
    → BothTold (ChangedTold (is_needed from) n host written) x y → BothTold (PreparesTold from (record { number = n; text = written_text host; host = host }) written) x y
prepares_told from n host written None None number fresh files points keeps spares changed = tt
prepares_told from n host written None (Some e) number fresh files points keeps spares changed = absurd changed
prepares_told from n host written (Some d) None number fresh files points keeps spares changed = absurd changed
prepares_told from n host written (Some d) (Some e) number fresh files points keeps spares changed = record {
  ready = λ s durably.
      let same : from ≡ generation_in s = sym (one_generation (now d.places) (generation_in s) from (stands_points (now d.places) s durably.stands) points) in
      is_ready s n host written e.places (subst (λ o. IfSome o IsOpened) same (points_opened (now d.places) from points)) (number ∙ ap coming_number same) (keeps s durably).0 fresh changed.complete
      (subst (λ o. FilesFrom o n written host) same files);
  prepared = record {
    coming = is_current n host written e.places fresh changed.complete;
    free = ap is_no_folder (spares current_path (current_out from)).stays.node ∙ no_folder_current (now d.places) from points;
  };
  appended = changed.appended;
  generations = generations_of (is_needed from) n e.places fresh.number changed.names;
}

-- all is prepared
pub completed_prepares : (from : Option Generation) (next : Host) (old new : DiskState) (depot : DepotState) (g : Generation) → AreDrawnFrom (trees_before (host_before from)) (trees_of next)
    → BringNone (trees_of_pasts next.past) → PointsBefore from old → BothTold KeepsDurably old.told new.told → Spares (is_left from) old new → Completed from next old new depot g
    → Prepares from next old new depot g
completed_prepares from next old new depot g drawn bring points keeps spares completed =
    let changed = completed.changed in
    let same : g ≡ record { number = g.number; text = written_text g.host; host = g.host } = λ i. record { number = g.number; text = completed.text i; host = g.host } in
    let files : FilesFrom from g.number changed.written g.host =
    λ held file. host_from (trees_before (host_before from)) next drawn (stored_by (host_before from) old) depot g.number g.host changed.written held (λ s h listed. listed) bring changed.homes file in
    record {
      number = completed.number;
      text = completed.text;
      written = changed.written;
      homes = changed.homes;
      told = subst (λ h. BothTold (PreparesTold from h changed.written) old.told new.told) (sym same)
          (prepares_told from g.number g.host changed.written old.told new.told completed.number changed.opened files points keeps spares.told changed.told);
    }

pub result_prepares : (from : Option Generation) (next : Host) (old new : DiskState) (depot : DepotState) → AreDrawnFrom (trees_before (host_before from)) (trees_of next) → BringNone (trees_of_pasts next.past)
    → PointsBefore from old → BothTold KeepsDurably old.told new.told → Spares (is_left from) old new → (r : Result Generation StoreErr) → IfOk r (Completed from next old new depot)
    → IfOk r (Prepares from next old new depot)
result_prepares from next old new depot drawn bring points keeps spares (Ok g) completed = completed_prepares from next old new depot g drawn bring points keeps spares completed
result_prepares from next old new depot drawn bring points keeps spares (Err e) completed = tt
