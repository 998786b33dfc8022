-- What no line touches stays: from step to step the host is valid, and each of its files is kept.
use Rattle.std.specs.Prelude.{not}
use Rattle.std.proofs.Common.{◌≡◌, ◌≢◌, ◌⊎◌, ℕ, zero, suc, ◌+◌, ◌<◌, ◌≤◌, ◌==◌, true, false, List, [], ◌∷◌, ◌++◌, inl, inr, Option, Some, None, refl, sym, ap, ◌∙◌, subst, if◌then◌else◌, arith}
use Rattle.std.specs.Prelude.{Contains, slice_get, unwrap_or}
use Rattle.std.specs.List.{AllByRecursion}
use Rattle.std.proofs.lemmas.Bool.Decides.{eqb_tells}
use Rattle.ext_attributes.specs.Attributes.{OfFile}
use Rattle.ext_text.specs.Path.{are_related, is_prefix}
use Rattle.ext_text.proofs.ForCallers.{all_prefix}
use Rattle.ext_depot.specs.Depot.{Files}
use Rattle.ext_disk.specs.Disk.{Tree}
use Rattle.ext_tree.specs.Tree.{lookup}
use Rattle.ext_tree.specs.declared.entry.Entry.{Entry}
use Rattle.ext_tree.specs.declared.entry.Entry.TheVariants.{File}
use Rattle.ext_host.specs.Drawn.{AreDrawnFrom, IsFileOf, trees_of}
use Rattle.ext_host.specs.Held.{HeldFile}
use Rattle.ext_host.specs.Host.{base_at, hierarchies_in, is_in, merged_hierarchies, present}
use Rattle.ext_host.specs.Shelf.{stored}
use Rattle.ext_host.specs.Valid.{HasItems, IsValidHost}
use Rattle.ext_host.specs.declared.body.Body.{Body}
use Rattle.ext_host.specs.declared.body.Body.TheVariants.{Here, Kept, Depot}
use Rattle.ext_host.specs.declared.home.Home.{Home}
use Rattle.ext_host.specs.declared.host.Host.{Host}
use Rattle.ext_host.specs.declared.manifest.Manifest.{Manifest}
use Rattle.ext_index.specs.ValidIndex.{IsKeptUpTo}
use Rattle.ext_gen.specs.Opened.{Generation}
use Rattle.ext_homes.specs.Brought.{is_brought}
use Rattle.ext_homes.specs.Giving.{lists_kept}
use Rattle.ext_gen.specs.Preparing.{BringNone, coming_number, contents_after, contents_of, host_before, trees_of_pasts}
use Rattle.ext_gen.specs.Store.{Stands, State, at, generation_in, none}
use Rattle.ext_gen.proofs.ForCallers as gen
use Rattle.ext_gen.proofs.ForCallers.{IsFrom, current_is_opened, host_from, opened_is_valid, opened_is_valid_for}
use Rattle.ext_view.specs.Laws.{MergingKeepsTheBase}
use Rattle.ext_cmd.specs.Replies.{answer_text}
use Rattle.ext_cmd.specs.Words.{IsWellFormed}
use Rattle.ext_cmd.specs.declared.command.Command.{Command}
use Rattle.ext_intents.specs.Intents.{IsFit, IsPlanned}
use Rattle.ext_intents.specs.Step.{Wants}
use Rattle.ext_intents.specs.declared.intent.Intent.{Intent}
use Rattle.ext_intents.specs.declared.intent.Intent.TheVariants.{Answers, Changes, Checks, Refuses, Shows}
use Rattle.ext_intents.proofs.ForCallers.{first_wants_fit, wants_fit}
use Rattle.ext_top.specs.Exits.{IsOnTheWay, Line, LineComes, does, unread, usage_line, wrong}
use Rattle.ext_top.specs.Laws.{UntouchedManifestsStay, WhatNoLineTouchesStays}
use Rattle.ext_top.specs.Machine.{Comes, Counts, IsNextState, Outcome, Step, bytes_at, checked_text, depot_of, gives, refuses, seen_in, shows, state_after, stored_of, trees_in}
use Rattle.ext_top.specs.Untouched.{After, HasInstalled, IsLineApart, IsSameAt, IsUntouched, IsWellFormedLine, CommandTouches, base_in, installed_in}
use Rattle.ext_top.proofs.BaseStaysLemmas.{IfChanges, NextKeeps, first_wants_keep, wants_keep}
use Rattle.ext_top.proofs.KeptEntriesLemmas.{IsKeptAt, base_placed, none_is, stays_at}
use Rattle.ext_top.proofs.ReplacingLemmas.{of_past}
use Rattle.ext_top.proofs.StoredLemmas.{of_no_tree}
use Rattle.ext_top.proofs.StampsLemmas.{placed_valid}
use Rattle.ext_top.proofs.ViewFilesLemmas.{lower_file, root_file}
use Rattle.ext_top.proofs.WayLemmas.{on_the_way_is_after_some}

-- a home of a file in a generation up to this one
pub record IsHomedUpTo (n : ℕ) (held : HeldFile) : Type 0 where
  pub home : Home
  pub body : held.body ≡ Kept home
  pub last : home.generation ≤ n

-- the number of the state's generation
abbrev pub number_in : State → ℕ
number_in none = 0
number_in (at g contents) = g.number

pub one_more : (s : State) → coming_number (generation_in s) ≡ number_in s + 1
one_more none = refl
one_more (at g contents) = refl

-- its host, where there is one, is valid
abbrev pub IsValidIn : State → Type 0
IsValidIn none = Unit {0}
IsValidIn (at g contents) = IsValidHost g.host

-- the host is valid, and each of its files is kept in its generation or in one before it
pub record IsGood (s : State) : Type 0 where
  pub valid : IsValidIn s
  pub homed : (held : HeldFile) → IsFileOf (trees_in s) held → IsHomedUpTo (number_in s) held

-- what stands there is no file, or one that is kept up to a generation
abbrev IsHomedAt : ℕ → Option (Entry HeldFile) → Type 0
IsHomedAt n o = (attributes : OfFile) (held : HeldFile) → o ≡ Some (File attributes held) → IsHomedUpTo n held

base_file : (host : Host) (n : ℕ) → ((held : HeldFile) → IsFileOf (trees_of host) held → IsHomedUpTo n held) → (q : List (List ℕ)) → IsHomedAt n (base_at (hierarchies_in host) (present host) q)
base_file host n homed q = elim (is_in (merged_hierarchies (hierarchies_in host) (present host)) q) as (λ b. IsHomedAt n (if b then lookup host.lower q else lookup host.root q)) [
  | true ↦ λ attributes held found. homed held (lower_file host q attributes held found)
  | false ↦ λ attributes held found. homed held (root_file host q attributes held found)
]

pub base_homed : (s : State) → IsGood s → (q : List (List ℕ)) → IsHomedAt (number_in s) (base_in s q)
base_homed none good q = λ attributes held found. absurd (none_is (File attributes held) found)
base_homed (at g contents) good q = base_file g.host g.number good.homed q

is_kept : (n : ℕ) (o : Option (Entry HeldFile)) → IsHomedAt n o → IsKeptAt o
is_kept n o homed attributes held found = let h = homed attributes held found in (h.home, h.body)

-- the bytes at a home of before are those that were there
bytes_stay : (n : ℕ) (written : List (List ℕ)) (s : State) (home : Home) → home.generation < n → contents_after n written s home ≡ contents_of s home
bytes_stay n written s home before = by_test (eqb_tells home.generation n)
  where
    by_test : ((home.generation == n ≡ true) × (home.generation ≡ n)) ⊎ ((home.generation == n ≡ false) × (home.generation ≢ n)) → contents_after n written s home ≡ contents_of s home
    by_test (inl same) = let late = same.1 in absurd (omega arith)
    by_test (inr other) = ap (λ b. if b then unwrap_or (slice_get written home.file) [] else contents_of s home) other.0

-- the next state

same_kept : (a b : Home) → Kept a ≡ Kept b → a ≡ b
same_kept a b same = cc

module _ (s : State) (good : IsGood s) (files : Option Files) (host : Host) where
  drawn_in : (o : State) → o ≡ s → IsPlanned (coming_number (generation_in o)) (host_before (generation_in o)) host → AreDrawnFrom (trees_in o) (trees_of host)
  drawn_in none is planned = planned.drawn
  drawn_in (at g contents) is planned = planned.drawn

  past_kept : (o : State) → o ≡ s → IsPlanned (coming_number (generation_in o)) (host_before (generation_in o)) host → BringNone (trees_of_pasts host.past)
  past_kept none is planned held file = absurd (of_no_tree held (subst (λ past. IsFileOf (trees_of_pasts past) held) planned.past file))
  past_kept (at g contents) is planned held file =
      let h = (subst IsGood (sym is) good).homed held (of_past (g.number + 1) g.host host.past held planned.past file) in
      ap is_brought h.body

  from_homed : (n : ℕ) (written : List (List ℕ)) (held : HeldFile) → n ≡ number_in s + 1 → IsFrom (lists_kept (trees_in s)) n written held → IsHomedUpTo n held
  from_homed n written held number (gen.before home body listed) =
      let h = good.homed (record { stamp = held.stamp; body = Kept home }) listed in
      record { home = home; body = body; last = omega (arith, number, h.last, ap (λ (k : Home). k.generation) (same_kept home h.home h.body)) }
  from_homed n written held number (gen.coming k bytes body get stamp) = record { home = record { generation = n; file = k }; body = body; last = omega arith }

  pub next_good : (u : State) → IsPlanned (coming_number (generation_in s)) (host_before (generation_in s)) host → IsNextState s files host u → IsGood u
  next_good u planned next =
      let old = stored_of s in
      let depot = depot_of files in
      let n = next.coming.number in
      let number : n ≡ number_in s + 1 = next.number ∙ one_more s in
      subst IsGood (sym next.is) (record {
        valid = placed_valid old depot n host next.coming.host next.written next.homes planned.valid;
        homed = λ held file.
            from_homed n next.written held number
            (host_from (trees_in s) host (drawn_in s refl planned) old depot n next.coming.host next.written held (λ stamp home listed. listed) (past_kept s refl planned) next.homes file);
      })

  -- where the base of the host that comes is as before, that of the next state is
  pub next_entry : (u : State) (q : List (List ℕ)) → IsNextState s files host u → base_at (hierarchies_in host) (present host) q ≡ base_in s q → base_in u q ≡ base_in s q
  next_entry u q next same =
      let old = stored_of s in
      let depot = depot_of files in
      let n = next.coming.number in
      ap (λ v. base_in v q) next.is
      ∙ stays_at old depot n (base_at (hierarchies_in host) (present host) q) (base_at (hierarchies_in next.coming.host) (present next.coming.host) q)
      (base_placed old depot n host next.coming.host next.written q next.homes) (subst IsKeptAt (sym same) (is_kept (number_in s) (base_in s q) (base_homed s good q)))
      ∙ same

  pub next_bytes : (u : State) (home : Home) → IsNextState s files host u → home.generation ≤ number_in s → contents_of u home ≡ contents_of s home
  next_bytes u home next earlier =
      ap (λ v. contents_of v home) next.is
      ∙ bytes_stay next.coming.number next.written s home (omega (arith, next.number ∙ one_more s, earlier))

  pub next_same : (u : State) (q : List (List ℕ)) → IsNextState s files host u → base_at (hierarchies_in host) (present host) q ≡ base_in s q → IsSameAt s u q
  next_same u q next same = record {
    entry = next_entry u q next same;
    bytes = λ attributes held found.
        let h = base_homed s good q attributes held found in
        ap (bytes_at u) h.body ∙ next_bytes u h.home next h.last ∙ sym (ap (bytes_at s) h.body);
  }

  pub next_installed : (u : State) (manifest : Manifest) → IsNextState s files host u → Contains host.kept manifest → Contains (installed_in u) manifest
  next_installed u manifest next has =
      subst (λ v. Contains (installed_in v) manifest) (sym next.is) (subst (λ l. Contains l manifest) (sym (ap (λ (h : Host). h.kept) next.homes.3)) has)

-- what holds of a state, and of each that comes of the host that is wanted, holds of the state after

-- what is wanted is planned
pub fit_is_planned : (coming : ℕ) (seen : Option Host) (intent : Intent) → IsFit coming seen intent → IfChanges (IsPlanned coming seen) intent
fit_is_planned coming seen (Changes host answer) fit = fit
fit_is_planned coming seen (Answers answer) fit = tt
fit_is_planned coming seen Checks fit = tt
fit_is_planned coming seen (Shows held) fit = tt
fit_is_planned coming seen (Refuses refusal) fit = tt

pub if_changes_more : (P Q : Host → Type 0) (intent : Intent) → ((host : Host) → P host → Q host) → IfChanges P intent → IfChanges Q intent
if_changes_more P Q (Changes host answer) more holds = more host holds
if_changes_more P Q (Answers answer) more holds = tt
if_changes_more P Q Checks more holds = tt
if_changes_more P Q (Shows held) more holds = tt
if_changes_more P Q (Refuses refusal) more holds = tt

pub of_outcome : (P : State → Type 0) (s : State) (a b : Outcome) → b ≡ a → P (state_after s a) → P (state_after s b)
of_outcome P s a b is holds = subst (λ o. P (state_after s o)) (sym is) holds

module _ (P : State → Type 0) (s : State) (holds : P s) (files : Option Files) where
  counts_leads : (t : State) (outcome : Outcome) → t ≡ s → Counts t outcome → P (state_after s outcome)
  counts_leads none outcome same counts = absurd counts
  counts_leads (at g contents) outcome same counts = of_outcome P s (gives s (checked_text g.host)) outcome (counts ∙ ap (λ v. gives v (checked_text g.host)) same) holds

  -- by what is wanted
  pub comes_leads : (intent : Intent) (outcome : Outcome) → IfChanges (λ host. (u : State) → IsNextState s files host u → P u) intent → Comes s files intent outcome → P (state_after s outcome)
  comes_leads (Changes host answer) outcome each (inl (u, free, next, is)) = of_outcome P s (gives u (answer_text answer)) outcome is (each u next)
  comes_leads (Changes host answer) outcome each (inr (refusal, refused, is)) = of_outcome P s (refuses refusal) outcome is holds
  comes_leads (Answers answer) outcome each is = of_outcome P s (gives s (answer_text answer)) outcome is holds
  comes_leads Checks outcome each counts = counts_leads s outcome refl counts
  comes_leads (Shows held) outcome each is = of_outcome P s (shows (bytes_at s held.body)) outcome is holds
  comes_leads (Refuses refusal) outcome each is = of_outcome P s (refuses refusal) outcome is holds

-- lines lead from good states to good states
pub step_planned : (s : State) (files : Option Files) (command : Command) (intent : Intent) → IsGood s → (s ≡ none → IsWellFormed command) → Wants (seen_in s) files command intent
    → IfChanges (IsPlanned (coming_number (generation_in s)) (host_before (generation_in s))) intent
step_planned none files command intent good formed wants = fit_is_planned 1 None intent (first_wants_fit 1 command intent (formed refl) wants)
step_planned (at g contents) files command intent good formed wants =
    fit_is_planned (g.number + 1) (Some g.host) intent
    (wants_fit (record { host = g.host; number = g.number; newest = not (g.text == 1); told = λ held. stored (bytes_at (at g contents) held.body) }) files command intent good.valid wants)

pub step_good : (s : State) (files : Option Files) (command : Command) (outcome : Outcome) → IsGood s → (s ≡ none → IsWellFormed command) → Step s files command outcome → IsGood (state_after s outcome)
step_good s files command outcome good formed step =
    comes_leads IsGood s good files step.intent outcome
    (if_changes_more (IsPlanned (coming_number (generation_in s)) (host_before (generation_in s))) (λ host. (u : State) → IsNextState s files host u → IsGood u) step.intent
    (λ host planned u next. next_good s good files host u planned next)
    (step_planned s files command step.intent good formed step.wants)) step.comes

line_good : (s : State) (files : Option Files) (line : Line) (outcome : Outcome) → IsGood s → (s ≡ none → IsWellFormedLine line) → LineComes s files line outcome → IsGood (state_after s outcome)
line_good s files (does command) outcome good formed comes = step_good s files command outcome good formed comes
line_good s files (wrong place) outcome good formed is = of_outcome IsGood s (gives s (usage_line place)) outcome is good
line_good s files unread outcome good formed is = absurd is

-- where there is a host, one stays
stays_some : (s : State) (files : Option Files) (line : Line) (outcome : Outcome) → LineComes s files line outcome → state_after s outcome ≡ none → s ≡ none
stays_some s files (does command) outcome step is =
    comes_leads (λ v. v ≡ none → s ≡ none) s (λ same. same) files step.intent outcome (none_next step.intent) step.comes is
  where
    not_none : (g : Generation) (contents : Home → List ℕ) → at g contents ≡ none → ⊥
    not_none g contents same = cc

    none_next : (intent : Intent) → IfChanges (λ host. (u : State) → IsNextState s files host u → u ≡ none → s ≡ none) intent
    none_next (Changes host answer) = λ u next same. absurd (not_none next.coming _ (sym next.is ∙ same))
    none_next (Answers answer) = tt
    none_next Checks = tt
    none_next (Shows held) = tt
    none_next (Refuses refusal) = tt
stays_some s files (wrong place) outcome same is = sym (ap (state_after s) same) ∙ is
stays_some s files unread outcome same is = absurd same

pub lines_good : (s x : State) (files : Option Files) (lines : List Line) → IsGood s → (s ≡ none → AllByRecursion IsWellFormedLine lines) → After s files lines x → IsGood x
lines_good s x files [] good formed is = subst IsGood (sym is) good
lines_good s x files (line ∷ lines) good formed (outcome, comes, after) =
    lines_good (state_after s outcome) x files lines (line_good s files line outcome good (λ is. (formed is).0) comes) (λ is. (formed (stays_some s files line outcome comes is)).1) after

-- of two states, the older first: the base at and below the path and installed manifests of the path are the same, and so are the
-- bytes at each home
record Keeps (path : List (List ℕ)) (s x : State) : Type 0 where
  base : (q : List (List ℕ)) → is_prefix path q ≡ true → base_in x q ≡ base_in s q
  installed : (manifest : Manifest) → manifest.path ≡ path → Contains (installed_in s) manifest → Contains (installed_in x) manifest
  later : number_in s ≤ number_in x
  bytes : (home : Home) → home.generation ≤ number_in s → contents_of x home ≡ contents_of s home

module _ (path : List (List ℕ)) (s : State) (good : IsGood s) (files : Option Files) where
  same_keeps : Keeps path s s
  same_keeps = record {
    base = λ q below. refl;
    installed = λ manifest is has. has;
    later = omega arith;
    bytes = λ home before. refl;
  }

  next_keeps : (host : Host) (u : State) → NextKeeps path s host → IsNextState s files host u → Keeps path s u
  next_keeps host u keeps next = record {
    base = λ q below. next_entry s good files host u q next (keeps.base q below);
    installed = λ manifest is has. next_installed s good files host u manifest next (keeps.installed manifest is has);
    later = omega (arith, next.number ∙ one_more s, ap number_in next.is);
    bytes = λ home before. next_bytes s good files host u home next before;
  }

  comes_keep : (intent : Intent) (outcome : Outcome) → IfChanges (NextKeeps path s) intent → Comes s files intent outcome → Keeps path s (state_after s outcome)
  comes_keep intent outcome keeps comes =
      comes_leads (Keeps path s) s same_keeps files intent outcome
      (if_changes_more (NextKeeps path s) (λ host. (u : State) → IsNextState s files host u → Keeps path s u) intent (λ host keep u next. next_keeps host u keep next) keeps) comes

module _ (law : MergingKeepsTheBase) (path : List (List ℕ)) (files : Option Files) where
  step_keeps : (s : State) (command : Command) (outcome : Outcome) → IsGood s → ((other : List (List ℕ)) → CommandTouches s files command other → are_related other path ≡ false) → Step s files command outcome → Keeps path s (state_after s outcome)
  step_keeps none command outcome good apart step = comes_keep path none good files step.intent outcome (first_wants_keep path command step.intent step.wants) step.comes
  step_keeps (at g contents) command outcome good apart step =
      comes_keep path (at g contents) good files step.intent outcome (wants_keep path g contents law good.valid files command step.intent apart step.wants) step.comes

  line_keeps : (s : State) (line : Line) (outcome : Outcome) → IsGood s → IsLineApart s files line path → LineComes s files line outcome → Keeps path s (state_after s outcome)
  line_keeps s (does command) outcome good apart comes = step_keeps s command outcome good apart comes
  line_keeps s (wrong place) outcome good apart is = of_outcome (Keeps path s) s (gives s (usage_line place)) outcome is (same_keeps path s good files)
  line_keeps s unread outcome good apart is = absurd is

  lines_keep : (s x : State) (lines : List Line) → IsGood s → (s ≡ none → AllByRecursion IsWellFormedLine lines) → IsUntouched path s files lines → After s files lines x → Keeps path s x
  lines_keep s x [] good formed apart is = subst (Keeps path s) (sym is) (same_keeps path s good files)
  lines_keep s x (line ∷ lines) good formed apart (outcome, comes, after) =
      let first = line_keeps s line outcome good apart.0 comes in
      let second =
      lines_keep (state_after s outcome) x lines (line_good s files line outcome good (λ is. (formed is).0) comes)
      (λ is. (formed (stays_some s files line outcome comes is)).1) (apart.1 outcome comes) after in
      record {
        base = λ q below. second.base q below ∙ first.base q below;
        installed = λ manifest is has. second.installed manifest is (first.installed manifest is has);
        later = omega (arith, first.later, second.later);
        bytes = λ home before. second.bytes home (omega (arith, before, first.later)) ∙ first.bytes home before;
      }

-- a state for which a store stands
kept_home : (n : ℕ) (held : HeldFile) (body : Body) → held.body ≡ body → IsKeptUpTo n body → IsHomedUpTo n held
kept_home n held (Here bytes) is kept = absurd kept
kept_home n held (Kept home) is kept = record { home = home; body = is; last = kept.last }
kept_home n held (Depot path) is kept = absurd kept

no_file : (held : HeldFile) → IsFileOf [] held → IsHomedUpTo 0 held
no_file held file = absurd (of_no_tree held file)

pub stands_good : (t : Tree) (s : State) → Stands t s → IsGood s
stands_good t none stands = record { valid = tt; homed = no_file }
stands_good t (at g contents) stands =
    let opened = current_is_opened g t stands.0 in
    record {
      valid = opened_is_valid g opened;
      homed = λ held file. kept_home g.number held held.body refl ((opened_is_valid_for g opened).kept held file);
    }

pub what_no_line_touches_stays : MergingKeepsTheBase → WhatNoLineTouchesStays After
what_no_line_touches_stays law t s x files lines path entry stands formed apart after below =
    let good = stands_good t s stands in
    let keeps = lines_keep law path files s x lines good formed apart after in
    record {
      entry = keeps.base entry below;
      bytes = λ attributes held found.
          let h = base_homed s good entry attributes held found in
          ap (bytes_at x) h.body ∙ keeps.bytes h.home h.last ∙ sym (ap (bytes_at s) h.body);
    }

-- manifests
all_has : {X : Type 0} (P : X → Type 0) (xs : List X) (x : X) → AllByRecursion P xs → Contains xs x → P x
all_has P [] x all (k, lt, is) = absurd (omega arith)
all_has P (y ∷ xs) x all (zero, lt, is) = subst P is all.0
all_has P (y ∷ xs) x all (suc k, lt, is) = all_has P xs x all.1 (k, omega arith, is)

no_manifest : (manifest : Manifest) → Contains [] manifest → ⊥
no_manifest manifest (k, lt, is) = omega arith

pub has_installed : (s : State) (manifest : Manifest) → IsGood s → Contains (installed_in s) manifest → HasInstalled s manifest
has_installed none manifest good has = absurd (no_manifest manifest has)
has_installed (at g contents) manifest good has =
    record { installed = has; items = all_has (HasItems (base_at (hierarchies_in g.host) (present g.host))) g.host.kept manifest good.valid.present.kept.items has }

-- where a manifest is installed, there is a host
not_first : (s : State) (manifest : Manifest) → Contains (installed_in s) manifest → s ≡ none → ⊥
not_first s manifest has is = no_manifest manifest (subst (λ v. Contains (installed_in v) manifest) is has)

-- an installed manifest that no line touches stays installed
pub manifest_stays : MergingKeepsTheBase → (s x : State) (files : Option Files) (lines : List Line) (manifest : Manifest) → IsGood s → Contains (installed_in s) manifest → IsUntouched manifest.path s files lines
    → After s files lines x → HasInstalled x manifest
manifest_stays law s x files lines manifest good has apart after =
    let formed : s ≡ none → AllByRecursion IsWellFormedLine lines = λ is. absurd (not_first s manifest has is) in
    has_installed x manifest (lines_good s x files lines good formed after) ((lines_keep law manifest.path files s x lines good formed apart after).installed manifest refl has)

pub untouched_manifests_stay : MergingKeepsTheBase → UntouchedManifestsStay After
untouched_manifests_stay law t s x files lines manifest stands has apart after = manifest_stays law s x files lines manifest (stands_good t s stands) has apart after

-- on the way: after some of the first lines, of which none touches the path either
pub first_untouched : (path : List (List ℕ)) (s : State) (files : Option Files) (first others : List Line) → IsUntouched path s files (first ++ others) → IsUntouched path s files first
first_untouched path s files [] others apart = tt
first_untouched path s files (line ∷ first) others apart = (apart.0, λ outcome comes. first_untouched path (state_after s outcome) files first others (apart.1 outcome comes))

first_formed : (lines first others : List Line) → lines ≡ first ++ others → AllByRecursion IsWellFormedLine lines → AllByRecursion IsWellFormedLine first
first_formed lines first others split formed = all_prefix IsWellFormedLine first others (subst (AllByRecursion IsWellFormedLine) split formed)

pub stays_on_the_way : MergingKeepsTheBase → WhatNoLineTouchesStays IsOnTheWay
stays_on_the_way law t s x files lines path entry stands formed apart on below =
    let some = on_the_way_is_after_some s x files lines on in
    what_no_line_touches_stays law t s x files some.0 path entry stands (λ is. first_formed lines some.0 some.1 some.2 (formed is))
    (first_untouched path s files some.0 some.1 (subst (IsUntouched path s files) some.2 apart)) some.3 below

pub manifests_on_the_way : MergingKeepsTheBase → UntouchedManifestsStay IsOnTheWay
manifests_on_the_way law t s x files lines manifest stands has apart on =
    let some = on_the_way_is_after_some s x files lines on in
    untouched_manifests_stay law t s x files some.0 manifest stands has (first_untouched manifest.path s files some.0 some.1 (subst (IsUntouched manifest.path s files) some.2 apart)) some.3
