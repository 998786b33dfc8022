-- A rollback gives back what was marked: no later mark has the number of an earlier one, and past trees stay as they are.
use Rattle.std.proofs.Common.{◌≡◌, ◌⊎◌, ℕ, zero, suc, ◌+◌, ◌<◌, ◌≤◌, List, [], ◌∷◌, ◌++◌, inl, inr, Option, Some, None, sym, ap, ◌∙◌, subst, arith}
use Rattle.std.specs.Prelude.{Contains}
use Rattle.std.specs.List.{AllByRecursion}
use Rattle.std.proofs.lemmas.List.Elements.{Contains-append_cases}
use Rattle.ext_attributes.specs.Attributes.{OfFile}
use Rattle.ext_depot.specs.Depot.{Files}
use Rattle.ext_tree.specs.Tree.{Entries, lookup}
use Rattle.ext_tree.specs.declared.entry.Entry.TheVariants.{File}
use Rattle.ext_host.specs.Drawn.{IsFileOf, trees_of}
use Rattle.ext_host.specs.Held.{HeldFile}
use Rattle.ext_host.specs.declared.home.Home.{Home}
use Rattle.ext_host.specs.declared.host.Host.{Host}
use Rattle.ext_host.specs.declared.past.Past.{Past}
use Rattle.ext_history.specs.Marks.{FindsMark, back_to, marked}
use Rattle.ext_gen.specs.Opened.{Generation}
use Rattle.ext_gen.specs.Preparing.{coming_number, contents_of, host_before}
use Rattle.ext_gen.specs.Store.{State, at, generation_in, none}
use Rattle.ext_gen.proofs.ForCallers.{current_is_opened, opened_is_valid_for}
use Rattle.ext_cmd.specs.declared.command.Command.TheVariants.{Mark, Rollback}
use Rattle.ext_cmd.specs.declared.refusal.Refusal.{Refusal}
use Rattle.ext_cmd.specs.declared.refusal.Refusal.TheVariants.{NoStore}
use Rattle.ext_intents.specs.Intents.{IsPlanned, MayBePast, marks, stays}
use Rattle.ext_intents.specs.Marks.{mark_in, mark_intent, rollback_to}
use Rattle.ext_intents.proofs.ForCallers.{finds}
use Rattle.ext_top.specs.Exits.{Line, LineComes, does, unread, usage_line, wrong}
use Rattle.ext_top.specs.Laws.{RollbackGivesWhatWasMarked}
use Rattle.ext_top.specs.Machine.{Comes, IsNextState, Outcome, Step, bytes_at, depot_of, gives, refuses, state_after, stored_of}
use Rattle.ext_top.specs.Returning.{IsBackAt}
use Rattle.ext_top.specs.Untouched.{After}
use Rattle.ext_top.proofs.BaseStaysLemmas.{IfChanges}
use Rattle.ext_top.proofs.KeptEntriesLemmas.{IsKeptAt, lower_placed, root_placed, stays_at}
use Rattle.ext_top.proofs.UntouchedLemmas.{IsGood, comes_leads, if_changes_more, next_bytes, next_good, number_in, of_outcome, one_more, stands_good, step_good, step_planned}
use Rattle.ext_top.proofs.ViewFilesLemmas.{lower_file, root_file}

state_same : (u v : State) (a b : List ℕ) → gives u a ≡ gives v b → u ≡ v
state_same u v a b same = cc

not_refused : (v : State) (reply : List ℕ) (refusal : Refusal) → gives v reply ≡ refuses refusal → ⊥
not_refused v reply refusal same = cc

no_past : (past : Past) → Contains [] past → ⊥
no_past past (k, lt, is) = omega (arith, lt)

-- the one of a list of one
only : (a b : Past) → Contains (a ∷ []) b → b ≡ a
only a b (zero, lt, is) = sym is
only a b (suc k, lt, is) = absurd (omega (arith, lt))

all_has : {X : Type 0} (P : X → Type 0) (xs : List X) (x : X) → AllByRecursion P xs → Contains xs x → P x
all_has P [] x all (k, lt, is) = absurd (omega arith)
all_has P (y ∷ xs) x all (zero, lt, is) = subst P is all.0
all_has P (y ∷ xs) x all (suc k, lt, is) = all_has P xs x all.1 (k, omega arith, is)

-- the marks of a state's host
abbrev pasts_in : State → List Past
pasts_in none = []
pasts_in (at g contents) = g.host.past

module _ (g : Generation) (contents : Home → List ℕ) where
  -- the generation comes later, its host has no mark of that one's number but that one's own, and the bytes at the homes of that one are
  -- the same
  record IsAfterMark (x : State) : Type 0 where
    later : g.number < number_in x
    mark : (past : Past) → Contains (pasts_in x) past → past.generation ≡ g.number → past ≡ marked g.number g.host
    bytes : (home : Home) → home.generation ≤ g.number → contents_of x home ≡ contents (home)

  -- the next state
  past_in_next : (x u : State) (files : Option Files) (host : Host) → IsNextState x files host u → pasts_in u ≡ host.past
  past_in_next x u files host next = ap pasts_in next.is ∙ ap (λ (h : Host). h.past) next.homes.3

  may_be : (coming : ℕ) (host : Host) (past : Past) → coming ≡ suc g.number + 1 ⊎ g.number + 1 < coming → past.generation ≡ g.number → MayBePast coming host past → Contains host.past past
  may_be coming host past later number (stays has) = has
  may_be coming host past (inl is) number (marks generation root lower) = absurd (omega (arith, is, number, generation))
  may_be coming host past (inr lt) number (marks generation root lower) = absurd (omega (arith, lt, number, generation))

  past_before : (x : State) (host : Host) (past : Past) → g.number < number_in x → IsPlanned (coming_number (generation_in x)) (host_before (generation_in x)) host → past.generation ≡ g.number → Contains host.past past → Contains (pasts_in x) past
  past_before none host past later planned number has = absurd (omega (arith, later))
  past_before (at h bytes) host past later planned number has = may_be (h.number + 1) h.host past (inr (omega (arith, later))) number (planned.past past has)

  next_after : (x : State) (files : Option Files) (host : Host) (u : State) → IsGood x → IsAfterMark x → IsPlanned (coming_number (generation_in x)) (host_before (generation_in x)) host → IsNextState x files host u → IsAfterMark u
  next_after x files host u good after planned next = record {
    later = omega (arith, after.later, next.number ∙ one_more x, ap number_in next.is);
    mark = λ past has number.
        after.mark past (past_before x host past after.later planned number (subst (λ ps. Contains ps past) (past_in_next x u files host next) has)) number;
    bytes = λ home earlier. next_bytes x good files host u home next (omega (arith, earlier, after.later)) ∙ after.bytes home earlier;
  }

  not_first : (x : State) → IsAfterMark x → x ≡ none → ⊥
  not_first x after is = let none_is = ap number_in is in let later = after.later in omega (arith, none_is, later)

  line_after : (x : State) (files : Option Files) (line : Line) (outcome : Outcome) → IsGood x → IsAfterMark x → LineComes x files line outcome → IsGood (state_after x outcome) × IsAfterMark (state_after x outcome)
  line_after x files (does command) outcome good after step =
      let planned = step_planned x files command step.intent good (λ is. absurd (not_first x after is)) step.wants in (
        step_good x files command outcome good (λ is. absurd (not_first x after is)) step,
        comes_leads IsAfterMark x after files step.intent outcome
            (if_changes_more (IsPlanned (coming_number (generation_in x)) (host_before (generation_in x))) (λ host. (u : State) → IsNextState x files host u → IsAfterMark u) step.intent
            (λ host plans u next. next_after x files host u good after plans next) planned) step.comes,
      )
  line_after x files (wrong place) outcome good after is = (of_outcome IsGood x (gives x (usage_line place)) outcome is good, of_outcome IsAfterMark x (gives x (usage_line place)) outcome is after)
  line_after x files unread outcome good after is = absurd is

  lines_after : (x y : State) (files : Option Files) (lines : List Line) → IsGood x → IsAfterMark x → After x files lines y → IsGood y × IsAfterMark y
  lines_after x y files [] good after is = (subst IsGood (sym is) good, subst IsAfterMark (sym is) after)
  lines_after x y files (line ∷ lines) good after (outcome, comes, more) =
      let both = line_after x files line outcome good after comes in
      lines_after (state_after x outcome) y files lines both.0 both.1 more

  -- the mark
  module _ (good : IsGood (at g contents)) (before : AllByRecursion (λ (past : Past). (0 < past.generation) × (past.generation < g.number)) g.host.past) (files : Option Files) where
    is_mark : (past : Past) → Contains (g.host.past ++ marked g.number g.host ∷ []) past → past.generation ≡ g.number → past ≡ marked g.number g.host
    is_mark past has number = elim (Contains-append_cases g.host.past (marked g.number g.host ∷ []) past has) [
      | inl older ↦ let is = all_has (λ (p : Past). (0 < p.generation) × (p.generation < g.number)) g.host.past past before older in absurd (omega (arith, is.1, number))
      | inr one ↦ only (marked g.number g.host) past one
    ]

    marked_after : (next : Host) (u : State) → IsPlanned (g.number + 1) (Some g.host) next → ((past : Past) → Contains next.past past → Contains (g.host.past ++ marked g.number g.host ∷ []) past)
        → IsNextState (at g contents) files next u → IsGood u × IsAfterMark u
    marked_after next u planned past state = (
      next_good (at g contents) good files next u planned state,
      record {
        later = omega (arith, state.number, ap number_in state.is);
        mark = λ p has number. is_mark p (past p (subst (λ ps. Contains ps p) (past_in_next (at g contents) u files next state) has)) number;
        bytes = λ home earlier. next_bytes (at g contents) good files next u home state earlier;
      },
    )

    done_mark : (keep : Option ℕ) (u : State) (reply : List ℕ) → Step (at g contents) files (Mark keep) (gives u reply) → IsGood u × IsAfterMark u
    done_mark keep u reply step = by step.wants.1 (step_planned (at g contents) files (Mark keep) step.intent good (λ is. absurd (some is)) step.wants) step.comes
      where
        some : at g contents ≡ none → ⊥
        some same = cc

        by : step.intent ≡ mark_intent g.number g.host keep → IfChanges (IsPlanned (g.number + 1) (Some g.host)) step.intent → Comes (at g contents) files step.intent (gives u reply) → IsGood u × IsAfterMark u
        by is planned comes = of_change (subst (IfChanges (IsPlanned (g.number + 1) (Some g.host))) is planned) (subst (λ i. Comes (at g contents) files i (gives u reply)) is comes)
          where
            of_change : IfChanges (IsPlanned (g.number + 1) (Some g.host)) (mark_intent g.number g.host keep) → Comes (at g contents) files (mark_intent g.number g.host keep) (gives u reply) → IsGood u × IsAfterMark u
            of_change plans (inl (x, free, next, same)) =
                marked_after _ u plans step.wants.0.past (subst (IsNextState (at g contents) files _) (sym (state_same u x reply _ same)) next)
            of_change plans (inr (refusal, refused, same)) = absurd (not_refused u reply refusal same)

  -- the rollback
  kept_at : (es : Entries HeldFile) → ((held : HeldFile) (path : List (List ℕ)) (attributes : OfFile) → lookup es path ≡ Some (File attributes held) → IsFileOf (trees_of g.host) held) → IsGood (at g contents) → (path : List (List ℕ)) → IsKeptAt (lookup es path)
  kept_at es file good path attributes held found = let h = good.homed held (file held path attributes found) in (h.home, h.body)

  back : (h : Generation) (bytes : Home → List ℕ) (files : Option Files) (w : State) → IsGood (at g contents) → IsGood (at h bytes) → IsAfterMark (at h bytes)
      → IsNextState (at h bytes) files (back_to (marked g.number g.host) h.host) w → IsBackAt (at g contents) w
  back h bytes files w good later after next =
      let old = stored_of (at h bytes) in
      let depot = depot_of files in
      let n = next.coming.number in
      let host = back_to (marked g.number g.host) h.host in
      let is = next.homes.3 in
      subst (IsBackAt (at g contents)) (sym next.is) (
        record {
          root = λ path.
              stays_at old depot n (lookup host.root path) (lookup next.coming.host.root path) (root_placed old depot n host next.coming.host next.written path next.homes)
              (kept_at g.host.root (λ held p attributes found. root_file g.host p attributes held found) good path);
          lower = λ path.
              stays_at old depot n (lookup host.lower path) (lookup next.coming.host.lower path) (lower_placed old depot n host next.coming.host next.written path next.homes)
              (kept_at g.host.lower (λ held p attributes found. lower_file g.host p attributes held found) good path);
          sysext = ap (λ (x : Host). x.sysext) is;
          confext = ap (λ (x : Host). x.confext) is;
          attached = ap (λ (x : Host). x.attached) is;
          kept = ap (λ (x : Host). x.kept) is;
        },
        λ held file.
            let home = good.homed held file in
            let same = next_bytes (at h bytes) later files host w home.home next (omega (arith, home.last, after.later)) ∙ after.bytes home.home home.last in
            subst (λ v. bytes_at v held.body ≡ bytes_at (at g contents) held.body) next.is
            (ap (bytes_at w) home.body ∙ same ∙ sym (ap (bytes_at (at g contents)) home.body)),
      )

  back_at : (v w : State) (files : Option Files) (reply : List ℕ) → IsGood (at g contents) → IsGood v → IsAfterMark v → Step v files (Rollback g.number) (gives w reply) → IsBackAt (at g contents) w
  back_at none w files reply good later after step = absurd (not_refused w reply NoStore (subst (λ i. Comes none files i (gives w reply)) step.wants step.comes))
  back_at (at h bytes) w files reply good later after step =
      of_found (mark_in g.number h.host.past) (finds g.number h.host.past) (subst (λ i. Comes (at h bytes) files i (gives w reply)) step.wants step.comes)
    where
      of_found : (found : Option Past) → FindsMark g.number h.host.past found → Comes (at h bytes) files (rollback_to h.host g.number found) (gives w reply) → IsBackAt (at g contents) w
      of_found None none_is same = absurd (not_refused w reply _ same)
      of_found (Some mark) is (inr (refusal, refused, same)) = absurd (not_refused w reply refusal same)
      of_found (Some mark) is (inl (x, free, next, same)) =
          let one : mark ≡ marked g.number g.host = after.mark mark is.among is.number in
          let state : IsNextState (at h bytes) files (back_to mark h.host) w = subst (IsNextState (at h bytes) files (back_to mark h.host)) (sym (state_same w x reply _ same)) next in
          back h bytes files w good later after (subst (λ m. IsNextState (at h bytes) files (back_to m h.host) w) one state)

pub rollback_gives : RollbackGivesWhatWasMarked
rollback_gives t g contents u v w files keep lines reply last stands mark more step =
    let good = stands_good t (at g contents) stands in
    let opened = current_is_opened g t stands.0 in
    let first = done_mark g contents good (opened_is_valid_for g opened).past files keep u reply mark in
    let both = lines_after g contents u v files lines first.0 first.1 more in
    back_at g contents v w files last good both.0 both.1 step
