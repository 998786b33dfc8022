-- Lines of a run, one after another: what holds of each holds of all of them, and from a state for which the store durably stood
-- they end by the machine.
use Rattle.std.proofs.Common.{◌≡◌, ℕ, ◌≤◌, Bool, true, false, List, [], ◌∷◌, ◌++◌, inl, inr, Option, Some, None, IfSome, Result, Ok, Err, refl, sym, ap, ◌∙◌, subst, arith}
use Rattle.std.specs.Io.KnownBytes.{Appends}
use Rattle.ext_io.specs.SinkState.{SinkState}
use Rattle.ext_disk.specs.Disk.{BothTold, IsDisk, Told}
use Rattle.ext_disk.specs.Since.{Follows, IsLater}
use Rattle.ext_disk.proofs.ForCallers.{follows_itself, follows_then}
use Rattle.ext_depot.specs.Depot.{Files, IsKept}
use Rattle.ext_store_files.proofs.ForCallers.{kept_itself, kept_then, told_map}
use Rattle.ext_gen.specs.Opened.{Generation}
use Rattle.ext_gen.specs.Store.{State, generation_in}
use Rattle.ext_gen.specs.Sound.{IsDurably, StandsSince}
use Rattle.ext_gen.proofs.ForCallers.{durably_since, stands_since_then, stands_since_wider}
use Rattle.ext_cmd.specs.declared.refusal.Refusal.{Refusal}
use Rattle.ext_top.specs.Chain.{LineRunsOn, LinesRun, result_of_line, status_of, status_of_last, status_of_stop}
use Rattle.ext_top.specs.Devices.{StoreSide}
use Rattle.ext_top.specs.Exits.{EndsLines, IsOnTheWay, Line, StopsWith, does, durable, unread, usage_line, wrong}
use Rattle.ext_top.specs.Lines.{LineCause, LineRuns, LineTold}
use Rattle.ext_top.specs.Machine.{gives, reply_of, state_after}
use Rattle.ext_top.specs.Replying.{WritesUsage}
use Rattle.ext_top.specs.Running.{Blames, LinesFrom}
use Rattle.ext_top.specs.declared.lines.Written.{Written}
use Rattle.ext_top.specs.declared.status.Status.{Status}
use Rattle.ext_top.specs.declared.status.Status.TheVariants.{Done, Refused, Usage, ReadFault, WriteFault, DiskFault, DepotFault, OutOfMemory, BadStore, Unfinished, TooLong}
use Rattle.ext_top.specs.declared.stop.Stop.{Stop}
use Rattle.ext_top.specs.declared.stop.Stop.TheVariants as stops
use Rattle.ext_top.proofs.LineLemmas.{adds_nothing, rose_from, same_sink}
use Rattle.ext_top.proofs.PiecesLemmas.{appends_then}

-- a line alone is a list of one
pub line_alone : (line : Line) (opened : Option Generation) (old : StoreSide) (result : Result Written Stop) (new : StoreSide) → LineRunsOn line opened old result new → LinesRun None (line ∷ []) opened old (result_of_line result) new
line_alone line opened old (Ok written) new runs = inr (written, new, runs, (refl, refl))
line_alone line opened old (Err stop) new runs = inl (stop, refl, refl, runs)

-- what each line keeps: the past of a disk, the files of a depot, and counts of faults
pub record SideFollows (old new : StoreSide) : Type 0 where
  pub disk : Follows old.disk new.disk
  pub depot : IsKept old.depot new.depot
  pub sink : old.sink.faults ≤ new.sink.faults

side_itself : (side : StoreSide) → SideFollows side side
side_itself side = record { disk = follows_itself side.disk; depot = kept_itself side.depot; sink = omega arith }

side_then : (a b c : StoreSide) → SideFollows a b → SideFollows b c → SideFollows a c
side_then a b c one two = record {
  disk = follows_then a.disk b.disk c.disk one.disk two.disk;
  depot = kept_then a.depot b.depot c.depot one.depot two.depot;
  sink = omega (arith, one.sink, two.sink);
}

line_follows : (line : Line) (opened : Option Generation) (old : StoreSide) (result : Result Written Stop) (new : StoreSide) → LineRunsOn line opened old result new → SideFollows old new
line_follows (does command) opened old result new runs = record { disk = runs.follows; depot = runs.kept; sink = runs.count }
line_follows (wrong place) opened old result new runs = record {
  disk = subst (Follows old.disk) (sym runs.disk) (follows_itself old.disk);
  depot = subst (IsKept old.depot) (sym runs.depot) (kept_itself old.depot);
  sink = runs.count;
}
line_follows unread opened old result new runs = subst (SideFollows old) (sym runs.1) (side_itself old)

pub lines_follow : (last : Option Refusal) (lines : List Line) (opened : Option Generation) (old : StoreSide) (result : Result (Option Refusal) Stop) (new : StoreSide) → LinesRun last lines opened old result new → SideFollows old new
lines_follow last [] opened old result new runs = subst (SideFollows old) (sym runs.1) (side_itself old)
lines_follow last (line ∷ lines) opened old result new (inl (stop, is, end, runs)) = line_follows line opened old (Err stop) new runs
lines_follow last (line ∷ lines) opened old result new (inr (written, mid, runs, more)) =
    side_then old mid new (line_follows line opened old (Ok written) mid runs) (lines_follow written.refusal lines written.opened mid result new more)

-- what lines leave from a state for which the store durably stood
abbrev pub LinesTold : Option Refusal → List Line → Option Generation → Option Files → SinkState → SinkState → Result (Option Refusal) Stop → Told → Told → Type 0
LinesTold last lines opened files k l result d e = (s : State) → generation_in s ≡ opened → IsDurably s d.places → LinesFrom last lines files k l result s d e

nothing_told : (last : Option Refusal) (opened : Option Generation) (files : Option Files) (k : SinkState) (x : Option Told) → IfSome x IsDisk → BothTold (LinesTold last [] opened files k k (Ok last)) x x
nothing_told last opened files k None disk = tt
nothing_told last opened files k (Some d) disk = λ s is durably. record {
  bytes = [];
  written = adds_nothing k.written;
  standing = durable s;
  stands = durably;
  ends = (refl, refl, refl);
  since = durably_since s d disk durably;
}

way_start : (s : State) (files : Option Files) (lines : List Line) → IsOnTheWay s files lines s
way_start s files [] = refl
way_start s files (line ∷ lines) = inl refl

way_first : (s x : State) (files : Option Files) (line : Line) (lines : List Line) → IsOnTheWay s files (line ∷ []) x → IsOnTheWay s files (line ∷ lines) x
way_first s x files line lines (inl is) = inl is
way_first s x files line lines (inr (outcome, comes, is)) =
    inr (outcome, comes, subst (IsOnTheWay (state_after s outcome) files lines) (sym is) (way_start (state_after s outcome) files lines))

since_first : (s : State) (files : Option Files) (line : Line) (lines : List Line) (e : Told) (m : ℕ) → StandsSince (IsOnTheWay s files (line ∷ [])) e m → StandsSince (IsOnTheWay s files (line ∷ lines)) e m
since_first s files line lines e m since = stands_since_wider (IsOnTheWay s files (line ∷ [])) (IsOnTheWay s files (line ∷ lines)) e m (λ x. way_first s x files line lines) since

-- a command at which the run stopped
stop_from : (last : Option Refusal) (line : Line) (files : Option Files) (k l : SinkState) (stop : Stop) (s : State) (d e : Told) → LineRuns line s files k l (Err stop) d e → LinesFrom last (line ∷ []) files k l (Err stop) s d e
stop_from last line files k l stop s d e runs =
    let stopped = runs.ends in
    record {
      bytes = stopped.part;
      written = stopped.appends;
      standing = stopped.standing;
      stands = stopped.stands;
      ends = inl (stop, refl, refl, stopped.stops);
      since = runs.since;
    }

-- a reply of which a proper prefix was written, or nothing
record CutUsage (place : ℕ) (s : State) (files : Option Files) (k l : SinkState) (stop : Stop) : Type 0 where
  pub part : List ℕ
  pub stops : StopsWith stop s files (wrong place) (durable s) part
  pub appends : Appends k.written l.written part

usage_cut : (place : ℕ) (s : State) (files : Option Files) (k l : SinkState) (stop : Stop) → WritesUsage {T = Written} place k l (Err stop) → CutUsage place s files k l stop
usage_cut place s files k l stops.WriteFault writes =
    let (prefix, proper, appends) = writes.0 in
    record {
      part = prefix;
      stops = record { outcome = gives s (usage_line place); comes = refl; stands = refl; rest = proper.0; reply = proper.1; not_all = proper.2 };
      appends = appends;
    }
usage_cut place s files k l stops.DiskFault writes = absurd writes
usage_cut place s files k l stops.DepotFault writes = absurd writes
usage_cut place s files k l stops.OutOfMemory same = record { part = []; stops = inl (refl, refl); appends = same_sink k l same }
usage_cut place s files k l (stops.BadStore why) writes = absurd writes
usage_cut place s files k l stops.Unfinished writes = absurd writes

usage_stops : (last : Option Refusal) (place : ℕ) (opened : Option Generation) (files : Option Files) (k l : SinkState) (stop : Stop) (x : Option Told) → IfSome x IsDisk → WritesUsage {T = Written} place k l (Err stop)
    → BothTold (LinesTold last (wrong place ∷ []) opened files k l (Err stop)) x x
usage_stops last place opened files k l stop None disk writes = tt
usage_stops last place opened files k l stop (Some d) disk writes = λ s is durably.
    let cut = usage_cut place s files k l stop writes in
    record {
      bytes = cut.part;
      written = cut.appends;
      standing = durable s;
      stands = durably;
      ends = inl (stop, refl, refl, cut.stops);
      since = stands_since_wider (λ x. x ≡ s) (IsOnTheWay s files (wrong place ∷ [])) d d.clock (λ x same. inl same) (durably_since s d disk durably);
    }

unread_stops : (last : Option Refusal) (opened : Option Generation) (files : Option Files) (k : SinkState) (x : Option Told) → IfSome x IsDisk
    → BothTold (LinesTold last (unread ∷ []) opened files k k (Err stops.OutOfMemory)) x x
unread_stops last opened files k None disk = tt
unread_stops last opened files k (Some d) disk = λ s is durably. record {
  bytes = [];
  written = adds_nothing k.written;
  standing = durable s;
  stands = durably;
  ends = inl (stops.OutOfMemory, refl, refl, inl (refl, refl));
  since = stands_since_wider (λ x. x ≡ s) (IsOnTheWay s files (unread ∷ [])) d d.clock (λ x same. inl same) (durably_since s d disk durably);
}

-- a line at which the run stopped
line_stops : (last : Option Refusal) (line : Line) (opened : Option Generation) (old : StoreSide) (stop : Stop) (new : StoreSide) → LineRunsOn line opened old (Err stop) new → IfSome new.disk.told IsDisk
    → BothTold (LinesTold last (line ∷ []) opened old.depot.contents old.sink new.sink (Err stop)) old.disk.told new.disk.told
line_stops last (does command) opened old stop new runs disk =
    told_map (LineTold (does command) opened old.depot.contents old.sink new.sink (Err stop)) (LinesTold last (does command ∷ []) opened old.depot.contents old.sink new.sink (Err stop))
    (λ d e of. λ s is durably. stop_from last (does command) old.depot.contents old.sink new.sink stop s d e (of s is durably)) old.disk.told new.disk.told runs.told
line_stops last (wrong place) opened old stop new runs disk =
    subst (λ x. BothTold (LinesTold last (wrong place ∷ []) opened old.depot.contents old.sink new.sink (Err stop)) x new.disk.told) (ap (λ d. d.told) runs.disk)
    (usage_stops last place opened old.depot.contents old.sink new.sink stop new.disk.told disk runs.writes)
line_stops last unread opened old stop new runs disk =
    let is : stop ≡ stops.OutOfMemory = cc in
    subst (λ (p : Stop). BothTold (LinesTold last (unread ∷ []) opened old.depot.contents old.sink new.sink (Err p)) old.disk.told new.disk.told) (sym is)
    (subst (λ (side : StoreSide). BothTold (LinesTold last (unread ∷ []) opened old.depot.contents old.sink side.sink (Err stops.OutOfMemory)) old.disk.told side.disk.told) (sym runs.1)
    (unread_stops last opened old.depot.contents old.sink old.disk.told (subst (λ (side : StoreSide). IfSome side.disk.told IsDisk) runs.1 disk)))

-- a line that was done, and then the lines after it
done_from : (last : Option Refusal) (line : Line) (lines : List Line) (files : Option Files) (k m l : SinkState) (written : Written) (result : Result (Option Refusal) Stop) (s : State) (d e f : Told) → IsLater e f
    → LineRuns line s files k m (Ok written) d e → LinesTold written.refusal lines written.opened files m l result e f → LinesFrom last (line ∷ lines) files k l result s d f
done_from last line lines files k m l written result s d e f later runs more =
    let done = runs.ends in
    let u = state_after s done.outcome in
    let from = more u (sym done.opened) done.durably in
    record {
      bytes = reply_of done.outcome ++ from.bytes;
      written = appends_then k.written m.written l.written (reply_of done.outcome) from.bytes done.appends from.written;
      standing = from.standing;
      stands = from.stands;
      ends = inr (done.outcome, from.bytes, done.comes, refl, subst (λ (r : Option Refusal). EndsLines r u files lines result from.standing from.bytes) done.refusal from.ends);
      since = stands_since_then (IsOnTheWay s files (line ∷ lines)) e f d.clock later (since_first s files line lines e d.clock runs.since)
          (stands_since_wider (IsOnTheWay u files lines) (IsOnTheWay s files (line ∷ lines)) f e.clock (λ x on. inr (done.outcome, done.comes, on)) from.since);
    }

done_told : (last : Option Refusal) (line : Line) (lines : List Line) (opened : Option Generation) (files : Option Files) (k m l : SinkState) (written : Written) (result : Result (Option Refusal) Stop) (x y z : Option Told)
    → BothTold IsLater y z → BothTold (LineTold line opened files k m (Ok written)) x y → BothTold (LinesTold written.refusal lines written.opened files m l result) y z
    → BothTold (LinesTold last (line ∷ lines) opened files k l result) x z
done_told last line lines opened files k m l written result None None None later one more = tt
done_told last line lines opened files k m l written result None None (Some f) later one more = absurd later
done_told last line lines opened files k m l written result None (Some e) z later one more = absurd one
done_told last line lines opened files k m l written result (Some d) None z later one more = absurd one
done_told last line lines opened files k m l written result (Some d) (Some e) None later one more = absurd later
done_told last line lines opened files k m l written result (Some d) (Some e) (Some f) later one more =
    λ s is durably. done_from last line lines files k m l written result s d e f later (one s is durably) more

-- words outside the grammar, and then the lines after them
usage_from : (last : Option Refusal) (place : ℕ) (lines : List Line) (files : Option Files) (k m l : SinkState) (result : Result (Option Refusal) Stop) (s : State) (d e : Told) → Appends k.written m.written (usage_line place)
    → LinesFrom None lines files m l result s d e → LinesFrom last (wrong place ∷ lines) files k l result s d e
usage_from last place lines files k m l result s d e writes from = record {
  bytes = usage_line place ++ from.bytes;
  written = appends_then k.written m.written l.written (usage_line place) from.bytes writes from.written;
  standing = from.standing;
  stands = from.stands;
  ends = inr (gives s (usage_line place), from.bytes, refl, refl, from.ends);
  since = stands_since_wider (IsOnTheWay s files lines) (IsOnTheWay s files (wrong place ∷ lines)) e d.clock (λ x on. inr (gives s (usage_line place), refl, on)) from.since;
}

usage_goes : (last : Option Refusal) (place : ℕ) (lines : List Line) (opened after : Option Generation) (refusal : Option Refusal) (files : Option Files) (k m l : SinkState) (result : Result (Option Refusal) Stop) (x y : Option Told)
    → after ≡ opened → refusal ≡ None → Appends k.written m.written (usage_line place) → BothTold (LinesTold refusal lines after files m l result) x y
    → BothTold (LinesTold last (wrong place ∷ lines) opened files k l result) x y
usage_goes last place lines opened after refusal files k m l result x y same none writes more =
    told_map (LinesTold refusal lines after files m l result) (LinesTold last (wrong place ∷ lines) opened files k l result)
    (λ d e of. λ s is durably. usage_from last place lines files k m l result s d e writes (subst (λ (r : Option Refusal). LinesFrom r lines files m l result s d e) none (of s (is ∙ sym same) durably))) x y more

-- a line that was done or refused, and those after it
line_goes : (last : Option Refusal) (line : Line) (lines : List Line) (opened : Option Generation) (old : StoreSide) (written : Written) (mid : StoreSide) (result : Result (Option Refusal) Stop) (new : StoreSide)
    → LineRunsOn line opened old (Ok written) mid → BothTold IsLater mid.disk.told new.disk.told → BothTold (LinesTold written.refusal lines written.opened mid.depot.contents mid.sink new.sink result) mid.disk.told new.disk.told
    → BothTold (LinesTold last (line ∷ lines) opened old.depot.contents old.sink new.sink result) old.disk.told new.disk.told
line_goes last (does command) lines opened old written mid result new runs later more =
    done_told last (does command) lines opened old.depot.contents old.sink mid.sink new.sink written result old.disk.told mid.disk.told new.disk.told later runs.told
    (subst (λ (files : Option Files). BothTold (LinesTold written.refusal lines written.opened files mid.sink new.sink result) mid.disk.told new.disk.told) runs.kept.contents more)
line_goes last (wrong place) lines opened old written mid result new runs later more =
    subst (λ (x : Option Told). BothTold (LinesTold last (wrong place ∷ lines) opened old.depot.contents old.sink new.sink result) x new.disk.told) (ap (λ d. d.told) runs.disk)
    (usage_goes last place lines opened written.opened written.refusal old.depot.contents old.sink mid.sink new.sink result mid.disk.told new.disk.told runs.goes_on.0 runs.goes_on.1 runs.writes
    (subst (λ (files : Option Files). BothTold (LinesTold written.refusal lines written.opened files mid.sink new.sink result) mid.disk.told new.disk.told) (ap (λ p. p.contents) runs.depot) more))
line_goes last unread lines opened old written mid result new runs later more = let never = runs.0 in cc

-- lines end by the machine
pub lines_told : (last : Option Refusal) (lines : List Line) (opened : Option Generation) (old : StoreSide) (result : Result (Option Refusal) Stop) (new : StoreSide) → LinesRun last lines opened old result new → IfSome new.disk.told IsDisk
    → BothTold (LinesTold last lines opened old.depot.contents old.sink new.sink result) old.disk.told new.disk.told
lines_told last [] opened old result new runs disk =
    subst (λ (r : Result (Option Refusal) Stop). BothTold (LinesTold last [] opened old.depot.contents old.sink new.sink r) old.disk.told new.disk.told) (sym runs.0)
    (subst (λ (side : StoreSide). BothTold (LinesTold last [] opened old.depot.contents old.sink side.sink (Ok last)) old.disk.told side.disk.told) (sym runs.1)
    (nothing_told last opened old.depot.contents old.sink old.disk.told (subst (λ (side : StoreSide). IfSome side.disk.told IsDisk) runs.1 disk)))
lines_told last (line ∷ lines) opened old result new (inl (stop, is, end, runs)) disk =
    subst (λ (ls : List Line). BothTold (LinesTold last (line ∷ ls) opened old.depot.contents old.sink new.sink result) old.disk.told new.disk.told) (sym end)
    (subst (λ (r : Result (Option Refusal) Stop). BothTold (LinesTold last (line ∷ []) opened old.depot.contents old.sink new.sink r) old.disk.told new.disk.told) (sym is)
    (line_stops last line opened old stop new runs disk))
lines_told last (line ∷ lines) opened old result new (inr (written, mid, runs, more)) disk =
    line_goes last line lines opened old written mid result new runs (lines_follow written.refusal lines written.opened mid result new more).disk.told
    (lines_told written.refusal lines written.opened mid result new more disk)

-- which device lines blame
last_blames : (batch : Bool) (old new : StoreSide) (last : Option Refusal) → Blames old new (status_of_last batch last)
last_blames true old new last = tt
last_blames false old new None = tt
last_blames false old new (Some refusal) = tt

command_blames : (opened : Option Generation) (old new : StoreSide) (stop : Stop) → LineCause opened old.sink new.sink old.disk new.disk old.depot new.depot stop → Blames old new (status_of_stop stop)
command_blames opened old new stops.WriteFault cause = cause
command_blames opened old new stops.DiskFault cause = cause
command_blames opened old new stops.DepotFault cause = cause
command_blames opened old new stops.OutOfMemory cause = tt
command_blames opened old new (stops.BadStore why) cause = tt
command_blames opened old new stops.Unfinished cause = tt

usage_blames : (place : ℕ) (old new : StoreSide) (stop : Stop) → WritesUsage {T = Written} place old.sink new.sink (Err stop) → Blames old new (status_of_stop stop)
usage_blames place old new stops.WriteFault writes = writes.1
usage_blames place old new stops.DiskFault writes = absurd writes
usage_blames place old new stops.DepotFault writes = absurd writes
usage_blames place old new stops.OutOfMemory writes = tt
usage_blames place old new (stops.BadStore why) writes = tt
usage_blames place old new stops.Unfinished writes = tt

line_blames : (line : Line) (opened : Option Generation) (old : StoreSide) (stop : Stop) (new : StoreSide) → LineRunsOn line opened old (Err stop) new → Blames old new (status_of_stop stop)
line_blames (does command) opened old stop new runs = command_blames opened old new stop runs.cause
line_blames (wrong place) opened old stop new runs = usage_blames place old new stop runs.writes
line_blames unread opened old stop new runs =
    let is : stop ≡ stops.OutOfMemory = cc in
    subst (λ (p : Stop). Blames old new (status_of_stop p)) (sym is) tt

pub blames_since : (old mid new : StoreSide) (status : Status) → SideFollows old mid → Blames mid new status → Blames old new status
blames_since old mid new Done follows blames = tt
blames_since old mid new (Refused refusal) follows blames = tt
blames_since old mid new (Usage place) follows blames = blames
blames_since old mid new ReadFault follows blames = blames
blames_since old mid new WriteFault follows blames = rose_from old.sink.faults mid.sink.faults new.sink.faults follows.sink blames
blames_since old mid new DiskFault follows blames = rose_from old.disk.faults mid.disk.faults new.disk.faults follows.disk.count blames
blames_since old mid new DepotFault follows blames = rose_from old.depot.faults mid.depot.faults new.depot.faults follows.depot.count blames
blames_since old mid new OutOfMemory follows blames = tt
blames_since old mid new (BadStore why) follows blames = tt
blames_since old mid new Unfinished follows blames = tt
blames_since old mid new TooLong follows blames = blames

pub lines_blame : (batch : Bool) (last : Option Refusal) (lines : List Line) (opened : Option Generation) (old : StoreSide) (result : Result (Option Refusal) Stop) (new : StoreSide) → LinesRun last lines opened old result new → Blames old new (status_of batch result)
lines_blame batch last [] opened old result new runs = subst (λ (r : Result (Option Refusal) Stop). Blames old new (status_of batch r)) (sym runs.0) (last_blames batch old new last)
lines_blame batch last (line ∷ lines) opened old result new (inl (stop, is, end, runs)) =
    subst (λ (r : Result (Option Refusal) Stop). Blames old new (status_of batch r)) (sym is) (line_blames line opened old stop new runs)
lines_blame batch last (line ∷ lines) opened old result new (inr (written, mid, runs, more)) =
    blames_since old mid new (status_of batch result) (line_follows line opened old (Ok written) mid runs) (lines_blame batch written.refusal lines written.opened mid result new more)
