-- `current`, and the generation that it names, stay through a change that doesn't come to the switch.
use Rattle.std.proofs.Common.{◌≡◌, ◌≢◌, ◌⊎◌, ℕ, ◌+◌, ◌<◌, ◌^◌, Bool, true, false, List, [], length, Option, Some, None, IfSome, Result, Ok, Err, refl, sym, ap, ◌∙◌, subst, arith, inl, inr}
use Rattle.std.specs.Prelude.{IfOk, drop, get_or}
use Rattle.std.specs.Ordering.{eq_by_cmp}
use Rattle.std.proofs.lemmas.Bool.{false≢true}
use Rattle.std.proofs.lemmas.Fmt.{decimal_injective}
use Rattle.ext_io.specs.SinkState.{SinkState}
use Rattle.ext_text.specs.Path.{path_cmp}
use Rattle.ext_disk.specs.Disk.{BothTold, DiskState, Places, Told, now}
use Rattle.ext_disk.specs.Since.{Rests}
use Rattle.ext_host.specs.declared.host.Host.{Host}
use Rattle.ext_store_files.specs.LeftOvers.{is_left_path}
use Rattle.ext_store_files.specs.Names.{IsGeneration, current_path, generation_name, index_path, next_path}
use Rattle.ext_store_files.proofs.ForCallers.{told_map, told_same, told_then}
use Rattle.ext_store_files.specs.declared.fault.StoreFault.TheVariants as store_faults
use Rattle.ext_gen.specs.Opened.{Generation}
use Rattle.ext_gen.specs.Preparing.{coming_number, is_needed, most_files}
use Rattle.ext_gen.specs.PreparingPaths.{ChangesAt, IsComing, gone, made, stays}
use Rattle.ext_gen.specs.PreparingPaths as paths
use Rattle.ext_gen.specs.Store.{Points}
use Rattle.ext_gen.proofs.ForCallers.{before_needed, needed_not_left}
use Rattle.ext_cmd.specs.declared.refusal.Refusal.{Refusal}
use Rattle.ext_top.specs.Applying.{IsShownReply, PointsAs}
use Rattle.ext_top.specs.Lines.{LineLeavesCurrent, stop_of_apply}
use Rattle.ext_top.specs.Replying.{WritesReply, WritesText}
use Rattle.ext_top.specs.Working.{KeepsCurrent, LeavesCurrent, refused_by}
use Rattle.ext_top.specs.declared.applied.Applied.{Applied}
use Rattle.ext_top.specs.declared.applied.Reply.{Reply}
use Rattle.ext_top.specs.declared.applied.Reply.TheVariants.{Text, File, Refused}
use Rattle.ext_top.specs.declared.apply_err.ApplyErr.{ApplyErr}
use Rattle.ext_top.specs.declared.apply_err.ApplyErr.TheVariants as apply_errors
use Rattle.ext_top.specs.declared.stop.Stop.{Stop}
use Rattle.ext_top.specs.declared.stop.Stop.TheVariants as stops
use Rattle.ext_top.proofs.PreparedLemmas.{Works}

-- a change makes nothing at `current`
coming_apart : (n files : ℕ) (p : List (List ℕ)) → IsComing n files p → eq_by_cmp path_cmp current_path p ≡ false
coming_apart n files p paths.next = refl
coming_apart n files p paths.generation = refl
coming_apart n files p paths.index = refl
coming_apart n files p (paths.folder k below) = refl
coming_apart n files p (paths.file k below) = refl

kept_at : (needed : ℕ → Bool) (n files : ℕ) (d e : Places) → ChangesAt (is_left_path needed) n files d e current_path → (e current_path).node ≡ (d current_path).node
kept_at needed n files d e (stays same) = same
kept_at needed n files d e (gone left none) = absurd (false≢true left)
kept_at needed n files d e (made at) = absurd (false≢true (sym (coming_apart n files current_path at)))

pub current_kept : (from : Option Generation) (next : Host) (d e : Told) → Works from next d e → KeepsCurrent d e
current_kept from next d e works = kept_at (is_needed from) (coming_number from) (most_files next) d.places e.places (works.now current_path)

-- nor at the index of another generation
names_apart : (m n : ℕ) → m < 2 ^ 32 → n < 2 ^ 64 → m ≢ n → generation_name m ≢ generation_name n
names_apart m n low high other same = other (decimal_injective m n (omega arith) high (ap (λ (l : List ℕ). drop 2 l) same))

coming_below : (n files : ℕ) (p : List (List ℕ)) → IsComing n files p → (p ≡ next_path) ⊎ (get_or p 0 [] ≡ generation_name n)
coming_below n files p paths.next = inl refl
coming_below n files p paths.generation = inr refl
coming_below n files p paths.index = inr refl
coming_below n files p (paths.folder k below) = inr refl
coming_below n files p (paths.file k below) = inr refl

index_kept : (needed : ℕ → Bool) (m n files : ℕ) (d e : Places) → IsGeneration m → n < 2 ^ 64 → needed m ≡ true → m ≢ n → ChangesAt (is_left_path needed) n files d e (index_path m) → (e (index_path m)).node ≡ (d (index_path m)).node
index_kept needed m n files d e is high need other (stays same) = same
index_kept needed m n files d e is high need other (gone left none) = absurd (false≢true (sym (needed_not_left needed m is need) ∙ left))
index_kept needed m n files d e is high need other (made at) = absurd (by_place (coming_below n files (index_path m) at))
  where
    by_place : (index_path m ≡ next_path) ⊎ (generation_name m ≡ generation_name n) → ⊥
    by_place (inl same) = let long = ap length same in omega arith
    by_place (inr same) = names_apart m n (let small = is.1 in omega arith) high other same

points_kept : (from : Option Generation) (next : Host) (d e : Told) → Works from next d e → Points (now d.places) from → Points (now e.places) from
points_kept None next d e works points = current_kept None next d e works ∙ points
points_kept (Some g) next d e works points = record {
  number = points.number;
  current = current_kept (Some g) next d e works ∙ points.current;
  bytes = points.bytes;
  index = index_kept (is_needed (Some g)) g.number (g.number + 1) (most_files next) d.places e.places points.number (let small = points.number.1 in omega arith) (before_needed g) (λ same. omega arith) (works.now (index_path g.number)) ∙ points.index;
  reads = points.reads;
}

pub points_through : (from : Option Generation) (next : Host) (x y : Option Told) → BothTold (Works from next) x y → IfSome x (λ d. Points (now d.places) from) → IfSome y (λ e. Points (now e.places) from)
points_through from next None None works points = tt
points_through from next None (Some e) works points = absurd works
points_through from next (Some d) None works points = absurd works
points_through from next (Some d) (Some e) works points = points_kept from next d e works points

leaves_current : (result : Result Applied ApplyErr) (d e : Told) → KeepsCurrent d e → LeavesCurrent result d e
leaves_current (Ok applied) d e keeps = by_reply applied.reply
  where
    by_reply : (reply : Reply) → IfSome (refused_by reply) (λ refusal. KeepsCurrent d e)
    by_reply (Text text) = tt
    by_reply (File held) = tt
    by_reply (Refused refusal) = keeps
leaves_current (Err (apply_errors.Fault store_faults.DiskFault)) d e keeps = tt
leaves_current (Err (apply_errors.Fault store_faults.DepotFault)) d e keeps = keeps
leaves_current (Err (apply_errors.Fault store_faults.OutOfMemory)) d e keeps = keeps
leaves_current (Err (apply_errors.Fault (store_faults.Damaged damage))) d e keeps = keeps
leaves_current (Err apply_errors.Unfinished) d e keeps = keeps

-- where the disk rests
pub rested_current : (result : Result Applied ApplyErr) (x y : Option Told) → y ≡ x → BothTold (LeavesCurrent result) x y
rested_current result x y same = told_same (LeavesCurrent result) (λ d. leaves_current result d d refl) x y same

-- where it didn't come to the switch
pub unswitched_current : (result : Result Applied ApplyErr) (from : Option Generation) (next : Host) (x y : Option Told) → BothTold (Works from next) x y → BothTold (LeavesCurrent result) x y
unswitched_current result from next x y works = told_map (Works from next) (LeavesCurrent result) (λ d e w. leaves_current result d e (current_kept from next d e w)) x y works

-- where it did, `current` may be new
pub switched_current : (A B : Told → Told → Type 0) (x y z : Option Told) → BothTold A x y → BothTold B y z → BothTold (λ d e. Unit {0}) x z
switched_current A B x y z one two = told_then A B (λ d e. Unit {0}) (λ c d e a b. tt) x y z one two

-- and from before a disk that was only read
pub current_since : (result : Result Applied ApplyErr) (x mid y : Option Told) → mid ≡ x → BothTold (LeavesCurrent result) mid y → BothTold (LeavesCurrent result) x y
current_since result x mid y same leaves = subst (λ t. BothTold (LeavesCurrent result) t y) same leaves

-- what points to what was opened points there where the disk rests
pub points_rested : (P : Type 0) (from : Option Generation) (old new : DiskState) (result : Result Applied ApplyErr) → new.told ≡ old.told → PointsAs old from → IfOk result (λ applied. (applied.opened ≡ from) × (refused_by applied.reply ≡ None) × P) → IfOk result (λ applied. PointsAs new applied.opened)
points_rested P from old new (Ok applied) same points met =
    subst (λ o. PointsAs new o) (sym met.0) (subst (λ t. IfSome t (λ (d : Told). Points (now d.places) from)) (sym same) points)
points_rested P from old new (Err e) same points met = tt

-- the reply is a file
abbrev IsFileReply : Reply → Type 0
IsFileReply (Text text) = ⊥
IsFileReply (File held) = Unit {0}
IsFileReply (Refused refusal) = ⊥

-- of a line whose command was not carried out
undone_leaves : (e : ApplyErr) (c d : Told) → LeavesCurrent (Err e) c d → LineLeavesCurrent (Err (stop_of_apply e)) c d
undone_leaves (apply_errors.Fault store_faults.OutOfMemory) c d leaves = leaves
undone_leaves (apply_errors.Fault store_faults.DiskFault) c d leaves = tt
undone_leaves (apply_errors.Fault store_faults.DepotFault) c d leaves = leaves
undone_leaves (apply_errors.Fault (store_faults.Damaged damage)) c d leaves = leaves
undone_leaves apply_errors.Unfinished c d leaves = leaves

pub undone_current : (e : ApplyErr) (x y : Option Told) → BothTold (LeavesCurrent (Err e)) x y → BothTold (LineLeavesCurrent (Err (stop_of_apply e))) x y
undone_current e x y leaves = told_map (LeavesCurrent (Err e)) (LineLeavesCurrent (Err (stop_of_apply e))) (λ c d leaves. undone_leaves e c d leaves) x y leaves

-- of one whose reply was not written
keeps_line : (stop : Stop) (c d : Told) → KeepsCurrent c d → LineLeavesCurrent (Err stop) c d
keeps_line stops.WriteFault c d keeps = tt
keeps_line stops.DiskFault c d keeps = tt
keeps_line stops.DepotFault c d keeps = keeps
keeps_line stops.OutOfMemory c d keeps = keeps
keeps_line (stops.BadStore why) c d keeps = keeps
keeps_line stops.Unfinished c d keeps = keeps

text_leaves : (text : List ℕ) (k l : SinkState) (stop : Stop) (c d : Told) → WritesText text k l (Err stop) → LineLeavesCurrent (Err stop) c d
text_leaves text k l stops.WriteFault c d writes = tt
text_leaves text k l stops.DiskFault c d writes = tt
text_leaves text k l stops.DepotFault c d writes = absurd writes
text_leaves text k l stops.OutOfMemory c d writes = absurd writes
text_leaves text k l (stops.BadStore why) c d writes = absurd writes
text_leaves text k l stops.Unfinished c d writes = absurd writes

unwritten_leaves : (opened : Option Generation) (reply : Reply) (disk : DiskState) (k l : SinkState) (stop : Stop) (x y : Option Told) → WritesReply reply disk k l (Err stop) → (IsFileReply reply → y ≡ x) → BothTold (LeavesCurrent (Ok (record { opened = opened; reply = reply }))) x y
    → BothTold (LineLeavesCurrent (Err stop)) x y
unwritten_leaves opened (Text text) disk k l stop x y writes rests leaves = told_map (LeavesCurrent (Ok (record { opened = opened; reply = Text text }))) (LineLeavesCurrent (Err stop)) (λ c d leaves. text_leaves text k l stop c d writes) x y leaves
unwritten_leaves opened (File held) disk k l stop x y writes rests leaves = told_same (LineLeavesCurrent (Err stop)) (λ d. keeps_line stop d d refl) x y (rests tt)
unwritten_leaves opened (Refused refusal) disk k l stop x y writes rests leaves = told_map (LeavesCurrent (Ok (record { opened = opened; reply = Refused refusal }))) (LineLeavesCurrent (Err stop)) (λ c d keeps. keeps_line stop c d keeps) x y leaves

file_rests : (opened : Option Generation) (old mid : DiskState) (reply : Reply) → IsShownReply opened old mid reply → IsFileReply reply → mid.told ≡ old.told
file_rests opened old mid (Text text) shown is = absurd is
file_rests opened old mid (File held) shown is = shown.2.told
file_rests opened old mid (Refused refusal) shown is = absurd is

pub unwritten_current : (from opened : Option Generation) (reply : Reply) (old mid new : DiskState) (k l : SinkState) (stop : Stop) → Rests mid new → WritesReply reply mid k l (Err stop) → IsShownReply from old mid reply
    → BothTold (LeavesCurrent (Ok (record { opened = opened; reply = reply }))) old.told mid.told → BothTold (LineLeavesCurrent (Err stop)) old.told new.told
unwritten_current from opened reply old mid new k l stop rests writes shown leaves =
    subst (λ t. BothTold (LineLeavesCurrent (Err stop)) old.told t) (sym rests.told) (unwritten_leaves opened reply mid k l stop old.told mid.told writes (file_rests from old mid reply shown) leaves)

-- and of one that was done or refused
pub written_current : (opened : Option Generation) (reply : Reply) (refusal : Option Refusal) (old mid new : DiskState) → Rests mid new → refusal ≡ refused_by reply → BothTold (LeavesCurrent (Ok (record { opened = opened; reply = reply }))) old.told mid.told
    → BothTold (LineLeavesCurrent (Ok (record { opened = opened; refusal = refusal }))) old.told new.told
written_current opened reply refusal old mid new rests same leaves =
    subst (λ t. BothTold (LineLeavesCurrent (Ok (record { opened = opened; refusal = refusal }))) old.told t) (sym rests.told) (subst (λ r. BothTold (λ c d. IfSome r (λ refusal. KeepsCurrent c d)) old.told mid.told) (sym same) leaves)

pub written_points : (opened : Option Generation) (mid new : DiskState) → Rests mid new → PointsAs mid opened → PointsAs new opened
written_points opened mid new rests points = subst (λ t. IfSome t (λ (d : Told). Points (now d.places) opened)) (sym rests.told) points
