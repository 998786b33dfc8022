-- What a command does to a disk, and what it met on the way: over a disk that was only read before, or that was opened.
use Rattle.std.specs.Prelude.{not}
use Rattle.std.proofs.Common.{◌≡◌, ℕ, ◌+◌, ◌==◌, Bool, List, [], ◌∷◌, ◌++◌, length, inl, inr, Option, Some, None, is_some, IfOk, IfSome, Result, Ok, Err, refl, sym, ap, ◌∙◌, subst, arith}
use Rattle.std.specs.List.{sum_by}
use Rattle.ext_text.proofs.ForCallers.{all_weaker}
use Rattle.ext_depot.specs.Depot.{DepotState, Files}
use Rattle.ext_io.specs.SinkState.{SinkState}
use Rattle.ext_disk.specs.Disk.{Places, Told, DiskState, BothTold}
use Rattle.ext_tree.specs.declared.stamp.Stamp.{Stamp}
use Rattle.ext_host.specs.Held.{HeldFile}
use Rattle.ext_host.specs.Shelf.{IsTold}
use Rattle.ext_host.specs.declared.body.Body.{Body}
use Rattle.ext_host.specs.declared.body.Body.TheVariants.{Here, Kept, Depot}
use Rattle.ext_host.specs.declared.damage.Damage.{Damage}
use Rattle.ext_host.specs.declared.host.Host.{Host}
use Rattle.ext_store_files.specs.Appended.{raised}
use Rattle.ext_store_files.specs.Copying.{IsMissing, IsReadStamp}
use Rattle.ext_store_files.specs.HeldFiles.{IsListed, body_told, node_told, told_at}
use Rattle.ext_store_files.specs.Names.{current_text, home_path}
use Rattle.ext_store_files.specs.Removal.{AllStand, AtMost}
use Rattle.ext_store_files.proofs.ForCallers.{told_map, told_same, told_then, within_none, within_same}
use Rattle.ext_store_files.specs.LeftOvers.{most_left_overs}
use Rattle.ext_homes.specs.Giving.{stored_by}
use Rattle.ext_homes.specs.Placed.{brought_told}
use Rattle.ext_homes.specs.Refused.{IsDamaged}
use Rattle.ext_gen.specs.Checking.{IsAsListed, files_of_host}
use Rattle.ext_gen.specs.Opened.{Generation}
use Rattle.ext_gen.specs.Opening.{KeepsNow}
use Rattle.ext_gen.specs.Preparing.{coming_number, host_before, is_left}
use Rattle.ext_gen.specs.PreparingIndex.{coming_index}
use Rattle.ext_gen.specs.PreparingPaths.{gone, is_gone, made, stays}
use Rattle.ext_cmd.specs.declared.command.Command.{Command}
use Rattle.ext_cmd.specs.declared.refusal.Refusal.{Refusal}
use Rattle.ext_cmd.specs.declared.refusal.Refusal.TheVariants as refusals
use Rattle.ext_cmd.specs.declared.answer.Answer.{Answer}
use Rattle.ext_intents.specs.Step.{Wants}
use Rattle.ext_intents.specs.declared.intent.Intent.{Intent}
use Rattle.ext_intents.specs.declared.intent.Intent.TheVariants.{Changes, Answers, Checks, Shows, Refuses}
use Rattle.ext_top.specs.Applying.{seen_on}
use Rattle.ext_top.specs.Machine.{IsMismatch, IsNotThere}
use Rattle.ext_top.specs.Working.{AppliedSo, AreAllAsListed, FindsDamage, HasMet, IsDamagedFor, IsReplyTo, Met, ReadsDamage, RefusesChange, StopsChange, ReplacedTold, ReplacesAt, ReplacesTold, StaysTold, WantsOn, WorksFor, WorksAsWanted, WritesMet, changes, current, refused_by}
use Rattle.ext_top.specs.declared.applied.Applied.{Applied}
use Rattle.ext_top.specs.declared.apply_err.ApplyErr.{ApplyErr}
use Rattle.ext_top.proofs.PlacedLemmas.{Alike, damaged_alike, host_alike, stops_alike}
use Rattle.ext_top.proofs.StoredLemmas.{depot_alike}

keeps_itself : (d : Told) → KeepsNow d d
keeps_itself d = record { now = λ p out. refl; appended = within_same 0 d.appended d.appended refl }

-- so it is of one that was only read
pub reading_keeps : (old mid : DiskState) → mid.told ≡ old.told → BothTold KeepsNow old.told mid.told
reading_keeps old mid same = told_same KeepsNow keeps_itself old.told mid.told same

keeps_stays : (d e : Told) → KeepsNow d e → StaysTold d e
keeps_stays d e keeps = record { now = λ p. keeps.now p refl; appended = within_none d.appended e.appended keeps.appended }

pub stays_told : (x y : Option Told) → BothTold KeepsNow x y → BothTold StaysTold x y
stays_told x y keeps = told_map KeepsNow StaysTold keeps_stays x y keeps

-- and so it is of what stays afterwards
pub stays_since : (c d e : Told) → KeepsNow c d → StaysTold d e → StaysTold c e
stays_since c d e keeps still = record {
  now = λ p. still.now p ∙ keeps.now p refl;
  appended = still.appended ∙ within_none c.appended d.appended keeps.appended;
}

replaces_at_since : (from : Option Generation) (next : Host) (c d e : Places) (p : List (List ℕ)) → (d p).node ≡ (c p).node → ReplacesAt from next d e p → ReplacesAt from next c e p
replaces_at_since from next c d e p same (changes (stays is)) = changes (stays (is ∙ same))
replaces_at_since from next c d e p same (changes (gone left none)) = changes (gone left none)
replaces_at_since from next c d e p same (changes (made at)) = changes (made at)
replaces_at_since from next c d e p same (current is) = current is

all_stand : (left : List (List ℕ) → Bool) (c d : Told) (ps : List (List (List ℕ))) → KeepsNow c d → AllStand left c.places ps → AllStand left d.places ps
all_stand left c d [] keeps all = tt
all_stand left c d (p ∷ ps) keeps (reached, stands, rest) = (reached, ap is_some (keeps.now p refl) ∙ stands, all_stand left c d ps keeps rest)

few_before : (left : List (List ℕ) → Bool) (c d : Told) → KeepsNow c d → AtMost most_left_overs left d.places → AtMost most_left_overs left c.places
few_before left c d keeps few ps stand = few ps (record { distinct = stand.distinct; all = all_stand left c d ps keeps stand.all })

replaces_since : (from : Option Generation) (next : Host) (c d e : Told) → KeepsNow c d → ReplacesTold from next d e → ReplacesTold from next c e
replaces_since from next c d e keeps replaces =
    let same = within_none c.appended d.appended keeps.appended in
    let more = replaces.appended in
    record {
      now = λ p. replaces_at_since from next c.places d.places e.places p (keeps.now p refl) (replaces.now p);
      few = few_before (is_gone (is_left from) e.places) c d keeps replaces.few;
      appended = omega arith;
    }

works_since : (from : Option Generation) (next : Option Host) (c d e : Told) → KeepsNow c d → WorksAsWanted from next d e → WorksAsWanted from next c e
works_since from None c d e keeps works = stays_since c d e keeps works
works_since from (Some next) c d e keeps works = replaces_since from next c d e keeps works

-- of what is wanted, and so of what is wanted in a wider sense
works_for_since : (W V : Intent → Type 0) (from : Option Generation) → ((intent : Intent) → W intent → V intent) → (c d e : Told) → KeepsNow c d → WorksFor W from d e → WorksFor V from c e
works_for_since W V from wider c d e keeps (inl still) = inl (stays_since c d e keeps still)
works_for_since W V from wider c d e keeps (inr (intent, is, works)) = inr (intent, wider intent is, works_since from _ c d e keeps works)

pub works_through : (W V : Intent → Type 0) (from : Option Generation) → ((intent : Intent) → W intent → V intent) → (x y z : Option Told) → BothTold KeepsNow x y → BothTold (WorksFor W from) y z → BothTold (WorksFor V from) x z
works_through W V from wider x y z keeps works = told_then KeepsNow (WorksFor W from) (WorksFor V from) (works_for_since W V from wider) x y z keeps works

-- nothing is done where it ended before
pub works_not : (W : Intent → Type 0) (from : Option Generation) (x y : Option Told) → BothTold KeepsNow x y → BothTold (WorksFor W from) x y
works_not W from x y keeps = told_map KeepsNow (WorksFor W from) (λ d e same. inl (keeps_stays d e same)) x y keeps

pub works_nothing : (W : Intent → Type 0) (from : Option Generation) (x : Option Told) → BothTold (WorksFor W from) x x
works_nothing W from x = works_not W from x x (told_same KeepsNow keeps_itself x x refl)

pub replaces_works : (next : Host) (answer : Answer) (from : Option Generation) (x y : Option Told) → BothTold (ReplacesTold from next) x y → BothTold (WorksFor (λ intent. intent ≡ Changes next answer) from) x y
replaces_works next answer from x y replaces =
    told_map (ReplacesTold from next) (WorksFor (λ intent. intent ≡ Changes next answer) from) (λ d e works. inr (Changes next answer, refl, works)) x y replaces

told_kept : (x y : Option Told) → BothTold KeepsNow x y → (p : List (List ℕ)) → told_at y p ≡ told_at x p
told_kept None None keeps p = refl
told_kept None (Some e) keeps p = absurd keeps
told_kept (Some d) None keeps p = absurd keeps
told_kept (Some d) (Some e) keeps p = ap node_told (keeps.now p refl)

module _ (old mid : DiskState) (keeps : BothTold KeepsNow old.told mid.told) where
  body_kept : (body : Body) → body_told mid body ≡ body_told old body
  body_kept (Here bytes) = refl
  body_kept (Kept home) = told_kept old.told mid.told keeps (home_path home.generation home.file)
  body_kept (Depot path) = refl

  seen_kept : (from : Option Generation) → seen_on from mid ≡ seen_on from old
  seen_kept None = refl
  seen_kept (Some g) = λ i. Some (record { host = g.host; number = g.number; newest = not (g.text == 1); told = λ held. body_kept held.body i })

  pub wants_kept : (from : Option Generation) (files : Option Files) (command : Command) (intent : Intent) → WantsOn from mid files command intent → WantsOn from old files command intent
  wants_kept from files command intent wants = subst (λ seen. Wants seen files command intent) (seen_kept from) wants

  stored_kept : (host : Option Host) (later depot : DepotState) → later.contents ≡ depot.contents → Alike (stored_by host mid) (stored_by host old) later depot
  stored_kept host later depot same = record {
    lists = λ stamp home listed. listed;
    back = λ stamp home listed. listed;
    told = λ stamp home listed. told_kept old.told mid.told keeps (home_path home.generation home.file);
    brought = λ body. depot_alike depot later same body;
  }

  listed_kept : (from : Option Generation) → AreAllAsListed from mid → AreAllAsListed from old
  listed_kept None listed = tt
  listed_kept (Some g) listed = all_weaker (IsAsListed mid) (IsAsListed old) (λ held is. subst (λ t. IsListed t held.stamp) (body_kept held.body) is) (files_of_host g.host) listed

replaced_since : (from : Option Generation) (coming : Generation) (written : List (List ℕ)) (c d e : Told) → KeepsNow c d → ReplacedTold from coming written d e → ReplacedTold from coming written c e
replaced_since from coming written c d e keeps replaced =
    let ours = sum_by length written + (length (coming_index coming.number coming.host) + length (current_text coming.number)) in
    record {
      few = few_before (is_left from) c d keeps replaced.few;
      generations = replaced.generations;
      appended = replaced.appended ∙ ap (λ k. raised k ours) (within_none c.appended d.appended keeps.appended);
    }

few_told : (from : Option Generation) (x y : Option Told) → BothTold KeepsNow x y → IfSome y (λ e. AtMost most_left_overs (is_left from) e.places) → IfSome x (λ d. AtMost most_left_overs (is_left from) d.places)
few_told from None y keeps few = tt
few_told from (Some d) None keeps few = absurd keeps
few_told from (Some d) (Some e) keeps few = few_before (is_left from) d e keeps few

not_there_since : (later depot : DepotState) (path : List (List ℕ)) → later.contents ≡ depot.contents → (held : HeldFile) → IsNotThere later path held → IsNotThere depot path held
not_there_since later depot path same held is = record { body = is.body; missing = subst IsMissing (depot_alike depot later same held.body) is.missing }

mismatch_since : (later depot : DepotState) (path : List (List ℕ)) (listed found : Stamp) → later.contents ≡ depot.contents → (held : HeldFile) → IsMismatch later path listed found held → IsMismatch depot path listed found held
mismatch_since later depot path listed found same held is = record { body = is.body; stamp = is.stamp; read = subst (λ t. IsReadStamp t listed found) (depot_alike depot later same held.body) is.read }

module _ (from : Option Generation) (next : Host) (old mid : DiskState) (later depot : DepotState) (keeps : BothTold KeepsNow old.told mid.told) (same : later.contents ≡ depot.contents) where
  stops_since : (P Q : HeldFile → Type 0) → ((held : HeldFile) → P held → Q held) → StopsChange from next mid later P → StopsChange from next old depot Q
  stops_since P Q why stops = record {
    limit = stops.limit;
    few = few_told from old.told mid.told keeps stops.few;
    stops = stops_alike (stored_by (host_before from) mid) (stored_by (host_before from) old) later depot (stored_kept old mid keeps (host_before from) later depot same) (coming_number from) (next.root ++ next.lower) P Q why stops.stops;
  }

  damaged_since : (damage : Damage) (held : HeldFile) → IsDamagedFor from mid later damage held → IsDamagedFor from old depot damage held
  damaged_since damage held is =
      let alike = stored_kept old mid keeps (host_before from) later depot same in
      record {
        brought = is.brought;
        stamp = is.stamp;
        damaged = subst (λ t. IsDamaged (stored_by (host_before from) old) damage.listed t damage.home damage.found) (alike.brought held.body)
            (damaged_alike (stored_by (host_before from) mid) (stored_by (host_before from) old) later depot alike damage.listed (brought_told later held.body) damage.home damage.found is.damaged);
      }

  refused_since : (refusal : Refusal) → RefusesChange from next mid later refusal → RefusesChange from next old depot refusal
  refused_since (refusals.Limit which) refused = refused
  refused_since (refusals.NotInDepot path) refused = stops_since (IsNotThere later path) (IsNotThere depot path) (not_there_since later depot path same) refused
  refused_since (refusals.Mismatch path listed found) refused = stops_since (IsMismatch later path listed found) (IsMismatch depot path listed found) (mismatch_since later depot path listed found same) refused
  refused_since refusals.NoStore refused = absurd refused
  refused_since refusals.StoreExists refused = absurd refused
  refused_since refusals.Merged refused = absurd refused
  refused_since refusals.NoHostRelease refused = absurd refused
  refused_since (refusals.BadHostRelease line) refused = absurd refused
  refused_since (refusals.ReadOnly path) refused = absurd refused
  refused_since (refusals.NoEntry path) refused = absurd refused
  refused_since (refusals.NotDirectory path) refused = absurd refused
  refused_since (refusals.NotFile path) refused = absurd refused
  refused_since (refusals.BadTree line path) refused = absurd refused
  refused_since refusals.NoTransfers refused = absurd refused
  refused_since (refusals.BadTransfer line why file) refused = absurd refused
  refused_since (refusals.BadManifest line place) refused = absurd refused
  refused_since refusals.NoneNewer refused = absurd refused
  refused_since (refusals.NoSuchVersion v) refused = absurd refused
  refused_since (refusals.NoRoom count name) refused = absurd refused
  refused_since (refusals.Clash place) refused = absurd refused
  refused_since (refusals.BadFeature line why file) refused = absurd refused
  refused_since refusals.NoneOn refused = absurd refused
  refused_since (refusals.NoMark generation) refused = absurd refused
  refused_since refusals.NoSuchImage refused = absurd refused
  refused_since refusals.NotPortable refused = absurd refused
  refused_since (refusals.BadRelease line) refused = absurd refused
  refused_since (refusals.PrefixForbidden prefix) refused = absurd refused
  refused_since refusals.NoUnits refused = absurd refused
  refused_since refusals.NoProfile refused = absurd refused
  refused_since (refusals.UnitExists path) refused = absurd refused
  refused_since refusals.AlreadyAttached refused = absurd refused
  refused_since refusals.NotAttached refused = absurd refused
  refused_since (refusals.NoExtension extension) refused = absurd refused
  refused_since (refusals.Extension extension why) refused = absurd refused

met_since : (from : Option Generation) (old mid new : DiskState) (later depot : DepotState) (refusal : Option Refusal) (after : Option Generation) → BothTold KeepsNow old.told mid.told → later.contents ≡ depot.contents → (intent : Intent)
    → Met intent from mid new later refusal after → Met intent from old new depot refusal after
met_since from old mid new later depot None after keeps same (Changes next answer) (coming, is, replaced) = (
  coming,
  is,
  record {
    number = replaced.number;
    written = replaced.written;
    homes = host_alike (stored_by (host_before from) mid) (stored_by (host_before from) old) later depot (stored_kept old mid keeps (host_before from) later depot same) coming.number next coming.host replaced.written replaced.homes;
    told = told_then KeepsNow (ReplacedTold from coming replaced.written) (ReplacedTold from coming replaced.written) (replaced_since from coming replaced.written) old.told mid.told new.told keeps replaced.told;
  },
)
met_since from old mid new later depot (Some refusal) after keeps same (Changes next answer) (is, refused) = (is, refused_since from next old mid later depot keeps same refusal refused)
met_since from old mid new later depot refusal after keeps same (Answers answer) met = met
met_since from old mid new later depot refusal after keeps same Checks (is, none, listed) = (is, none, listed_kept old mid keeps from listed)
met_since from old mid new later depot refusal after keeps same (Shows held) (is, none, listed) = (is, none, subst (λ t. IsListed t held.stamp) (body_kept old mid keeps held.body) listed)
met_since from old mid new later depot refusal after keeps same (Refuses why) met = met

-- a damage that was found
pub reads_since : (from : Option Generation) (old mid : DiskState) (later depot : DepotState) → BothTold KeepsNow old.told mid.told → later.contents ≡ depot.contents → (damage : Damage) (intent : Intent)
    → ReadsDamage intent from mid later damage → ReadsDamage intent from old depot damage
reads_since from old mid later depot keeps same damage (Changes next answer) reads =
    stops_since from next old mid later depot keeps same (IsDamagedFor from mid later damage) (IsDamagedFor from old depot damage) (damaged_since from next old mid later depot keeps same damage) reads
reads_since from old mid later depot keeps same damage (Answers answer) reads = absurd reads
reads_since from old mid later depot keeps same damage Checks reads = tt
reads_since from old mid later depot keeps same damage (Shows held) reads = reads
reads_since from old mid later depot keeps same damage (Refuses why) reads = absurd reads

pub finds_since : (command : Command) (from : Option Generation) (old mid : DiskState) (depot : DepotState) → BothTold KeepsNow old.told mid.told → (damage : Damage) → FindsDamage command from mid depot damage → FindsDamage command from old depot damage
finds_since command from old mid depot keeps damage (inl sees) = inl sees
finds_since command from old mid depot keeps damage (inr (intent, wants, reads)) = inr (intent, wants_kept old mid keeps from depot.contents command intent wants, reads_since from old mid depot depot keeps refl damage intent reads)

-- what was written, by what is told of the file that it is
writes_since : (from : Option Generation) (old mid : DiskState) (k l : SinkState) → BothTold KeepsNow old.told mid.told → (refusal : Option Refusal) (intent : Intent) → WritesMet intent from mid k l refusal → WritesMet intent from old k l refusal
writes_since from old mid k l keeps (Some refusal) intent writes = writes
writes_since from old mid k l keeps None (Changes next answer) writes = writes
writes_since from old mid k l keeps None (Answers answer) writes = writes
writes_since from old mid k l keeps None Checks writes = writes
writes_since from old mid k l keeps None (Shows held) writes =
    record { bytes = writes.bytes; told = subst (λ t. IsTold t writes.bytes) (body_kept old mid keeps held.body) writes.told; size = writes.size; written = writes.written }
writes_since from old mid k l keeps None (Refuses why) writes = absurd writes

-- what was met of what is wanted, and so of what is wanted in a wider sense
pub has_met_since : (W V : Intent → Type 0) (from : Option Generation) (old mid new : DiskState) (later depot : DepotState) (k l : SinkState) (refusal : Option Refusal) (after : Option Generation) → BothTold KeepsNow old.told mid.told → later.contents ≡ depot.contents
    → ((intent : Intent) → W intent → V intent) → HasMet W from mid new later k l refusal after → HasMet V from old new depot k l refusal after
has_met_since W V from old mid new later depot k l refusal after keeps same wider (intent, is, met, writes) =
    (intent, wider intent is, met_since from old mid new later depot refusal after keeps same intent met, writes_since from old mid k l keeps refusal intent writes)

pub applied_so : (from : Option Generation) (old mid new : DiskState) (later depot : DepotState) (V : Intent → Type 0) (intent : Intent) (result : Result Applied ApplyErr) → BothTold KeepsNow old.told mid.told → later.contents ≡ depot.contents
    → V intent → IfOk result (λ applied. Met intent from mid new later (refused_by applied.reply) applied.opened) → IfOk result (λ applied. IsReplyTo intent from applied.reply) → IfOk result (AppliedSo V from old new depot)
applied_so from old mid new later depot V intent (Ok applied) keeps same is met replies = (intent, is, met_since from old mid new later depot (refused_by applied.reply) applied.opened keeps same intent met, replies)
applied_so from old mid new later depot V intent (Err e) keeps same is met replies = tt

-- and where the disk rests afterwards
pub met_then : (from : Option Generation) (old mid new : DiskState) (depot : DepotState) (refusal : Option Refusal) (after : Option Generation) → new.told ≡ mid.told → (intent : Intent) → Met intent from old mid depot refusal after → Met intent from old new depot refusal after
met_then from old mid new depot None after same (Changes next answer) (coming, is, replaced) =
    (coming, is, record { number = replaced.number; written = replaced.written; homes = replaced.homes; told = subst (λ t. BothTold (ReplacedTold from coming replaced.written) old.told t) (sym same) replaced.told })
met_then from old mid new depot (Some refusal) after same (Changes next answer) met = met
met_then from old mid new depot refusal after same (Answers answer) met = met
met_then from old mid new depot refusal after same Checks met = met
met_then from old mid new depot refusal after same (Shows held) met = met
met_then from old mid new depot refusal after same (Refuses why) met = met

pub works_then : (W : Intent → Type 0) (from : Option Generation) (x y z : Option Told) → z ≡ y → BothTold (WorksFor W from) x y → BothTold (WorksFor W from) x z
works_then W from x y z same works = subst (λ t. BothTold (WorksFor W from) x t) (sym same) works
