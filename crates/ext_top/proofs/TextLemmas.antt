-- The lines of a text: those that a run has looked at, and those that are left.
use Rattle.std.proofs.Common.{◌≡◌, ℕ, true, List, [], ◌∷◌, ◌++◌, inl, inr, Option, None, IfSome, IfOk, Result, Ok, Err, refl, sym, ap, ◌∙◌, subst, append_assoc, append-nil}
use Rattle.ext_lines.specs.Lines.{text_lines}
use Rattle.ext_lines.specs.Words.{words_of}
use Rattle.ext_io.specs.SinkState.{SinkState}
use Rattle.ext_disk.specs.Disk.{BothTold, DiskState, IsDisk, now}
use Rattle.ext_disk.specs.Since.{Follows}
use Rattle.ext_depot.specs.Depot.{DepotState}
use Rattle.ext_store_files.specs.declared.fault.StoreFault.TheVariants as store_faults
use Rattle.ext_gen.specs.Opened.{Generation}
use Rattle.ext_gen.specs.Opening.{KeepsNow, OpenCause, OpenSays, OpensTold}
use Rattle.ext_gen.specs.declared.errors.StoreErr.{StoreErr}
use Rattle.ext_gen.specs.declared.errors.StoreErr.TheVariants as store_errors
use Rattle.ext_cmd.specs.Line.{counts_for_nothing}
use Rattle.ext_cmd.specs.declared.refusal.Refusal.{Refusal}
use Rattle.ext_top.specs.Applying.{PointsAs}
use Rattle.ext_top.specs.Batch.{AreLines, IsLineOf}
use Rattle.ext_top.specs.Chain.{LineRunsOn, LinesRun, OpensStore, RunsText, TextRuns, result_of, status_of, status_of_closed, status_of_stop}
use Rattle.ext_top.specs.Devices.{StoreSide, store_side}
use Rattle.ext_top.specs.Exits.{Line, does, unread, wrong}
use Rattle.ext_top.specs.Running.{RunsBegun}
use Rattle.ext_top.specs.declared.lines.Written.{Written}
use Rattle.ext_top.specs.declared.status.Status.TheVariants.{Done}
use Rattle.ext_top.specs.declared.stop.Stop.{Stop}
use Rattle.ext_top.specs.declared.stop.Stop.TheVariants as stops
use Rattle.ext_top.proofs.RunLemmas.{closed_lines, opened_lines}

-- So far a run has looked at the first texts, and their lines were done or refused. Whatever lines may follow are lines of the whole
-- text, and however they end, so does the run.
pub record GoesOn (text rest : List ℕ) (first here : Option Generation) (old side : StoreSide) : Type 0 where
  pub looked : List (List ℕ)
  pub parts : text_lines text ≡ looked ++ text_lines rest
  pub lines : List Line
  pub are : (texts : List (List ℕ)) (more : List Line) → AreLines texts more → AreLines (looked ++ texts) (lines ++ more)
  pub last : Option Refusal
  pub ends : (more : List Line) (result : Result (Option Refusal) Stop) (new : StoreSide) → LinesRun last more here side result new → LinesRun None (lines ++ more) first old result new

pub goes_start : (text : List ℕ) (opened : Option Generation) (side : StoreSide) → GoesOn text text opened opened side side
goes_start text opened side = record {
  looked = [];
  parts = refl;
  lines = [];
  are = λ texts more are. are;
  last = None;
  ends = λ more result new runs. runs;
}

moved : (text rest after piece : List ℕ) (looked : List (List ℕ)) → text_lines text ≡ looked ++ text_lines rest → text_lines rest ≡ piece ∷ text_lines after → text_lines text ≡ (looked ++ piece ∷ []) ++ text_lines after
moved text rest after piece looked parts next = parts ∙ ap (λ (ts : List (List ℕ)). looked ++ ts) next ∙ sym (append_assoc looked (piece ∷ []) (text_lines after))

moved_are : (piece : List ℕ) (looked texts : List (List ℕ)) (lines : List Line) → AreLines (looked ++ piece ∷ texts) lines → AreLines ((looked ++ piece ∷ []) ++ texts) lines
moved_are piece looked texts lines are = subst (λ (ts : List (List ℕ)). AreLines ts lines) (sym (append_assoc looked (piece ∷ []) texts)) are

-- a text that counts for nothing
goes_past : (text rest after piece : List ℕ) (first here : Option Generation) (old side : StoreSide) → text_lines rest ≡ piece ∷ text_lines after → counts_for_nothing (words_of piece) ≡ true → GoesOn text rest first here old side
    → GoesOn text after first here old side
goes_past text rest after piece first here old side next counts goes = record {
  looked = goes.looked ++ piece ∷ [];
  parts = moved text rest after piece goes.looked goes.parts next;
  lines = goes.lines;
  are = λ texts more are. moved_are piece goes.looked texts (goes.lines ++ more) (goes.are (piece ∷ texts) more (inl (counts, are)));
  last = goes.last;
  ends = goes.ends;
}

-- one line more
with_line : (looked : List (List ℕ)) (lines : List Line) (piece : List ℕ) (line : Line) → ((texts : List (List ℕ)) (more : List Line) → AreLines texts more → AreLines (looked ++ texts) (lines ++ more)) → IsLineOf (words_of piece) line → (texts : List (List ℕ)) (more : List Line) → AreLines texts more → AreLines ((looked ++ piece ∷ []) ++ texts) ((lines ++ line ∷ []) ++ more)
with_line looked lines piece line each is texts more are =
    subst (AreLines ((looked ++ piece ∷ []) ++ texts)) (sym (append_assoc lines (line ∷ []) more))
    (moved_are piece looked texts (lines ++ line ∷ more) (each (piece ∷ texts) (line ∷ more) (inr (line, more, refl, is, are))))

goes_over : (text rest after piece : List ℕ) (first here : Option Generation) (old side mid : StoreSide) (line : Line) (written : Written) → text_lines rest ≡ piece ∷ text_lines after → IsLineOf (words_of piece) line → LineRunsOn line here side (Ok written) mid → GoesOn text rest first here old side → GoesOn text after first written.opened old mid
goes_over text rest after piece first here old side mid line written next is runs goes = record {
  looked = goes.looked ++ piece ∷ [];
  parts = moved text rest after piece goes.looked goes.parts next;
  lines = goes.lines ++ line ∷ [];
  are = with_line goes.looked goes.lines piece line goes.are is;
  last = written.refusal;
  ends = λ more result new ran. subst (λ (ls : List Line). LinesRun None ls first old result new) (sym (append_assoc goes.lines (line ∷ []) more))
      (goes.ends (line ∷ more) result new (inr (written, mid, runs, ran)));
}

pub goes_then : (text rest after piece : List ℕ) (first here there : Option Generation) (old side mid : StoreSide) → text_lines rest ≡ piece ∷ text_lines after → TextRuns (words_of piece) here side (Ok there) mid
    → GoesOn text rest first here old side → GoesOn text after first there old mid
goes_then text rest after piece first here there old side mid next (inl (counts, same, untouched)) goes =
    subst (λ (o : Option Generation). GoesOn text after first o old mid) (sym same) (subst (GoesOn text after first here old) (sym untouched) (goes_past text rest after piece first here old side next counts goes))
goes_then text rest after piece first here there old side mid next (inr (line, written, is, same, runs)) goes =
    subst (λ (o : Option Generation). GoesOn text after first o old mid) (sym same) (goes_over text rest after piece first here old side mid line written next is runs goes)

-- the run stopped at a line
pub goes_stop : (text rest after piece : List ℕ) (first here : Option Generation) (old side new : StoreSide) (stop : Stop) → text_lines rest ≡ piece ∷ text_lines after → TextRuns (words_of piece) here side (Err stop) new
    → GoesOn text rest first here old side → RunsText text first old (Err stop) new
goes_stop text rest after piece first here old side new stop next (line, is, runs) goes = record {
  lines = goes.lines ++ line ∷ [];
  others = text_lines after;
  first = record {
    looked = goes.looked ++ piece ∷ [];
    parts = moved text rest after piece goes.looked goes.parts next;
    are = goes.are (piece ∷ []) (line ∷ []) (inr (line, [], refl, is, refl));
  };
  whole = tt;
  last = None;
  runs = goes.ends (line ∷ []) (Err stop) new (inl (stop, refl, refl, runs));
}

-- no line is left
pub goes_end : (text rest : List ℕ) (first here : Option Generation) (old side : StoreSide) → text_lines rest ≡ [] → GoesOn text rest first here old side → RunsText text first old (Ok tt) side
goes_end text rest first here old side none goes = record {
  lines = goes.lines ++ [];
  others = [];
  first = record {
    looked = goes.looked ++ [];
    parts = goes.parts ∙ ap (λ (ts : List (List ℕ)). goes.looked ++ ts) none ∙ sym (append-nil (goes.looked ++ []));
    are = goes.are [] [] refl;
  };
  whole = refl;
  last = goes.last;
  runs = goes.ends [] (Ok goes.last) side (refl, refl);
}

-- where a line leaves a store, the disk points to it
pub text_points : (words : List (List ℕ)) (opened after : Option Generation) (old new : StoreSide) → PointsAs old.disk opened → TextRuns words opened old (Ok after) new → PointsAs new.disk after
text_points words opened after old new points (inl (counts, same, untouched)) =
    subst (PointsAs new.disk) (sym same) (subst (λ (side : StoreSide). PointsAs side.disk opened) (sym untouched) points)
text_points words opened after old new points (inr (does command, written, is, same, runs)) = subst (PointsAs new.disk) (sym same) runs.points
text_points words opened after old new points (inr (wrong place, written, is, same, runs)) =
    subst (PointsAs new.disk) (sym (same ∙ runs.goes_on.0)) (subst (λ (disk : DiskState). PointsAs disk opened) (sym runs.disk) points)
text_points words opened after old new points (inr (unread, written, is, same, runs)) = let never = runs.0 in cc

stop_not_done : (stop : Stop) → ¬ (status_of_stop stop ≡ Done)
stop_not_done stops.WriteFault same = cc
stop_not_done stops.DiskFault same = cc
stop_not_done stops.DepotFault same = cc
stop_not_done stops.OutOfMemory same = cc
stop_not_done (stops.BadStore why) same = cc
stop_not_done stops.Unfinished same = cc

whole_if_done : (last : Option Refusal) (others : List (List ℕ)) (result : Result (Unit {0}) Stop) → IfOk result (λ done. others ≡ []) → status_of true (result_of last result) ≡ Done → others ≡ []
whole_if_done last others (Ok done) whole same = whole
whole_if_done last others (Err stop) whole same = absurd (stop_not_done stop same)

-- a store that was opened, and the lines of a text
pub opened_text : (text : List ℕ) (opened : Option Generation) (sink : SinkState) (old mid : DiskState) (depot : DepotState) (log : Option (List (List ℕ))) (result : Result (Unit {0}) Stop) (new : StoreSide) → OpensStore opened (store_side sink old depot log) (store_side sink mid depot log)
    → (runs : RunsText text opened (store_side sink mid depot log) result new) → IfSome new.disk.told IsDisk → RunsBegun text (store_side sink old depot log) new (status_of true (result_of runs.last result))
opened_text text opened sink old mid depot log result new opens runs disk = record {
  lines = runs.lines;
  others = runs.others;
  first = runs.first;
  whole = λ done. whole_if_done runs.last runs.others result runs.whole done;
  runs = opened_lines true runs.lines opened sink old mid depot log (result_of runs.last result) new opens runs.runs disk;
}

closed_not_done : (error : StoreErr) → ¬ (status_of_closed error ≡ Done)
closed_not_done (store_errors.Fault store_faults.OutOfMemory) same = cc
closed_not_done (store_errors.Fault store_faults.DiskFault) same = cc
closed_not_done (store_errors.Fault store_faults.DepotFault) same = cc
closed_not_done (store_errors.Fault (store_faults.Damaged damage)) same = cc
closed_not_done (store_errors.Broken line) same = cc
closed_not_done (store_errors.Mismatch path listed found) same = cc
closed_not_done (store_errors.NotInDepot path) same = cc
closed_not_done store_errors.Unfinished same = cc
closed_not_done (store_errors.Limit which) same = cc

-- one that was not opened: no line was looked at
pub closed_text : (text : List ℕ) (sink : SinkState) (old new : DiskState) (depot : DepotState) (log : Option (List (List ℕ))) (error : StoreErr) → Follows old new → BothTold KeepsNow old.told new.told → IfSome old.told (λ d. OpenSays (Err error) (now d.places))
    → BothTold (OpensTold (Err error)) old.told new.told → OpenCause old.faults new.faults error → RunsBegun text (store_side sink old depot log) (store_side sink new depot log) (status_of_closed error)
closed_text text sink old new depot log error follows keeps says stops cause = record {
  lines = [];
  others = text_lines text;
  first = record { looked = []; parts = refl; are = refl };
  whole = λ done. absurd (closed_not_done error done);
  runs = closed_lines true [] sink old new depot log error follows keeps says stops cause;
}
