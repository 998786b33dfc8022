-- What has been printed, step by step.
use Rattle.std.proofs.Common.{◌≡◌, ℕ, ◌+◌, ◌≤◌, Bool, true, false, List, [], ◌++◌, length, take, drop, refl, ap, ◌∙◌, sym, subst, append_assoc, append-nil, take-append-drop, arith, length-append, length-drop, inl, inr}
use Rattle.std.proofs.Math.Seq.{take-add, take_all}
use Rattle.std.proofs.lemmas.Slice.{between_to_end}
use Rattle.std.specs.List.{between}
use Rattle.std.proofs.KnownBytes.{Appends-nil, Appends-trans}
use Rattle.ext_lines.specs.Prefix.{IsPrefix}
use Rattle.std.specs.Io.KnownBytes.{Appends}
use Rattle.ext_text.specs.Causes.{Rose}
use Rattle.ext_io.specs.SinkState.{SinkState}
use Rattle.ext_mount.specs.Printed.{HasWritten, IsPrinted, PrintsOn, Printed, SinkAt, StopsPrinting, WritesPrefix}

-- a count that rose lately rose since an earlier time
rose_since : (before amid after : ℕ) → before ≤ amid → Rose amid after → Rose before after
rose_since before amid after no_less (inl more) = inl (omega arith)
rose_since before amid after no_less (inr last) = inr last

-- where nothing was printed
pub none_printed : (s : SinkState) → PrintsOn s s [] []
none_printed s = record { written = []; split = refl; has = record { appended = Appends-nil s.written; count = omega arith } }

-- what is printed after it waits
pub waits : (s n : SinkState) (w p bytes : List ℕ) → PrintsOn s n w p → PrintsOn s n (w ++ bytes) (p ++ bytes)
waits s n w p bytes h = record {
  written = h.written;
  split = ap (λ (l : List ℕ). l ++ bytes) h.split ∙ append_assoc h.written w bytes;
  has = h.has;
}

-- what waited is written in part, or waits on
pub moves : (s m n : SinkState) (w v p : List ℕ) → PrintsOn s m w p → PrintsOn m n v w → PrintsOn s n v p
moves s m n w v p h k =
    let first = h.has.count in
    let second = k.has.count in record {
      written = h.written ++ k.written;
      split = h.split ∙ ap (λ (l : List ℕ). h.written ++ l) k.split ∙ sym (append_assoc h.written k.written v);
      has = record {
        appended = Appends-trans s.written m.written n.written h.written k.written h.has.appended k.has.appended;
        count = omega (arith, first, second);
      };
    }

-- what waited is written
pub writes : (s m n : SinkState) (w p : List ℕ) → PrintsOn s m w p → HasWritten m n w → HasWritten s n p
writes s m n w p h k =
    let first = h.has.count in
    let second = k.count in record {
      appended = subst (Appends s.written n.written) (sym h.split) (Appends-trans s.written m.written n.written h.written w h.has.appended k.appended);
      count = omega (arith, first, second);
    }

-- as far as it is written nothing waits
pub written_out : (s n : SinkState) (w v : List ℕ) → HasWritten s n w → v ≡ [] → PrintsOn s n v w
written_out s n w v h none = record { written = w; split = sym (append-nil w) ∙ ap (λ (l : List ℕ). w ++ l) (sym none); has = h }

-- nothing is done
pub rests : (s : SinkState) (w : List ℕ) → PrintsOn s s w w
rests s w = record { written = []; split = refl; has = record { appended = Appends-nil s.written; count = omega arith } }

-- the sink fails while what waited is written
pub fails : (s m n : SinkState) (w p : List ℕ) → PrintsOn s m w p → StopsPrinting m n w → StopsPrinting s n p
fails s m n w p h k =
    let front = k.prefix.0 in
    let proper = k.prefix.1 in record {
      prefix = (
        h.written ++ front,
        (proper.0, h.split ∙ ap (λ (l : List ℕ). h.written ++ l) proper.1 ∙ sym (append_assoc h.written front proper.0), proper.2),
        Appends-trans s.written m.written n.written h.written front h.has.appended k.prefix.2,
      );
      cause = rose_since s.faults m.faults n.faults h.has.count k.cause;
    }

-- once it failed, more is printed
pub goes_on : (s n : SinkState) (p bytes : List ℕ) → StopsPrinting s n p → StopsPrinting s n (p ++ bytes)
goes_on s n p bytes k =
    let proper = k.prefix.1 in
    let some = proper.2 in record {
      prefix = (
        k.prefix.0,
        (proper.0 ++ bytes, ap (λ (l : List ℕ). l ++ bytes) proper.1 ∙ append_assoc k.prefix.0 proper.0 bytes, omega (arith, length-append proper.0 bytes, some)),
        k.prefix.2,
      );
      cause = k.cause;
    }

-- one more print, whether the sink had failed or not
pub prints_more : (s m n : SinkState) (failed : Bool) (w v p bytes : List ℕ) → PrintsOn s m w p → Printed m n failed v (w ++ bytes) → Printed s n failed v (p ++ bytes)
prints_more s m n false w v p bytes h k = moves s m n (w ++ bytes) v (p ++ bytes) (waits s m w p bytes h) k
prints_more s m n true w v p bytes h k = fails s m n (w ++ bytes) (p ++ bytes) (waits s m w p bytes h) k

-- so much of these bytes has been printed, after what waited
pub record HasPrinted (start now : SinkState) (before waiting bytes : List ℕ) (at : ℕ) : Type 0 where
  pub within : at ≤ length bytes
  pub printed : PrintsOn start now waiting (before ++ take at bytes)

-- a proper part of it is printed when the sink fails
pub fails_at : (s m n : SinkState) (before w bytes : List ℕ) (at : ℕ) → HasPrinted s m before w bytes at → StopsPrinting m n w → StopsPrinting s n (before ++ bytes)
fails_at s m n before w bytes at h k =
    subst (StopsPrinting s n) (append_assoc before (take at bytes) (drop at bytes) ∙ ap (λ (l : List ℕ). before ++ l) (take-append-drop at bytes))
    (goes_on s n (before ++ take at bytes) (drop at bytes) (fails s m n w (before ++ take at bytes) h.printed k))

-- none of it has been printed
pub none_yet : (s : SinkState) (before bytes : List ℕ) → HasPrinted s s before before bytes 0
none_yet s before bytes = record { within = omega arith; printed = subst (PrintsOn s s before) (sym (append-nil before)) (rests s before) }

-- a piece more of it is printed
pub prints_piece : (s m n : SinkState) (before w v t bytes : List ℕ) (at count : ℕ) → HasPrinted s m before w bytes at → PrintsOn m n v w → count ≤ length (between at (length bytes) bytes)
    → t ≡ v ++ take count (between at (length bytes) bytes) → HasPrinted s n before t bytes (at + count)
prints_piece s m n before w v t bytes at count h k few more =
    let rest : between at (length bytes) bytes ≡ drop at bytes = between_to_end bytes at (length bytes) (omega arith) in
    let fits : count ≤ length (drop at bytes) = rw (← rest) few in
    let moved = waits s n v (before ++ take at bytes) (take count (drop at bytes)) (moves s m n w v (before ++ take at bytes) h.printed k) in
    record {
      within = omega (arith, length-drop at bytes, h.within);
      printed = subst (λ (l : List ℕ). PrintsOn s n l (before ++ take (at + count) bytes)) (ap (λ (l : List ℕ). v ++ take count l) (sym rest) ∙ sym more)
          (subst (PrintsOn s n (v ++ take count (drop at bytes))) (append_assoc before (take at bytes) (take count (drop at bytes)) ∙ ap (λ (l : List ℕ). before ++ l) (sym (take-add at count bytes))) moved);
    }

-- all of it has been printed
pub all_printed : (s n : SinkState) (before w bytes : List ℕ) (at : ℕ) → HasPrinted s n before w bytes at → length bytes ≤ at → PrintsOn s n w (before ++ bytes)
all_printed s n before w bytes at h done =
    subst (λ (l : List ℕ). PrintsOn s n w (before ++ l)) (take_all at bytes done) h.printed

-- an output is printed to
pub prints_on : (start old new : SinkAt) (old_failed failed : Bool) (w v p bytes : List ℕ) → old_failed ≡ false → new.reference ≡ old.reference → IsPrinted start old old_failed w p → Printed old.state new.state failed v (w ++ bytes) → IsPrinted start new failed v (p ++ bytes)
prints_on start old new false failed w v p bytes sound same h k = record {
  same_reference = same ∙ h.same_reference;
  all = prints_more start.state old.state new.state failed w v p bytes h.all k;
}
prints_on start old new true failed w v p bytes sound same h k = absurd (cc sound)

-- an output whose sink has failed is printed to
pub prints_nothing : (start old : SinkAt) (failed : Bool) (w p bytes : List ℕ) → failed ≡ true → IsPrinted start old failed w p → IsPrinted start old failed w (p ++ bytes)
prints_nothing start old false w p bytes stopped h = absurd (cc stopped)
prints_nothing start old true w p bytes stopped h = record {
  same_reference = h.same_reference;
  all = goes_on start.state old.state p bytes h.all;
}

-- what waited is written, and with it all that was printed
pub finishes : (start old : SinkAt) (n : SinkState) (failed : Bool) (w p : List ℕ) → failed ≡ false → IsPrinted start old failed w p → HasWritten old.state n w → HasWritten start.state n p
finishes start old n false w p sound h k = writes start.state old.state n w p h.all k
finishes start old n true w p sound h k = absurd (cc sound)

-- the sink fails while it is written
pub stops : (start old : SinkAt) (n : SinkState) (failed : Bool) (w p : List ℕ) → failed ≡ false → IsPrinted start old failed w p → StopsPrinting old.state n w → StopsPrinting start.state n p
stops start old n false w p sound h k = fails start.state old.state n w p h.all k
stops start old n true w p sound h k = absurd (cc sound)

-- it has failed before
pub has_stopped : (start old : SinkAt) (failed : Bool) (w p : List ℕ) → failed ≡ true → IsPrinted start old failed w p → StopsPrinting start.state old.state p
has_stopped start old false w p stopped h = absurd (cc stopped)
has_stopped start old true w p stopped h = h.all

-- a prefix of what was printed has been written, however far it came
wrote_prefix : (start now : SinkAt) (failed : Bool) (w p : List ℕ) → IsPrinted start now failed w p → WritesPrefix start.state now.state p
wrote_prefix start now false w p h = record { prefix = h.all.written; is = (w, h.all.split); appended = h.all.has.appended }
wrote_prefix start now true w p h =
    let proper = h.all.prefix.1 in
    record { prefix = h.all.prefix.0; is = (proper.0, proper.1); appended = h.all.prefix.2 }

-- so has been one of a text of which a prefix was printed
pub wrote_part : (start now : SinkAt) (failed : Bool) (w p text : List ℕ) → IsPrefix p text → IsPrinted start now failed w p → WritesPrefix start.state now.state text
wrote_part start now failed w p text front h =
    let some = wrote_prefix start now failed w p h in
    let rest = some.is in record {
      prefix = some.prefix;
      is = (rest.0 ++ front.0, front.1 ∙ ap (λ (l : List ℕ). l ++ front.0) rest.1 ∙ append_assoc some.prefix rest.0 front.0);
      appended = some.appended;
    }
