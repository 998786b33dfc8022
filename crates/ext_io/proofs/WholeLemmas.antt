-- What the two loops over a stream keep, and the steps that they take.
use Rattle.std.proofs.Common.{◌≡◌, ℕ, ◌+◌, ◌≤◌, List, ◌++◌, length, take, drop, Option, Some, None, ap, ◌∙◌, sym, append_assoc, arith, length-append, length-drop, inl, inr}
use Rattle.std.proofs.Math.Seq.{take-add}
use Rattle.std.proofs.lemmas.Slice.{between_to_end}
use Rattle.std.specs.List.{between}
use Rattle.std.specs.Io.KnownBytes.{Appends, Consumes, Keeps}
use Rattle.ext_text.specs.Causes.{Rose}
use Rattle.ext_io.specs.declared.whole.ReadErr.{ReadErr}
use Rattle.ext_io.specs.declared.whole.ReadErr.TheVariants.{OutOfMemory, Failed, TooLong}
use Rattle.ext_io.specs.SourceState.{SourceState}
use Rattle.ext_io.specs.SinkState.{SinkState}
use Rattle.ext_io.specs.Whole.{Stopped, PieceStopped}

-- a prefix of so many bytes was written, and no fault was forgotten
pub record HasWritten (old new : SinkState) (bytes : List ℕ) (at : ℕ) : Type 0 where
  pub within : at ≤ length bytes
  pub prefix : Appends old.written new.written (take at bytes)
  pub count : old.faults ≤ new.faults

-- these bytes were taken, at most one more than so many, and no fault was forgotten
pub record HasTaken (old new : SourceState) (bytes : List ℕ) (most : ℕ) : Type 0 where
  pub taken : Consumes old.left new.left bytes
  pub at_most_one_more : length bytes ≤ most + 1
  pub count : old.faults ≤ new.faults

-- a prefix, and then bytes after it, are a longer prefix
appends_on : (old mid new : Option (List ℕ)) (bytes : List ℕ) (at n : ℕ) → Appends old mid (take at bytes) → Appends mid new (take n (drop at bytes)) → Appends old new (take (at + n) bytes)
appends_on None mid new bytes at n first then = tt
appends_on (Some xs) None new bytes at n first then = absurd first
appends_on (Some xs) (Some ys) None bytes at n first then = absurd then
appends_on (Some xs) (Some ys) (Some zs) bytes at n first then =
    then ∙ ap (λ (l : List ℕ). l ++ take n (drop at bytes)) first ∙ append_assoc xs (take at bytes) (take n (drop at bytes))
    ∙ ap (λ (l : List ℕ). xs ++ l) (sym (take-add at n bytes))

-- a write of what comes after the prefix
pub writes_on : (old mid new : SinkState) (bytes : List ℕ) (at n : ℕ) → HasWritten old mid bytes at → n ≤ length (between at (length bytes) bytes) → Appends mid.written new.written (take n (between at (length bytes) bytes)) → mid.faults ≤ new.faults → HasWritten old new bytes (at + n)
writes_on old mid new bytes at n has within then no_less =
    let rest : between at (length bytes) bytes ≡ drop at bytes = between_to_end bytes at (length bytes) (omega arith) in
    let longer : n ≤ length (drop at bytes) = rw (← rest) within in
    let next : Appends mid.written new.written (take n (drop at bytes)) = rw (← rest) then in
    record {
      within = omega (arith, length-drop at bytes, has.within);
      prefix = appends_on old.written mid.written new.written bytes at n has.prefix next;
      count = omega (arith, has.count);
    }

-- two reads take the bytes of both
takes_on : (old mid new : Option (List ℕ)) (xs ys : List ℕ) → Consumes old mid xs → Consumes mid new ys → Consumes old new (xs ++ ys)
takes_on None mid new xs ys first then = tt
takes_on (Some all) None new xs ys first then = absurd first
takes_on (Some all) (Some left) None xs ys first then = absurd then
takes_on (Some all) (Some left) (Some rest) xs ys first then =
    first ∙ ap (λ (l : List ℕ). xs ++ l) then ∙ sym (append_assoc xs ys rest)

-- a read that took nothing leaves what was taken
keeps_on : (old mid new : Option (List ℕ)) (xs : List ℕ) → Consumes old mid xs → Keeps mid new → Consumes old new xs
keeps_on None mid new xs first then = tt
keeps_on (Some all) None new xs first then = absurd first
keeps_on (Some all) (Some left) None xs first then = absurd then
keeps_on (Some all) (Some left) (Some rest) xs first then = first ∙ ap (λ (l : List ℕ). xs ++ l) (sym then)

-- a count that rose lately rose since an earlier time
rose_since : (before amid after : ℕ) → before ≤ amid → Rose amid after → Rose before after
rose_since before amid after no_less (inl more) = inl (omega arith)
rose_since before amid after no_less (inr last) = inr last

-- a read that stopped, after others that did not, stops the whole
pub stops_on : (old mid new : SourceState) (bytes : List ℕ) (most room : ℕ) (e : ReadErr) → HasTaken old mid bytes most → length bytes ≤ most → room + length bytes ≤ most + 1 → PieceStopped mid new room e → Stopped old new most e
stops_on old mid new bytes most room OutOfMemory has within fits stopped =
    (bytes ++ stopped.0, takes_on old.left mid.left new.left bytes stopped.0 has.taken stopped.1, omega (arith, length-append bytes stopped.0))
stops_on old mid new bytes most room Failed has within fits stopped =
    ((bytes, keeps_on old.left mid.left new.left bytes has.taken stopped.0, within), rose_since old.faults mid.faults new.faults has.count stopped.1)
stops_on old mid new bytes most room TooLong has within fits stopped = absurd stopped
