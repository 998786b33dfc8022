-- What the lines read so far make, from line to line.
use Rattle.std.proofs.Common.{◌≡◌, ℕ, ◌+◌, ◌<◌, true, false, List, [], ◌∷◌, ◌++◌, length, refl, sym, ap, ◌∙◌, arith, append_assoc, length-append}
use Rattle.std.specs.Prelude.{None, Option, Some}
use Rattle.std.specs.FinMap.{FinMap, get}
use Rattle.std.specs.List.{AllByRecursion}
use Rattle.std.specs.Option.{option_or}
use Rattle.ext_lines.specs.Lines.{lines_of}
use Rattle.ext_lines.specs.ByteOrder.{bytes_cmp}
use Rattle.ext_release.specs.Line.{is_faulty, line_of}
use Rattle.ext_release.specs.Reading.{FollowsAs, IsSoFar}
use Rattle.ext_release.specs.Release.{IsRelease, assigned, last_assigned, leaves, some_value, value_after}

none_last : {A : Type 0} (o : Option A) → o ≡ option_or o None
none_last None = refl
none_last (Some x) = refl

grouped : {A : Type 0} (a b c : Option A) → option_or (option_or a b) c ≡ option_or a (option_or b c)
grouped None b c = refl
grouped (Some x) b c = refl

-- the line that is read last counts most
last_push : (done : List (List ℕ)) (l key : List ℕ) → last_assigned (done ++ l ∷ []) key ≡ option_or (assigned (line_of l) key) (last_assigned done key)
last_push [] l key = none_last (assigned (line_of l) key)
last_push (d ∷ done) l key =
    ap (λ o. option_or o (assigned (line_of d) key)) (last_push done l key) ∙ grouped (assigned (line_of l) key) (last_assigned done key) (assigned (line_of d) key)

left : (a o : Option (List ℕ)) → some_value (option_or a o) ≡ leaves a (some_value o)
left None o = refl
left (Some value) o = refl

value_push : (done : List (List ℕ)) (l key : List ℕ) → value_after (done ++ l ∷ []) key ≡ leaves (assigned (line_of l) key) (value_after done key)
value_push done l key = ap some_value (last_push done l key) ∙ left (assigned (line_of l) key) (last_assigned done key)

all_push : {X : Type 0} (P : X → Type 0) (xs : List X) (x : X) → AllByRecursion P xs → P x → AllByRecursion P (xs ++ x ∷ [])
all_push P [] x all here = (here, tt)
all_push P (y ∷ xs) x all here = (all.0, all_push P xs x all.1 here)

pub start : (bytes : List ℕ) (release : FinMap bytes_cmp (List ℕ)) → ((key : List ℕ) → get release key ≡ None) → IsSoFar bytes bytes 0 release
start bytes release none = record { done = []; whole = refl; count = refl; size = omega arith; sound = tt; values = none }

module _ (bytes rest line : List ℕ) (number : ℕ) (old : FinMap bytes_cmp (List ℕ)) (so : IsSoFar bytes rest number old) where
  values_push : (new : FinMap bytes_cmp (List ℕ)) → FollowsAs (line_of line) old new true → (key : List ℕ) → get new key ≡ value_after (so.done ++ line ∷ []) key
  values_push new follows key = follows.1 key ∙ ap (leaves (assigned (line_of line) key)) (so.values key) ∙ sym (value_push so.done line key)

  pub next : (more : List ℕ) (new : FinMap bytes_cmp (List ℕ)) → (lines_of rest ≡ line ∷ lines_of more) × (length more < length rest) → FollowsAs (line_of line) old new true → IsSoFar bytes more (number + 1) new
  next more new is follows =
      let size = so.size in
      let count = so.count in
      record {
        done = so.done ++ line ∷ [];
        whole = so.whole ∙ ap (λ (ls : List (List ℕ)). so.done ++ ls) is.0 ∙ sym (append_assoc so.done (line ∷ []) (lines_of more));
        count = length-append so.done (line ∷ []) ∙ ap (λ (n : ℕ). n + 1) count;
        size = omega (arith, is.1);
        sound = all_push (λ l. is_faulty (line_of l) ≡ false) so.done line so.sound follows.0;
        values = values_push new follows;
      }

  pub finish : (new : FinMap bytes_cmp (List ℕ)) → lines_of rest ≡ line ∷ [] → FollowsAs (line_of line) old new true → IsRelease bytes new
  finish new is follows =
      let whole : lines_of bytes ≡ so.done ++ line ∷ [] = so.whole ∙ ap (λ (ls : List (List ℕ)). so.done ++ ls) is in
      record {
        sound = rw whole (all_push (λ l. is_faulty (line_of l) ≡ false) so.done line so.sound follows.0);
        values = λ key. rw whole (values_push new follows key);
      }
