-- The loop over lines: what one line more makes of what was read, and how it ends.
use Rattle.std.proofs.Common.{◌≡◌, ℕ, ◌+◌, ◌≤◌, List, [], ◌∷◌, ◌++◌, length, Result, Ok, Err, refl, sym, ap, ◌∙◌, subst, arith, length-append, append-nil}
use Rattle.ext_lines.specs.Lines.{lines_text}
use Rattle.ext_lines.specs.Split.{IsSplit, Lacks}
use Rattle.ext_lines.proofs.ForCallers.{lines_text-push, split_none, split_once}
use Rattle.ext_text.proofs.ForCallers.{all_append}
use Rattle.ext_index_reader.specs.Reading.{Finishes, IsRead, NotAllBy, ReadsAll, ReadsLines, StopsAtLine}
use Rattle.ext_index_reader.specs.State.{at, start}
use Rattle.ext_index_reader.specs.Step.{StepsThrough, Steps}
use Rattle.ext_index_reader.specs.declared.err.IndexErr.{IndexErr}
use Rattle.ext_index_reader.specs.declared.err.IndexErr.TheVariants.{OutOfMemory, Broken}
use Rattle.ext_index_reader.specs.declared.state.Reading.{Reading}

-- after a line there are fewer bytes
pub split_short : (bytes line more : List ℕ) → IsSplit 10 bytes line more → length more + 1 ≤ length bytes
split_short bytes line more split = omega (arith, ap length split.whole, length-append line (10 ∷ more))

-- one step more
runs_push : (g : ℕ) (r m t : Reading) (lines : List (List ℕ)) (line : List ℕ) → StepsThrough g r lines m → Steps g m line t → StepsThrough g r (lines ++ line ∷ []) t
runs_push g r m t [] line runs step = (t, subst (λ x. Steps g x line t) (sym runs) step, refl)
runs_push g r m t (l ∷ lines) line runs step = (runs.0, runs.1, runs_push g runs.0 m t lines line runs.2 step)

-- nothing was read
pub read_start : (g : ℕ) (bytes : List ℕ) (reading : Reading) → reading ≡ start → IsRead g bytes bytes 1 reading
read_start g bytes reading is = record { lines = []; text = refl; lacks = tt; runs = sym is; counted = omega arith }

-- one line more
pub read_more : (g : ℕ) (bytes rest : List ℕ) (line : ℕ) (r t : Reading) (next more : List ℕ) → IsRead g bytes rest line r → IsSplit 10 rest next more → Steps g r next t → IsRead g bytes more (line + 1) t
read_more g bytes rest line r t next more read split step = record {
  lines = read.lines ++ next ∷ [];
  text = read.text ∙ ap (λ xs. lines_text read.lines ++ xs) split.whole ∙ sym (lines_text-push read.lines next more);
  lacks = all_append (Lacks 10) read.lines (next ∷ []) read.lacks (split.prefix_lacks, tt);
  runs = runs_push g start r t read.lines next read.runs step;
  counted = omega (arith, read.counted, length-append read.lines (next ∷ []));
}

-- a line that may not stand next
pub stop_at : (g : ℕ) (bytes rest : List ℕ) (line : ℕ) (r : Reading) (next more : List ℕ) → IsRead g bytes rest line r → IsSplit 10 rest next more → ((t : Reading) → ¬ Steps g r next t) → StopsAtLine g bytes line
stop_at g bytes rest line r next more read split none = record {
  rest = rest;
  reading = r;
  read = read;
  stop = λ other after found t step. none t (subst (λ l. Steps g r l t) (split_once 10 other next after more found.prefix_lacks split.prefix_lacks (sym found.whole ∙ split.whole)).0 step);
  unended = λ _ empty. let short : length more + 1 ≤ length rest = split_short rest next more split in let zero : length rest ≡ 0 = ap length empty in omega arith;
}

-- no line more
pub read_end : {A : Type 0} (g : ℕ) (bytes rest : List ℕ) (line : ℕ) (r : Reading) (found : Result A IndexErr) → IsRead g bytes rest line r → Lacks 10 rest → Finishes r.stage rest line found → ReadsAll g bytes r.so_far found
read_end g bytes rest line r (Ok done) read lacks ends = record {
  lines = read.lines;
  text = read.text ∙ ap (λ xs. lines_text read.lines ++ xs) ends.1 ∙ append-nil (lines_text read.lines);
  runs = subst (λ stage. StepsThrough g start read.lines (at r.so_far stage)) ends.0 read.runs;
}
read_end g bytes rest line r (Err OutOfMemory) read lacks ends = tt
read_end g bytes rest line r (Err (Broken n)) read lacks ends = record {
  rest = rest;
  reading = r;
  read = subst (λ k. IsRead g bytes rest k r) (sym ends.0) read;
  stop = λ other after found t step. split_none 10 rest other after lacks found.whole;
  unended = ends.1;
}

-- lines that are not all read say nothing
pub not_all : (g : ℕ) (bytes : List ℕ) (e : IndexErr) → NotAllBy g bytes e → ReadsLines g bytes (Err e)
not_all g bytes OutOfMemory why = tt
not_all g bytes (Broken line) why = why
