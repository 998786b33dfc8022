-- Bytes are read in one way: the lines of one reading are the first lines of every other.
use Rattle.std.proofs.Common.{◌≡◌, ℕ, ◌+◌, ◌≤◌, ◌⊎◌, inl, inr, List, [], ◌∷◌, ◌++◌, length, refl, sym, ap, ◌∙◌, subst, append_assoc, append-nil}
use Rattle.std.specs.List.{AllByRecursion}
use Rattle.ext_lines.specs.Lines.{lines_text}
use Rattle.ext_lines.specs.Split.{Lacks}
use Rattle.ext_lines.proofs.ForCallers.{split_once}
use Rattle.ext_index_reader.specs.Reading.{IsSaid, RunsThrough, StopsAtLine}
use Rattle.ext_index_reader.specs.State.{at, host_of, start}
use Rattle.ext_index_reader.specs.declared.said.Said.{Said}
use Rattle.ext_index_reader.specs.Step.{StepsThrough, Steps}
use Rattle.ext_index_reader.specs.declared.state.Reading.{Reading}
use Rattle.ext_index_reader.specs.declared.state.SoFar.{SoFar}
use Rattle.ext_index_reader.specs.declared.state.Stage.TheVariants as stages
use Rattle.ext_index_reader.proofs.OneStepLemmas.{one_step, runs_lack}

-- a run over lines is one over the first of them, and one from there
pub runs_split : (g : ℕ) (r t : Reading) (xs ys : List (List ℕ)) → StepsThrough g r (xs ++ ys) t → (m : Reading) × StepsThrough g r xs m × StepsThrough g m ys t
runs_split g r t [] ys run = (r, refl, run)
runs_split g r t (x ∷ xs) ys run = let rest = runs_split g run.0 t xs ys run.2 in (rest.0, (run.0, run.1, rest.1), rest.2)

-- the same lines lead to the same reading
pub runs_once : (g : ℕ) (r m n : Reading) (lines : List (List ℕ)) → g ≤ 4294967295 → StepsThrough g r lines m → StepsThrough g r lines n → m ≡ n
runs_once g r m n [] last p q = sym p ∙ q
runs_once g r m n (line ∷ lines) last p q =
    let same = one_step g r p.0 q.0 line last p.1 q.1 in
    runs_once g q.0 m n lines last (subst (λ x. StepsThrough g x lines m) same p.2) q.2

-- the text of a line and others, with what follows
line_text : (line : List ℕ) (lines : List (List ℕ)) (rest : List ℕ) → lines_text (line ∷ lines) ++ rest ≡ line ++ 10 ∷ (lines_text lines ++ rest)
line_text line lines rest = append_assoc (line ++ 10 ∷ []) (lines_text lines) rest ∙ append_assoc line (10 ∷ []) (lines_text lines ++ rest)

-- lines of a text that go on where others stop
record GoesOn (xs ys : List (List ℕ)) (r q : List ℕ) : Type 0 where
  next : List ℕ
  more : List (List ℕ)
  lines : ys ≡ xs ++ next ∷ more
  text : r ≡ lines_text (next ∷ more) ++ q

goes_on_cons : (x y : List ℕ) (xs ys : List (List ℕ)) (r q : List ℕ) → y ≡ x → GoesOn xs ys r q → GoesOn (x ∷ xs) (y ∷ ys) r q
goes_on_cons x y xs ys r q same on = record { next = on.next; more = on.more; lines = (λ i. same i ∷ on.lines i); text = on.text }

compared : (xs ys : List (List ℕ)) (r q : List ℕ) → AllByRecursion (Lacks 10) xs → AllByRecursion (Lacks 10) ys → lines_text xs ++ r ≡ lines_text ys ++ q
    → GoesOn xs ys r q ⊎ (GoesOn ys xs q r ⊎ ((xs ≡ ys) × (r ≡ q)))
compared [] [] r q lx ly e = inr (inr (refl, e))
compared [] (y ∷ ys) r q lx ly e = inl (record { next = y; more = ys; lines = refl; text = e })
compared (x ∷ xs) [] r q lx ly e = inr (inl (record { next = x; more = xs; lines = refl; text = sym e }))
compared (x ∷ xs) (y ∷ ys) r q lx ly e =
    let first = split_once 10 x y _ _ lx.0 ly.0 (sym (line_text x xs r) ∙ e ∙ line_text y ys q) in
    elim (compared xs ys r q lx.1 ly.1 first.1) [
      | inl on ↦ inl (goes_on_cons x y xs ys r q (sym first.0) on)
      | inr (inl on) ↦ inr (inl (goes_on_cons y x ys xs q r first.0 on))
      | inr (inr same) ↦ inr (inr ((λ i. first.0 i ∷ same.0 i), same.1))
    ]

-- a run does not go on past a stop
past_stop : (g : ℕ) (bytes : List ℕ) (line : ℕ) (stop : StopsAtLine g bytes line) (ys : List (List ℕ)) (q : List ℕ) (t : Reading) → g ≤ 4294967295 → AllByRecursion (Lacks 10) ys → StepsThrough g start ys t → ¬ GoesOn stop.read.lines ys stop.rest q
past_stop g bytes line stop ys q t last lacks run on =
    let parts = runs_split g start t stop.read.lines (on.next ∷ on.more) (subst (λ ls. StepsThrough g start ls t) on.lines run) in
    let same = runs_once g start parts.0 stop.reading stop.read.lines last parts.1 stop.read.runs in
    let step = subst (λ r. Steps g r on.next parts.2.0) same parts.2.1 in
    let plain = lacking stop.read.lines on.next on.more (subst (AllByRecursion (Lacks 10)) on.lines lacks) in
    stop.stop on.next (lines_text on.more ++ q) (record { whole = on.text ∙ line_text on.next on.more q; prefix_lacks = plain }) parts.2.0 step
  where
    lacking : (xs : List (List ℕ)) (z : List ℕ) (zs : List (List ℕ)) → AllByRecursion (Lacks 10) (xs ++ z ∷ zs) → Lacks 10 z
    lacking [] z zs all = all.0
    lacking (x ∷ xs) z zs all = lacking xs z zs all.1

-- where the lines run through nothing goes on
at_end : (g : ℕ) (s : SoFar) (xs : List (List ℕ)) (next : List ℕ) (more : List (List ℕ)) (t : Reading) → g ≤ 4294967295 → StepsThrough g start xs (at s stages.Done) → StepsThrough g start (xs ++ next ∷ more) t → ⊥
at_end g s xs next more t last run longer =
    let parts = runs_split g start t xs (next ∷ more) longer in
    let same = runs_once g start parts.0 (at s stages.Done) xs last parts.1 run in
    subst (λ r. Steps g r next parts.2.0) same parts.2.1

pub one_reading : (g : ℕ) (bytes : List ℕ) (s t : SoFar) → g ≤ 4294967295 → RunsThrough g bytes s → RunsThrough g bytes t → s ≡ t
one_reading g bytes s t last p q =
    let e = append-nil (lines_text p.lines) ∙ sym p.text ∙ q.text ∙ sym (append-nil (lines_text q.lines)) in
    elim (compared p.lines q.lines [] [] (runs_lack g start _ p.lines last p.runs) (runs_lack g start _ q.lines last q.runs) e) [
      | inl on ↦ absurd (at_end g s p.lines on.next on.more _ last p.runs (subst (λ ls. StepsThrough g start ls (at t stages.Done)) on.lines q.runs))
      | inr (inl on) ↦ absurd (at_end g t q.lines on.next on.more _ last q.runs (subst (λ ls. StepsThrough g start ls (at s stages.Done)) on.lines p.runs))
      | inr (inr same) ↦ ap (λ (r : Reading). r.so_far) (runs_once g start (at s stages.Done) (at t stages.Done) q.lines last (subst (λ ls. StepsThrough g start ls (at s stages.Done)) same.0 p.runs) q.runs)
    ]

-- and one host, as the text of one number
pub one_said : (g : ℕ) (bytes : List ℕ) (a b : Said) → g ≤ 4294967295 → IsSaid g bytes a → IsSaid g bytes b → a ≡ b
one_said g bytes a b last one other =
    let same = one_reading g bytes one.so_far other.so_far last one.through other.through in
    λ i. record { host = (one.host ∙ ap host_of same ∙ sym other.host) i; text = (one.number ∙ ap (λ (s : SoFar). s.text) same ∙ sym other.number) i }

-- lines that run through stop nowhere
pub no_stop : (g : ℕ) (bytes : List ℕ) (s : SoFar) (line : ℕ) → g ≤ 4294967295 → RunsThrough g bytes s → ¬ StopsAtLine g bytes line
no_stop g bytes s line last through stop =
    let e = sym stop.read.text ∙ through.text ∙ sym (append-nil (lines_text through.lines)) in
    let lacks = runs_lack g start _ through.lines last through.runs in
    elim (compared stop.read.lines through.lines stop.rest [] stop.read.lacks lacks e) [
      | inl on ↦ past_stop g bytes line stop through.lines [] _ last lacks through.runs on
      | inr (inl on) ↦ at_end g s through.lines on.next on.more _ last through.runs (subst (λ ls. StepsThrough g start ls stop.reading) on.lines stop.read.runs)
      | inr (inr same) ↦
          let there = runs_once g start stop.reading (at s stages.Done) stop.read.lines last stop.read.runs (subst (λ ls. StepsThrough g start ls (at s stages.Done)) (sym same.0) through.runs) in
          stop.unended (ap (λ (r : Reading). r.stage) there) same.1
    ]

-- lines stop in one line at most
pub one_stop : (g : ℕ) (bytes : List ℕ) (line other : ℕ) → g ≤ 4294967295 → StopsAtLine g bytes line → StopsAtLine g bytes other → line ≡ other
one_stop g bytes line other last p q =
    let e = sym p.read.text ∙ q.read.text in
    elim (compared p.read.lines q.read.lines p.rest q.rest p.read.lacks q.read.lacks e) [
      | inl on ↦ absurd (past_stop g bytes line p q.read.lines q.rest _ last q.read.lacks q.read.runs on)
      | inr (inl on) ↦ absurd (past_stop g bytes other q p.read.lines p.rest _ last p.read.lacks p.read.runs on)
      | inr (inr same) ↦ p.read.counted ∙ ap (λ (ls : List (List ℕ)). length ls + 1) same.0 ∙ sym q.read.counted
    ]
