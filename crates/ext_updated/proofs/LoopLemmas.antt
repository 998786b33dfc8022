-- Steps of loops over paths, entries and pieces.
use Rattle.std.proofs.Common.{◌≡◌, ℕ, suc, ◌+◌, ◌-◌, ◌<◌, Bool, true, false, cond, List, [], ◌∷◌, ◌++◌, length, take, map, refl, sym, ap, subst, ◌∙◌, arith, append_assoc}
use Rattle.std.specs.Prelude.{OnOk, Result, Ok, Err}
use Rattle.std.specs.List.{Contains, filter}
use Rattle.std.proofs.lemmas.List.Elements.{Contains-append_right}
use Rattle.ext_text.specs.Path.{IsPath}
use Rattle.ext_tree.specs.Grafting.{IsLongPath, hung}
use Rattle.ext_tree.specs.Tree.{Entries}
use Rattle.ext_tree.specs.declared.entry.Entry.{Entry}
use Rattle.ext_tree.specs.declared.tree.TreeErr.{TreeErr}
use Rattle.ext_tree.specs.declared.tree.TreeErr.TheVariants.{OutOfMemory, Exists, NotDirectory, Limit, Path}
use Rattle.ext_updated.specs.Putting.{IsWithin, SomePasses, SomePiecePasses, entries_at, entries_of, prefixes_from}
use Rattle.ext_updated.specs.declared.piece.Piece.{Piece}

filter_one : {X : Type 0} (f : X → Bool) (x : X) (xs : List X) → filter f (x ∷ []) ++ filter f xs ≡ filter f (x ∷ xs)
filter_one f x xs = elim (f x) as (λ b. cond b (x ∷ []) [] ++ filter f xs ≡ cond b (x ∷ filter f xs) (filter f xs)) [ true ↦ refl | false ↦ refl ]

-- one more prefix, where it passes
pub next_prefixes : (f : List (List ℕ) → Bool) (p : List (List ℕ)) (names : ℕ) (old new total : List (List (List ℕ))) → names < length p → new ≡ old ++ filter f (take names p ∷ []) → old ++ filter f (prefixes_from p names (length p - names)) ≡ total
    → new ++ filter f (prefixes_from p (names + 1) (length p - (names + 1))) ≡ total
next_prefixes f p names old new total within pushed so_far =
    let count : suc (length p - (names + 1)) ≡ length p - names = omega arith in
    let one : names + 1 ≡ suc names = omega arith in
    let rest = prefixes_from p (names + 1) (length p - (names + 1)) in
    ap (λ ps. ps ++ filter f rest) pushed ∙ append_assoc old (filter f (take names p ∷ [])) (filter f rest)
    ∙ ap (λ ps. old ++ ps) (filter_one f (take names p) rest)
    ∙ ap (λ n. old ++ filter f (take names p ∷ prefixes_from p n (length p - (names + 1)))) one
    ∙ ap (λ k. old ++ filter f (prefixes_from p names k)) count ∙ so_far

module _ {X : Type 0} (all rest : List X) (x : X) (later : List X) (split : rest ≡ x ∷ later) (within : IsWithin all rest) where
  -- what is left after the next one is still of all
  pub next_within : IsWithin all later
  next_within y at = within y (subst (λ xs. Contains xs y) (sym split) (Contains-append_right (x ∷ []) later y at))

  -- and so is the next one
  pub now_within : Contains all x
  now_within = within x (subst (λ xs. Contains xs x) (sym split) (0, omega arith, refl))

module _ {C : Type 0} where
  -- one more entry below a path
  pub next_hung : (p : List (List ℕ)) (rest : Entries C) (e : List (List ℕ) × Entry C) (later old new total : Entries C) → rest ≡ e ∷ later → new ≡ old ++ hung p e ∷ [] → old ++ map (hung p) rest ≡ total
      → new ++ map (hung p) later ≡ total
  next_hung p rest e later old new total split pushed so_far =
      ap (λ fs. fs ++ map (hung p) later) pushed ∙ append_assoc old (hung p e ∷ []) (map (hung p) later)
      ∙ ap (λ fs. old ++ map (hung p) fs) (sym split) ∙ so_far

  -- one more piece
  pub next_piece : (rest : List (Piece C)) (piece : Piece C) (later : List (Piece C)) (old new total : Entries C) → rest ≡ piece ∷ later → new ≡ old ++ entries_at piece → old ++ entries_of rest ≡ total
      → new ++ entries_of later ≡ total
  next_piece rest piece later old new total split added so_far =
      ap (λ es. es ++ entries_of later) added ∙ append_assoc old (entries_at piece) (entries_of later)
      ∙ ap (λ ps. old ++ entries_of ps) (sym split) ∙ so_far

  -- a path that is too long
  pub some_passes : (p : List (List ℕ)) (es : Entries C) (e : List (List ℕ) × Entry C) (err : TreeErr) → Contains es e → IsLongPath (¬ IsPath (p ++ e.0)) err → IsLongPath (SomePasses p es) err
  some_passes p es e OutOfMemory at long = tt
  some_passes p es e Exists at long = long
  some_passes p es e NotDirectory at long = long
  some_passes p es e Limit at long = long
  some_passes p es e Path at long = (e, at, long)

  -- of some piece
  pub piece_passes : (pieces : List (Piece C)) (piece : Piece C) (err : TreeErr) → Contains pieces piece → IsLongPath (SomePasses piece.path piece.part) err → IsLongPath (SomePiecePasses pieces) err
  piece_passes pieces piece OutOfMemory at long = tt
  piece_passes pieces piece Exists at long = long
  piece_passes pieces piece NotDirectory at long = long
  piece_passes pieces piece Limit at long = long
  piece_passes pieces piece Path at long = (piece, at, long)

  -- the entries of a piece: its top, then its part below it
  pub piece_added : {T E : Type 0} (r : Result T E) (piece : Piece C) (old top new : Entries C) (path : List (List ℕ)) (part : Entries C) → top ≡ old ++ (piece.path, piece.top) ∷ [] → path ≡ piece.path → part ≡ piece.part
      → OnOk r (new ≡ top ++ map (hung path) part) → OnOk r (new ≡ old ++ entries_at piece)
  piece_added (Ok t) piece old top new path part put path_is part_is added =
      added ∙ (λ i. put i ++ map (hung (path_is i)) (part_is i)) ∙ append_assoc old ((piece.path, piece.top) ∷ []) (map (hung piece.path) piece.part)
  piece_added (Err e) piece old top new path part put path_is part_is added = tt
