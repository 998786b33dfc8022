-- Reading a file piece by piece.
use Rattle.std.proofs.Common.{◌≡◌, ℕ, ◌+◌, ◌<◌, ◌≤◌, true, cond, List, [], ◌∷◌, ◌++◌, length, drop, Option, Some, None, IfSome, refl, sym, ap, ◌∙◌, subst, arith, length-append, append_assoc}
use Rattle.std.specs.Prelude.{nat_le}
use Rattle.std.proofs.lemmas.Bool.{false≢true, le-leb, lt-leb, cond-true, cond-false}
use Rattle.std.proofs.lemmas.List.{append-nil}
use Rattle.std.proofs.Math.ListN.{drop_of_length-le}
use Rattle.ext_disk.specs.Disk.{Node, folder, file, Told, DiskState, is_file}
use Rattle.ext_disk.specs.Since.{Rests}
use Rattle.ext_disk.proofs.ForCallers.{rests_then}
use Rattle.ext_store_files.specs.declared.reading.Found.{Found}
use Rattle.ext_store_files.specs.declared.reading.Found.TheVariants.{TooLong, File}
use Rattle.ext_io.specs.Pieces.{IsPieceAt}
use Rattle.ext_store_files.specs.Reading.{found_of, IsPieceOf, BeginsWith}

-- these bytes were read of the file at a path, at most one more than the limit, and the disk rests
pub record HasRead (old new : DiskState) (path : List (List ℕ)) (most : ℕ) (bytes : List ℕ) : Type 0 where
  pub rests : Rests old new
  pub within : length bytes ≤ most + 1
  pub begins : BeginsWith old path bytes

pub read_nothing : (o : Option Told) (path : List (List ℕ)) → IfSome o (λ d. (all : List ℕ) → (d.places path).node ≡ Some (file all) → all ≡ [] ++ drop 0 all)
read_nothing None path = tt
read_nothing (Some d) path = λ all is. refl

pub begins_more : (all bytes piece : List ℕ) → all ≡ bytes ++ drop (length bytes) all → IsPieceAt all (length bytes) piece → all ≡ (bytes ++ piece) ++ drop (length (bytes ++ piece)) all
begins_more all bytes piece begins is =
    begins ∙ ap (λ (l : List ℕ). bytes ++ l) is.moved
    ∙ sym (append_assoc bytes piece (drop (length bytes + length piece) all))
    ∙ ap (λ n. (bytes ++ piece) ++ drop n all) (sym (length-append bytes piece))

pub told_more : (x y : Option Told) (path : List (List ℕ)) (bytes piece : List ℕ) → y ≡ x
    → IfSome x (λ d. (all : List ℕ) → (d.places path).node ≡ Some (file all) → all ≡ bytes ++ drop (length bytes) all)
    → IfSome y (λ d. (all : List ℕ) → (d.places path).node ≡ Some (file all) → IsPieceAt all (length bytes) piece)
    → IfSome x (λ d. (all : List ℕ) → (d.places path).node ≡ Some (file all) → all ≡ (bytes ++ piece) ++ drop (length (bytes ++ piece)) all)
told_more None y path bytes piece same begins is = tt
told_more (Some d) y path bytes piece same begins is =
    let there : (all : List ℕ) → (d.places path).node ≡ Some (file all) → IsPieceAt all (length bytes) piece =
    subst (λ o. IfSome o (λ d. (all : List ℕ) → (d.places path).node ≡ Some (file all) → IsPieceAt all (length bytes) piece)) same is in
    λ all at. begins_more all bytes piece (begins all at) (there all at)

-- one piece more was read
pub read_more : (old mid new : DiskState) (path : List (List ℕ)) (most : ℕ) (bytes now piece : List ℕ) → HasRead old mid path most bytes → Rests mid new
    → now ≡ bytes ++ piece → IsPieceOf mid path (length bytes) piece → length bytes + length piece ≤ most + 1 → HasRead old new path most now
read_more old mid new path most bytes now piece has rests is next fits = subst (HasRead old new path most) (sym is) (record {
  rests = rests_then old mid new has.rests rests;
  within = omega (arith, length-append bytes piece);
  begins = told_more old.told mid.told path bytes piece has.rests.told has.begins next;
})

found_file : (node : Option Node) (most : ℕ) (f : Found) → is_file node ≡ true → ((all : List ℕ) → node ≡ Some (file all) → f ≡ found_of most (Some (file all))) → f ≡ found_of most node
found_file None most f is gives = absurd (false≢true is)
found_file (Some folder) most f is gives = absurd (false≢true is)
found_file (Some (file all)) most f is gives = gives all refl

pub whole_read : (all bytes : List ℕ) → all ≡ bytes ++ drop (length bytes) all → length all ≤ length bytes → all ≡ bytes
whole_read all bytes begins short = begins ∙ ap (λ (l : List ℕ). bytes ++ l) (drop_of_length-le all short) ∙ append-nil bytes

end_file : (all bytes : List ℕ) (most : ℕ) → all ≡ bytes → length bytes ≤ most → File bytes ≡ found_of most (Some (file all))
end_file all bytes most same fits = sym (ap (λ x. cond (nat_le (length x) most) (File x) TooLong) same ∙ cond-true _ _ _ (le-leb (length bytes) most fits))

-- nothing more is read: the bytes are the file's
pub read_end : (x y : Option Told) (path : List (List ℕ)) (most : ℕ) (bytes now piece : List ℕ) → y ≡ x
    → IfSome x (λ d. is_file (d.places path).node ≡ true)
    → IfSome x (λ d. (all : List ℕ) → (d.places path).node ≡ Some (file all) → all ≡ bytes ++ drop (length bytes) all)
    → now ≡ bytes ++ piece → length piece ≡ 0 → length bytes ≤ most
    → IfSome y (λ d. (all : List ℕ) → (d.places path).node ≡ Some (file all) → IsPieceAt all (length bytes) piece)
    → IfSome x (λ d. File now ≡ found_of most (d.places path).node)
read_end None y path most bytes now piece same is begins more none fits next = tt
read_end (Some d) y path most bytes now [] same is begins more none fits next =
    let there : (all : List ℕ) → (d.places path).node ≡ Some (file all) → IsPieceAt all (length bytes) [] =
    subst (λ o. IfSome o (λ d. (all : List ℕ) → (d.places path).node ≡ Some (file all) → IsPieceAt all (length bytes) [])) same next in
    found_file (d.places path).node most (File now) is
    (λ all at. ap File (more ∙ append-nil bytes) ∙ end_file all bytes most (whole_read all bytes (begins all at) ((there all at).end refl)) fits)
read_end (Some d) y path most bytes now (b ∷ piece) same is begins more none fits next = absurd (omega (arith, none))

past_most : (all bytes : List ℕ) (most : ℕ) → all ≡ bytes ++ drop (length bytes) all → most < length bytes → TooLong ≡ found_of most (Some (file all))
past_most all bytes most begins long =
    let longer : most < length all = omega (arith, ap length begins, length-append bytes (drop (length bytes) all)) in
    sym (cond-false _ _ _ (lt-leb (length all) most longer))

-- one byte more than the limit was read
pub read_too_long : (x : Option Told) (path : List (List ℕ)) (most : ℕ) (bytes : List ℕ)
    → IfSome x (λ d. is_file (d.places path).node ≡ true)
    → IfSome x (λ d. (all : List ℕ) → (d.places path).node ≡ Some (file all) → all ≡ bytes ++ drop (length bytes) all)
    → most < length bytes → IfSome x (λ d. TooLong ≡ found_of most (d.places path).node)
read_too_long None path most bytes is begins long = tt
read_too_long (Some d) path most bytes is begins long =
    found_file (d.places path).node most TooLong is (λ all at. past_most all bytes most (begins all at) long)
