-- A file read into a hasher, piece by piece.
use Rattle.std.proofs.Common.{◌≡◌, ℕ, ◌+◌, ◌<◌, ◌≤◌, true, List, [], ◌++◌, length, take, drop, Option, Some, None, IfSome, refl, sym, ap, ◌∙◌, subst, arith, length-append}
use Rattle.std.proofs.lemmas.Bool.{false≢true, eqb-true}
use Rattle.sha2.specs.Sha256.{sha256}
use Rattle.ext_io.specs.Device.{IsReadAt}
use Rattle.ext_text.specs.declared.digest.Digest.{Digest}
use Rattle.ext_disk.specs.Disk.{Node, folder, file, Told, DiskState, is_file}
use Rattle.ext_disk.specs.Since.{Rests}
use Rattle.ext_disk.proofs.ForCallers.{rests_then}
use Rattle.ext_io.specs.Pieces.{IsPieceAt}
use Rattle.ext_store_files.specs.Reading.{IsPieceOf, BeginsWith, is_file_of}
use Rattle.ext_store_files.specs.HeldFiles.{told_at, node_told, IsDigestAt}
use Rattle.ext_store_files.proofs.ReadingLemmas.{told_more, whole_read}

-- what a read gave is a piece
pub piece_read : (all : List ℕ) (at : ℕ) (buf : List ℕ) (count : ℕ) → length (take count buf) ≡ count → IsReadAt all at buf count → IsPieceAt all at (take count buf)
piece_read all at buf count long read = record {
  moved = read.moved ∙ ap (λ n. take count buf ++ drop (at + n) all) (sym long);
  end = λ none. read.end (sym long ∙ none);
}

pub told_piece : (o : Option Told) (path : List (List ℕ)) (at : ℕ) (buf : List ℕ) (count : ℕ) → length (take count buf) ≡ count
    → IfSome o (λ d. (bytes : List ℕ) → (d.places path).node ≡ Some (file bytes) → IsReadAt bytes at buf count)
    → IfSome o (λ d. (all : List ℕ) → (d.places path).node ≡ Some (file all) → IsPieceAt all at (take count buf))
told_piece None path at buf count long read = tt
told_piece (Some d) path at buf count long read = λ all is. piece_read all at buf count long (read all is)

-- the first so many bytes of a file were fed to a hasher, of which it is said what it holds
pub record HasHashed (old new : DiskState) (path : List (List ℕ)) (size : ℕ) (holds : List ℕ → Type 0) (at : ℕ) : Type 0 where
  pub rests : Rests old new
  pub within : at ≤ size
  pub bytes : List ℕ
  pub long : length bytes ≡ at
  pub fed : holds bytes
  pub begins : BeginsWith old path bytes

unfoldable pub hashed_nothing : (s : DiskState) (path : List (List ℕ)) (size : ℕ) (holds : List ℕ → Type 0) → Rests s s → holds [] → HasHashed s s path size holds 0
hashed_nothing s path size holds rests fed = record {
  rests = rests;
  within = omega arith;
  bytes = [];
  long = refl;
  fed = fed;
  begins = nothing s.told;
}
  where
    nothing : (o : Option Told) → IfSome o (λ d. (all : List ℕ) → (d.places path).node ≡ Some (file all) → all ≡ [] ++ drop 0 all)
    nothing None = tt
    nothing (Some d) = λ all is. refl

unfoldable pub hashed_more : (old mid new : DiskState) (path : List (List ℕ)) (size : ℕ) (before after : List ℕ → Type 0) (at : ℕ) (piece : List ℕ) (n : ℕ) → HasHashed old mid path size before at → Rests mid new
    → length piece ≡ n → n + at ≤ size → ((m : List ℕ) → before m → after (m ++ piece)) → IsPieceOf mid path at piece → HasHashed old new path size after (at + n)
hashed_more old mid new path size before after at piece n has rests long fits feeds next = record {
  rests = rests_then old mid new has.rests rests;
  within = omega arith;
  bytes = has.bytes ++ piece;
  long = omega (arith, length-append has.bytes piece, has.long);
  fed = feeds has.bytes has.fed;
  begins = told_more old.told mid.told path has.bytes piece has.rests.told has.begins
      (subst (λ k. IfSome mid.told (λ d. (all : List ℕ) → (d.places path).node ≡ Some (file all) → IsPieceAt all k piece)) (sym has.long) next);
}

file_of_size : (size : ℕ) (node : Option Node) → is_file_of size node ≡ true → is_file node ≡ true
file_of_size size None is = is
file_of_size size (Some folder) is = is
file_of_size size (Some (file bytes)) is = refl

pub size_is_file : (x y : Option Told) (path : List (List ℕ)) (size : ℕ) → y ≡ x → IfSome x (λ d. is_file_of size (d.places path).node ≡ true) → IfSome y (λ d. is_file (d.places path).node ≡ true)
size_is_file x y path size same is = subst (λ o. IfSome o (λ d. is_file (d.places path).node ≡ true)) (sym same) (go x is)
  where
    go : (o : Option Told) → IfSome o (λ d. is_file_of size (d.places path).node ≡ true) → IfSome o (λ d. is_file (d.places path).node ≡ true)
    go None is = tt
    go (Some d) is = file_of_size size (d.places path).node is

short_node : (node : Option Node) (size : ℕ) → ((all : List ℕ) → node ≡ Some (file all) → length all < size) → IsDigestAt (node_told node) size None
short_node None size short = refl
short_node (Some folder) size short = refl
short_node (Some (file all)) size short = λ same. let less = short all refl in omega arith

-- a file that ends before the size does not have it
pub hashed_short : (x y : Option Told) (path : List (List ℕ)) (size at : ℕ) (piece : List ℕ) → y ≡ x → length piece ≡ 0 → at < size
    → IfSome y (λ d. (all : List ℕ) → (d.places path).node ≡ Some (file all) → IsPieceAt all at piece) → IsDigestAt (told_at x path) size None
hashed_short None y path size at piece same none less next = tt
hashed_short (Some d) y path size at piece same none less next =
    let there : (all : List ℕ) → (d.places path).node ≡ Some (file all) → IsPieceAt all at piece =
    subst (λ o. IfSome o (λ d. (all : List ℕ) → (d.places path).node ≡ Some (file all) → IsPieceAt all at piece)) same next in
    short_node (d.places path).node size (λ all is. let ends = (there all is).end none in omega arith)

whole_node : (node : Option Node) (size : ℕ) (bytes : List ℕ) (digest : Digest) → is_file_of size node ≡ true → length bytes ≡ size → digest.0 ≡ sha256 bytes
    → ((all : List ℕ) → node ≡ Some (file all) → all ≡ bytes ++ drop (length bytes) all) → IsDigestAt (node_told node) size (Some digest)
whole_node None size bytes digest is long same begins = absurd (false≢true is)
whole_node (Some folder) size bytes digest is long same begins = absurd (false≢true is)
whole_node (Some (file all)) size bytes digest is long same begins =
    let sized : length all ≡ size = eqb-true (length all) size is in
    (sized, same ∙ ap sha256 (sym (whole_read all bytes (begins all refl) (omega arith))))

-- the whole file was hashed
pub hashed_whole : (x : Option Told) (path : List (List ℕ)) (size : ℕ) (bytes : List ℕ) (digest : Digest) → IfSome x (λ d. is_file_of size (d.places path).node ≡ true)
    → IfSome x (λ d. (all : List ℕ) → (d.places path).node ≡ Some (file all) → all ≡ bytes ++ drop (length bytes) all) → length bytes ≡ size → digest.0 ≡ sha256 bytes
    → IsDigestAt (told_at x path) size (Some digest)
hashed_whole None path size bytes digest is begins long same = tt
hashed_whole (Some d) path size bytes digest is begins long same = whole_node (d.places path).node size bytes digest is long same begins
