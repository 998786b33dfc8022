use Rattle.std.proofs.Common.{◌+◌, ◌≤◌, length, take, subst, arith, length-take}
use Rattle.std.proofs.lemmas.List.{take_all}
use Rattle.ext_text.specs.Path.{is_prefix}
use Rattle.ext_store_files.specs.Appended.{Raises}
use Rattle.ext_store_files.specs.Writing.{is_at, IsFileWith, Holds}
use Rattle.ext_store_files.proofs.WritingLemmas.{appended_no_folder, appended_then, appended_within, longer_prefix, prefix_and_piece, works_wider}
use Rattle.ext_store_files.proofs.writing.append_all.Goals as goal

pub pieces-preserved : goal.pieces-preserved
pieces-preserved g c = (
  appended_then c.args.path.now _ _ _ (take c.pieces.at c.args.bytes.now) _ _ (longer_prefix c.args.bytes.now c.pieces.at c.min-count.result) c.pieces.invariant.0
      c.in_ok-append_piece.ensures.works c.in_ok-append_piece.ensures.more c.in_ok-append_piece.ensures.raises,
  omega (arith, c.min-count.ensures, c.pieces-test.true),
)

pub returns-in_err-append_piece-clause-works : goal.returns-in_err-append_piece-clause-works
returns-in_err-append_piece-clause-works g c =
    let fits : c.pieces.at + c.min-count.result ≤ length c.args.bytes.now = omega (arith, c.min-count.ensures, c.pieces-test.true) in
    appended_within c.args.path.now _ _ _ (take c.pieces.at c.args.bytes.now) _ (length c.args.bytes.now) (prefix_and_piece c.args.bytes.now c.pieces.at c.min-count.result fits)
    c.pieces.invariant.0 c.in_err-append_piece.ensures.works

pub returns-clause-works : goal.returns-clause-works
returns-clause-works g c =
    works_wider (is_prefix c.args.path.now) (is_prefix c.args.path.now) (is_at c.args.path.now) (is_at c.args.path.now) (length (take c.pieces.at c.args.bytes.now)) (length c.args.bytes.now) _ _
    (omega (arith, length-take c.pieces.at c.args.bytes.now)) (λ q out. out) (λ q out. out) c.pieces.invariant.0.works

pub returns-clause-file : goal.returns-clause-file
returns-clause-file g c = appended_no_folder c.args.path.now _ (g.D.Disk.state c.pieces.disk).told c.pieces.invariant.0.file

pub returns-clause-all : goal.returns-clause-all
returns-clause-all g c =
    subst (λ l. Holds (IsFileWith c.args.path.now l) (g.D.Disk.state c.pieces.disk)) (take_all c.pieces.at c.args.bytes.now c.pieces-test.false) c.pieces.invariant.0.file

pub returns-clause-raises : goal.returns-clause-raises
returns-clause-raises g c =
    subst (λ l. Raises (length l) (g.D.Disk.state c.args.disk.now) (g.D.Disk.state c.pieces.disk)) (take_all c.pieces.at c.args.bytes.now c.pieces-test.false) c.pieces.invariant.0.raises
