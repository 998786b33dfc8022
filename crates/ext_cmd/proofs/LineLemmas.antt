-- Lines of a batch: which commands may stand in one, and what is read of it.
use Rattle.std.proofs.Common.{◌≡◌, ◌≢◌, ℕ, true, false, List, [], ◌∷◌, refl, sym, ap, ◌∙◌, subst, inl, inr}
use Rattle.std.specs.Prelude.{◌⊎◌, Option, Some, None, Result, Ok, Err}
use Rattle.std.proofs.lemmas.Bool.{false≢true}
use Rattle.ext_cmd.specs.Fault.{BeginsWords}
use Rattle.ext_cmd.specs.Grammar.{Takes}
use Rattle.ext_cmd.specs.Keyword.{keyword_text}
use Rattle.ext_cmd.specs.Line.{IsLineCommand, ReadsLineCommand, ReadsLineWords, counts_for_nothing, may_be_line, may_begin_line}
use Rattle.ext_cmd.specs.Reading.{ReadsAfter, RefusesWords}
use Rattle.ext_cmd.specs.Words.{IsWellFormed, command_words}
use Rattle.ext_cmd.specs.declared.command.Command.{Command}
use Rattle.ext_cmd.specs.declared.command.Command.TheVariants.{Init, ImportFs, Remove, Sysext, Confext, Tree, Cat, Compare, Check, Layer, Migrate, Batch, Sample, Sysupdate, Components, Portable, Mark, History, HistoryChanges, Rollback, Forget}
use Rattle.ext_cmd.specs.declared.keyword.Keyword.{Keyword}
use Rattle.ext_cmd.specs.declared.keyword.Keyword.TheVariants as keywords
use Rattle.ext_cmd.specs.declared.words.CmdErr.{CmdErr}
use Rattle.ext_cmd.specs.declared.words.CmdErr.TheVariants.{OutOfMemory, Usage}
use Rattle.ext_cmd.proofs.CommandLemmas.{command_heard, one_keyword, said}
use Rattle.ext_cmd.proofs.FaultLemmas.{refuse_after, refuse_wrong}
use Rattle.ext_cmd.proofs.OneCommandLemmas.{one_command}
use Rattle.ext_cmd.proofs.OneFaultLemmas.{no_fault, one_fault}

-- the keyword of a command
abbrev keyword_of : Command → Keyword
keyword_of (Init arch scope hierarchies) = keywords.Init
keyword_of (ImportFs resource path) = keywords.ImportFs
keyword_of (Remove path) = keywords.Remove
keyword_of (Sysext view) = keywords.Sysext
keyword_of (Confext view) = keywords.Confext
keyword_of (Tree path) = keywords.Tree
keyword_of (Cat path) = keywords.Cat
keyword_of (Compare a b) = keywords.Compare
keyword_of Check = keywords.Check
keyword_of Layer = keywords.Layer
keyword_of Migrate = keywords.Migrate
keyword_of Batch = keywords.Batch
keyword_of (Sample images) = keywords.Sample
keyword_of (Sysupdate component verb) = keywords.Sysupdate
keyword_of Components = keywords.Sysupdate
keyword_of (Portable port) = keywords.Portable
keyword_of (Mark keep) = keywords.Mark
keyword_of History = keywords.History
keyword_of (HistoryChanges mark) = keywords.History
keyword_of (Rollback mark) = keywords.Rollback
keyword_of (Forget mark) = keywords.Forget

-- a command may stand in a line where a line may begin with its keyword
line_alike : (c : Command) → may_be_line c ≡ may_begin_line (keyword_of c)
line_alike (Init arch scope hierarchies) = refl
line_alike (ImportFs resource path) = refl
line_alike (Remove path) = refl
line_alike (Sysext view) = refl
line_alike (Confext view) = refl
line_alike (Tree path) = refl
line_alike (Cat path) = refl
line_alike (Compare a b) = refl
line_alike Check = refl
line_alike Layer = refl
line_alike Migrate = refl
line_alike Batch = refl
line_alike (Sample images) = refl
line_alike (Sysupdate component verb) = refl
line_alike Components = refl
line_alike (Portable port) = refl
line_alike (Mark keep) = refl
line_alike History = refl
line_alike (HistoryChanges mark) = refl
line_alike (Rollback mark) = refl
line_alike (Forget mark) = refl

-- the first word of a command is the text of its keyword
first_word : (c : Command) (word : List ℕ) (more : List (List ℕ)) → word ∷ more ≡ command_words c → word ≡ keyword_text (keyword_of c)
first_word (Init arch scope hierarchies) word more same = cc
first_word (ImportFs resource path) word more same = cc
first_word (Remove path) word more same = cc
first_word (Sysext view) word more same = cc
first_word (Confext view) word more same = cc
first_word (Tree path) word more same = cc
first_word (Cat path) word more same = cc
first_word (Compare a b) word more same = cc
first_word Check word more same = cc
first_word Layer word more same = cc
first_word Migrate word more same = cc
first_word Batch word more same = cc
first_word (Sample images) word more same = cc
first_word (Sysupdate component verb) word more same = cc
first_word Components word more same = cc
first_word (Portable port) word more same = cc
first_word (Mark keep) word more same = cc
first_word History word more same = cc
first_word (HistoryChanges mark) word more same = cc
first_word (Rollback mark) word more same = cc
first_word (Forget mark) word more same = cc

-- the words of a command don't count for nothing
not_nothing : (c : Command) → counts_for_nothing (command_words c) ≡ false
not_nothing (Init arch scope hierarchies) = refl
not_nothing (ImportFs resource path) = refl
not_nothing (Remove path) = refl
not_nothing (Sysext view) = refl
not_nothing (Confext view) = refl
not_nothing (Tree path) = refl
not_nothing (Cat path) = refl
not_nothing (Compare a b) = refl
not_nothing Check = refl
not_nothing Layer = refl
not_nothing Migrate = refl
not_nothing Batch = refl
not_nothing (Sample images) = refl
not_nothing (Sysupdate component verb) = refl
not_nothing Components = refl
not_nothing (Portable port) = refl
not_nothing (Mark keep) = refl
not_nothing History = refl
not_nothing (HistoryChanges mark) = refl
not_nothing (Rollback mark) = refl
not_nothing (Forget mark) = refl

-- the command may stand in a line, since its keyword begins one, and the other way round
line_from : (c : Command) (keyword : Keyword) (word : List ℕ) (more : List (List ℕ)) → word ≡ keyword_text keyword → word ∷ more ≡ command_words c → may_be_line c ≡ may_begin_line keyword
line_from c keyword word more is same =
    line_alike c ∙ ap may_begin_line (one_keyword (keyword_of c) keyword (sym (first_word c word more same) ∙ is))

line_said : (keyword : Keyword) (word : List ℕ) (more : List (List ℕ)) → may_begin_line keyword ≡ true → word ≡ keyword_text keyword → Takes keyword more → IsLineCommand (word ∷ more)
line_said keyword word more begins is takes =
    let it = said keyword more takes in
    let same : word ∷ more ≡ command_words it.command = ap (λ (w : List ℕ). w ∷ more) is ∙ it.same in
    record { command = it.command; well_formed = it.well_formed; line = line_from it.command keyword word more is same ∙ begins; same = same }

line_heard : (keyword : Keyword) (word : List ℕ) (more : List (List ℕ)) → word ≡ keyword_text keyword → IsLineCommand (word ∷ more) → Takes keyword more
line_heard keyword word more is line =
    let it = command_heard (word ∷ more) (record { command = line.command; well_formed = line.well_formed; same = line.same }) in
    subst (λ (k : Keyword). Takes k more) (one_keyword it.0 keyword (sym it.1 ∙ is)) it.2

pub some_line : BeginsWords IsLineCommand []
some_line = record { more = command_words Check; whole = record { command = Check; well_formed = tt; line = refl; same = refl } }

line_usage : (words : List (List ℕ)) (e : CmdErr) → RefusesWords IsLineCommand words 1 e → ReadsLineCommand words (Err e)
line_usage words OutOfMemory refused = tt
line_usage words (Usage place) refused = refused

-- no command of a line begins with the word
line_wrong : (word : List ℕ) (more : List (List ℕ)) → ((rest : List (List ℕ)) → IsLineCommand (word ∷ rest) → ⊥) → ReadsLineCommand (word ∷ more) (Err (Usage 1))
line_wrong word more none =
    line_usage (word ∷ more) (Usage 1) (refuse_wrong IsLineCommand (λ w. ⊥) word more (word ∷ more) 1 (Usage 1) some_line none refl (refl, λ is. is))

pub unknown_word : (word : List ℕ) (more : List (List ℕ)) → ((keyword : Keyword) → word ≢ keyword_text keyword) → ReadsLineCommand (word ∷ more) (Err (Usage 1))
unknown_word word more none =
    line_wrong word more (λ rest line. none (keyword_of line.command) (first_word line.command word rest line.same))

pub alone_word : (keyword : Keyword) (word : List ℕ) (more : List (List ℕ)) (place : ℕ) → place ≡ 1 → word ≡ keyword_text keyword → may_begin_line keyword ≡ false → ReadsLineCommand (word ∷ more) (Err (Usage place))
alone_word keyword word more place first is alone =
    rw first (line_wrong word more (λ rest line. false≢true (sym alone ∙ sym (line_from line.command keyword word rest is line.same) ∙ line.line)))

-- what is read after a keyword is read of the line
pub read_begun : (keyword : Keyword) (word : List ℕ) (more : List (List ℕ)) (result : Result Command CmdErr) → may_begin_line keyword ≡ true → word ≡ keyword_text keyword → ReadsAfter keyword more result → ReadsLineCommand (word ∷ more) result
read_begun keyword word more (Ok c) begins is read =
    let same : word ∷ more ≡ command_words c = ap (λ (w : List ℕ). w ∷ more) is ∙ read.1 in
    (read.0, line_from c keyword word more is same ∙ begins, same)
read_begun keyword word more (Err e) begins is read =
    line_usage (word ∷ more) e (refuse_after IsLineCommand (Takes keyword) word more (word ∷ more) 1 2 e refl
    (λ rest line. line_heard keyword word rest is line) (λ rest takes. line_said keyword word rest begins is takes) refl read)

-- a line that counts for nothing has the words of no command
pub nothing_is_none : (words : List (List ℕ)) → counts_for_nothing words ≡ true → IsLineCommand words → ⊥
nothing_is_none words nothing line = false≢true (sym (not_nothing line.command) ∙ ap counts_for_nothing (sym line.same) ∙ nothing)

-- the words of a line give one thing, where memory suffices
pub reads_one : (words : List (List ℕ)) (a b : Result (Option Command) CmdErr) → ReadsLineWords words a → ReadsLineWords words b → (a ≡ b) ⊎ (a ≡ Err OutOfMemory) ⊎ (b ≡ Err OutOfMemory)
reads_one words (Err OutOfMemory) b reads also = inr (inl refl)
reads_one words (Ok None) (Err OutOfMemory) reads also = inr (inr refl)
reads_one words (Ok (Some c)) (Err OutOfMemory) reads also = inr (inr refl)
reads_one words (Err (Usage m)) (Err OutOfMemory) reads also = inr (inr refl)
reads_one words (Ok None) (Ok None) reads also = inl refl
reads_one words (Ok None) (Ok (Some d)) reads also = absurd (false≢true (sym also.0 ∙ reads))
reads_one words (Ok None) (Err (Usage n)) reads also = absurd (false≢true (sym also.0 ∙ reads))
reads_one words (Ok (Some c)) (Ok None) reads also = absurd (false≢true (sym reads.0 ∙ also))
reads_one words (Err (Usage m)) (Ok None) reads also = absurd (false≢true (sym reads.0 ∙ also))
reads_one words (Ok (Some c)) (Ok (Some d)) reads also =
    inl (ap (λ (e : Command). Ok (Some e)) (one_command c d reads.1 also.1 (sym reads.3 ∙ also.3)))
reads_one words (Ok (Some c)) (Err (Usage n)) reads also =
    absurd (no_fault IsLineCommand words 1 n (record { command = c; well_formed = reads.1; line = reads.2; same = reads.3 }) also.1)
reads_one words (Err (Usage m)) (Ok (Some d)) reads also =
    absurd (no_fault IsLineCommand words 1 m (record { command = d; well_formed = also.1; line = also.2; same = also.3 }) reads.1)
reads_one words (Err (Usage m)) (Err (Usage n)) reads also =
    inl (ap (λ (at : ℕ). Err (Usage at)) (one_fault IsLineCommand words 1 m n reads.1 also.1))

-- a command of a line is read as that command, or finds no memory
pub reads_line_back : (words : List (List ℕ)) (c : Command) (result : Result (Option Command) CmdErr) → IsWellFormed c → may_be_line c ≡ true → words ≡ command_words c → ReadsLineWords words result → (result ≡ Ok (Some c)) ⊎ (result ≡ Err OutOfMemory)
reads_line_back words c result well line same reads =
    answer (reads_one words whole result (ap counts_for_nothing same ∙ not_nothing c, well, line, same) reads)
  where
    whole : Result (Option Command) CmdErr
    whole = Ok (Some c)

    answer : (whole ≡ result) ⊎ (whole ≡ Err OutOfMemory) ⊎ (result ≡ Err OutOfMemory) → (result ≡ Ok (Some c)) ⊎ (result ≡ Err OutOfMemory)
    answer (inl one) = inl (sym one)
    answer (inr (inl none)) = absurd (cc)
    answer (inr (inr none)) = inr none
