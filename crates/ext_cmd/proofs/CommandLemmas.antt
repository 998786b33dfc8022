-- The printed commands and the grammars of their parts: what is printed is heard, and what may stand is the words of a command.
use Rattle.std.proofs.Common.{◌≡◌, ◌≢◌, ℕ, Bool, true, false, List, [], ◌∷◌, refl, sym, ap, ◌∙◌, subst, codes, if◌then◌else◌, inl, inr}
use Rattle.std.specs.Prelude.{Option, Some, None, Result, Ok, Err}
use Rattle.std.specs.Str.{bytes_eq}
use Rattle.ext_text.specs.Absolute.{absolute}
use Rattle.ext_cmd.specs.Fault.{BeginsWords}
use Rattle.ext_cmd.specs.Grammar.{Chooses, HasNoMore, IsBelowRootWord, IsForce, IsKeepWord, IsPathWord, Maybe, Takes, TakesChosen, TakesExplained, TakesVerb, Then}
use Rattle.ext_cmd.specs.Keyword.{keyword_text, verb_text}
use Rattle.ext_cmd.specs.Reading.{ReadsAfter, ReadsAfterVerb, ReadsPart, ReadsWords, RefusesWords}
use Rattle.ext_cmd.specs.Words.{AreChosen, IsCommand, IsOptionalKeep, IsOptionalPath, IsViewCommand, IsWellFormed, chosen_words, command_words, force_words, keep_words, optional_words, view_words}
use Rattle.ext_cmd.specs.declared.command.Chosen.{Chosen}
use Rattle.ext_cmd.specs.declared.command.Chosen.TheVariants as chosen
use Rattle.ext_cmd.specs.declared.command.Command.{Command}
use Rattle.ext_cmd.specs.declared.command.Command.TheVariants.{Init, ImportFs, Remove, Sysext, Confext, Tree, Cat, Compare, Check, Layer, Migrate, Batch, Sample, Sysupdate, Components, Portable, Mark, History, HistoryChanges, Rollback, Forget}
use Rattle.ext_cmd.specs.declared.command.ViewCommand.{ViewCommand}
use Rattle.ext_cmd.specs.declared.command.ViewCommand.TheVariants as views
use Rattle.ext_cmd.specs.declared.keyword.Keyword.{Keyword}
use Rattle.ext_cmd.specs.declared.keyword.Keyword.TheVariants as keywords
use Rattle.ext_cmd.specs.declared.keyword.Verb.{Verb}
use Rattle.ext_cmd.specs.declared.keyword.Verb.TheVariants as verbs
use Rattle.ext_cmd.specs.declared.words.CmdErr.{CmdErr}
use Rattle.ext_cmd.specs.declared.words.CmdErr.TheVariants.{OutOfMemory, Usage}
use Rattle.ext_cmd.proofs.FaultLemmas.{chooses_after, chooses_wrong, refuse_after, refuse_missing, refuse_wider, same_fault}
use Rattle.ext_cmd.proofs.PortLemmas.{port_heard, port_said}
use Rattle.ext_cmd.proofs.UpdateLemmas.{asked_heard, update_said}
use Rattle.ext_cmd.proofs.WordLemmas.{some_below_root}

abbrev pub verb_of : List ℕ → Option Verb
verb_of text =
    if bytes_eq text (verb_text verbs.List) then Some verbs.List
    else if bytes_eq text (verb_text verbs.Status) then Some verbs.Status
    else if bytes_eq text (verb_text verbs.Merge) then Some verbs.Merge
    else if bytes_eq text (verb_text verbs.Unmerge) then Some verbs.Unmerge
    else if bytes_eq text (verb_text verbs.Refresh) then Some verbs.Refresh
    else if bytes_eq text (verb_text verbs.Changes) then Some verbs.Changes
    else if bytes_eq text (verb_text verbs.Explain) then Some verbs.Explain
    else None

pub verb_back : (v : Verb) → verb_of (verb_text v) ≡ Some v
verb_back verbs.List = refl
verb_back verbs.Status = refl
verb_back verbs.Merge = refl
verb_back verbs.Unmerge = refl
verb_back verbs.Refresh = refl
verb_back verbs.Changes = refl
verb_back verbs.Explain = refl

one_verb : (v w : Verb) → verb_text v ≡ verb_text w → v ≡ w
one_verb v w same =
    let read : Some v ≡ Some w = sym (verb_back v) ∙ ap verb_of same ∙ verb_back w in
    cc

abbrev keyword_of : List ℕ → Option Keyword
keyword_of text =
    if bytes_eq text (keyword_text keywords.Init) then Some keywords.Init
    else if bytes_eq text (keyword_text keywords.ImportFs) then Some keywords.ImportFs
    else if bytes_eq text (keyword_text keywords.Remove) then Some keywords.Remove
    else if bytes_eq text (keyword_text keywords.Sysext) then Some keywords.Sysext
    else if bytes_eq text (keyword_text keywords.Confext) then Some keywords.Confext
    else if bytes_eq text (keyword_text keywords.Tree) then Some keywords.Tree
    else if bytes_eq text (keyword_text keywords.Cat) then Some keywords.Cat
    else if bytes_eq text (keyword_text keywords.Compare) then Some keywords.Compare
    else if bytes_eq text (keyword_text keywords.Check) then Some keywords.Check
    else if bytes_eq text (keyword_text keywords.Layer) then Some keywords.Layer
    else if bytes_eq text (keyword_text keywords.Migrate) then Some keywords.Migrate
    else if bytes_eq text (keyword_text keywords.Batch) then Some keywords.Batch
    else if bytes_eq text (keyword_text keywords.Sample) then Some keywords.Sample
    else if bytes_eq text (keyword_text keywords.Sysupdate) then Some keywords.Sysupdate
    else if bytes_eq text (keyword_text keywords.Portable) then Some keywords.Portable
    else if bytes_eq text (keyword_text keywords.Mark) then Some keywords.Mark
    else if bytes_eq text (keyword_text keywords.History) then Some keywords.History
    else if bytes_eq text (keyword_text keywords.Rollback) then Some keywords.Rollback
    else if bytes_eq text (keyword_text keywords.Forget) then Some keywords.Forget
    else None

keyword_back : (k : Keyword) → keyword_of (keyword_text k) ≡ Some k
keyword_back keywords.Init = refl
keyword_back keywords.ImportFs = refl
keyword_back keywords.Remove = refl
keyword_back keywords.Sysext = refl
keyword_back keywords.Confext = refl
keyword_back keywords.Tree = refl
keyword_back keywords.Cat = refl
keyword_back keywords.Compare = refl
keyword_back keywords.Check = refl
keyword_back keywords.Layer = refl
keyword_back keywords.Migrate = refl
keyword_back keywords.Batch = refl
keyword_back keywords.Sample = refl
keyword_back keywords.Sysupdate = refl
keyword_back keywords.Portable = refl
keyword_back keywords.Mark = refl
keyword_back keywords.History = refl
keyword_back keywords.Rollback = refl
keyword_back keywords.Forget = refl

pub one_keyword : (k l : Keyword) → keyword_text k ≡ keyword_text l → k ≡ l
one_keyword k l same =
    let read : Some k ≡ Some l = sym (keyword_back k) ∙ ap keyword_of same ∙ keyword_back l in
    cc

-- the option is no path
no_option : (path : List (List ℕ)) → codes "--force" ≢ absolute path
no_option path same = cc

force_heard : (force : Bool) → Maybe IsForce HasNoMore (force_words force)
force_heard false = tt
force_heard true = (refl, tt)

view_heard : (view : ViewCommand) → IsViewCommand view → Chooses verb_text TakesVerb (view_words view)
view_heard views.List is = (verbs.List, refl, tt)
view_heard views.Status is = (verbs.Status, refl, tt)
view_heard (views.Merge force) is = (verbs.Merge, refl, force_heard force)
view_heard views.Unmerge is = (verbs.Unmerge, refl, tt)
view_heard (views.Refresh force) is = (verbs.Refresh, refl, force_heard force)
view_heard (views.Changes force) is = (verbs.Changes, refl, force_heard force)
view_heard (views.Explain false path) is = (verbs.Explain, refl, inl (record { value = path; is = is; same = refl }, tt))
view_heard (views.Explain true path) is = (verbs.Explain, refl, inr (refl, (record { value = path; is = is; same = refl }, tt)))

some_verb : BeginsWords (Chooses verb_text TakesVerb) []
some_verb = record { more = view_words views.List; whole = (verbs.List, refl, tt) }

pub no_verb : (words : List (List ℕ)) → words ≡ [] → RefusesWords (Chooses verb_text TakesVerb) words 2 (Usage 2)
no_verb words are = refuse_missing (Chooses verb_text TakesVerb) words 2 some_verb (λ none. none) are

pub unknown_verb : (word : List ℕ) (more words : List (List ℕ)) → words ≡ word ∷ more → ((verb : Verb) → word ≢ verb_text verb) → RefusesWords (Chooses verb_text TakesVerb) words 2 (Usage 2)
unknown_verb word more words are none = chooses_wrong verb_text TakesVerb word more words 2 some_verb are none

-- the words after `explain` are refused
pub no_path_said : (words : List (List ℕ)) → words ≡ [] → RefusesWords TakesExplained words 3 (Usage 3)
no_path_said words are = refuse_missing TakesExplained words 3 (record { more = some_below_root.more; whole = inl some_below_root.whole }) not_nothing are
  where
    not_nothing : TakesExplained [] → ⊥
    not_nothing (inl none) = none
    not_nothing (inr none) = none

-- after the option
pub forced_refused : (rest : List (List ℕ)) (e : CmdErr) → RefusesWords (Then IsBelowRootWord HasNoMore) rest 4 e → RefusesWords TakesExplained (codes "--force" ∷ rest) 3 e
forced_refused rest e refused =
    refuse_after TakesExplained (Then IsBelowRootWord HasNoMore) (codes "--force") rest (codes "--force" ∷ rest) 3 4 e refl after (λ more it. inr (refl, it)) refl refused
  where
    after : (more : List (List ℕ)) → TakesExplained (codes "--force" ∷ more) → Then IsBelowRootWord HasNoMore more
    after more (inl it) = absurd (no_option it.0.value it.0.same)
    after more (inr it) = it.1

-- and without it
pub unforced_refused : (word : List ℕ) (rest : List (List ℕ)) (e : CmdErr) → word ≢ codes "--force" → RefusesWords (Then IsBelowRootWord HasNoMore) (word ∷ rest) 3 e → RefusesWords TakesExplained (word ∷ rest) 3 e
unforced_refused word rest e other refused = refuse_wider (Then IsBelowRootWord HasNoMore) TakesExplained word rest 3 e (λ words it. inl it) back refused
  where
    back : (more : List (List ℕ)) → TakesExplained (word ∷ more) → Then IsBelowRootWord HasNoMore (word ∷ more)
    back more (inl it) = it
    back more (inr it) = absurd (other it.0)

-- what is read after a verb is read with it
pub read_verb : (word : List ℕ) (more words : List (List ℕ)) (verb : Verb) (result : Result ViewCommand CmdErr) → words ≡ word ∷ more → word ≡ verb_text verb → ReadsAfterVerb verb more result → ReadsPart view_words IsViewCommand (Chooses verb_text TakesVerb) words 2 result
read_verb word more words verb (Ok view) are is read = (read.0, are ∙ ap (λ (w : List ℕ). w ∷ more) is ∙ read.1)
read_verb word more words verb (Err e) are is read = chooses_after verb_text TakesVerb one_verb verb word more words 2 3 e refl is are read

chosen_heard : (hierarchies : Chosen) → AreChosen hierarchies → TakesChosen (chosen_words hierarchies)
chosen_heard chosen.Default are = tt
chosen_heard (chosen.Sysext names) are = (names, are.0, refl, are.1)
chosen_heard (chosen.Both names others) are = (names, are.0, refl, (record { value = others; is = record { hierarchies = are.1; apart = are.2 }; same = refl }, tt))

path_heard : (path : Option (List (List ℕ))) → IsOptionalPath path → Maybe IsPathWord HasNoMore (optional_words path)
path_heard None is = tt
path_heard (Some path) is = (record { value = path; is = is; same = refl }, tt)

keep_heard : (keep : Option ℕ) → IsOptionalKeep keep → Maybe IsKeepWord HasNoMore (keep_words keep)
keep_heard None is = tt
keep_heard (Some keep) is = (record { value = keep; is = is; same = refl }, tt)

-- the words of a command are a keyword and what it takes
heard : (c : Command) → IsWellFormed c → Chooses keyword_text Takes (command_words c)
heard (Init arch scope hierarchies) well =
    (keywords.Init, refl, (record { value = arch; is = tt; same = refl }, (record { value = scope; is = well.0; same = refl }, chosen_heard hierarchies well.1)))
heard (ImportFs resource path) well =
    (keywords.ImportFs, refl, (record { value = resource; is = well.0; same = refl }, (record { value = path; is = well.1; same = refl }, tt)))
heard (Remove path) well = (keywords.Remove, refl, (record { value = path; is = well; same = refl }, tt))
heard (Sysext view) well = (keywords.Sysext, refl, view_heard view well)
heard (Confext view) well = (keywords.Confext, refl, view_heard view well)
heard (Tree path) well = (keywords.Tree, refl, path_heard path well)
heard (Cat path) well = (keywords.Cat, refl, (record { value = path; is = well; same = refl }, tt))
heard (Compare a b) well = (keywords.Compare, refl, (tt, (tt, tt)))
heard Check well = (keywords.Check, refl, tt)
heard Layer well = (keywords.Layer, refl, tt)
heard Migrate well = (keywords.Migrate, refl, tt)
heard Batch well = (keywords.Batch, refl, tt)
heard (Sample images) well = (keywords.Sample, refl, (record { value = images; is = well; same = refl }, tt))
heard (Sysupdate None verb) well = (keywords.Sysupdate, refl, inl (asked_heard verb well.1))
heard (Sysupdate (Some name) verb) well = (keywords.Sysupdate, refl, inr (inr (record { value = name; is = well.0; same = refl }, asked_heard verb well.1)))
heard Components well = (keywords.Sysupdate, refl, inr (inl (refl, tt)))
heard (Portable port) well = (keywords.Portable, refl, port_heard port well)
heard (Mark keep) well = (keywords.Mark, refl, keep_heard keep well)
heard History well = (keywords.History, refl, tt)
heard (HistoryChanges mark) well = (keywords.History, refl, (refl, (record { value = mark; is = well; same = refl }, tt)))
heard (Rollback mark) well = (keywords.Rollback, refl, (record { value = mark; is = well; same = refl }, tt))
heard (Forget mark) well = (keywords.Forget, refl, (record { value = mark; is = well; same = refl }, tt))

-- the words that a verb takes are those of a view command
record View (words : List (List ℕ)) : Type 0 where
  pub view : ViewCommand
  pub is : IsViewCommand view
  pub same : words ≡ view_words view

verb_said : (verb : Verb) (more : List (List ℕ)) → TakesVerb verb more → View (verb_text verb ∷ more)
verb_said verbs.List [] takes = record { view = views.List; is = tt; same = refl }
verb_said verbs.List (word ∷ more) takes = absurd takes
verb_said verbs.Status [] takes = record { view = views.Status; is = tt; same = refl }
verb_said verbs.Status (word ∷ more) takes = absurd takes
verb_said verbs.Merge [] takes = record { view = views.Merge false; is = tt; same = refl }
verb_said verbs.Merge (word ∷ []) takes = record { view = views.Merge true; is = tt; same = ap (λ (w : List ℕ). codes "merge" ∷ w ∷ []) takes.0 }
verb_said verbs.Merge (word ∷ next ∷ more) takes = absurd takes.1
verb_said verbs.Unmerge [] takes = record { view = views.Unmerge; is = tt; same = refl }
verb_said verbs.Unmerge (word ∷ more) takes = absurd takes
verb_said verbs.Refresh [] takes = record { view = views.Refresh false; is = tt; same = refl }
verb_said verbs.Refresh (word ∷ []) takes = record { view = views.Refresh true; is = tt; same = ap (λ (w : List ℕ). codes "refresh" ∷ w ∷ []) takes.0 }
verb_said verbs.Refresh (word ∷ next ∷ more) takes = absurd takes.1
verb_said verbs.Changes [] takes = record { view = views.Changes false; is = tt; same = refl }
verb_said verbs.Changes (word ∷ []) takes = record { view = views.Changes true; is = tt; same = ap (λ (w : List ℕ). codes "changes" ∷ w ∷ []) takes.0 }
verb_said verbs.Changes (word ∷ next ∷ more) takes = absurd takes.1
verb_said verbs.Explain more takes = explained_said more takes
  where
    explained_said : (more : List (List ℕ)) → TakesExplained more → View (verb_text verbs.Explain ∷ more)
    explained_said [] (inl takes) = absurd takes
    explained_said [] (inr takes) = absurd takes
    explained_said (word ∷ []) (inl takes) =
        record { view = views.Explain false takes.0.value; is = takes.0.is; same = ap (λ (w : List ℕ). codes "explain" ∷ w ∷ []) takes.0.same }
    explained_said (word ∷ []) (inr takes) = absurd takes.1
    explained_said (word ∷ next ∷ more) (inl takes) = absurd takes.1
    explained_said (word ∷ next ∷ []) (inr takes) =
        record { view = views.Explain true takes.1.0.value; is = takes.1.0.is; same = cc (takes.0, takes.1.0.same) }
    explained_said (word ∷ next ∷ last ∷ more) (inr takes) = absurd takes.1.1

view_said : (words : List (List ℕ)) → Chooses verb_text TakesVerb words → View words
view_said [] takes = absurd takes
view_said (word ∷ more) takes = subst (λ (w : List ℕ). View (w ∷ more)) (sym takes.1) (verb_said takes.0 more takes.2)

record Lists (words : List (List ℕ)) : Type 0 where
  pub hierarchies : Chosen
  pub are : AreChosen hierarchies
  pub same : words ≡ chosen_words hierarchies

chosen_said : (words : List (List ℕ)) → TakesChosen words → Lists words
chosen_said [] takes = record { hierarchies = chosen.Default; are = tt; same = refl }
chosen_said (word ∷ []) takes = record { hierarchies = chosen.Sysext takes.0; are = (takes.1, takes.3); same = ap (λ (w : List ℕ). w ∷ []) takes.2 }
chosen_said (word ∷ next ∷ []) takes =
    let others = takes.3.0 in
    record { hierarchies = chosen.Both takes.0 others.value; are = (takes.1, others.is.hierarchies, others.is.apart); same = cc (takes.2, others.same) }
chosen_said (word ∷ next ∷ last ∷ more) takes = absurd takes.3.1

pub said : (keyword : Keyword) (more : List (List ℕ)) → Takes keyword more → IsCommand (keyword_text keyword ∷ more)
said keywords.Init [] takes = absurd takes
said keywords.Init (word ∷ []) takes = absurd takes.1
said keywords.Init (word ∷ next ∷ more) takes =
    let lists = chosen_said more takes.1.1 in
    record {
      command = Init takes.0.value takes.1.0.value lists.hierarchies;
      well_formed = (takes.1.0.is, lists.are);
      same = cc (takes.0.same, takes.1.0.same, lists.same);
    }
said keywords.ImportFs [] takes = absurd takes
said keywords.ImportFs (word ∷ []) takes = absurd takes.1
said keywords.ImportFs (word ∷ next ∷ []) takes =
    record { command = ImportFs takes.0.value takes.1.0.value; well_formed = (takes.0.is, takes.1.0.is); same = cc (takes.0.same, takes.1.0.same) }
said keywords.ImportFs (word ∷ next ∷ last ∷ more) takes = absurd takes.1.1
said keywords.Remove [] takes = absurd takes
said keywords.Remove (word ∷ []) takes = record { command = Remove takes.0.value; well_formed = takes.0.is; same = ap (λ (w : List ℕ). codes "remove" ∷ w ∷ []) takes.0.same }
said keywords.Remove (word ∷ next ∷ more) takes = absurd takes.1
said keywords.Sysext more takes =
    let view = view_said more takes in
    record { command = Sysext view.view; well_formed = view.is; same = ap (λ (ws : List (List ℕ)). codes "sysext" ∷ ws) view.same }
said keywords.Confext more takes =
    let view = view_said more takes in
    record { command = Confext view.view; well_formed = view.is; same = ap (λ (ws : List (List ℕ)). codes "confext" ∷ ws) view.same }
said keywords.Tree [] takes = record { command = Tree None; well_formed = tt; same = refl }
said keywords.Tree (word ∷ []) takes = record { command = Tree (Some takes.0.value); well_formed = takes.0.is; same = ap (λ (w : List ℕ). codes "tree" ∷ w ∷ []) takes.0.same }
said keywords.Tree (word ∷ next ∷ more) takes = absurd takes.1
said keywords.Cat [] takes = absurd takes
said keywords.Cat (word ∷ []) takes = record { command = Cat takes.0.value; well_formed = takes.0.is; same = ap (λ (w : List ℕ). codes "cat" ∷ w ∷ []) takes.0.same }
said keywords.Cat (word ∷ next ∷ more) takes = absurd takes.1
said keywords.Compare [] takes = absurd takes
said keywords.Compare (a ∷ []) takes = absurd takes.1
said keywords.Compare (a ∷ b ∷ []) takes = record { command = Compare a b; well_formed = tt; same = refl }
said keywords.Compare (a ∷ b ∷ c ∷ more) takes = absurd takes.1.1
said keywords.Check [] takes = record { command = Check; well_formed = tt; same = refl }
said keywords.Check (word ∷ more) takes = absurd takes
said keywords.Layer [] takes = record { command = Layer; well_formed = tt; same = refl }
said keywords.Layer (word ∷ more) takes = absurd takes
said keywords.Migrate [] takes = record { command = Migrate; well_formed = tt; same = refl }
said keywords.Migrate (word ∷ more) takes = absurd takes
said keywords.Batch [] takes = record { command = Batch; well_formed = tt; same = refl }
said keywords.Batch (word ∷ more) takes = absurd takes
said keywords.Sample [] takes = absurd takes
said keywords.Sample (word ∷ []) takes = record { command = Sample takes.0.value; well_formed = takes.0.is; same = ap (λ (w : List ℕ). codes "sample" ∷ w ∷ []) takes.0.same }
said keywords.Sample (word ∷ next ∷ more) takes = absurd takes.1
said keywords.Sysupdate more takes = update_said more takes
said keywords.Portable more takes = port_said more takes
said keywords.Mark [] takes = record { command = Mark None; well_formed = tt; same = refl }
said keywords.Mark (word ∷ []) takes =
    record { command = Mark (Some takes.0.value); well_formed = takes.0.is; same = ap (λ (w : List ℕ). codes "mark" ∷ w ∷ []) takes.0.same }
said keywords.Mark (word ∷ next ∷ more) takes = absurd takes.1
said keywords.History [] takes = record { command = History; well_formed = tt; same = refl }
said keywords.History (word ∷ []) takes = absurd takes.1
said keywords.History (word ∷ next ∷ []) takes =
    record { command = HistoryChanges takes.1.0.value; well_formed = takes.1.0.is; same = cc (takes.0, takes.1.0.same) }
said keywords.History (word ∷ next ∷ last ∷ more) takes = absurd takes.1.1
said keywords.Rollback [] takes = absurd takes
said keywords.Rollback (word ∷ []) takes = record { command = Rollback takes.0.value; well_formed = takes.0.is; same = ap (λ (w : List ℕ). codes "rollback" ∷ w ∷ []) takes.0.same }
said keywords.Rollback (word ∷ next ∷ more) takes = absurd takes.1
said keywords.Forget [] takes = absurd takes
said keywords.Forget (word ∷ []) takes = record { command = Forget takes.0.value; well_formed = takes.0.is; same = ap (λ (w : List ℕ). codes "forget" ∷ w ∷ []) takes.0.same }
said keywords.Forget (word ∷ next ∷ more) takes = absurd takes.1

pub command_heard : (words : List (List ℕ)) → IsCommand words → Chooses keyword_text Takes words
command_heard words is = subst (Chooses keyword_text Takes) (sym is.same) (heard is.command is.well_formed)

command_said : (words : List (List ℕ)) → Chooses keyword_text Takes words → IsCommand words
command_said [] takes = absurd takes
command_said (word ∷ more) takes = subst (λ (w : List ℕ). IsCommand (w ∷ more)) (sym takes.1) (said takes.0 more takes.2)

-- and their faults are the same
usage : (words : List (List ℕ)) (e : CmdErr) → RefusesWords (Chooses keyword_text Takes) words 1 e → ReadsWords words (Err e)
usage words OutOfMemory refused = tt
usage words (Usage place) refused = same_fault (Chooses keyword_text Takes) IsCommand words 1 place command_said command_heard refused

some_keyword : BeginsWords (Chooses keyword_text Takes) []
some_keyword = record { more = command_words Layer; whole = (keywords.Layer, refl, tt) }

pub no_command : (words : List (List ℕ)) → words ≡ [] → ReadsWords words (Err (Usage 1))
no_command words are = usage words (Usage 1) (refuse_missing (Chooses keyword_text Takes) words 1 some_keyword (λ none. none) are)

pub unknown_keyword : (word : List ℕ) (more : List (List ℕ)) → ((keyword : Keyword) → word ≢ keyword_text keyword) → ReadsWords (word ∷ more) (Err (Usage 1))
unknown_keyword word more none = usage (word ∷ more) (Usage 1) (chooses_wrong keyword_text Takes word more (word ∷ more) 1 some_keyword refl none)

-- what is read after a keyword is read with it
pub read_keyword : (word : List ℕ) (more : List (List ℕ)) (keyword : Keyword) (result : Result Command CmdErr) → word ≡ keyword_text keyword → ReadsAfter keyword more result → ReadsWords (word ∷ more) result
read_keyword word more keyword (Ok command) is read = (read.0, ap (λ (w : List ℕ). w ∷ more) is ∙ read.1)
read_keyword word more keyword (Err e) is read =
    usage (word ∷ more) e (chooses_after keyword_text Takes one_keyword keyword word more (word ∷ more) 1 2 e refl is refl read)
