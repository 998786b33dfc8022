-- Words after `sysext` and `confext` are those of one command on extensions.
use Rattle.std.proofs.Common.{◌≡◌, ℕ, true, false, List, [], ◌∷◌, refl, sym, ap, ◌∙◌}
use Rattle.std.specs.Prelude.{Option, Some, None}
use Rattle.ext_text.specs.Absolute.{absolute}
use Rattle.ext_text.specs.Path.{IsPath}
use Rattle.ext_cmd.specs.Words.{IsViewCommand, view_words}
use Rattle.ext_cmd.specs.declared.command.ViewCommand.{ViewCommand}
use Rattle.ext_cmd.specs.declared.command.ViewCommand.TheVariants as views
use Rattle.ext_cmd.specs.declared.keyword.Verb.{Verb}
use Rattle.ext_cmd.specs.declared.keyword.Verb.TheVariants as verbs
use Rattle.ext_cmd.proofs.CommandLemmas.{verb_of}
use Rattle.ext_cmd.proofs.WordLemmas.{one_path, root}

-- the path that is named, or the root where none is
abbrev path_in : ViewCommand → List (List ℕ)
path_in views.List = []
path_in views.Status = []
path_in (views.Merge force) = []
path_in views.Unmerge = []
path_in (views.Refresh force) = []
path_in (views.Changes force) = []
path_in (views.Explain force path) = path

path_in_is : (v : ViewCommand) → IsViewCommand v → IsPath (path_in v)
path_in_is views.List is = root
path_in_is views.Status is = root
path_in_is (views.Merge force) is = root
path_in_is views.Unmerge is = root
path_in_is (views.Refresh force) is = root
path_in_is (views.Changes force) is = root
path_in_is (views.Explain force path) is = is.within

-- its word, in words
abbrev word_after : Option Verb → List (List ℕ) → List ℕ
word_after (Some verbs.Explain) (word ∷ []) = word
word_after (Some verbs.Explain) (word ∷ next ∷ more) = next
word_after _ more = absolute []

abbrev word_in : List (List ℕ) → List ℕ
word_in [] = absolute []
word_in (word ∷ more) = word_after (verb_of word) more

word_back : (v : ViewCommand) → word_in (view_words v) ≡ absolute (path_in v)
word_back views.List = refl
word_back views.Status = refl
word_back (views.Merge false) = refl
word_back (views.Merge true) = refl
word_back views.Unmerge = refl
word_back (views.Refresh false) = refl
word_back (views.Refresh true) = refl
word_back (views.Changes false) = refl
word_back (views.Changes true) = refl
word_back (views.Explain false path) = refl
word_back (views.Explain true path) = refl

-- what words are, where this path is named
abbrev view_after : List (List ℕ) → Option Verb → List (List ℕ) → Option ViewCommand
view_after path None more = None
view_after path (Some verbs.List) more = Some views.List
view_after path (Some verbs.Status) more = Some views.Status
view_after path (Some verbs.Merge) [] = Some (views.Merge false)
view_after path (Some verbs.Merge) (word ∷ more) = Some (views.Merge true)
view_after path (Some verbs.Unmerge) more = Some views.Unmerge
view_after path (Some verbs.Refresh) [] = Some (views.Refresh false)
view_after path (Some verbs.Refresh) (word ∷ more) = Some (views.Refresh true)
view_after path (Some verbs.Changes) [] = Some (views.Changes false)
view_after path (Some verbs.Changes) (word ∷ more) = Some (views.Changes true)
view_after path (Some verbs.Explain) [] = None
view_after path (Some verbs.Explain) (word ∷ []) = Some (views.Explain false path)
view_after path (Some verbs.Explain) (word ∷ next ∷ more) = Some (views.Explain true path)

abbrev view_of : List (List ℕ) → List (List ℕ) → Option ViewCommand
view_of path [] = None
view_of path (word ∷ more) = view_after path (verb_of word) more

view_back : (v : ViewCommand) → view_of (path_in v) (view_words v) ≡ Some v
view_back views.List = refl
view_back views.Status = refl
view_back (views.Merge false) = refl
view_back (views.Merge true) = refl
view_back views.Unmerge = refl
view_back (views.Refresh false) = refl
view_back (views.Refresh true) = refl
view_back (views.Changes false) = refl
view_back (views.Changes true) = refl
view_back (views.Explain false path) = refl
view_back (views.Explain true path) = refl

pub one_view : (v w : ViewCommand) → IsViewCommand v → IsViewCommand w → view_words v ≡ view_words w → v ≡ w
one_view v w is also same =
    let path : path_in v ≡ path_in w = one_path (path_in v) (path_in w) (path_in_is v is) (path_in_is w also) (sym (word_back v) ∙ ap word_in same ∙ word_back w) in
    let read : Some v ≡ Some w = sym (view_back v) ∙ ap (view_of (path_in v)) same ∙ ap (λ (p : List (List ℕ)). view_of p (view_words w)) path ∙ view_back w in
    cc
