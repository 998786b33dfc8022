-- The words that say which command is meant. They are this project's own; the verbs of views are those of
-- systemd-sysext(8) with `changes` and `explain`, what is asked of updates is asked by the verbs of systemd-sysupdate(8), those of
-- portable services are those of portablectl(1).
use Rattle.std.specs.Prelude.{◌≡◌, ◌≢◌, ℕ, List, codes, Option, Some, None}
use Rattle.ext_cmd.specs.declared.keyword.Keyword.{Keyword}
use Rattle.ext_cmd.specs.declared.keyword.Keyword.TheVariants.{Init, ImportFs, Remove, Sysext, Confext}
use Rattle.ext_cmd.specs.declared.keyword.Keyword.TheVariants.{Tree, Cat, Compare, Check, Layer, Migrate, Batch, Sample, Sysupdate, Portable}
use Rattle.ext_cmd.specs.declared.keyword.Keyword.TheVariants.{Mark, History, Rollback, Forget}
use Rattle.ext_cmd.specs.declared.keyword.PortWord.{PortWord}
use Rattle.ext_cmd.specs.declared.keyword.PortWord.TheVariants as ports
use Rattle.ext_cmd.specs.declared.keyword.UpdateWord.{UpdateWord}
use Rattle.ext_cmd.specs.declared.keyword.UpdateWord.TheVariants as asks
use Rattle.ext_cmd.specs.declared.keyword.Verb.{Verb}
use Rattle.ext_cmd.specs.declared.keyword.Verb.TheVariants as verbs

-- the text of a keyword
abbrev pub keyword_text : Keyword → List ℕ
keyword_text Init = codes "init"
keyword_text ImportFs = codes "import-fs"
keyword_text Remove = codes "remove"
keyword_text Sysext = codes "sysext"
keyword_text Confext = codes "confext"
keyword_text Tree = codes "tree"
keyword_text Cat = codes "cat"
keyword_text Compare = codes "compare"
keyword_text Check = codes "check"
keyword_text Layer = codes "layer"
keyword_text Migrate = codes "migrate"
keyword_text Batch = codes "batch"
keyword_text Sample = codes "sample"
keyword_text Sysupdate = codes "sysupdate"
keyword_text Portable = codes "portable"
keyword_text Mark = codes "mark"
keyword_text History = codes "history"
keyword_text Rollback = codes "rollback"
keyword_text Forget = codes "forget"

-- what reading a text gives: the keyword of this text, or that it is none
abbrev pub ReadsKeyword : List ℕ → Option Keyword → Type 0
ReadsKeyword text (Some keyword) = text ≡ keyword_text keyword
ReadsKeyword text None = (keyword : Keyword) → text ≢ keyword_text keyword

-- the text of a verb
abbrev pub verb_text : Verb → List ℕ
verb_text verbs.List = codes "list"
verb_text verbs.Status = codes "status"
verb_text verbs.Merge = codes "merge"
verb_text verbs.Unmerge = codes "unmerge"
verb_text verbs.Refresh = codes "refresh"
verb_text verbs.Changes = codes "changes"
verb_text verbs.Explain = codes "explain"

-- the verb of a word, or that the word is none
abbrev pub ReadsVerb : List ℕ → Option Verb → Type 0
ReadsVerb text (Some verb) = text ≡ verb_text verb
ReadsVerb text None = (verb : Verb) → text ≢ verb_text verb

-- the word by which something is asked of updates
abbrev pub update_word_text : UpdateWord → List ℕ
update_word_text asks.List = codes "list"
update_word_text asks.CheckNew = codes "check-new"
update_word_text asks.Update = codes "update"
update_word_text asks.Vacuum = codes "vacuum"
update_word_text asks.Features = codes "features"

-- what is asked by a word, or that the word asks nothing
abbrev pub ReadsUpdateWord : List ℕ → Option UpdateWord → Type 0
ReadsUpdateWord text (Some asked) = text ≡ update_word_text asked
ReadsUpdateWord text None = (asked : UpdateWord) → text ≢ update_word_text asked

-- the word by which something is done with portable services
abbrev pub port_word_text : PortWord → List ℕ
port_word_text ports.List = codes "list"
port_word_text ports.Inspect = codes "inspect"
port_word_text ports.IsAttached = codes "is-attached"
port_word_text ports.Attach = codes "attach"
port_word_text ports.Detach = codes "detach"
port_word_text ports.Reattach = codes "reattach"

-- what is done by a word, or that the word does nothing
abbrev pub ReadsPortWord : List ℕ → Option PortWord → Type 0
ReadsPortWord text (Some word) = text ≡ port_word_text word
ReadsPortWord text None = (word : PortWord) → text ≢ port_word_text word
