-- Words are those of one command.
use Rattle.std.proofs.Common.{◌≡◌, ◌≢◌, ℕ, List, [], ◌∷◌, ◌++◌, codes, refl, sym, ap, ◌∙◌, subst, arith, if◌then◌else◌, inl, inr}
use Rattle.std.specs.Prelude.{◌⊎◌, decimal, Option, Some, None, Result, Ok, Err}
use Rattle.std.specs.Str.{bytes_eq}
use Rattle.std.proofs.lemmas.Fmt.{decimal_injective}
use Rattle.ext_text.specs.Arch.{arch_name}
use Rattle.ext_text.specs.declared.arch.Arch.{Arch}
use Rattle.ext_text.specs.declared.arch.Arch.TheVariants as archs
use Rattle.ext_text.specs.Path.{IsPath, path_text}
use Rattle.ext_text.specs.Scope.{scope_name}
use Rattle.ext_text.specs.declared.scope.Scope.{Scope}
use Rattle.ext_text.specs.declared.scope.Scope.TheVariants as scopes
use Rattle.ext_text.proofs.ForCallers.{path_injective}
use Rattle.ext_cmd.specs.Keyword.{keyword_text}
use Rattle.ext_cmd.specs.Reading.{ReadsWords}
use Rattle.ext_cmd.specs.Resource.{IsResource}
use Rattle.ext_cmd.specs.Plain.{IsBelowRoot}
use Rattle.ext_cmd.specs.Portable.{IsPortCommand, port_words}
use Rattle.ext_cmd.specs.Words.{AreChosen, IsCommand, IsImages, IsMarkNumber, IsOptionalKeep, IsOptionalPath, IsViewCommand, IsWellFormed, chosen_words, command_words, component_word, component_words, keep_words, mark_words, optional_words, path_words, update_words, view_words}
use Rattle.ext_cmd.specs.declared.command.Chosen.{Chosen}
use Rattle.ext_cmd.specs.declared.command.Chosen.TheVariants as chosen
use Rattle.ext_cmd.specs.declared.command.Command.{Command}
use Rattle.ext_cmd.specs.declared.command.Command.TheVariants.{Init, ImportFs, Remove, Sysext, Confext, Tree, Cat, Compare, Check, Layer, Migrate, Batch, Sample, Sysupdate, Components, Portable, Mark, History, HistoryChanges, Rollback, Forget}
use Rattle.ext_cmd.specs.declared.command.UpdateVerb.{UpdateVerb}
use Rattle.ext_cmd.specs.declared.command.UpdateVerb.TheVariants as updates
use Rattle.ext_cmd.specs.declared.command.ViewCommand.{ViewCommand}
use Rattle.ext_cmd.specs.declared.keyword.Keyword.{Keyword}
use Rattle.ext_cmd.specs.declared.keyword.Keyword.TheVariants as keywords
use Rattle.ext_cmd.specs.declared.keyword.UpdateWord.{UpdateWord}
use Rattle.ext_cmd.specs.declared.keyword.UpdateWord.TheVariants as asks
use Rattle.ext_cmd.specs.declared.portable.PortCommand.{PortCommand}
use Rattle.ext_cmd.specs.declared.words.CmdErr.{CmdErr}
use Rattle.ext_cmd.specs.declared.words.CmdErr.TheVariants.{OutOfMemory, Usage}
use Rattle.ext_cmd.proofs.CommandLemmas.{one_keyword}
use Rattle.ext_cmd.proofs.HierarchyLemmas.{one_list}
use Rattle.ext_cmd.proofs.OneFaultLemmas.{no_fault}
use Rattle.ext_cmd.proofs.OnePortLemmas.{one_port}
use Rattle.ext_cmd.proofs.OneViewLemmas.{one_view}
use Rattle.ext_cmd.proofs.UpdateLemmas.{update_word_of}
use Rattle.ext_cmd.proofs.WordLemmas.{one_path}

abbrev arch_of : List ℕ → Option Arch
arch_of text =
    if bytes_eq text (arch_name archs.X86) then Some archs.X86
    else if bytes_eq text (arch_name archs.X86_64) then Some archs.X86_64
    else if bytes_eq text (arch_name archs.Arm) then Some archs.Arm
    else if bytes_eq text (arch_name archs.Arm64) then Some archs.Arm64
    else if bytes_eq text (arch_name archs.Riscv64) then Some archs.Riscv64
    else if bytes_eq text (arch_name archs.S390x) then Some archs.S390x
    else if bytes_eq text (arch_name archs.Ppc64Le) then Some archs.Ppc64Le
    else if bytes_eq text (arch_name archs.Loongarch64) then Some archs.Loongarch64
    else None

arch_back : (a : Arch) → arch_of (arch_name a) ≡ Some a
arch_back archs.X86 = refl
arch_back archs.X86_64 = refl
arch_back archs.Arm = refl
arch_back archs.Arm64 = refl
arch_back archs.Riscv64 = refl
arch_back archs.S390x = refl
arch_back archs.Ppc64Le = refl
arch_back archs.Loongarch64 = refl

one_arch : (a b : Arch) → arch_name a ≡ arch_name b → a ≡ b
one_arch a b same =
    let read : Some a ≡ Some b = sym (arch_back a) ∙ ap arch_of same ∙ arch_back b in
    cc

abbrev scope_of : List ℕ → Option Scope
scope_of text =
    if bytes_eq text (scope_name scopes.System) then Some scopes.System
    else if bytes_eq text (scope_name scopes.Initrd) then Some scopes.Initrd
    else if bytes_eq text (scope_name scopes.Portable) then Some scopes.Portable
    else None

scope_back : (s : Scope) → scope_of (scope_name s) ≡ Some s
scope_back scopes.System = refl
scope_back scopes.Initrd = refl
scope_back scopes.Portable = refl

one_scope : (s t : Scope) → scope_name s ≡ scope_name t → s ≡ t
one_scope s t same =
    let read : Some s ≡ Some t = sym (scope_back s) ∙ ap scope_of same ∙ scope_back t in
    cc

one_optional : (p q : Option (List (List ℕ))) → IsOptionalPath p → IsOptionalPath q → optional_words p ≡ optional_words q → p ≡ q
one_optional None None is also same = refl
one_optional None (Some q) is also same = cc
one_optional (Some p) None is also same = cc
one_optional (Some p) (Some q) is also same = ap (λ (r : List (List ℕ)). Some r) (one_path p q is also (cc))

one_chosen : (c d : Chosen) → AreChosen c → AreChosen d → chosen_words c ≡ chosen_words d → c ≡ d
one_chosen chosen.Default chosen.Default are also same = refl
one_chosen chosen.Default (chosen.Sysext m) are also same = cc
one_chosen chosen.Default (chosen.Both m n) are also same = cc
one_chosen (chosen.Sysext k) chosen.Default are also same = cc
one_chosen (chosen.Sysext k) (chosen.Sysext m) are also same = ap (λ (ns : List (List ℕ)). chosen.Sysext ns) (one_list k m are.0 also.0 (cc))
one_chosen (chosen.Sysext k) (chosen.Both m n) are also same = cc
one_chosen (chosen.Both k l) chosen.Default are also same = cc
one_chosen (chosen.Both k l) (chosen.Sysext m) are also same = cc
one_chosen (chosen.Both k l) (chosen.Both m n) are also same =
    let first : k ≡ m = one_list k m are.0 also.0 (cc) in
    let second : l ≡ n = one_list l n are.1 also.1 (cc) in
    cc

one_keep : (k l : Option ℕ) → IsOptionalKeep k → IsOptionalKeep l → keep_words k ≡ keep_words l → k ≡ l
one_keep None None is also same = refl
one_keep None (Some l) is also same = cc
one_keep (Some k) None is also same = cc
one_keep (Some k) (Some l) is also same = ap (λ (n : ℕ). Some n) (decimal_injective k l (omega (arith, is.1)) (omega (arith, also.1)) (cc))

one_mark : (m n : ℕ) → IsMarkNumber m → IsMarkNumber n → mark_words m ≡ mark_words n → m ≡ n
one_mark m n is also same = decimal_injective m n (omega (arith, is.1)) (omega (arith, also.1)) (cc)

abbrev update_after : Option UpdateWord → List (List ℕ) → Option UpdateVerb
update_after None more = None
update_after (Some asks.List) more = Some updates.List
update_after (Some asks.CheckNew) more = Some updates.CheckNew
update_after (Some asks.Update) [] = Some (updates.Update None)
update_after (Some asks.Update) (word ∷ more) = Some (updates.Update (Some word))
update_after (Some asks.Vacuum) more = Some updates.Vacuum
update_after (Some asks.Features) more = Some updates.Features

abbrev update_of : List (List ℕ) → Option UpdateVerb
update_of [] = None
update_of (word ∷ more) = update_after (update_word_of word) more

update_back : (v : UpdateVerb) → update_of (update_words v) ≡ Some v
update_back updates.List = refl
update_back updates.CheckNew = refl
update_back (updates.Update None) = refl
update_back (updates.Update (Some version)) = refl
update_back updates.Vacuum = refl
update_back updates.Features = refl

one_update : (v w : UpdateVerb) → update_words v ≡ update_words w → v ≡ w
one_update v w same =
    let read : Some v ≡ Some w = sym (update_back v) ∙ ap update_of same ∙ update_back w in
    cc

-- what is asked begins neither with the option of a component
no_option : (v : UpdateVerb) (name : List ℕ) (more : List (List ℕ)) → update_words v ≢ component_word name ∷ more
no_option updates.List name more same = cc
no_option updates.CheckNew name more same = cc
no_option (updates.Update version) name more same = cc
no_option updates.Vacuum name more same = cc
no_option updates.Features name more same = cc

-- nor with `components`
no_components : (v : UpdateVerb) → update_words v ≢ codes "components" ∷ []
no_components updates.List same = cc
no_components updates.CheckNew same = cc
no_components (updates.Update version) same = cc
no_components updates.Vacuum same = cc
no_components updates.Features same = cc

-- the words of what is asked of updates
record Asks (more : List (List ℕ)) (c : Command) : Type 0 where
  pub component : Option (List ℕ)
  pub verb : UpdateVerb
  pub words : more ≡ component_words component ++ update_words verb
  pub command : c ≡ Sysupdate component verb

one_asked : (o p : Option (List ℕ)) (v w : UpdateVerb) → component_words o ++ update_words v ≡ component_words p ++ update_words w → Sysupdate o v ≡ Sysupdate p w
one_asked None None v w same = ap (λ (x : UpdateVerb). Sysupdate None x) (one_update v w same)
one_asked None (Some n) v w same = absurd (no_option v n (update_words w) same)
one_asked (Some m) None v w same = absurd (no_option w m (update_words v) (sym same))
one_asked (Some m) (Some n) v w same =
    let name : m ≡ n = cc in
    let verb : v ≡ w = one_update v w (cc) in
    cc

not_components : (o : Option (List ℕ)) (v : UpdateVerb) → component_words o ++ update_words v ≢ codes "components" ∷ []
not_components None v same = no_components v same
not_components (Some name) v same = cc

-- the changes since a mark
record Since (more : List (List ℕ)) (c : Command) : Type 0 where
  pub mark : ℕ
  pub is : IsMarkNumber mark
  pub words : more ≡ codes "--changes" ∷ mark_words mark
  pub command : c ≡ HistoryChanges mark

abbrev Gives : Keyword → List (List ℕ) → Command → Type 0
Gives keywords.Init more c = (a : Arch) × (s : Scope) × (h : Chosen) × AreChosen h × (more ≡ arch_name a ∷ scope_name s ∷ chosen_words h) × (c ≡ Init a s h)
Gives keywords.ImportFs more c = (r : List (List ℕ)) × (p : List (List ℕ)) × IsResource r × IsPath p × (more ≡ path_text r ∷ path_words p) × (c ≡ ImportFs r p)
Gives keywords.Remove more c = (p : List (List ℕ)) × IsBelowRoot p × (more ≡ path_words p) × (c ≡ Remove p)
Gives keywords.Sysext more c = (v : ViewCommand) × IsViewCommand v × (more ≡ view_words v) × (c ≡ Sysext v)
Gives keywords.Confext more c = (v : ViewCommand) × IsViewCommand v × (more ≡ view_words v) × (c ≡ Confext v)
Gives keywords.Tree more c = (p : Option (List (List ℕ))) × IsOptionalPath p × (more ≡ optional_words p) × (c ≡ Tree p)
Gives keywords.Cat more c = (p : List (List ℕ)) × IsBelowRoot p × (more ≡ path_words p) × (c ≡ Cat p)
Gives keywords.Compare more c = (a : List ℕ) × (b : List ℕ) × (more ≡ a ∷ b ∷ []) × (c ≡ Compare a b)
Gives keywords.Check more c = c ≡ Check
Gives keywords.Layer more c = c ≡ Layer
Gives keywords.Migrate more c = c ≡ Migrate
Gives keywords.Batch more c = c ≡ Batch
Gives keywords.Sample more c = (n : ℕ) × IsImages n × (more ≡ decimal n ∷ []) × (c ≡ Sample n)
Gives keywords.Portable more c = (p : PortCommand) × IsPortCommand p × (more ≡ port_words p) × (c ≡ Portable p)
Gives keywords.Mark more c = (k : Option ℕ) × IsOptionalKeep k × (more ≡ keep_words k) × (c ≡ Mark k)
Gives keywords.History more c = ((more ≡ []) × (c ≡ History)) ⊎ Since more c
Gives keywords.Rollback more c = (n : ℕ) × IsMarkNumber n × (more ≡ mark_words n) × (c ≡ Rollback n)
Gives keywords.Forget more c = (n : ℕ) × IsMarkNumber n × (more ≡ mark_words n) × (c ≡ Forget n)
Gives keywords.Sysupdate more c = Asks more c ⊎ ((more ≡ codes "components" ∷ []) × (c ≡ Components))

record Given (c : Command) (words : List (List ℕ)) : Type 0 where
  pub keyword : Keyword
  pub more : List (List ℕ)
  pub same : words ≡ keyword_text keyword ∷ more
  pub gives : Gives keyword more c

given : (c : Command) → IsWellFormed c → Given c (command_words c)
given (Init a s h) well = record { keyword = keywords.Init; more = arch_name a ∷ scope_name s ∷ chosen_words h; same = refl; gives = (a, s, h, well.1, refl, refl) }
given (ImportFs r p) well = record { keyword = keywords.ImportFs; more = path_text r ∷ path_words p; same = refl; gives = (r, p, well.0, well.1, refl, refl) }
given (Remove p) well = record { keyword = keywords.Remove; more = path_words p; same = refl; gives = (p, well, refl, refl) }
given (Sysext v) well = record { keyword = keywords.Sysext; more = view_words v; same = refl; gives = (v, well, refl, refl) }
given (Confext v) well = record { keyword = keywords.Confext; more = view_words v; same = refl; gives = (v, well, refl, refl) }
given (Tree p) well = record { keyword = keywords.Tree; more = optional_words p; same = refl; gives = (p, well, refl, refl) }
given (Cat p) well = record { keyword = keywords.Cat; more = path_words p; same = refl; gives = (p, well, refl, refl) }
given (Compare a b) well = record { keyword = keywords.Compare; more = a ∷ b ∷ []; same = refl; gives = (a, b, refl, refl) }
given Check well = record { keyword = keywords.Check; more = []; same = refl; gives = refl }
given Layer well = record { keyword = keywords.Layer; more = []; same = refl; gives = refl }
given Migrate well = record { keyword = keywords.Migrate; more = []; same = refl; gives = refl }
given Batch well = record { keyword = keywords.Batch; more = []; same = refl; gives = refl }
given (Sysupdate o v) well = record {
  keyword = keywords.Sysupdate;
  more = component_words o ++ update_words v;
  same = refl;
  gives = inl (record { component = o; verb = v; words = refl; command = refl });
}
given Components well = record { keyword = keywords.Sysupdate; more = codes "components" ∷ []; same = refl; gives = inr (refl, refl) }
given (Portable p) well = record { keyword = keywords.Portable; more = port_words p; same = refl; gives = (p, well, refl, refl) }
given (Mark k) well = record { keyword = keywords.Mark; more = keep_words k; same = refl; gives = (k, well, refl, refl) }
given History well = record { keyword = keywords.History; more = []; same = refl; gives = inl (refl, refl) }
given (HistoryChanges n) well = record {
  keyword = keywords.History;
  more = codes "--changes" ∷ mark_words n;
  same = refl;
  gives = inr (record { mark = n; is = well; words = refl; command = refl });
}
given (Rollback n) well = record { keyword = keywords.Rollback; more = mark_words n; same = refl; gives = (n, well, refl, refl) }
given (Forget n) well = record { keyword = keywords.Forget; more = mark_words n; same = refl; gives = (n, well, refl, refl) }
given (Sample n) well = record { keyword = keywords.Sample; more = decimal n ∷ []; same = refl; gives = (n, well, refl, refl) }

one_given : (k : Keyword) (more : List (List ℕ)) (c d : Command) → Gives k more c → Gives k more d → c ≡ d
one_given keywords.Init more c d (a, s, h, are, is, c_is) (b, t, g, also, was, d_is) =
    let words = sym is ∙ was in
    let arch : a ≡ b = one_arch a b (cc) in
    let scope : s ≡ t = one_scope s t (cc) in
    let lists : h ≡ g = one_chosen h g are also (cc) in
    cc
one_given keywords.ImportFs more c d (r, p, resource, path, is, c_is) (q, o, other, also, was, d_is) =
    let words = sym is ∙ was in
    let first : r ≡ q = path_injective r q resource.within other.within (cc) in
    let second : p ≡ o = one_path p o path also (cc) in
    cc
one_given keywords.Remove more c d (p, path, is, c_is) (q, also, was, d_is) =
    let words = sym is ∙ was in
    let same : p ≡ q = one_path p q path.within also.within (cc) in
    cc
one_given keywords.Sysext more c d (v, well, is, c_is) (w, also, was, d_is) = let same : v ≡ w = one_view v w well also (sym is ∙ was) in cc
one_given keywords.Confext more c d (v, well, is, c_is) (w, also, was, d_is) = let same : v ≡ w = one_view v w well also (sym is ∙ was) in cc
one_given keywords.Tree more c d (p, path, is, c_is) (q, also, was, d_is) = let same : p ≡ q = one_optional p q path also (sym is ∙ was) in cc
one_given keywords.Cat more c d (p, path, is, c_is) (q, also, was, d_is) =
    let words = sym is ∙ was in
    let same : p ≡ q = one_path p q path.within also.within (cc) in
    cc
one_given keywords.Compare more c d (a, b, is, c_is) (x, y, was, d_is) = cc
one_given keywords.Check more c d c_is d_is = c_is ∙ sym d_is
one_given keywords.Layer more c d c_is d_is = c_is ∙ sym d_is
one_given keywords.Migrate more c d c_is d_is = c_is ∙ sym d_is
one_given keywords.Batch more c d c_is d_is = c_is ∙ sym d_is
one_given keywords.Sysupdate more c d (inl a) (inl b) =
    a.command ∙ one_asked a.component b.component a.verb b.verb (sym a.words ∙ b.words) ∙ sym b.command
one_given keywords.Sysupdate more c d (inl a) (inr (was, d_is)) = absurd (not_components a.component a.verb (sym a.words ∙ was))
one_given keywords.Sysupdate more c d (inr (is, c_is)) (inl b) = absurd (not_components b.component b.verb (sym b.words ∙ is))
one_given keywords.Sysupdate more c d (inr (is, c_is)) (inr (was, d_is)) = c_is ∙ sym d_is
one_given keywords.Portable more c d (p, well, is, c_is) (q, also, was, d_is) = let same : p ≡ q = one_port p q well also (sym is ∙ was) in cc
one_given keywords.Mark more c d (k, well, is, c_is) (l, also, was, d_is) = let same : k ≡ l = one_keep k l well also (sym is ∙ was) in cc
one_given keywords.History more c d (inl a) (inl b) = a.1 ∙ sym b.1
one_given keywords.History more c d (inl a) (inr b) = absurd (cc (a.0, b.words))
one_given keywords.History more c d (inr a) (inl b) = absurd (cc (a.words, b.0))
one_given keywords.History more c d (inr a) (inr b) =
    let words = sym a.words ∙ b.words in
    let same : a.mark ≡ b.mark = one_mark a.mark b.mark a.is b.is (cc) in
    a.command ∙ ap (λ (n : ℕ). HistoryChanges n) same ∙ sym b.command
one_given keywords.Rollback more c d (m, well, is, c_is) (n, also, was, d_is) = let same : m ≡ n = one_mark m n well also (sym is ∙ was) in cc
one_given keywords.Forget more c d (m, well, is, c_is) (n, also, was, d_is) = let same : m ≡ n = one_mark m n well also (sym is ∙ was) in cc
one_given keywords.Sample more c d (m, few, is, c_is) (n, also, was, d_is) =
    let words = sym is ∙ was in
    let same : m ≡ n = decimal_injective m n (omega (arith, few.1)) (omega (arith, also.1)) (cc) in
    cc

-- words are those of one command
pub one_command : (c d : Command) → IsWellFormed c → IsWellFormed d → command_words c ≡ command_words d → c ≡ d
one_command c d well also same =
    let f = given c well in
    let g = given d also in
    let words : keyword_text f.keyword ∷ f.more ≡ keyword_text g.keyword ∷ g.more = sym f.same ∙ same ∙ g.same in
    let keyword : f.keyword ≡ g.keyword = one_keyword f.keyword g.keyword (cc) in
    let more : f.more ≡ g.more = cc in
    one_given g.keyword g.more c d (subst (λ (k : Keyword). Gives k g.more c) keyword (subst (λ (ws : List (List ℕ)). Gives f.keyword ws c) more f.gives)) g.gives

-- a command's words are read as that command, or find no memory
pub reads_back : (command : Command) (result : Result Command CmdErr) → IsWellFormed command → ReadsWords (command_words command) result → (result ≡ Ok command) ⊎ (result ≡ Err OutOfMemory)
reads_back command (Ok other) well reads = inl (ap (λ (c : Command). Ok c) (one_command other command reads.0 well (sym reads.1)))
reads_back command (Err OutOfMemory) well reads = inr refl
reads_back command (Err (Usage place)) well reads = absurd (no_fault IsCommand (command_words command) 1 place (record { command = command; well_formed = well; same = refl }) reads)
