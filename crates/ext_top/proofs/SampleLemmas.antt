-- The lines of a sample, carried out one after another on a disk in memory, and what the state comes to that they leave.
use Rattle.std.proofs.Common.{◌≡◌, ℕ, true, false, List, [], ◌∷◌, ◌++◌, inl, inr, Option, Some, None, Result, Ok, refl, sym, ap, ◌∙◌, subst, append_assoc, codes}
use Rattle.ext_lines.specs.Words.{words_of}
use Rattle.ext_text.specs.declared.arch.Arch.TheVariants.{X86_64}
use Rattle.ext_text.specs.declared.scope.Scope.TheVariants.{System}
use Rattle.ext_disk.specs.Disk.{Place, Places, Told, is_durable, now}
use Rattle.ext_disk.specs.Deeds.{empty_places}
use Rattle.ext_depot.specs.Depot.{Files}
use Rattle.ext_tree.specs.Tree.{Entries}
use Rattle.ext_host.specs.Held.{HeldFile}
use Rattle.ext_sample.specs.Sample.{IsSampleDepot}
use Rattle.ext_store_files.specs.Names.{current_path}
use Rattle.ext_gen.specs.Opened.{Generation}
use Rattle.ext_gen.specs.Store.{State, none, at, generation_in, Points}
use Rattle.ext_gen.specs.Sound.{IsDurably, IsGenerationPath}
use Rattle.ext_cmd.proofs.ForCallers.{one_command}
use Rattle.ext_cmd.specs.Words.{IsWellFormed, command_words}
use Rattle.ext_cmd.specs.declared.answer.Answer.{Answer}
use Rattle.ext_cmd.specs.declared.command.Chosen.TheVariants.{Default}
use Rattle.ext_cmd.specs.declared.command.Command.{Command}
use Rattle.ext_cmd.specs.declared.command.Command.TheVariants.{Init, ImportFs, Sysext}
use Rattle.ext_cmd.specs.declared.command.ViewCommand.TheVariants.{Merge, Unmerge, Refresh}
use Rattle.ext_cmd.specs.declared.refusal.Refusal.{Refusal}
use Rattle.ext_intents.specs.declared.intent.Intent.TheVariants.{Answers}
use Rattle.ext_top.specs.Applying.{AppliesTold}
use Rattle.ext_top.specs.Exits.{EndsLines, Line, Standing, does, durable}
use Rattle.ext_top.specs.Machine.{Step, refusal_of, reply_of, state_after}
use Rattle.ext_top.specs.Sample.{SampleWants, sample_directory, sample_lines, sampled, tree_sample}
use Rattle.ext_top.specs.Sampling.{Carries, CarriesLine, IsSampleOf}
use Rattle.ext_top.specs.declared.applied.Applied.{Applied}
use Rattle.ext_top.specs.declared.stop.Stop.{Stop}
use Rattle.ext_top.proofs.SampleWordLemmas.{host_formed, images_formed, init_formed}

nothing_rests : (p : List (List ℕ)) → IsGenerationPath none p → ⊥
nothing_rests p base = elim base [ ]

empty_current : (d : Places) → ((p : List (List ℕ)) → d p ≡ empty_places p) → is_durable d current_path ≡ true
empty_current d empty = rw (empty [], empty current_path) refl

-- an empty disk durably stands for no store
pub empty_is_none : (d : Places) → ((p : List (List ℕ)) → d p ≡ empty_places p) → IsDurably none d
empty_is_none d empty = record {
  current = empty_current d empty;
  base = λ p base. absurd (nothing_rests p base);
  stands = ap (λ (x : Place). x.node) (empty current_path);
}

-- and points to none
pub empty_points : (d : Places) → ((p : List (List ℕ)) → d p ≡ empty_places p) → Points (now d) None
empty_points d empty = ap (λ (x : Place). x.node) (empty current_path)

-- lines that end, and then others from the state that they leave
ends_then : (last : Option Refusal) (r : Option Refusal) (s u : State) (files : Option Files) (lines more : List Line) (result : Result (Option Refusal) Stop) (standing : Standing) (sent bytes : List ℕ) → EndsLines last s files lines (Ok r) (durable u) sent
    → EndsLines r u files more result standing bytes → EndsLines last s files (lines ++ more) result standing (sent ++ bytes)
ends_then last r s u files [] more result standing sent bytes (ok, same, nothing) others =
    let is : r ≡ last = cc in
    let state : u ≡ s = cc in
    rw nothing (subst (λ (x : Option Refusal). EndsLines x s files more result standing bytes) is (subst (λ (x : State). EndsLines r x files more result standing bytes) state others))
ends_then last r s u files (line ∷ lines) more result standing sent bytes (inl (stop, never, none_left, stops)) others = cc
ends_then last r s u files (line ∷ lines) more result standing sent bytes (inr (outcome, rest, comes, is, ends)) others =
    inr (outcome, rest ++ bytes, comes, ap (λ (x : List ℕ). x ++ bytes) is ∙ append_assoc (reply_of outcome) rest bytes, ends_then (refusal_of outcome) r (state_after s outcome) u files lines more result standing rest bytes ends others)

-- a command that was carried out
pub applied_carries : (files : Option Files) (command : Command) (from : Option Generation) (applied : Applied) (d e : Told) → AppliesTold (λ s. Step s files command) from (Ok applied) d e → Carries (does command ∷ []) files from applied.opened d.places e.places
applied_carries files command from applied d e applies s is durably =
    let ends = (applies s is durably).ends in
    record {
      state = state_after s ends.0;
      last = refusal_of ends.0;
      sent = reply_of ends.0 ++ [];
      ends = inr (ends.0, [], ends.1, refl, (refl, refl, refl));
      generation = ends.2.opened;
      durably = ends.3;
    }

nothing_carries : (files : Option Files) (from : Option Generation) (d : Places) → Carries [] files from from d d
nothing_carries files from d s is durably = record { state = s; last = None; sent = []; ends = (refl, refl, refl); generation = sym is; durably = durably }

-- lines, and then the line of this command
carries_then : (lines : List Line) (command : Command) (words : List (List ℕ)) (files : Option Files) (from mid after : Option Generation) (c d e : Places) → IsWellFormed command → words ≡ command_words command → Carries lines files from mid c d
    → CarriesLine words files mid after d e → Carries (lines ++ does command ∷ []) files from after c e
carries_then lines command words files from mid after c d e well is so_far (other, of, one) s stood durably =
    let before = so_far s stood durably in
    let same : other ≡ command = one_command other command of.0 well (sym of.2 ∙ is) in
    let then = subst (λ (x : Command). Carries (does x ∷ []) files mid after d e) same one before.state (sym before.generation) before.durably in
    record {
      state = then.state;
      last = then.last;
      sent = before.sent ++ then.sent;
      ends = ends_then None before.last s before.state files lines (does command ∷ []) (Ok then.last) (durable then.state) before.sent then.sent before.ends then.ends;
      generation = then.generation;
      durably = then.durably;
    }

-- the same files, as a line left them
line_of_files : (words : List (List ℕ)) (files kept : Option Files) (from after : Option Generation) (d e : Places) → kept ≡ files → CarriesLine words kept from after d e → CarriesLine words files from after d e
line_of_files words files kept from after d e same line = subst (λ (x : Option Files). CarriesLine words x from after d e) same line

-- the first lines, up to the images
pub images_carry : (files f g : Option Files) (made host images : Option Generation) (c d e p : Places) → f ≡ files → g ≡ f → CarriesLine (words_of (codes "init x86-64 system")) files None made c d → CarriesLine (words_of (codes "import-fs host /")) f made host d e
    → CarriesLine (words_of (codes "import-fs images /var/lib/extensions")) g host images e p
    → Carries (does (Init X86_64 System Default) ∷ does (ImportFs (codes "host" ∷ []) []) ∷ does (ImportFs (codes "images" ∷ []) sample_directory) ∷ []) files None images c p
images_carry files f g made host images c d e p first second one two three =
    let after_one = carries_then [] (Init X86_64 System Default) (words_of (codes "init x86-64 system")) files None None made c c d init_formed refl (nothing_carries files None c) one in
    let after_two = carries_then (does (Init X86_64 System Default) ∷ []) (ImportFs (codes "host" ∷ []) []) (words_of (codes "import-fs host /")) files None made host c d e host_formed refl after_one
    (line_of_files (words_of (codes "import-fs host /")) files f made host d e first two) in
    carries_then (does (Init X86_64 System Default) ∷ does (ImportFs (codes "host" ∷ []) []) ∷ []) (ImportFs (codes "images" ∷ []) sample_directory) (words_of (codes "import-fs images /var/lib/extensions")) files None host images c e p images_formed refl after_two
    (line_of_files (words_of (codes "import-fs images /var/lib/extensions")) files g host images e p (second ∙ first) three)

-- and all of them
pub lines_carry : (files f g h : Option Files) (images merged unmerged refreshed : Option Generation) (c p q r t : Places) → f ≡ files → g ≡ f → h ≡ g
    → Carries (does (Init X86_64 System Default) ∷ does (ImportFs (codes "host" ∷ []) []) ∷ does (ImportFs (codes "images" ∷ []) sample_directory) ∷ []) files None images c p → CarriesLine (words_of (codes "sysext merge")) f images merged p q
    → CarriesLine (words_of (codes "sysext unmerge")) g merged unmerged q r → CarriesLine (words_of (codes "sysext refresh")) h unmerged refreshed r t → Carries sample_lines files None refreshed c t
lines_carry files f g h images merged unmerged refreshed c p q r t first second third so_far four five six =
    let lines = does (Init X86_64 System Default) ∷ does (ImportFs (codes "host" ∷ []) []) ∷ does (ImportFs (codes "images" ∷ []) sample_directory) ∷ [] in
    let after_four = carries_then lines (Sysext (Merge false)) (words_of (codes "sysext merge")) files None images merged c p q tt refl so_far (line_of_files (words_of (codes "sysext merge")) files f images merged p q first four) in
    let after_five = carries_then (lines ++ does (Sysext (Merge false)) ∷ []) (Sysext Unmerge) (words_of (codes "sysext unmerge")) files None merged unmerged c q r tt refl after_four
    (line_of_files (words_of (codes "sysext unmerge")) files g merged unmerged q r (second ∙ first) five) in
    carries_then ((lines ++ does (Sysext (Merge false)) ∷ []) ++ does (Sysext Unmerge) ∷ []) (Sysext (Refresh false)) (words_of (codes "sysext refresh")) files None unmerged refreshed c r t tt refl after_five
    (line_of_files (words_of (codes "sysext refresh")) files h unmerged refreshed r t (third ∙ (second ∙ first)) six)

-- the tree that is seen in a state, by its generation
abbrev pub root_of : Option Generation → Entries HeldFile
root_of None = []
root_of (Some g) = g.host.root

sampled_is : (s : State) → sampled s ≡ tree_sample (root_of (generation_in s))
sampled_is none = refl
sampled_is (at g contents) = refl

-- the answer is what a sample wants
pub sample_wants : (images : ℕ) (files : Files) (after : Option Generation) (d e : Places) (tree : Entries HeldFile) (answer : Answer) → IsSampleDepot images files → ((p : List (List ℕ)) → d p ≡ empty_places p)
    → Carries sample_lines (Some files) None after d e → tree ≡ root_of after → IsSampleOf tree answer → SampleWants images (Answers answer)
sample_wants images files after d e tree answer depot empty carries same sample =
    let carried = carries none refl (empty_is_none d empty) in
    let of = subst (λ (es : Entries HeldFile). IsSampleOf es answer) (same ∙ ap root_of carried.generation) sample in
    record {
      files = files;
      depot = depot;
      state = carried.state;
      last = carried.last;
      sent = carried.sent;
      ends = carried.ends;
      is = ap Answers (of.is ∙ sym (sampled_is carried.state));
    }
