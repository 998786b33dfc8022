-- Indexes that can be computed: that of an empty host as texts 1 and 2.
use Rattle.std.specs.Prelude.{ℕ, List, [], ◌∷◌, codes, None}
use Rattle.ext_lines.specs.Lines.{lines_text}
use Rattle.ext_text.specs.declared.arch.Arch.TheVariants.{X86_64}
use Rattle.ext_text.specs.declared.scope.Scope.TheVariants.{System}
use Rattle.ext_host.specs.declared.host.Host.{Host}

-- a host on which nothing stands, with the default hierarchies
abbrev pub empty_host : Host
empty_host = record {
  arch = X86_64;
  scope = System;
  root = [];
  lower = [];
  sysext = None;
  confext = None;
  attached = [];
  kept = [];
  sysext_hier = codes "opt" ∷ codes "usr" ∷ [];
  confext_hier = codes "etc" ∷ [];
  past = [];
}

-- the index of an empty host as text 2
abbrev pub empty_index_2 : List ℕ
empty_index_2 = lines_text (
    codes "hostext-store 2" ∷ codes "host x86-64 system" ∷ codes "hierarchies 3" ∷ codes "h sysext opt" ∷ codes "h sysext usr" ∷ codes "h confext etc"
    ∷ codes "attached 0" ∷ codes "kept 0" ∷ codes "root 0" ∷ codes "lower 0" ∷ codes "past 0" ∷ codes "end" ∷ [])

-- the index of an empty host as text 1
abbrev pub empty_index_1 : List ℕ
empty_index_1 = lines_text (
    codes "hostext-store 1" ∷ codes "host x86-64 system" ∷ codes "attached 0" ∷ codes "kept 0" ∷ codes "root 0" ∷ codes "lower 0" ∷ codes "end" ∷ [])
