-- What the commands `portable` want rests on what is told of the host's files, and on nothing else that is told.
use Rattle.std.proofs.Common.{Bool, true, false, List, [], ◌∷◌, Ok, Err, inl, inr}
use Rattle.ext_host.specs.Held.{HeldFile}
use Rattle.ext_host.specs.Shelf.{Told}
use Rattle.ext_host.specs.declared.host.Host.{Host}
use Rattle.ext_units.specs.declared.image.Image.{Image}
use Rattle.ext_added.specs.declared.ask.Ask.{Ask}
use Rattle.ext_port.proofs.ForCallers.{attaches_alike, inspects_alike}
use Rattle.ext_portext.proofs.ForCallers.{extended_alike}
use Rattle.ext_cmd.specs.Portable.{ask_of, extensions_of}
use Rattle.ext_cmd.specs.declared.portable.PortCommand.{PortCommand}
use Rattle.ext_cmd.specs.declared.portable.PortCommand.TheVariants as commands
use Rattle.ext_intents.specs.Portable.{AskWants, PortWants}
use Rattle.ext_intents.specs.Step.{TellAlike}
use Rattle.ext_intents.specs.declared.intent.Intent.{Intent}

module _ (host : Host) (told other : HeldFile → Told) (alike : TellAlike host told other) where
  ask_alike : (again : Bool) (ask : Ask) (extensions : List Image) (intent : Intent) → AskWants host told again ask extensions intent → AskWants host other again ask extensions intent
  ask_alike again ask [] intent (inl (attach, gives, planned, wants)) = inl (attach, attaches_alike told other 0 0 again host ask (Ok attach) alike gives, planned, wants)
  ask_alike again ask [] intent (inr (refusal, (e, gives, refused), wants)) = inr (refusal, (e, attaches_alike told other 0 0 again host ask (Err e) alike gives, refused), wants)
  ask_alike again ask (extension ∷ extensions) intent (inl (attach, gives, planned, wants)) =
      inl (attach, extended_alike told other 0 0 again host ask (extension ∷ extensions) (Ok attach) alike gives, planned, wants)
  ask_alike again ask (extension ∷ extensions) intent (inr (refusal, (e, gives, refused), wants)) =
      inr (refusal, (e, extended_alike told other 0 0 again host ask (extension ∷ extensions) (Err e) alike gives, refused), wants)

  pub port_alike : (command : PortCommand) (intent : Intent) → PortWants host told command intent → PortWants host other command intent
  port_alike commands.List intent wants = wants
  port_alike (commands.Inspect image prefixes) intent (base, is, inl (inspect, gives, wants)) = (base, is, inl (inspect, inspects_alike told other 0 0 host base image prefixes (Ok inspect) alike is gives, wants))
  port_alike (commands.Inspect image prefixes) intent (base, is, inr (e, refusal, gives, refused, wants)) =
      (base, is, inr (e, refusal, inspects_alike told other 0 0 host base image prefixes (Err e) alike is gives, refused, wants))
  port_alike (commands.IsAttached name) intent wants = wants
  port_alike (commands.Attach words) intent wants = ask_alike false (ask_of words) (extensions_of words) intent wants
  port_alike (commands.Detach name) intent wants = wants
  port_alike (commands.Reattach words) intent wants = ask_alike true (ask_of words) (extensions_of words) intent wants
