-- A script's run over sockets, from what its parts have made.
use Rattle.std.proofs.Common.{◌≡◌, ◌∙◌, ◌⊎◌, inl, inr, ℕ, ◌+◌, ◌<◌, ◌≤◌, true, List, ◌++◌, length, map, sym, ap, ap₂, length-append, arith}
use Rattle.std.specs.List.{list_all}
use Rattle.std.proofs.lemmas.List.{length-map}
use Rattle.xid.specs.declared.refusals.Refusal.{Refusal}
use Rattle.xid.specs.declared.refusals.Refusal.TheVariants.{NoMemory, RecordFault}
use Rattle.protocol.specs.Effects.{Config}
use Rattle.port.specs.declared.udp.UdpPort.{UdpPort}
use Rattle.port.specs.Ports.{UdpReceived, UdpSent}
use Rattle.net_script.specs.declared.values.Command.{Command}
use Rattle.net_script.specs.declared.values.Entry.{Entry}
use Rattle.net_script.specs.declared.values.Script.{Script}
use Rattle.net_script.specs.declared.items.Item.TheVariants.{Contents, Then}
use Rattle.net_script.specs.Lines.{lines, words}
use Rattle.net_script.specs.Items.{item_words, is_in_limits}
use Rattle.net_script.specs.Scripts.{lines_kept, script_items, SpellsScript}
use Rattle.cluster_run.specs.Traces.{config_of}
use Rattle.udp_run.specs.Sites.{SiteParts}
use Rattle.udp_run.specs.Commands.{CarriesAll, is_served}
use Rattle.udp_run.specs.NodeTables.{StopsAtTable}
use Rattle.udp_run.specs.Runs.{IsOpenedSite, RefusesDevices, RefusesSite, RefusesUdp}

-- a line says each command
pub has_line : (bytes : List ℕ) (s : Script) (at : ℕ) → SpellsScript bytes s → at < length s.commands
    → length (lines_kept (lines bytes)) ≤ 1 + length s.tables + at → ⊥
has_line bytes s at spelled lt few =
    let same : length (lines_kept (lines bytes)) ≡ length (script_items s) =
    sym (length-map (lines_kept (lines bytes)) words) ∙ (ap length spelled.says ∙ length-map (script_items s) item_words) in
    let long : length (map Contents s.tables ++ map Then s.commands) ≡ length s.tables + length s.commands =
    length-append (map Contents s.tables) (map Then s.commands)
    ∙ ap₂ (λ (a b : ℕ). a + b) (length-map s.tables Contents) (length-map s.commands Then) in
    omega (arith, same, long, lt, few)

-- what was refused late, for memory or by a file, a record or a socket
pub refused_late : (bytes : List ℕ) (s : Script) (e : Refusal) → SpellsScript bytes s → is_in_limits s.sizes ≡ true
    → list_all is_served s.commands ≡ true → (e ≡ NoMemory) ⊎ RefusesDevices (config_of s) s.commands e → RefusesUdp bytes e
refused_late bytes s e spelled limits happens (inl memory) = inl memory
refused_late bytes s e spelled limits happens (inr device) = inr (inr (s, spelled, inr (limits, inr (happens, device))))

-- at first
pub refused_first : (config : Config) (commands : List Command) (e : Refusal) → (e ≡ NoMemory) ⊎ RefusesSite config e
    → (e ≡ NoMemory) ⊎ RefusesDevices config commands e
refused_first config commands e (inl memory) = inl memory
refused_first config commands e (inr refuses) = inr (inl refuses)

-- at the end
pub refused_last : (config : Config) (commands : List Command) (first last : SiteParts UdpPort) (entries : List Entry)
    → IsOpenedSite config first → CarriesAll UdpReceived UdpSent commands first last entries → (e : Refusal)
    → (e ≡ NoMemory) ⊎ ((e ≡ RecordFault) × StopsAtTable last.nodes) → (e ≡ NoMemory) ⊎ RefusesDevices config commands e
refused_last config commands first last entries opened carried e (inl memory) = inl memory
refused_last config commands first last entries opened carried e (inr (fault, stops)) =
    inr (inr (record {
      first = first;
      last = last;
      opened = opened;
      entries = entries;
      carried = carried;
      stops = stops;
      refusal_is = fault;
    }))
