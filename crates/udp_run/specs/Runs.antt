-- What a run over sockets gives, and why one is refused.
use Rattle.std.specs.Prelude.{◌≡◌, ◌⊎◌, ℕ, ◌+◌, ◌<◌, true, false, List, length, replicate, take, slice_index_or, Some, None}
use Rattle.std.specs.List.{list_all}
use Rattle.xid.specs.declared.refusals.Refusal.{Refusal}
use Rattle.xid.specs.declared.refusals.Refusal.TheVariants.{Damaged, RecordFault, BadScript, NoMemory, PortFault, BadConfig, FileFault}
use Rattle.stable_record.specs.Behind.{behind}
use Rattle.stable_record.specs.Floors.{floor_of, front_of}
use Rattle.stable_record.specs.Held.{Held}
use Rattle.stable_record.specs.Records.{just_opened}
use Rattle.protocol.specs.declared.nodes.NodeId.{NodeId}
use Rattle.protocol.specs.declared.rows.Row.{Row}
use Rattle.protocol.specs.Effects.{Config}
use Rattle.node_core.specs.declared.config.Sizes.{Sizes}
use Rattle.node_core.specs.Nodes.{AreSizes}
use Rattle.node_core.specs.Opening.{IsBad, HasFaulted}
use Rattle.node_core.specs.Places.{node_count}
use Rattle.floored.specs.Nodes.{IsFlooredOpened, IsFlooredUnopened}
use Rattle.port.specs.Members.{MemberParts}
use Rattle.port.specs.declared.addresses.Addresses.{Addresses}
use Rattle.port.specs.declared.udp.UdpPort.{UdpPort}
use Rattle.port.specs.Addresses.{address_of}
use Rattle.port.specs.Ports.{UdpReceived, UdpSent}
use Rattle.net_script.specs.declared.values.Command.{Command}
use Rattle.net_script.specs.declared.values.Entry.{Entry}
use Rattle.net_script.specs.declared.values.Script.{Script}
use Rattle.net_script.specs.Items.{is_in_limits}
use Rattle.net_script.specs.Scripts.{SpellsScript, IsScriptFault, IsLineOf}
use Rattle.net_script.specs.Traces.{trace_text}
use Rattle.cluster_run.specs.Traces.{config_of}
use Rattle.udp_run.specs.Sites.{SiteParts, place_in}
use Rattle.udp_run.specs.Commands.{CarriesAll, is_served}
use Rattle.udp_run.specs.NodeTables.{AreTablesOf, StopsAtTable}

-- ---- at first

-- a node was taken up from a record, and was told nothing
pub record IsTakenUp (config : Config) (who : NodeId) (held : Held) (node : MemberParts) : Type 0 where
  pub opened : IsFlooredOpened config who held node.floored
  pub told_is : node.told ≡ replicate config.managers None

-- a node was opened over the bytes of a file
pub record IsOpenedOver (config : Config) (who : NodeId) (node : MemberParts) : Type 0 where
  pub bytes : List ℕ
  pub taken : IsTakenUp config who (just_opened bytes) node

-- the node of a place was
pub record IsOpenedAt (config : Config) (sizes : Sizes) (at : ℕ) (node : MemberParts) : Type 0 where
  pub who : NodeId
  pub place_is : place_in sizes who ≡ Some at
  pub over : IsOpenedOver config who node

-- the nodes of the first so many places were
pub record AreOpened (config : Config) (sizes : Sizes) (count : ℕ) (nodes : List MemberParts) : Type 0 where
  pub number : length nodes ≡ count
  pub each : (at : ℕ) (d : MemberParts) → at < count → IsOpenedAt config sizes at (slice_index_or nodes at d)

-- each node of a cluster is found at the number of the port that stands in its place
abbrev pub FindsEach : Sizes → List UdpPort → Addresses → Type 0
FindsEach sizes ports addresses = (who : NodeId) (at : ℕ) (d : UdpPort) → place_in sizes who ≡ Some at
    → address_of addresses who ≡ Some (slice_index_or ports at d).number

-- a port that finds nodes there
abbrev pub finding : Addresses → UdpPort → UdpPort
finding addresses port = record port { addresses = addresses }

-- the ports of the first so many places, at the numbers of which the nodes of these are found
pub record AreStanding (sizes : Sizes) (count : ℕ) (ports : List UdpPort) (addresses : Addresses) : Type 0 where
  pub number : length ports ≡ count
  pub found : (who : NodeId) (at : ℕ) (d : UdpPort) → at < count → place_in sizes who ≡ Some at
      → address_of addresses who ≡ Some (slice_index_or ports at d).number

-- a port for each place, and one for noise: all of them find each node
pub record ArePorts (sizes : Sizes) (ports : List UdpPort) (noise : UdpPort) : Type 0 where
  pub number : length ports ≡ node_count sizes
  pub each : (at : ℕ) (d : UdpPort) → at < length ports → FindsEach sizes ports (slice_index_or ports at d).addresses
  pub noise_too : FindsEach sizes ports noise.addresses

-- all nodes of a cluster were opened, and stand at such ports
pub record IsOpenedSite (config : Config) (site : SiteParts UdpPort) : Type 0 where
  pub sizes : AreSizes config site.sizes
  pub opened : AreOpened config site.sizes (node_count site.sizes) site.nodes
  pub ports : ArePorts site.sizes site.ports site.noise

-- ---- the run

-- the nodes of a cluster were opened over the files of a folder; what came of a script's commands, and the tables at the end, make the
-- trace whose text this is
pub record IsServed (config : Config) (script : Script) (output : List ℕ) : Type 0 where
  pub first : SiteParts UdpPort
  pub last : SiteParts UdpPort
  pub opened : IsOpenedSite config first
  pub entries : List Entry
  pub carried : CarriesAll UdpReceived UdpSent script.commands first last entries
  pub finals : List (List Row)
  pub tables : AreTablesOf last.nodes finals
  pub text : output ≡ trace_text (record { sizes = script.sizes; tables = script.tables; entries = entries; finals = finals })

-- the bytes spell a script within the limits, whose commands all happen over sockets, and the output is what came of it
pub record IsUdpRun (bytes output : List ℕ) : Type 0 where
  pub script : Script
  pub spelled : SpellsScript bytes script
  pub limits : is_in_limits script.sizes ≡ true
  pub happens : list_all is_served script.commands ≡ true
  pub served : IsServed (config_of script) script output

-- ---- refusals

-- the place of the first command that doesn't happen over sockets
pub record IsFirstRefused (commands : List Command) (at : ℕ) : Type 0 where
  pub within : at < length commands
  pub before : list_all is_served (take at commands) ≡ true
  pub refused : (d : Command) → is_served (slice_index_or commands at d) ≡ false

-- the first command of a script that doesn't happen over sockets stands in this line
pub record IsRefusedLine (bytes : List ℕ) (script : Script) (line : ℕ) : Type 0 where
  pub at : ℕ
  pub first : IsFirstRefused script.commands at
  pub line_is : IsLineOf bytes (1 + length script.tables + at) line

-- a node's record, as it was before, wasn't taken up
abbrev pub IsRefusedOver : Config → NodeId → Held → Refusal → Type 0
IsRefusedOver config who held e = (left : Held) × IsFlooredUnopened config who held left e

-- what stands behind the floor that bytes begin with, if they begin with one
abbrev pub behind_floor : Held → List ℕ → Held
behind_floor held bytes = behind (front_of (floor_of bytes)) held

-- the record over a node's file was opened, and its bytes hold nothing that plays behind their floor
pub record IsDamagedOver (config : Config) (who : NodeId) : Type 0 where
  pub bytes : List ℕ
  pub bad : IsBad config who (behind_floor (just_opened bytes) bytes).bytes

-- the record over a node's file was opened, and failed as it was read, cut or written anew, which it counted
pub record HasFaultedOver : Type 0 where
  pub bytes : List ℕ
  pub left : Held
  pub faulted : HasFaulted (behind_floor (just_opened bytes) bytes) (behind_floor left bytes)

-- why a node isn't opened: its file can't be opened and read, of which no contract says more; or its record
abbrev pub RefusesNode : Config → NodeId → Refusal → Type 0
RefusesNode config who FileFault = Unit {0}
RefusesNode config who Damaged = IsDamagedOver config who
RefusesNode config who RecordFault = HasFaultedOver
RefusesNode config who other = ⊥

-- the nodes of all places before one were opened, and the node of this one was refused
pub record RefusesNext (config : Config) (sizes : Sizes) (e : Refusal) : Type 0 where
  pub at : ℕ
  pub before : List MemberParts
  pub opened : AreOpened config sizes at before
  pub who : NodeId
  pub place_is : place_in sizes who ≡ Some at
  pub refuses : RefusesNode config who e

-- all nodes were opened, and then a socket couldn't be made, of which no contract says more
pub record RefusesPorts (config : Config) (sizes : Sizes) (e : Refusal) : Type 0 where
  pub nodes : List MemberParts
  pub opened : AreOpened config sizes (node_count sizes) nodes
  pub refusal_is : e ≡ PortFault

-- why the nodes of a cluster don't all come to stand at their ports
pub record RefusesSite (config : Config) (e : Refusal) : Type 0 where
  pub sizes : Sizes
  pub are : AreSizes config sizes
  pub refuses : RefusesNext config sizes e ⊎ RefusesPorts config sizes e

-- all nodes stood at their ports, and all commands were carried out; then the record of one that was down failed, when its table was read
pub record RefusesTables (config : Config) (commands : List Command) (e : Refusal) : Type 0 where
  pub first : SiteParts UdpPort
  pub last : SiteParts UdpPort
  pub opened : IsOpenedSite config first
  pub entries : List Entry
  pub carried : CarriesAll UdpReceived UdpSent commands first last entries
  pub stops : StopsAtTable last.nodes
  pub refusal_is : e ≡ RecordFault

-- what is refused for a file, a record or a socket: at first, or at the end
abbrev pub RefusesDevices : Config → List Command → Refusal → Type 0
RefusesDevices config commands e = RefusesSite config e ⊎ RefusesTables config commands e

-- why a script is refused all of whose lines are right: sizes outside the limits; else the first command that doesn't happen over
-- sockets; else a file, a record or a socket
abbrev pub RefusesScript : List ℕ → Script → Refusal → Type 0
RefusesScript bytes script e =
    ((is_in_limits script.sizes ≡ false) × (e ≡ BadConfig))
    ⊎ ((is_in_limits script.sizes ≡ true)
    × (((line : ℕ) × (e ≡ BadScript line) × IsRefusedLine bytes script line)
    ⊎ ((list_all is_served script.commands ≡ true) × RefusesDevices (config_of script) script.commands e)))

-- why a run is refused: memory, the first line at fault, or what its script is refused for
abbrev pub RefusesUdp : List ℕ → Refusal → Type 0
RefusesUdp bytes e =
    (e ≡ NoMemory) ⊎ ((line : ℕ) × (e ≡ BadScript line) × IsScriptFault bytes line)
    ⊎ ((script : Script) × SpellsScript bytes script × RefusesScript bytes script e)
