-- Which strokes are true: those of datagrams go from the event that sent one to the event that took it, or to one that handed it over.
use Rattle.std.specs.Prelude.{◌≡◌, ℕ, ◌<◌, ◌+◌, ◌/◌, Bool, true, false, List}
use Rattle.std.specs.List.{Contains, list_any}
use Rattle.net_script.specs.declared.values.Sizes.{Sizes}
use Rattle.protocol.specs.declared.nodes.NodeId.{NodeId}
use Rattle.picture.specs.declared.elements.Point.{Point}
use Rattle.picture.specs.declared.elements.Pen.{Pen}
use Rattle.picture.specs.declared.elements.Mark.{Mark}
use Rattle.picture.specs.declared.elements.Element.{Element}
use Rattle.picture.specs.declared.elements.Element.TheVariants.{Stroke}
use Rattle.picture.specs.declared.rows.Row.{Row}
use Rattle.picture.specs.declared.rows.What.TheVariants.{Delivers, Loses, Sends}
use Rattle.picture.specs.Places.{node_x, row_y}
use Rattle.picture.specs.Drawing.{coming_from, takes}

-- a row in which a datagram of this number is sent, before a line, from this point of its sender's lane to this lane
pub record IsSentFrom (sizes : Sizes) (rows : List Row) (number line : ℕ) (from : Point) (lane : ℕ) : Type 0 where
  pub row : Row
  pub there : Contains rows row
  pub sender : NodeId
  pub receiver : NodeId
  pub sends : row.what ≡ Sends number sender receiver
  pub before : row.line < line
  pub begins : from ≡ coming_from sizes sender row.line line
  pub lane_is : lane ≡ node_x sizes receiver

-- a stroke from the event that sent a datagram to the first that took it
pub record IsTaken (sizes : Sizes) (rows : List Row) (from to : Point) : Type 0 where
  pub row : Row
  pub there : Contains rows row
  pub number : ℕ
  pub mark : Mark
  pub taken : row.what ≡ Delivers number true mark
  pub first : list_any (takes number row.line) rows ≡ false
  pub sent : IsSentFrom sizes rows number row.line from to.x
  pub ends : to.y ≡ row_y row.line

-- a stroke from the event that sent a datagram to one that handed it over, or its first bytes
pub record IsDelivered (sizes : Sizes) (rows : List Row) (from to : Point) : Type 0 where
  pub row : Row
  pub there : Contains rows row
  pub number : ℕ
  pub is_taken : Bool
  pub mark : Mark
  pub delivers : row.what ≡ Delivers number is_taken mark
  pub sent : IsSentFrom sizes rows number row.line from to.x
  pub ends : to.y ≡ row_y row.line

-- a stroke from the event that sent a datagram half way to its receiver, where it is lost
pub record IsLost (sizes : Sizes) (rows : List Row) (from to : Point) : Type 0 where
  pub row : Row
  pub there : Contains rows row
  pub number : ℕ
  pub loses : row.what ≡ Loses number
  pub lane : ℕ
  pub sent : IsSentFrom sizes rows number row.line from lane
  pub half : to.x ≡ (from.x + lane) / 2
  pub ends : to.y ≡ row_y row.line

-- an element says of datagrams what the rows do; of other elements nothing is said
abbrev pub IsTrueOf : Sizes → List Row → Element → Type 0
IsTrueOf sizes rows (Stroke Pen.Arrow from to) = IsTaken sizes rows from to
IsTrueOf sizes rows (Stroke Pen.Again from to) = IsDelivered sizes rows from to
IsTrueOf sizes rows (Stroke Pen.Lost from to) = IsLost sizes rows from to
IsTrueOf sizes rows element = Unit {0}
