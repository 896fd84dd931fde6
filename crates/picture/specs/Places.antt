-- Where things stand, in pixels, and the address of a trace.
use Rattle.std.specs.Prelude.{ℕ, ◌+◌, ◌-◌, ◌*◌, ◌/◌, ◌%◌, Bool, ◌==◌, ◌&&◌, ◌||◌, nat_le, nat_lt, min, max, if◌then◌else◌, List, [], ◌∷◌}
use Rattle.std.specs.List.{flat_map}
use Rattle.net_script.specs.declared.values.Sizes.{Sizes}
use Rattle.protocol.specs.declared.nodes.NodeId.{NodeId}
use Rattle.protocol.specs.declared.nodes.NodeId.TheVariants.{A, L, R}

-- the page of a line, from 0: a page has 90 lines
abbrev pub page_of : ℕ → ℕ
page_of line = (line - 1) / 90

-- where a page begins
abbrev pub page_top : ℕ → ℕ
page_top page = 110 + 1420 * page

-- how far down the row of a line is: rows are 15 pixels apart, below the head of their page
abbrev pub row_y : ℕ → ℕ
row_y line = page_top (page_of line) + 36 + 15 * ((line - 1) % 90)

-- where the lanes of a page end, in a picture of so many lines: below its last row
abbrev pub page_end : ℕ → ℕ → ℕ
page_end page lines = min (row_y lines) (page_top page + 36 + 15 * 89) + 10

-- the lane of a node of this number, behind those of two kinds
abbrev pub lane_x : ℕ → ℕ → ℕ → ℕ
lane_x first second number = 372 + 98 * (first + second + number)

-- the place beside the lanes, for what is of no node of the cluster
abbrev pub beside : ℕ
beside = 322

-- the lane of a node: resource managers, then leaders, then acceptors
abbrev pub node_x : Sizes → NodeId → ℕ
node_x sizes (R number) = if nat_lt number sizes.rms then lane_x 0 0 number else beside
node_x sizes (L number) = if nat_lt number sizes.leaders then lane_x sizes.rms 0 number else beside
node_x sizes (A number) = if nat_lt number sizes.acceptors then lane_x sizes.rms sizes.leaders number else beside

-- how broad a picture is: the legend has room, and where there are several transactions their names have
abbrev pub picture_width : Sizes → Bool → ℕ
picture_width sizes several = max (lane_x sizes.rms sizes.leaders sizes.acceptors + (if several then 110 else 0)) 860

-- ---- the address of a trace

-- whether a byte stands for itself in an address: a letter, a digit, and `-./_~`
abbrev pub is_of_addresses : ℕ → Bool
is_of_addresses byte =
    nat_le 97 byte && nat_le byte 122 || nat_le 65 byte && nat_le byte 90 || nat_le 48 byte && nat_le byte 57 || byte == 45 || byte == 46
    || byte == 47 || byte == 95 || byte == 126

-- a hexadecimal digit, in upper case
abbrev pub hex_digit : ℕ → ℕ
hex_digit number = if nat_lt number 10 then 48 + number else 55 + number

-- a byte of an address: itself, or its two digits behind a percent sign
abbrev pub address_byte : ℕ → List ℕ
address_byte byte = if is_of_addresses byte then byte ∷ [] else 37 ∷ hex_digit (byte / 16) ∷ hex_digit (byte % 16) ∷ []

-- the address of the file of a path
abbrev pub address_of : List ℕ → List ℕ
address_of path = flat_map address_byte path
