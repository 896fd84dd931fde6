-- How datagrams are kept: the bytes of all one after another, and an entry for each.
use Rattle.std.specs.Prelude.{◌≡◌, ℕ, ◌+◌, ◌≤◌, List, length}
use Rattle.std.specs.List.{All, prefix_len, slice_range}
use Rattle.network.specs.declared.entry.Entry.{Entry}
use Rattle.network.specs.Networks.{DatagramParts, most_datagrams}

-- the datagram of an entry
abbrev pub kept_in : List ℕ → Entry → DatagramParts
kept_in bytes e =
    record { sender = e.sender; receiver = e.receiver; bytes = slice_range bytes e.start (e.start + e.len); marked = e.marked }

-- all entries' bytes are there, each datagram has a number, and so many at the front are marked
pub record IsNetwork (bytes : List ℕ) (entries : List Entry) (front : ℕ) : Type 0 where
  pub within : All (λ e. e.start + e.len ≤ length bytes) entries
  pub numbered : length entries ≤ most_datagrams
  pub front_is : front ≡ prefix_len (λ e. e.marked) entries
