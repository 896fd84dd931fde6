-- The datagrams of entries, as bytes and entries are added.
-- Needed by 7 functions of this crate.
use Rattle.std.proofs.Common.{◌≡◌, ℕ, suc, ◌+◌, ◌-◌, ◌<◌, ◌≤◌, true, false, cond, ltb, List, [], ◌∷◌, ◌++◌, length, take, drop, map, get_or}
use Rattle.std.proofs.Common.{set, refl, sym, ap, arith, ◌∙◌, subst}
use Rattle.std.specs.Prelude.{Some, None, slice_get}
use Rattle.std.specs.List.{All, AllZip, prefix_len, slice_range}
use Rattle.std.proofs.lemmas.List.{take-append-le, drop-append-le, drop_at, take_all, length-drop, length_push, map_push, map-set}
use Rattle.std.proofs.lemmas.List.{get_or-map, length-set, length-map}
use Rattle.std.proofs.lemmas.Bool.{le-ltb, lt-ltb}
use Rattle.std.proofs.lemmas.List.Elements.{All-head, All-tail, All-push, All-weaker, All-set, All-get_or}
use Rattle.protocol.specs.Worlds.{Datagram, mark_at}
use Rattle.network.specs.declared.entry.Entry.{Entry}
use Rattle.network.specs.Entries.{kept_in, IsNetwork}
use Rattle.network.specs.Networks.{DatagramParts, IsKept, most_datagrams, least_unmarked}
use Rattle.network.proofs.Front.{front_push, front_map}
use Rattle.network.proofs.Standing.{kept_push, kept_at, kept_last, kept_mark, same_length, least_is}

-- bytes that are there stay where more follow
pub range_grown : (bytes more : List ℕ) (start len : ℕ) → start + len ≤ length bytes
    → slice_range (bytes ++ more) start (start + len) ≡ slice_range bytes start (start + len)
range_grown bytes more start len within =
    let starts : start ≤ length bytes = omega arith in
    let ends : start + len - start ≤ length (drop start bytes) = omega (arith, length-drop start bytes) in
    ap (take (start + len - start)) (drop-append-le start bytes more starts)
    ∙ take-append-le (start + len - start) (drop start bytes) more ends

-- the bytes that were added
pub range_added : (bytes more : List ℕ) → slice_range (bytes ++ more) (length bytes) (length bytes + length more) ≡ more
range_added bytes more =
    ap (take (length bytes + length more - length bytes)) (drop_at bytes more (length bytes) refl)
    ∙ take_all (length bytes + length more - length bytes) more (omega arith)

-- and where they stand
pub spelled_at_end : (bytes text grown : List ℕ) (start len : ℕ) → grown ≡ bytes ++ text → start ≡ length bytes → len ≡ length text
    → slice_range grown start (start + len) ≡ text
spelled_at_end bytes text grown start len is at long =
    ap (λ (all : List ℕ). slice_range all start (start + len)) is
    ∙ ap (λ (k : ℕ). slice_range (bytes ++ text) k (k + len)) at
    ∙ ap (λ (k : ℕ). slice_range (bytes ++ text) (length bytes) (length bytes + k)) long
    ∙ range_added bytes text

-- the datagrams stay
pub datagrams_grown : (bytes more : List ℕ) (entries : List Entry) → All (λ e. e.start + e.len ≤ length bytes) entries
    → map (kept_in (bytes ++ more)) entries ≡ map (kept_in bytes) entries
datagrams_grown bytes more [] within = refl
datagrams_grown bytes more (e ∷ entries) within =
    let here : e.start + e.len ≤ length bytes = All-head (λ (f : Entry). f.start + f.len ≤ length bytes) e entries within in
    let first : kept_in (bytes ++ more) e ≡ kept_in bytes e =
    ap (λ (text : List ℕ). record { sender = e.sender; receiver = e.receiver; bytes = text; marked = e.marked })
    (range_grown bytes more e.start e.len here) in
    let rest : map (kept_in (bytes ++ more)) entries ≡ map (kept_in bytes) entries =
    datagrams_grown bytes more entries (All-tail (λ (f : Entry). f.start + f.len ≤ length bytes) e entries within) in
    ap (λ k. k ∷ map (kept_in (bytes ++ more)) entries) first ∙ ap (λ ks. kept_in bytes e ∷ ks) rest

-- ---- a datagram more

module _ (bytes grown : List ℕ) (entries : List Entry) (new : Entry) where
  -- the rest of the network allows it
  pub network_pushed : (front : ℕ) → IsNetwork bytes entries front → length bytes ≤ length grown → new.start + new.len ≤ length grown
      → length entries < most_datagrams → new.marked ≡ false → IsNetwork grown (entries ++ new ∷ []) front
  network_pushed front is longer there room unmarked = record {
    within = All-push (λ (e : Entry). e.start + e.len ≤ length grown) entries new
        (All-weaker (λ (e : Entry). e.start + e.len ≤ length bytes) (λ e. e.start + e.len ≤ length grown)
        (λ e within. omega arith) entries is.within)
        there;
    numbered = omega (arith, length_push entries new);
    front_is = is.front_is ∙ sym (front_push (λ (e : Entry). e.marked) entries new unmarked);
  }

  -- and the datagrams are those before, and it
  pub datagrams_pushed : (text : List ℕ) → grown ≡ bytes ++ text → All (λ e. e.start + e.len ≤ length bytes) entries
      → map (kept_in grown) (entries ++ new ∷ []) ≡ map (kept_in bytes) entries ++ kept_in grown new ∷ []
  datagrams_pushed text is within =
      map_push (kept_in grown) entries new
      ∙ ap (λ ks. ks ++ kept_in grown new ∷ [])
      (ap (λ (all : List ℕ). map (kept_in all) entries) is ∙ datagrams_grown bytes text entries within)

  -- a network with one entry more keeps one datagram more
  pub stands_pushed : (text : List ℕ) → grown ≡ bytes ++ text → All (λ e. e.start + e.len ≤ length bytes) entries
      → (after : List Entry) → after ≡ entries ++ new ∷ [] → (net : List Datagram) (d : Datagram)
      → AllZip IsKept (map (kept_in bytes) entries) net → IsKept (kept_in grown new) d
      → AllZip IsKept (map (kept_in grown) after) (net ++ d ∷ [])
  stands_pushed text is within after after_is net d all kept =
      subst (λ ks. AllZip IsKept ks (net ++ d ∷ []))
      (sym (ap (map (kept_in grown)) after_is ∙ datagrams_pushed text is within))
      (kept_push (map (kept_in bytes) entries) net (kept_in grown new) d all kept)

-- ---- what is there

-- as many as in the machine
pub count_is : (bytes : List ℕ) (entries : List Entry) (net : List Datagram) → AllZip IsKept (map (kept_in bytes) entries) net
    → length entries ≡ length net
count_is bytes entries net all = sym (length-map entries (kept_in bytes)) ∙ same_length (map (kept_in bytes) entries) net all

-- the datagram of a place
pub found_at : (bytes : List ℕ) (entries : List Entry) (i : ℕ) (e : Entry) → i < length entries → e ≡ get_or entries i e
    → (net : List Datagram) → AllZip IsKept (map (kept_in bytes) entries) net
    → (d : Datagram) × (slice_get net i ≡ Some d) × IsKept (kept_in bytes e) d
found_at bytes entries i e lt read net all =
    let long : i < length (map (kept_in bytes) entries) = omega (arith, lt, length-map entries (kept_in bytes)) in
    let at : get_or (map (kept_in bytes) entries) i (kept_in bytes e) ≡ kept_in bytes e =
    get_or-map (kept_in bytes) entries i e (kept_in bytes e) lt ∙ ap (kept_in bytes) (sym read) in
    let found : (d : Datagram) × (slice_get net i ≡ Some d) × IsKept (get_or (map (kept_in bytes) entries) i (kept_in bytes e)) d =
    kept_at (map (kept_in bytes) entries) net i (kept_in bytes e) all long in
    (found.0, found.1, subst (λ k. IsKept k found.0) at found.2)

-- the last datagram
pub last_kept : (bytes : List ℕ) (entries : List Entry) (i : ℕ) (e : Entry) → i + 1 ≡ length entries → e ≡ get_or entries i e
    → (net : List Datagram) (last : Datagram) → AllZip IsKept (map (kept_in bytes) entries) (net ++ last ∷ [])
    → IsKept (kept_in bytes e) last
last_kept bytes entries i e is read net last all =
    let back : length (map (kept_in bytes) entries) - 1 ≡ i = omega (arith, is, length-map entries (kept_in bytes)) in
    let at : get_or (map (kept_in bytes) entries) (length (map (kept_in bytes) entries) - 1) (kept_in bytes e) ≡ kept_in bytes e =
    ap (λ (k : ℕ). get_or (map (kept_in bytes) entries) k (kept_in bytes e)) back
    ∙ get_or-map (kept_in bytes) entries i e (kept_in bytes e) (omega (arith, is)) ∙ ap (kept_in bytes) (sym read) in
    subst (λ k. IsKept k last) at (kept_last (map (kept_in bytes) entries) net last (kept_in bytes e) all)

-- the least number of one that isn't marked
module _ (bytes : List ℕ) (entries : List Entry) (front : ℕ) (is : IsNetwork bytes entries front) (net : List Datagram)
    (all : AllZip IsKept (map (kept_in bytes) entries) net) where
  least : least_unmarked net ≡ cond (ltb front (length entries)) (Some (suc front)) None
  least =
      least_is (map (kept_in bytes) entries) net all
      ∙ ap (λ (n : ℕ). cond (ltb n (length (map (kept_in bytes) entries))) (Some (suc n)) None)
      (front_map (λ (k : DatagramParts). k.marked) (kept_in bytes) entries ∙ sym is.front_is)
      ∙ ap (λ (n : ℕ). cond (ltb front n) (Some (suc front)) None) (length-map entries (kept_in bytes))

  -- the first unmarked entry has the least number
  pub least_below : front < length entries → Some (front + 1) ≡ least_unmarked net
  least_below lt =
      let next : front + 1 ≡ suc front = omega arith in
      ap (λ (n : ℕ). Some n) next ∙ sym (least ∙ ap (λ b. cond b (Some (suc front)) None) (lt-ltb front (length entries) lt))

  -- where all entries are marked, no datagram is unmarked
  pub least_none : length entries ≤ front → None ≡ least_unmarked net
  least_none le = sym (least ∙ ap (λ b. cond b (Some (suc front)) None) (le-ltb front (length entries) le))

-- ---- a datagram marked

-- an entry that is marked
abbrev pub marked_entry : Entry → Entry
marked_entry e = record { start = e.start; len = e.len; sender = e.sender; receiver = e.receiver; marked = true }

module _ (bytes : List ℕ) (entries : List Entry) (i : ℕ) (e : Entry) (lt : i < length entries) (read : e ≡ get_or entries i e) where
  -- the rest of the network allows it
  pub network_marked : (front after : ℕ) → IsNetwork bytes entries front
      → after ≡ prefix_len (λ f. f.marked) (set entries i (marked_entry e))
      → IsNetwork bytes (set entries i (marked_entry e)) after
  network_marked front after is front_is = record {
    within = All-set (λ (f : Entry). f.start + f.len ≤ length bytes) entries i (marked_entry e)
        (subst (λ (f : Entry). f.start + f.len ≤ length bytes) (sym read)
        (All-get_or (λ (f : Entry). f.start + f.len ≤ length bytes) entries i e lt is.within)) is.within;
    numbered = omega (arith, length-set entries i (marked_entry e), is.numbered);
    front_is = front_is;
  }

  -- and the datagrams are those before, and it is marked
  pub datagrams_marked : (net : List Datagram) → AllZip IsKept (map (kept_in bytes) entries) net
      → AllZip IsKept (map (kept_in bytes) (set entries i (marked_entry e))) (mark_at net (suc i))
  datagrams_marked net all =
      let at : get_or (map (kept_in bytes) entries) i (kept_in bytes e) ≡ kept_in bytes e =
      get_or-map (kept_in bytes) entries i e (kept_in bytes e) lt ∙ ap (kept_in bytes) (sym read) in
      subst (λ ks. AllZip IsKept ks (mark_at net (suc i)))
      (ap (λ (k : DatagramParts). set (map (kept_in bytes) entries) i
      (record { sender = k.sender; receiver = k.receiver; bytes = k.bytes; marked = true })) at
      ∙ sym (map-set (kept_in bytes) entries i (marked_entry e)))
      (kept_mark (map (kept_in bytes) entries) net i (kept_in bytes e) all)
