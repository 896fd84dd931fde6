-- The address that a text writes; when two addresses are one; and loopback.
use Rattle.std.proofs.Common.{◌≡◌, ◌≢◌, ◌==◌, ◌&&◌, ℕ, List, [], ◌∷◌, take, Bool, true, false, Option, Some, None, Decides, refl, sym, ap}
use Rattle.std.proofs.Common.{◌∙◌, subst, inl, inr, append-nil}
use Rattle.std.specs.Prelude.{◌⊎◌, ◌↔◌, IsTrue, bytes_eq}
use Rattle.std.specs.declared.net.socket_addr.SocketAddr.{SocketAddr}
use Rattle.std.specs.declared.net.socket_addr.SocketAddr.TheVariants.{V4, V6}
use Rattle.std.specs.declared.net.socket_addr.SocketAddrV4.{SocketAddrV4}
use Rattle.std.specs.declared.net.socket_addr.SocketAddrV6.{SocketAddrV6}
use Rattle.std.specs.Net.Addr.{ipv4_octets, ipv6_segments}
use Rattle.std.specs.Net.Grammar.{IsSocketText, IsSocketV4Text, IsSocketV6Text}
use Rattle.std.specs.Net.Reader.{read_socket_v4, read_socket_v6}
use Rattle.std.specs.Net.Socket.{v4_ip, v4_port, v6_ip, v6_port, v6_flowinfo, v6_scope_id}
use Rattle.std.proofs.NetLemmas.Sockets.{read_socket_v4_complete, read_socket_v4_sound, read_socket_v6_complete, read_socket_v6_sound}
use Rattle.std.proofs.NetLemmas.Sockets.{IsSocketV4Text-not_v6}
use Rattle.std.proofs.lemmas.Bool.{and_parts}
use Rattle.std.proofs.lemmas.Bool.Decides.{same_from_decides, Decides-eqb}
use Rattle.std.proofs.lemmas.Slice.Eq.{bytes_eq-Decides}
use Rattle.cluster_file.specs.Addresses.{if_last, whole, address_v4, address_v6, socket_of, same_address, is_loopback}
use Rattle.cluster_file.specs.Clusters.{IsLoopback}

-- ---- texts

-- a value is there, or it isn't
there_or : {A : Type 0} (o : Option A) → (o ≡ None) ⊎ ((x : A) × (o ≡ Some x))
there_or None = inl refl
there_or (Some x) = inr (x, refl)

last_gives : {A : Type 0} (value found : A) (rest : List ℕ) → if_last value rest ≡ Some found
    → ◌≡◌ {A = Option (A × List ℕ)} (Some (value, rest)) (Some (found, []))
last_gives {A = A} value found [] e =
    let one : value ≡ found = cc in
    let pair : A → A × List ℕ = λ v. (v, []) in ap (λ v. Some (pair v)) one
last_gives {A = A} value found (byte ∷ rest) e = absurd (cc)

-- a whole text was read to its end
whole_gives : {A : Type 0} (read : Option (A × List ℕ)) (found : A) → whole read ≡ Some found → read ≡ Some (found, [])
whole_gives None found e = absurd (cc)
whole_gives (Some read) found e = last_gives read.0 found read.1 e

-- a text that is read as an address of four bytes is one's
v4_text : (text : List ℕ) (parts : List ℕ × ℕ) → whole (read_socket_v4 text) ≡ Some parts → IsSocketText text (address_v4 parts)
v4_text text parts e =
    let a : SocketAddrV4 = record { ip = record { octets = parts.0 }; port = parts.1 } in
    let (front, split, spelled) = read_socket_v4_sound text [] a (whole_gives (read_socket_v4 text) parts e) in
    subst (λ t. IsSocketV4Text t a) (sym (split ∙ append-nil front)) spelled

v6_text : (text : List ℕ) (parts : List ℕ × ℕ × ℕ × ℕ) → whole (read_socket_v6 text) ≡ Some parts → IsSocketText text (address_v6 parts)
v6_text text parts e =
    let a : SocketAddrV6 = record { ip = record { segments = parts.0 }; port = parts.1; flowinfo = parts.2; scope_id = parts.3 } in
    let (front, split, spelled) = read_socket_v6_sound text [] a (whole_gives (read_socket_v6 text) parts e) in
    subst (λ t. IsSocketV6Text t a) (sym (split ∙ append-nil front)) spelled

-- what writes an address of eight segments writes none of four bytes
no_v4 : (text : List ℕ) (b : SocketAddrV6) → IsSocketV6Text text b → whole (read_socket_v4 text) ≡ None
no_v4 text b h = elim (there_or (whole (read_socket_v4 text))) [
  | inl none ↦ none
  | inr some ↦ absurd (IsSocketV4Text-not_v6 text _ b (v4_text text some.0 some.1) h)
]

pub socket_there : (text : List ℕ) (address : SocketAddr) → IsSocketText text address → Some address ≡ socket_of text
unfolding socket_of
socket_there text (V4 a) h = rw (read_socket_v4_complete text a h) refl
socket_there text (V6 a) h = rw (no_v4 text a h, read_socket_v6_complete text a h) refl

pub socket_missing : (text : List ℕ) → ((address : SocketAddr) → IsSocketText text address → ⊥) → None ≡ socket_of text
unfolding socket_of
socket_missing text none =
    elim (there_or (whole (read_socket_v4 text))) [
      | inr some ↦ absurd (none (address_v4 some.0) (v4_text text some.0 some.1))
      | inl no4 ↦ elim (there_or (whole (read_socket_v6 text))) [
        | inr some ↦ absurd (none (address_v6 some.0) (v6_text text some.0 some.1))
        | inl no6 ↦ rw (no4, no6) refl
      ]
    ]

-- ---- two addresses

bytes_same : (xs ys : List ℕ) → bytes_eq xs ys ≡ true → xs ≡ ys
bytes_same xs ys e = (bytes_eq-Decides xs ys).0 e

bytes_own : (xs : List ℕ) → bytes_eq xs xs ≡ true
bytes_own xs = (bytes_eq-Decides xs xs).1 refl

number_same : (m n : ℕ) → (m == n) ≡ true → m ≡ n
number_same m n e = (Decides-eqb m n).0 e

number_own : (n : ℕ) → (n == n) ≡ true
number_own n = (Decides-eqb n n).1 refl

own_address : (a : SocketAddr) → same_address a a ≡ true
unfolding same_address
own_address (V4 a) = rw (bytes_own (ipv4_octets (v4_ip a)), number_own (v4_port a)) refl
own_address (V6 a) =
    rw (bytes_own (ipv6_segments (v6_ip a)), number_own (v6_port a), number_own (v6_flowinfo a), number_own (v6_scope_id a)) refl

one_address : (a b : SocketAddr) → same_address a b ≡ true → a ≡ b
unfolding same_address
one_address (V4 a) (V4 b) e =
    let (ip, port) = and_parts (bytes_eq (ipv4_octets (v4_ip a)) (ipv4_octets (v4_ip b))) (v4_port a == v4_port b) e in
    let octets = bytes_same (ipv4_octets (v4_ip a)) (ipv4_octets (v4_ip b)) ip in
    let ports = number_same (v4_port a) (v4_port b) port in
    λ i. V4 (record { ip = record { octets = octets i }; port = ports i })
one_address (V6 a) (V6 b) e =
    let (three, scope) = and_parts ((bytes_eq (ipv6_segments (v6_ip a)) (ipv6_segments (v6_ip b)) && v6_port a == v6_port b)
    && v6_flowinfo a == v6_flowinfo b) (v6_scope_id a == v6_scope_id b) e in
    let (two, flow) = and_parts (bytes_eq (ipv6_segments (v6_ip a)) (ipv6_segments (v6_ip b)) && v6_port a == v6_port b)
    (v6_flowinfo a == v6_flowinfo b) three in
    let (ip, port) = and_parts (bytes_eq (ipv6_segments (v6_ip a)) (ipv6_segments (v6_ip b))) (v6_port a == v6_port b) two in
    let segments = bytes_same (ipv6_segments (v6_ip a)) (ipv6_segments (v6_ip b)) ip in
    let ports = number_same (v6_port a) (v6_port b) port in
    let flows = number_same (v6_flowinfo a) (v6_flowinfo b) flow in
    let scopes = number_same (v6_scope_id a) (v6_scope_id b) scope in
    λ i. V6 (record { ip = record { segments = segments i }; port = ports i; flowinfo = flows i; scope_id = scopes i })
one_address (V4 a) (V6 b) e = absurd (cc)
one_address (V6 a) (V4 b) e = absurd (cc)

-- the test is true where the addresses are one
pub same_true : (a b : SocketAddr) → a ≡ b → same_address a b ≡ true
same_true a b e = let P : SocketAddr → Type 0 = λ x. same_address a x ≡ true in subst P e (own_address a)

-- and false where they aren't
pub same_false : (a b : SocketAddr) → a ≢ b → same_address a b ≡ false
same_false a b differs = by (same_address a b) refl
  where
    by : (t : Bool) → same_address a b ≡ t → same_address a b ≡ false
    by true e = absurd (differs (one_address a b e))
    by false e = e

-- ---- loopback

loopback_decides : (a : SocketAddr) → Decides (is_loopback a) (IsLoopback a)
unfolding is_loopback
loopback_decides (V4 a) = bytes_eq-Decides (take 1 (ipv4_octets (v4_ip a))) (127 ∷ [])
loopback_decides (V6 a) = bytes_eq-Decides (ipv6_segments (v6_ip a)) (0 ∷ 0 ∷ 0 ∷ 0 ∷ 0 ∷ 0 ∷ 0 ∷ 1 ∷ [])

-- the same as what the address says of itself
pub loopback_same : (a : SocketAddr) (r : Bool) → IsTrue r ↔ IsLoopback a → r ≡ is_loopback a
loopback_same a r h = same_from_decides r (is_loopback a) h (loopback_decides a)

pub loopback_is : (a : SocketAddr) → is_loopback a ≡ true → IsLoopback a
loopback_is a e = (loopback_decides a).0 e
