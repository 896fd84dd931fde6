-- Addresses that stand twice.
use Rattle.std.proofs.Common.{◌≡◌, ◌≢◌, ◌∙◌, ◌+◌, ◌<◌, ℕ, List, [], ◌∷◌, ◌++◌, length, get_or, take, Bool, true, false, Some, None, Ok}
use Rattle.std.proofs.Common.{Err, refl, sym, ap}
use Rattle.std.proofs.lemmas.List.{flat_map_more, take_more}
use Rattle.std.proofs.lemmas.List.Folds.{list_any_at, list_any_none}
use Rattle.std.specs.declared.net.socket_addr.SocketAddr.{SocketAddr}
use Rattle.std.specs.declared.net.socket_addr.SocketAddr.TheVariants.{V4}
use Rattle.cluster_file.specs.declared.cluster.Place.{Place}
use Rattle.cluster_file.specs.Addresses.{same_address}
use Rattle.cluster_file.specs.Clusters.{addresses_at, addresses_of}
use Rattle.cluster_file.specs.Repeated.{apart_at, first_or, first_repeated, place_repeated, repetition, spot_at, spot_from, stands_in}
use Rattle.cluster_file.proofs.SocketLemmas.{same_true, same_false}

-- a place, where there is none
abbrev pub no_place : Place
no_place = record { node = V4 (record { ip = record { octets = [] }; port = 0 }); client = None; beside = false }

-- one that stands at a place stands among them
pub stands_at : (taken : List SocketAddr) (address : SocketAddr) (i : ℕ) (d : SocketAddr) → i < length taken → get_or taken i d ≡ address
    → stands_in taken address ≡ true
stands_at taken address i d below is =
    list_any_at (λ other. same_address other address) taken i d below (same_true (get_or taken i d) address is)

-- one that stands at no place doesn't
pub stands_nowhere : (taken : List SocketAddr) (address : SocketAddr)
    → ((k : ℕ) (d : SocketAddr) → k < length taken → get_or taken k d ≢ address) → stands_in taken address ≡ false
stands_nowhere taken address nowhere =
    list_any_none (λ other. same_address other address) taken
    (λ (k : ℕ) (d : SocketAddr) (below : k < length taken). same_false (get_or taken k d) address (nowhere k d below))

-- ---- where an address first stands

module _ (acceptors leaders : ℕ) (address : SocketAddr) (i : ℕ) (place : Place) (more : List Place) where
  pub spot_node : place.node ≡ address → spot_from acceptors leaders address i (place ∷ more) ≡ spot_at acceptors leaders i false
  spot_node is = rw (same_true place.node address is) refl

  pub spot_client : (client : SocketAddr) → place.node ≢ address → place.client ≡ Some client → client ≡ address
      → spot_from acceptors leaders address i (place ∷ more) ≡ spot_at acceptors leaders i true
  spot_client client other has is = rw (same_false place.node address other, has, same_true client address is) refl

  pub spot_later : (client : SocketAddr) → place.node ≢ address → place.client ≡ Some client → client ≢ address
      → spot_from acceptors leaders address i (place ∷ more) ≡ spot_from acceptors leaders address (i + 1) more
  spot_later client other has differs = rw (same_false place.node address other, has, same_false client address differs) refl

  pub spot_closed : place.node ≢ address → place.client ≡ None
      → spot_from acceptors leaders address i (place ∷ more) ≡ spot_from acceptors leaders address (i + 1) more
  spot_closed other has = rw (same_false place.node address other, has) refl

-- the addresses of one place more
pub addresses_more : (places : List Place) (i : ℕ) (d : Place) → i < length places
    → addresses_of (take i places) ++ addresses_at (get_or places i d) ≡ addresses_of (take (i + 1) places)
addresses_more places i d below =
    flat_map_more addresses_at [] (take i places) (get_or places i d)
    ∙ ap (λ (ps : List Place). addresses_of ps) (sym (take_more places i d below))

-- ---- the first that is repeated

-- a place whose addresses are new is passed over
pub repeated_later : (taken : List SocketAddr) (i : ℕ) (place : Place) (more : List Place) → place_repeated taken place ≡ None
    → first_repeated taken i (place ∷ more) ≡ first_repeated (taken ++ addresses_at place) (i + 1) more
unfolding first_repeated
repeated_later taken i place more new =
    ap (λ found. first_or i place found (first_repeated (taken ++ addresses_at place) (i + 1) more)) new

-- one with an address that isn't is the first
pub repeated_here : (taken : List SocketAddr) (i : ℕ) (place : Place) (more : List Place) (client : Bool)
    → place_repeated taken place ≡ Some client → first_repeated taken i (place ∷ more) ≡ Some (i, place, client)
unfolding first_repeated
repeated_here taken i place more client old =
    ap (λ found. first_or i place found (first_repeated (taken ++ addresses_at place) (i + 1) more)) old

pub repeated_nowhere : (taken : List SocketAddr) (i : ℕ) → first_repeated taken i [] ≡ None
unfolding first_repeated
repeated_nowhere taken i = refl

-- a repetition is what is wrong
pub apart_wrong : (acceptors leaders : ℕ) (places : List Place) (at : ℕ) (place : Place) (client : Bool)
    → first_repeated [] 0 places ≡ Some (at, place, client)
    → apart_at acceptors leaders places ≡ Err (repetition acceptors leaders places at place client)
unfolding apart_at
apart_wrong acceptors leaders places at place client is = rw is refl

pub apart_right : (acceptors leaders : ℕ) (places : List Place) → first_repeated [] 0 places ≡ None
    → apart_at acceptors leaders places ≡ Ok tt
unfolding apart_at
apart_right acceptors leaders places is = rw is refl
