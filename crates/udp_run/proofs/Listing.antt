-- Entries of one step after another.
use Rattle.std.proofs.Common.{◌≡◌, ◌∙◌, ℕ, ◌+◌, ◌<◌, List, [], ◌∷◌, ◌++◌, length, get_or, set, refl, sym, ap, subst, add-one, append_assoc}
use Rattle.std.proofs.lemmas.List.{append-nil}
use Rattle.net_script.specs.declared.values.Command.{Command}
use Rattle.net_script.specs.declared.values.Entry.{Entry}
use Rattle.node_core.specs.declared.config.Sizes.{Sizes}
use Rattle.port.specs.Members.{MemberParts}
use Rattle.port.specs.Calls.{Receiving, Sending}
use Rattle.udp_run.specs.Sites.{SiteParts, site_of, ChangesAt}
use Rattle.udp_run.specs.Commands.{Joins, JoinsServed, Then, ServesFirst, ServesListed, Flows, CarriesOut, CarriesAll}

module _ {S : Type 0} where
  -- what some steps list, and then others
  pub joins_then : (First Next : S → S → List Entry → Type 0) (a b c : S) (x y z : List Entry) → Joins First a b x y → Joins Next b c y z
      → Joins (Then First Next) a c x z
  joins_then First Next a b c x y z h k = record {
    more = h.more ++ k.more;
    makes = record { between = b; some = h.more; more = k.more; first = h.makes; next = k.makes; entries_are = refl };
    entries_are = k.entries_are ∙ ap (λ (es : List Entry). es ++ k.more) h.entries_are ∙ append_assoc x h.more k.more;
  }

module _ {P : Type 0} (Received : Receiving P) (Sent : Sending P) where
  -- none was served yet
  pub serves_none : (a : SiteParts P) (x : List Entry) → Joins (ServesFirst Received Sent 0) a a x x
  serves_none a x = record { more = []; makes = (refl, refl); entries_are = sym (append-nil x) }

  -- no round yet
  pub flows_none : (a : SiteParts P) (x : List Entry) → Joins (Flows Received Sent 0) a a x x
  flows_none a x = record { more = []; makes = (refl, refl); entries_are = sym (append-nil x) }

  -- the node of the next place
  served_at : (sizes : Sizes) (nodes : List MemberParts) (ports : List P) (noise : P) (k : ℕ) (was node : MemberParts) (before port : P)
      (x y : List Entry) → k < length nodes → was ≡ get_or nodes k was → before ≡ get_or ports k before
      → JoinsServed Received Sent was node before port x y
      → Joins (λ a b listed. ChangesAt (ServesListed Received Sent listed) k a b) (site_of sizes nodes ports noise)
      (site_of sizes (set nodes k node) (set ports k port) noise) x y
  served_at sizes nodes ports noise k was node before port x y lt read read_port h = record {
    more = h.more;
    makes = record {
      was = was;
      node = node;
      before = before;
      port = port;
      within = lt;
      was_is = read;
      before_is = read_port;
      makes = h.serves;
      site_is = refl;
    };
    entries_are = h.entries_are;
  }

  -- one node more was served
  pub serves_next : (start : SiteParts P) (sizes : Sizes) (nodes : List MemberParts) (ports : List P) (noise : P) (k : ℕ)
      (was node : MemberParts) (before port : P) (x y z : List Entry) → k < length nodes → was ≡ get_or nodes k was
      → before ≡ get_or ports k before → JoinsServed Received Sent was node before port y z
      → Joins (ServesFirst Received Sent k) start (site_of sizes nodes ports noise) x y
      → Joins (ServesFirst Received Sent (k + 1)) start (site_of sizes (set nodes k node) (set ports k port) noise) x z
  serves_next start sizes nodes ports noise k was node before port x y z lt read read_port h so =
      subst (λ (n : ℕ). Joins (ServesFirst Received Sent n) start (site_of sizes (set nodes k node) (set ports k port) noise) x z)
      (sym (add-one k))
      (joins_then (ServesFirst Received Sent k) (λ a b listed. ChangesAt (ServesListed Received Sent listed) k a b) start
      (site_of sizes nodes ports noise) (site_of sizes (set nodes k node) (set ports k port) noise) x y z so
      (served_at sizes nodes ports noise k was node before port y z lt read read_port h))

  -- one round more
  pub flows_next : (start a b : SiteParts P) (k : ℕ) (x y z : List Entry) → Joins (Flows Received Sent k) start a x y
      → Joins (ServesFirst Received Sent (length a.nodes)) a b y z → Joins (Flows Received Sent (k + 1)) start b x z
  flows_next start a b k x y z so round =
      let turn : SiteParts P → SiteParts P → List Entry → Type 0 = λ c d listed. ServesFirst Received Sent (length c.nodes) c d listed in
      let one : Joins turn a b y z = record { more = round.more; makes = round.makes; entries_are = round.entries_are } in
      subst (λ (n : ℕ). Joins (Flows Received Sent n) start b x z) (sym (add-one k))
      (joins_then (Flows Received Sent k) turn start a b x y z so one)

  -- one command more
  carries_last : (commands : List Command) (last : Command) (a b c : SiteParts P) (some more : List Entry)
      → CarriesAll Received Sent commands a b some → CarriesOut Received Sent last b c more
      → CarriesAll Received Sent (commands ++ last ∷ []) a c (some ++ more)
  carries_last [] last a b c some more h k =
      record {
        between = c;
        some = more;
        more = [];
        first = subst (λ (s : SiteParts P). CarriesOut Received Sent last s c more) h.0 k;
        next = (refl, refl);
        entries_are = ap (λ (es : List Entry). es ++ more) h.1 ∙ sym (append-nil more);
      }
  carries_last (command ∷ commands) last a b c some more h k =
      record {
        between = h.between;
        some = h.some;
        more = h.more ++ more;
        first = h.first;
        next = carries_last commands last h.between b c h.more more h.next k;
        entries_are = ap (λ (es : List Entry). es ++ more) h.entries_are ∙ append_assoc h.some h.more more;
      }

  -- one command more was carried out
  pub carries_next : (commands : List Command) (last : Command) (a b c : SiteParts P) (x y : List Entry)
      → CarriesAll Received Sent commands a b x → Joins (CarriesOut Received Sent last) b c x y
      → CarriesAll Received Sent (commands ++ last ∷ []) a c y
  carries_next commands last a b c x y so h =
      subst (λ (es : List Entry). CarriesAll Received Sent (commands ++ last ∷ []) a c es) (sym h.entries_are)
      (carries_last commands last a b c x h.more so h.makes)
