-- An acceptor handed a proposal in a ballot no lower than its own accepts it, and tells of it.
use Rattle.std.proofs.Common.{◌≡◌, ◌≢◌, inl, inr, ℕ, zero, suc, ◌+◌, ◌<◌, ◌≤◌, Bool, true, false, not, ◌==◌, ◌&&◌, ◌||◌, List, [], ◌∷◌}
use Rattle.std.proofs.Common.{◌++◌, Some, None, filter_map, is_some, refl, ap, arith, nat_lt, nat_le}
use Rattle.std.specs.List.{list_all, range_with_len}
use Rattle.std.specs.Option.{option_map_or}
use Rattle.std.proofs.lemmas.Bool.{cond_both, cond-true, both_ways, and_from, and_parts, or_left, eqb-true, eq-eqb, le-leb, cases_eq}
use Rattle.std.proofs.lemmas.Bool.{not-false, not-true as not_true}
use Rattle.xid.specs.Transactions.{TxParts, participants}
use Rattle.xid.specs.declared.transaction.Vote.{Vote}
use Rattle.wire.specs.declared.items.InstanceAccept.{InstanceAccept}
use Rattle.wire.specs.declared.message.Kind.{Kind}
use Rattle.wire.specs.declared.message.Kind.TheVariants as kinds
use Rattle.ballot.specs.Choice.{Report, is_prepared}
use Rattle.ballot.specs.declared.slot.Slot.{Slot}
use Rattle.ballot.specs.Greatest.{IsIn}
use Rattle.stable_record.specs.declared.fact.FactKind.TheVariants as stored
use Rattle.protocol.specs.Basics.{Fact}
use Rattle.safety.specs.Vocabulary.{L, NodeId, Outgoing, Leaders}
use Rattle.protocol.specs.Acceptors.{is_accepted, report_after, accept_item, accept_messages, on_2a}
use Rattle.protocol.specs.Effects.{Config, Effect, is_inside, to}
use Rattle.protocol.specs.Facts.{slot, with_fact, vote_eq}
use Rattle.protocol.specs.LeaderMemory.{LeaderMemory, StoredBallots}
use Rattle.protocol.specs.Leaders.{on_2b, on_leader_message}
use Rattle.protocol.specs.Nodes.{is_message_inside}
use Rattle.protocol.proofs.Lists.{IsIn-before, IsIn-map, filter_map_gives}
use Rattle.safety.proofs.Facts.{vote_eq-is}
use Rattle.progress.proofs.Mail.{Letter, letters, letter_among}
use Rattle.progress.proofs.Slots.{mbal_below, report_same, report_new, accept_low, accept_apart, accept_here}

-- phase 2b of acceptor a, that it accepted v in ballot b of an instance, is in the mail to leader l
pub record HasAccept (config : Config) (tx : TxParts) (l b : ℕ) (post : List Letter) (a i : ℕ) (v : Vote) : Type 0 where
  pub message : Kind
  pub sent : IsIn post (record { receiver = L l; message = message })
  pub inside : is_message_inside config message ≡ true
  pub accepts : List InstanceAccept
  pub rule : (stored : StoredBallots) (memory : LeaderMemory)
      → on_leader_message config stored memory message ≡ on_2b config stored memory tx a accepts
  pub among : IsIn accepts (record { instance = i; ballot = b; vote = v })

pub accept_stays : (config : Config) (tx : TxParts) (l b : ℕ) (post more : List Letter) (a i : ℕ) (v : Vote)
    → HasAccept config tx l b post a i v → HasAccept config tx l b (post ++ more) a i v
accept_stays config tx l b post more a i v has = record {
  message = has.message;
  sent = IsIn-before post more (record { receiver = L l; message = has.message }) has.sent;
  inside = has.inside;
  accepts = has.accepts;
  rule = has.rule;
  among = has.among;
}

-- the numbers below a bound are in its list
pub number_among : (first n x : ℕ) → first ≤ x → x < first + n → IsIn (range_with_len first n) x
number_among first zero x low high = absurd (omega arith)
number_among first (suc n) x low high = elim (cases_eq first x) [
  | inl e ↦ inl e
  | inr apart ↦ inr (number_among (first + 1) n x (omega arith) (omega arith))
]

-- what passes at each passes at all
pub all_pass : {X : Type 0} (p : X → Bool) (xs : List X) → ((x : X) → IsIn xs x → p x ≡ true) → list_all p xs ≡ true
all_pass p [] each = refl
all_pass p (x ∷ xs) each = and_from (p x) (list_all p xs) (each x (inl refl)) (all_pass p xs (λ y h. each y (inr h)))

-- a slot that stands at a value has it
abbrev holds_last : Report → ℕ → Vote → Bool
holds_last report b v = option_map_or (λ last. (last.0 == b) && vote_eq last.1 v) report false

held_by : (report : Report) (b : ℕ) (v : Vote) → holds_last report b v ≡ true → report ≡ Some (b, v)
held_by None b v h = absurd (cc (h))
held_by (Some last) b v h =
    let parts = and_parts (last.0 == b) (vote_eq last.1 v) h in
    let eb = eqb-true last.0 b parts.0 in
    let ev = vote_eq-is last.1 v parts.1 in
    λ k. Some (eb k, ev k)

pub accepted_holds : (s : Slot) (b : ℕ) (v : Vote) → is_accepted s b v ≡ true → s.report ≡ Some (b, v)
accepted_holds s b v h = held_by s.report b v (and_parts (s.mbal == b) (holds_last s.report b v) h).1

module _ (config : Config) (tx : TxParts) (b a : ℕ) (facts : List Fact) (i : ℕ) (v : Vote) where
  abbrev pub told : List Outgoing
  told = accept_messages config a (slot facts) tx i b v

  -- what an accept leaves
  pub record IsAccepting (e : Effect (Unit {0})) : Type 0 where
    pub below : (j : ℕ) → (slot facts tx j).mbal ≤ b → (slot (with_fact facts e.fact) tx j).mbal ≤ b
    pub holds : (slot (with_fact facts e.fact) tx i).report ≡ Some (b, v)
    pub others : (j : ℕ) → j ≢ i → (slot (with_fact facts e.fact) tx j).report ≡ (slot facts tx j).report
    pub tells : e.sends ≡ told

  pub accepts : (slot facts tx i).mbal ≤ b → IsAccepting (on_2a config a (slot facts) tx i b v)
  accepts low = cond_both (nat_le (slot facts tx i).mbal b) _ _ IsAccepting
      (λ may. cond_both (is_accepted (slot facts tx i) b v) _ _ IsAccepting
      (λ again. record {
        below = λ j h. h;
        holds = accepted_holds (slot facts tx i) b v again;
        others = λ j apart. refl;
        tells = refl;
      })
      (λ new. record {
        below = λ j h. mbal_below facts (stored.Accept tx i b v) tx j b (accept_low tx i b v j) h;
        holds = report_new facts (stored.Accept tx i b v) tx i (b, v) (accept_here tx i b v);
        others = λ j apart. report_same facts (stored.Accept tx i b v) tx j (accept_apart tx i b v j apart);
        tells = refl;
      }))
      (λ high. absurd (both_ways (nat_le (slot facts tx i).mbal b) high (le-leb (slot facts tx i).mbal b low)))

  module _ (l : ℕ) (leader : l < config.leaders) (inside : is_inside config tx ≡ true) (small : nat_lt a config.acceptors ≡ true)
      (named : IsIn (participants tx) i) where
    -- the leader is among those that are told
    sent_to_leader : (message : Kind) → IsIn (letters config (to Leaders message ∷ [])) (record { receiver = L l; message = message })
    sent_to_leader message =
        letter_among config (to Leaders message ∷ []) (to Leaders message) (L l) (inl refl)
        (IsIn-map {Y = NodeId} L (range_with_len 0 config.leaders) l (number_among 0 config.leaders l (omega arith) (omega arith)))

    told_alone : config.bundled ≡ false → HasAccept config tx l b (letters config (to Leaders (kinds.P2b tx i b v a) ∷ [])) a i v
    told_alone plain = record {
      message = kinds.P2b tx i b v a;
      sent = sent_to_leader (kinds.P2b tx i b v a);
      inside = and_from (is_inside config tx && nat_lt a config.acceptors) (not config.bundled)
          (and_from (is_inside config tx) (nat_lt a config.acceptors) inside small) (ap not plain);
      accepts = record { instance = i; ballot = b; vote = v } ∷ [];
      rule = λ stored memory. refl;
      among = inl refl;
    }

    last_here : report_after (slot facts) tx i b v i ≡ Some (b, v)
    last_here = cond-true (i == i) (Some (b, v)) (slot facts tx i).report (eq-eqb i i refl)

    told_all : config.bundled ≡ true
        → HasAccept config tx l b
        (letters config (to Leaders
        (kinds.B2b tx a (filter_map (λ j. accept_item j (report_after (slot facts) tx i b v j)) (participants tx))) ∷ [])) a i v
    told_all bundled =
        let items = filter_map (λ j. accept_item j (report_after (slot facts) tx i b v j)) (participants tx) in
        record {
          message = kinds.B2b tx a items;
          sent = sent_to_leader (kinds.B2b tx a items);
          inside = and_from (is_inside config tx && nat_lt a config.acceptors) config.bundled
              (and_from (is_inside config tx) (nat_lt a config.acceptors) inside small) bundled;
          accepts = items;
          rule = λ stored memory. refl;
          among = filter_map_gives (λ j. accept_item j (report_after (slot facts) tx i b v j)) (participants tx) i
              (record { instance = i; ballot = b; vote = v }) named (ap (accept_item i) last_here);
        }

    -- where each instance has a value, the leader is told of this one
    pub tells_leader : ((j : ℕ) → IsIn (participants tx) j → is_some (report_after (slot facts) tx i b v j) ≡ true)
        → HasAccept config tx l b (letters config told) a i v
    tells_leader each =
        let whole = list_all (λ j. is_some (report_after (slot facts) tx i b v j)) (participants tx) in
        let all_have : whole ≡ true = all_pass (λ j. is_some (report_after (slot facts) tx i b v j)) (participants tx) each in
        cond_both (not config.bundled) _ _ (λ (sends : List Outgoing). HasAccept config tx l b (letters config sends) a i v)
        (λ plain. told_alone (not_true config.bundled plain))
        (λ bundle. cond_both (whole || not (is_prepared v)) _ _
        (λ (sends : List Outgoing). HasAccept config tx l b (letters config sends) a i v)
        (λ tell. told_all (not-false config.bundled bundle))
        (λ silent. absurd (both_ways (whole || not (is_prepared v)) silent (or_left whole (not (is_prepared v)) all_have))))
