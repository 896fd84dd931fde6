-- An acceptor asked to take part in a ballot above all of its own reports each instance to the ballot's owner.
use Rattle.std.proofs.Common.{◌≡◌, ◌⊎◌, inl, inr, ℕ, ◌<◌, ◌≤◌, Bool, true, false, not, ◌&&◌, if◌then◌else◌, List, [], ◌∷◌, ◌++◌}
use Rattle.std.proofs.Common.{Some, map, filter, refl, sym, ap, subst, arith, nat_lt}
use Rattle.std.proofs.lemmas.Bool.{cond_both, both_ways, and_from, lt-ltb, cases_eq}
use Rattle.xid.specs.Transactions.{TxParts, participants}
use Rattle.wire.specs.declared.items.InstanceReport.{InstanceReport}
use Rattle.wire.specs.declared.message.Kind.{Kind}
use Rattle.wire.specs.declared.message.Kind.TheVariants as kinds
use Rattle.ballot.specs.Ballots.{owner_of}
use Rattle.ballot.specs.Greatest.{IsIn}
use Rattle.stable_record.specs.declared.fact.FactKind.TheVariants as stored
use Rattle.protocol.specs.Basics.{Fact}
use Rattle.safety.specs.Vocabulary.{L, Node}
use Rattle.protocol.specs.Acceptors.{reports_below, is_some_below, on_acceptor_message}
use Rattle.protocol.specs.Effects.{Config, Effect, is_inside, no_effect, stores, to}
use Rattle.protocol.specs.Facts.{ballot_joined, slot, with_fact}
use Rattle.protocol.specs.LeaderMemory.{LeaderMemory, StoredBallots}
use Rattle.protocol.specs.Leaders.{on_1b, on_leader_message}
use Rattle.protocol.specs.Nodes.{is_message_inside}
use Rattle.protocol.proofs.Lists.{IsIn-before, IsIn-after, IsIn-map, filter_keeps, none_found}
use Rattle.progress.proofs.Mail.{Letter, letters}
use Rattle.progress.proofs.Slots.{mbal_below, mbal_same, promise_low, promise_all_low, promise_apart}

-- phase 1a of an instance, or of all
abbrev pub ask_of : Config → TxParts → (b i : ℕ) → Kind
ask_of config tx b i = if config.bundled then kinds.B1a tx b else kinds.P1a tx i b

-- phase 1b of acceptor a in ballot b of an instance is in the mail to leader l
pub record HasReport (config : Config) (tx : TxParts) (l b : ℕ) (post : List Letter) (a i : ℕ) : Type 0 where
  pub message : Kind
  pub sent : IsIn post (record { receiver = L l; message = message })
  pub inside : is_message_inside config message ≡ true
  pub reports : List InstanceReport
  pub rule : (stored : StoredBallots) (memory : LeaderMemory)
      → on_leader_message config stored memory message ≡ on_1b config stored memory tx b a reports
  pub among : IsIn (map (λ item. item.instance) reports) i

pub report_stays : (config : Config) (tx : TxParts) (l b : ℕ) (post more : List Letter) (a i : ℕ)
    → HasReport config tx l b post a i → HasReport config tx l b (post ++ more) a i
report_stays config tx l b post more a i has = record {
  message = has.message;
  sent = IsIn-before post more (record { receiver = L l; message = has.message }) has.sent;
  inside = has.inside;
  reports = has.reports;
  rule = has.rule;
  among = has.among;
}

module _ (config : Config) (tx : TxParts) (l b a : ℕ) where
  -- an instance that may still be promised, or was reported
  abbrev pub MayReport : List Fact → List Letter → ℕ → Type 0
  MayReport facts post i =
      ((slot facts tx i).mbal < b) ⊎ (((slot facts tx i).mbal ≤ b) × HasReport config tx l b post a i)

  abbrev pub MayReportAll : List Fact → List Letter → Type 0
  MayReportAll facts post = (i : ℕ) → IsIn (participants tx) i → MayReport facts post i

  -- what an effect leaves, and instance i reported
  abbrev pub IsReporting : List Fact → List Letter → ℕ → Effect (Unit {0}) → Type 0
  IsReporting facts post i e =
      MayReportAll (with_fact facts e.fact) (post ++ letters config e.sends)
      × HasReport config tx l b (post ++ letters config e.sends) a i

  pub may_stay : (facts : List Fact) (post more : List Letter) (i : ℕ) → MayReport facts post i → MayReport facts (post ++ more) i
  may_stay facts post more i (inl low) = inl low
  may_stay facts post more i (inr has) = inr (has.0, report_stays config tx l b post more a i has.1)

  module _ (inside : is_inside config tx ≡ true) (owned : owner_of config.leaders b ≡ l) (small : nat_lt a config.acceptors ≡ true)
      (facts : List Fact) (post : List Letter) (may : MayReportAll facts post) (i : ℕ) (named : IsIn (participants tx) i) where
    pub low_or_equal : (j : ℕ) → MayReport facts post j → (slot facts tx j).mbal ≤ b
    low_or_equal j (inl low) = omega arith
    low_or_equal j (inr has) = has.0

    -- nothing was below the ballot: it was reported before
    nothing_new : ((slot facts tx i).mbal < b → ⊥) → IsReporting facts post i (no_effect tt)
    nothing_new up = (
      λ j h. may_stay facts post [] j (may j h),
      elim (may i named) [
        | inl low ↦ absurd (up low)
        | inr has ↦ report_stays config tx l b post [] a i has.1
      ],
    )

    -- what is said to the owner is in the mail
    said : (message : Kind) → IsIn (post ++ letters config (to (Node (L (owner_of config.leaders b))) message ∷ []))
        (record { receiver = L l; message = message })
    said message = IsIn-after post (letters config (to (Node (L (owner_of config.leaders b))) message ∷ []))
        (record { receiver = L l; message = message }) (inl (ap (λ (n : ℕ). record { receiver = L n; message = message }) owned))

    promised_one : config.bundled ≡ false → IsReporting facts post i
        (stores tt (stored.Promise tx i b)
        (to (Node (L (owner_of config.leaders b))) (kinds.P1b tx i b (slot facts tx i).report a) ∷ []))
    promised_one plain =
        let message : Kind = kinds.P1b tx i b (slot facts tx i).report a in
        let more = letters config (to (Node (L (owner_of config.leaders b))) message ∷ []) in
        let new : HasReport config tx l b (post ++ more) a i = record {
          message = message;
          sent = said message;
          inside = and_from (is_inside config tx && nat_lt a config.acceptors) (not config.bundled)
              (and_from (is_inside config tx) (nat_lt a config.acceptors) inside small) (ap not plain);
          reports = record { instance = i; report = (slot facts tx i).report } ∷ [];
          rule = λ stored memory. refl;
          among = inl refl;
        } in (
          λ j h. elim (cases_eq j i) [
            | inl e ↦ inr (
              mbal_below facts (stored.Promise tx i b) tx j b (promise_low tx i b j) (low_or_equal j (may j h)),
              subst (λ (k : ℕ). HasReport config tx l b (post ++ more) a k) (sym e) new,
            )
            | inr apart ↦
                let same = mbal_same facts (stored.Promise tx i b) tx j (promise_apart tx i b j apart) in
                elim (may j h) [
                  | inl low ↦ inl (omega (arith, same, low))
                  | inr has ↦ inr (omega (arith, same, has.0), report_stays config tx l b post more a j has.1)
                ]
          ],
          new,
        )

    promised_all : config.bundled ≡ true → IsReporting facts post i
        (stores tt (stored.PromiseAll tx b)
        (to (Node (L (owner_of config.leaders b))) (kinds.B1b tx b a (reports_below (slot facts) tx b)) ∷ []))
    promised_all bundled =
        let message : Kind = kinds.B1b tx b a (reports_below (slot facts) tx b) in
        let more = letters config (to (Node (L (owner_of config.leaders b))) message ∷ []) in
        let new : (j : ℕ) → IsIn (participants tx) j → HasReport config tx l b (post ++ more) a j =
        λ j h. elim (may j h) [
          | inl low ↦ record {
            message = message;
            sent = said message;
            inside = and_from (is_inside config tx && nat_lt a config.acceptors) config.bundled
                (and_from (is_inside config tx) (nat_lt a config.acceptors) inside small) bundled;
            reports = reports_below (slot facts) tx b;
            rule = λ stored memory. refl;
            among =
                let below = filter_keeps (λ (k : ℕ). nat_lt (slot facts tx k).mbal b) (participants tx) j h
                (lt-ltb (slot facts tx j).mbal b low) in
                let item = IsIn-map {Y = InstanceReport} (λ (k : ℕ). record { instance = k; report = (slot facts tx k).report })
                (filter (λ (k : ℕ). nat_lt (slot facts tx k).mbal b) (participants tx)) j below in
                IsIn-map (λ (item : InstanceReport). item.instance) (reports_below (slot facts) tx b)
                (record { instance = j; report = (slot facts tx j).report }) item;
          }
          | inr has ↦ report_stays config tx l b post more a j has.1
        ] in (
          λ j h. inr (
            mbal_below facts (stored.PromiseAll tx b) tx j b (promise_all_low tx i b j) (low_or_equal j (may j h)),
            new j h,
          ),
          new i named,
        )

    -- what the acceptor makes of phase 1a
    asked_by : (bundled : Bool) → config.bundled ≡ bundled
        → IsReporting facts post i (on_acceptor_message config a (slot facts) (if bundled then kinds.B1a tx b else kinds.P1a tx i b))
    asked_by true is = cond_both (is_some_below (slot facts) tx b) _ _ (IsReporting facts post i)
        (λ some. promised_all is)
        (λ none. nothing_new (λ low. none_found (λ (j : ℕ). nat_lt (slot facts tx j).mbal b) (participants tx) none i named
        (lt-ltb (slot facts tx i).mbal b low)))
    asked_by false is = cond_both (nat_lt (slot facts tx i).mbal b) _ _ (IsReporting facts post i)
        (λ up. promised_one is)
        (λ low. nothing_new (λ up. both_ways (nat_lt (slot facts tx i).mbal b) low (lt-ltb (slot facts tx i).mbal b up)))

    pub asked_reports : IsReporting facts post i (on_acceptor_message config a (slot facts) (ask_of config tx b i))
    asked_reports = asked_by config.bundled refl

-- what phase 1a above what was promised has an acceptor store
abbrev pub promise_of : Config → TxParts → (b i : ℕ) → Fact
promise_of config tx b i = if config.bundled then stored.PromiseAll tx b else stored.Promise tx i b

pub promise_of_low : (config : Config) (tx : TxParts) (b i j c : ℕ) → ballot_joined tx j (promise_of config tx b i) ≡ Some c → c ≤ b
promise_of_low config tx b i j c = by_form config.bundled
  where
    by_form : (bundled : Bool) → ballot_joined tx j (if bundled then stored.PromiseAll tx b else stored.Promise tx i b) ≡ Some c → c ≤ b
    by_form true e = promise_all_low tx i b j c e
    by_form false e = promise_low tx i b j c e

pub stores_promise : (config : Config) (tx : TxParts) (b i a : ℕ) (facts : List Fact) → IsIn (participants tx) i
    → (slot facts tx i).mbal < b
    → (on_acceptor_message config a (slot facts) (ask_of config tx b i)).fact ≡ Some (promise_of config tx b i)
stores_promise config tx b i a facts named low = by_form config.bundled
  where
    by_form : (bundled : Bool)
        → (on_acceptor_message config a (slot facts) (if bundled then kinds.B1a tx b else kinds.P1a tx i b)).fact
        ≡ Some (if bundled then stored.PromiseAll tx b else stored.Promise tx i b)
    by_form true = cond_both (is_some_below (slot facts) tx b) _ _
        (λ (e : Effect (Unit {0})). e.fact ≡ Some (stored.PromiseAll tx b))
        (λ some. refl)
        (λ none. absurd (none_found (λ (j : ℕ). nat_lt (slot facts tx j).mbal b) (participants tx) none i named
        (lt-ltb (slot facts tx i).mbal b low)))
    by_form false = cond_both (nat_lt (slot facts tx i).mbal b) _ _
        (λ (e : Effect (Unit {0})). e.fact ≡ Some (stored.Promise tx i b))
        (λ up. refl)
        (λ high. absurd (both_ways (nat_lt (slot facts tx i).mbal b) high (lt-ltb (slot facts tx i).mbal b low)))
