-- What an acceptor stores and sends is well-formed.
-- Needed by WellFormed.Nodes.
use Rattle.std.proofs.Common.{◌≡◌, ℕ, ◌<◌, ◌≤◌, Bool, true, if◌then◌else◌, List, [], Some, None, unwrap_or, refl, ap}
use Rattle.std.proofs.Common.{subst, arith, nat_lt, nat_le, eq-eqb}
use Rattle.std.specs.Prelude.{filter, not, is_some, ◌||◌, ◌==◌}
use Rattle.std.specs.List.{list_all}
use Rattle.std.proofs.lemmas.Bool.{cond_both, ltb-true}
use Rattle.xid.specs.Transactions.{TxParts, IsTx, participants}
use Rattle.xid.specs.declared.transaction.Vote.{Vote}
use Rattle.wire.specs.declared.message.Kind.{Kind}
use Rattle.wire.specs.declared.message.Kind.TheVariants.{P1a, P2a, B1a}
use Rattle.wire.specs.Messages.{IsMessage, IsInstance, IsBallot, IsLeaderBallot, IsAcceptor, IsReportBelow}
use Rattle.wire.specs.declared.items.InstanceReport.{InstanceReport}
use Rattle.ballot.specs.Choice.{Report, is_prepared}
use Rattle.ballot.specs.Greatest.{IsIn}
use Rattle.stable_record.proofs.Widths.{instance_fits}
use Rattle.stable_record.specs.Facts.{IsFact}
use Rattle.stable_record.specs.declared.fact.FactKind.TheVariants as stored
use Rattle.protocol.specs.Basics.{Fact}
use Rattle.safety.specs.Vocabulary.{A}
use Rattle.safety.specs.Laws.{IsGreatestAccept}
use Rattle.protocol.specs.Facts.{slot}
use Rattle.protocol.specs.Effects.{Config, Effect, no_effect}
use Rattle.protocol.specs.Nodes.{all_play}
use Rattle.protocol.specs.Acceptors.{on_1a, on_b1a, on_2a, on_acceptor_message, is_accepted, is_some_below, report_after, accept_messages}
use Rattle.safety.proofs.Facts.{among_participants}
use Rattle.safety.proofs.Acceptor.Slots.{slot_is}
use Rattle.safety.proofs.WellFormed.Effects.{AreSends, IsWellFormed, well_answered, well_sent}
use Rattle.safety.proofs.WellFormed.Bundles.{reports_are, accepts_are, accept_ballots}
use Rattle.protocol.proofs.Lists.{filter_kept, all_mapped}

-- ---- what a slot reports

-- the ballot of a report: one that the acceptor joined, and in its range
record IsReported (mbal : ℕ) (last : ℕ × Vote) : Type 0 where
  joined : last.0 ≤ mbal
  ballot : IsBallot last.0

module _ (config : Config) (a : ℕ) (facts : List Fact) (are : (fact : Fact) → IsIn facts fact → IsFact fact)
    (plays : all_play config (A a) [] facts ≡ true) (tx : TxParts) (i : ℕ) where
  -- what a slot reports is of an accept among the facts
  slot_reports : (last : ℕ × Vote) → (slot facts tx i).report ≡ Some last → IsReported (slot facts tx i).mbal last
  slot_reports last e =
      let is = slot_is config a facts plays tx i in
      let top : IsGreatestAccept facts tx i (Some last) = subst (IsGreatestAccept facts tx i) e is.last in
      record { joined = is.accepted last.0 last.1 top.0; ballot = (are (stored.Accept tx i last.0 last.1) top.0).2 }

  -- in a greater ballot it is reported from below
  report_below : (b : ℕ) → (slot facts tx i).mbal < b → (report : Report) → (slot facts tx i).report ≡ report
      → IsReportBelow b report
  report_below b up None e = tt
  report_below b up (Some last) e = let is = (slot_reports last e).joined in omega (arith, is, up)

-- ---- the rules

module _ (config : Config) (a : ℕ) (fits : IsAcceptor a) (facts : List Fact) (are : (fact : Fact) → IsIn facts fact → IsFact fact)
    (plays : all_play config (A a) [] facts ≡ true) where
  abbrev IsFormed : Effect (Unit {0}) → Type 0
  IsFormed = IsWellFormed (λ none. Unit {0})

  quiet : IsFormed (no_effect tt)
  quiet = well_answered (λ none. Unit {0}) tt tt _

  -- whether an instance stands below a ballot
  abbrev is_low : TxParts → ℕ → ℕ → Bool
  is_low tx b i = nat_lt (slot facts tx i).mbal b

  is_below : (tx : TxParts) (i b : ℕ) → is_low tx b i ≡ true → IsReportBelow b (slot facts tx i).report
  is_below tx i b low =
      report_below config a facts are plays tx i b (ltb-true (slot facts tx i).mbal b low) (slot facts tx i).report refl

  takes_1a : (tx : TxParts) (i b : ℕ) → IsInstance tx i → IsLeaderBallot b → IsFormed (on_1a config a (slot facts) tx i b)
  takes_1a tx i b of leads = cond_both (nat_lt (slot facts tx i).mbal b) _ _ IsFormed
      (λ up. record {
        fact = (of.valid, instance_fits of, leads.fits);
        sends = ((of, leads, is_below tx i b up, fits), tt);
        memory = tt;
      })
      (λ low. quiet)

  takes_b1a : (tx : TxParts) (b : ℕ) → IsTx tx → IsLeaderBallot b → IsFormed (on_b1a config a (slot facts) tx b)
  takes_b1a tx b is leads = cond_both (is_some_below (slot facts) tx b) _ _ IsFormed
      (λ some. record {
        fact = (is, leads);
        sends = (
          (
            reports_are (slot facts) tx is (is_low tx b) some,
            leads,
            fits,
            all_mapped (λ (item : InstanceReport). IsReportBelow b item.report) _ (filter (is_low tx b) (participants tx))
                (λ i h. is_below tx i b (filter_kept (is_low tx b) (participants tx) i h).1),
          ),
          tt,
        );
        memory = tt;
      })
      (λ none. quiet)

  -- what is accepted of each instance afterwards
  some_after : (tx : TxParts) (i b : ℕ) (v : Vote) → is_some (report_after (slot facts) tx i b v i) ≡ true
  some_after tx i b v = ap (λ (t : Bool). is_some (if t then Some (b, v) else (slot facts tx i).report)) (eq-eqb i i refl)

  ballot_after : (tx : TxParts) (i b : ℕ) (v : Vote) → IsBallot b → (j : ℕ) (last : ℕ × Vote)
      → report_after (slot facts) tx i b v j ≡ Some last → IsBallot last.0
  ballot_after tx i b v ballot j last = cond_both (j == i) (Some (b, v)) (slot facts tx j).report
      (λ (r : Report). r ≡ Some last → IsBallot last.0)
      (λ here e. subst IsBallot (ap (λ (r : Report). (unwrap_or r last).0) e) ballot)
      (λ other e. (slot_reports config a facts are plays tx j last e).ballot)

  told : (tx : TxParts) (i b : ℕ) (v : Vote) → IsInstance tx i → IsBallot b → AreSends (accept_messages config a (slot facts) tx i b v)
  told tx i b v of ballot =
      let last = report_after (slot facts) tx i b v in
      cond_both (not config.bundled) _ _ AreSends
      (λ single. ((of, ballot, fits), tt))
      (λ bundled. cond_both (list_all (λ j. is_some (last j)) (participants tx) || not (is_prepared v)) _ _ AreSends
      (λ tells. (
        (
          accepts_are last tx of.valid i (among_participants tx i of.named) (some_after tx i b v),
          fits,
          accept_ballots last (participants tx) (λ j h value. ballot_after tx i b v ballot j value),
        ),
        tt,
      ))
      (λ waits. tt))

  takes_2a : (tx : TxParts) (i b : ℕ) (v : Vote) → IsInstance tx i → IsBallot b → IsFormed (on_2a config a (slot facts) tx i b v)
  takes_2a tx i b v of ballot = cond_both (nat_le (slot facts tx i).mbal b) _ _ IsFormed
      (λ up. cond_both (is_accepted (slot facts tx i) b v) _ _ IsFormed
      (λ again. well_sent (λ none. Unit {0}) tt tt _ (told tx i b v of ballot))
      (λ new. record { fact = (of.valid, instance_fits of, ballot); sends = told tx i b v of ballot; memory = tt }))
      (λ low. quiet)

  pub acceptor_takes : (message : Kind) → IsMessage message → IsFormed (on_acceptor_message config a (slot facts) message)
  acceptor_takes (P1a tx i b) is = takes_1a tx i b is.0 is.1
  acceptor_takes (B1a tx b) is = takes_b1a tx b is.0 is.1
  acceptor_takes (P2a tx i b v) is = takes_2a tx i b v is.0 is.1
  acceptor_takes message is = quiet
