-- A round: a quiet leader begins a ballot above all that a quiet majority has promised, and has the outcome.
use Rattle.std.proofs.Common.{◌≡◌, inl, inr, ℕ, ◌<◌, Bool, true, ◌==◌, if◌then◌else◌, List, [], ◌∷◌, refl, sym, subst, arith}
use Rattle.std.proofs.lemmas.Bool.{cases_eq, both_ways, cond-true, cond-false, eq-eqb, ne_eqb}
use Rattle.xid.specs.Transactions.{TxParts, participants}
use Rattle.xid.specs.declared.transaction.Vote.{Vote}
use Rattle.xid.specs.declared.transaction.Vote.TheVariants as votes
use Rattle.wire.specs.declared.message.Kind.TheVariants.{P2a}
use Rattle.ballot.specs.Ballots.{owner_of}
use Rattle.ballot.specs.Greatest.{IsIn}
use Rattle.ballot.specs.Majority.{is_majority}
use Rattle.safety.specs.Vocabulary.{NodeId, A}
use Rattle.protocol.specs.Effects.{Config, is_inside}
use Rattle.protocol.specs.LeaderMemory.{is_proposed}
use Rattle.protocol.specs.Worlds.{World}
use Rattle.progress.specs.Runs.{leader_and_quorum}
use Rattle.progress.proofs.Mail.{mail}
use Rattle.progress.proofs.Leading.{Comes, comes_on}
use Rattle.progress.proofs.Promising.{HasReport}
use Rattle.progress.proofs.Hearing.{IsSentToAll}
use Rattle.progress.proofs.Members.{pairs, pair_in, IsFinal}
use Rattle.progress.proofs.Asking.{IsAsking, ask_all}
use Rattle.progress.proofs.Proposing.{IsHeard, propose_all}
use Rattle.progress.proofs.Voting.{IsOffered, tell_all}
use Rattle.progress.proofs.Concluding.{conclude_all}

-- a value for each thing of a list, as a function
choice : (P : ℕ → Vote → Type 0) (xs : List ℕ) → ((i : ℕ) → IsIn xs i → (v : Vote) × P i v)
    → (value : ℕ → Vote) × ((i : ℕ) → IsIn xs i → P i (value i))
choice P [] each = (λ i. votes.Aborted, λ i none. absurd none)
choice P (x ∷ xs) each =
    let first = each x (inl refl) in
    let rest = choice P xs (λ i h. each i (inr h)) in
    (λ i. if i == x then first.0 else rest.0 i, λ i h. by_case x xs first rest i h)
  where
    by_case : (x : ℕ) (xs : List ℕ) (first : (v : Vote) × P x v)
        (rest : (value : ℕ → Vote) × ((i : ℕ) → IsIn xs i → P i (value i))) (i : ℕ)
        → IsIn (x ∷ xs) i → P i (if i == x then first.0 else rest.0 i)
    by_case x xs first rest i h = elim (cases_eq i x) [
      | inl same ↦ subst (P i) (sym (cond-true (i == x) first.0 (rest.0 i) (eq-eqb i x same)))
          (subst (λ (j : ℕ). P j first.0) (sym same) first.1)
      | inr apart ↦ subst (P i) (sym (cond-false (i == x) first.0 (rest.0 i) (ne_eqb i x apart)))
          (elim h [ inl same ↦ absurd (apart (sym same)) | inr there ↦ rest.1 i there ])
    ]

module _ (config : Config) (tx : TxParts) (l : ℕ) (q : ℕ → Bool) (leader : l < config.leaders) (inside : is_inside config tx ≡ true)
    (majority : is_majority config.acceptors q ≡ true) where
  abbrev Goal : World → Type 0
  Goal = IsFinal config l tx

  abbrev part : NodeId → Bool
  part = leader_and_quorum l q

  -- ---- from one phase to the next

  module _ (b : ℕ) (owned : owner_of config.leaders b ≡ l) where
    heard_from : (world : World) → IsAsking config tx l q b world
        → ((x : ℕ × ℕ) → IsIn (pairs config q tx) x → HasReport config tx l b (mail world.net) x.0 x.1) → IsHeard config tx l q b world
    heard_from world state reported = record {
      facts = state.facts;
      memory = state.memory;
      leader = state.leader;
      current = state.current;
      sent = λ i h. absurd (both_ways (is_proposed state.memory.leader.proposed tx i b) (state.none i) h);
      each = λ a lt is.
          let one = state.each a lt is in
          record {
            facts = one.facts;
            memory = one.memory;
            at = one.at;
            below = λ i h. elim (one.may i h) [ inl low ↦ omega (arith, low) | inr has ↦ has.0 ];
          };
      reports = λ a i lt is named. reported (a, i) (pair_in config q tx a i lt is named);
    }

    offered_from : (world : World) → IsHeard config tx l q b world
        → ((i : ℕ) → IsIn (participants tx) i → IsSentToAll config tx b (mail world.net) i)
        → (value : ℕ → Vote) × IsOffered config tx l q b value world
    offered_from world state sent =
        let chosen = choice (λ i v. (a : ℕ) → a < config.acceptors
        → IsIn (mail world.net) (record { receiver = A a; message = P2a tx i b v }))
        (participants tx) sent in (
          chosen.0,
          record {
            facts = state.facts;
            memory = state.memory;
            leader = state.leader;
            each = state.each;
            offered = λ a i lt named. chosen.1 i named a lt;
          },
        )

    vote_on : (world : World) → (value : ℕ → Vote) × IsOffered config tx l q b value world → Comes config part tx Goal Goal world
    vote_on world state =
        let value = state.0 in
        comes_on config part tx Goal (λ after. IsOffered config tx l q b value after
        × ((x : ℕ × ℕ) → IsIn (pairs config q tx) x → _)) Goal world
        (tell_all config tx l q b value leader inside world state.1)
        (λ after all. conclude_all config tx l q b value majority after
        (record { facts = all.0.facts; memory = all.0.memory; leader = all.0.leader; tells = all.1 }))

    -- once the ballot was begun
    pub ask_on : (world : World) → IsAsking config tx l q b world → Comes config part tx Goal Goal world
    ask_on world state =
        comes_on config part tx Goal (λ after. IsAsking config tx l q b after
        × ((x : ℕ × ℕ) → IsIn (pairs config q tx) x → HasReport config tx l b (mail after.net) x.0 x.1)) Goal world
        (ask_all config tx l q b inside owned world state)
        (λ middle asked. comes_on config part tx Goal (λ after. IsHeard config tx l q b after
        × ((i : ℕ) → IsIn (participants tx) i → IsSentToAll config tx b (mail after.net) i)) Goal middle
        (propose_all config tx l q b majority middle (heard_from middle asked.0 asked.1))
        (λ after proposed. vote_on after (offered_from after proposed.0 proposed.1)))
