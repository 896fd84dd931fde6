-- What a resource manager answers and where it sends: values are bytes, and the names of prepared branches are XIDs.
use Rattle.std.proofs.Common.{◌≡◌, ℕ, Bool, true, false, ◌&&◌, ◌||◌, List, [], ◌∷◌, Option, Some, None, inl, inr, refl, sym, subst, nat_lt}
use Rattle.std.specs.Prelude.{filter_map, find, fold, is_none, is_some, IfSome}
use Rattle.std.specs.List.{AllByRecursion}
use Rattle.std.specs.Option.{option_map}
use Rattle.std.specs.Ordering.{is_lt}
use Rattle.std.specs.Str.{bytes_eq}
use Rattle.std.proofs.lemmas.Bool.{cond_both}
use Rattle.std.proofs.lemmas.List.Elements.{All-from_recursion, recursion_from_All}
use Rattle.xid.specs.Limits.{most_touched}
use Rattle.xid.specs.Names.{XidParts, xid_eq, xid_cmp, IsBytes, IsXid}
use Rattle.xid.specs.Transactions.{BranchParts, IsBranch, TxParts, IsTx, is_at, is_participant, xid_at, xid_of}
use Rattle.xid.specs.declared.transaction.Vote.{Vote}
use Rattle.wire.specs.declared.message.Kind.{Kind}
use Rattle.wire.specs.declared.message.Kind.TheVariants.{Prepare, Commit, Abort}
use Rattle.ballot.specs.Greatest.{IsIn}
use Rattle.stable_record.specs.Facts.{IsFact, IsTouched, IsAct}
use Rattle.stable_record.specs.declared.fact.Act.{Act}
use Rattle.stable_record.specs.declared.fact.FactKind.{FactKind as Fact}
use Rattle.stable_record.specs.declared.fact.Touched.{Touched}
use Rattle.safety.specs.Vocabulary.{Action, Start, Put, Del, Get, End, EndFail, Rollback, Answer, Outgoing, BranchState, Row}
use Rattle.protocol.specs.Branches.{BranchView, by_state, call_answer, get_answer, hinders, key_fits, read_of, row_at, touch_answer}
use Rattle.protocol.specs.Branches.{rollback_answer, value_after, value_fits}
use Rattle.protocol.specs.Effects.{Config, Effect, is_inside}
use Rattle.protocol.specs.Facts.{Bound, bound_branches, is_prepared_view, is_open_view, is_spent}
use Rattle.protocol.specs.Managers.{Branch, act_on, all_branches, view_by, view_named, is_hindered, named_answer, stored_votes}
use Rattle.protocol.specs.Managers.{on_call, insert_xid, on_recover, on_view_call, vote_sent, first_vote, idle_keys}
use Rattle.protocol.specs.Managers.{on_manager_message, on_manager_timeout}
use Rattle.protocol.proofs.Lists.{all_each, all_in, all_joined, filter_map_given, found_among}
use Rattle.protocol.proofs.Manager.Apart.{bound_stored}
use Rattle.protocol.proofs.Manager.Prepared.{prepared_or_not}
use Rattle.safety.proofs.WellFormed.Branches.{AreHeld}
use Rattle.net_script.specs.Answers.{IsAnswer}
use Rattle.run_traces.proofs.Nodes.{AreAddressed, IsTellable, IsAddress, quiet}
use Rattle.run_traces.proofs.Rows.{KeepLimits, bound_fits}

-- ---- calls

got_is : (found : Option (List ℕ)) → IfSome found IsBytes → IsAnswer (get_answer found)
got_is None is = tt
got_is (Some bytes) is = is

state_is : (state : Option BranchState) (absent active ended : Answer) → IsAnswer absent → IsAnswer active → IsAnswer ended
    → IsAnswer (by_state state absent active ended)
state_is None absent active ended p q r = p
state_is (Some BranchState.Active) absent active ended p q r = q
state_is (Some other) absent active ended p q r = r

touched_is : (shows : BranchView) (busy : Bool) (key : List ℕ) (reply : Answer) → IsAnswer reply
    → IsAnswer (touch_answer shows busy key reply)
touched_is shows busy key reply is =
    state_is shows.state _ _ _ tt
    (cond_both busy _ _ IsAnswer (λ held. tt)
    (λ free. cond_both (shows.touched key || nat_lt shows.count most_touched) _ _ IsAnswer (λ room. is) (λ full. tt))) tt

rolled_is : (state : Option BranchState) → IsAnswer (rollback_answer state)
rolled_is None = tt
rolled_is (Some BranchState.Prepared) = tt
rolled_is (Some BranchState.Active) = tt
rolled_is (Some other) = tt

module _ (rows : List Row) (shows : BranchView) (busy : Bool) (read : (key : List ℕ) → IfSome (read_of rows shows key) IsBytes) where
  call_is : (action : Action) → IsAnswer (call_answer rows shows busy action)
  call_is Start = cond_both (is_none shows.state) _ _ IsAnswer (λ new. tt) (λ there. tt)
  call_is (Put key value) = cond_both (key_fits key && value_fits value) _ _ IsAnswer (λ fits. touched_is shows busy key _ tt) (λ bad. tt)
  call_is (Del key) = cond_both (key_fits key) _ _ IsAnswer (λ fits. touched_is shows busy key _ tt) (λ bad. tt)
  call_is (Get key) = cond_both (key_fits key) _ _ IsAnswer
      (λ fits. touched_is shows busy key _ (got_is (read_of rows shows key) (read key))) (λ bad. tt)
  call_is End = state_is shows.state _ _ _ tt tt tt
  call_is EndFail = state_is shows.state _ _ _ tt tt tt
  call_is Rollback = rolled_is shows.state

  named_is : (spent : Bool) (action : Action) → IsAnswer (named_answer spent rows shows busy action)
  named_is true Start = tt
  named_is spent action = call_is action

-- ---- what is read

value_is : (act : Act) (before : Option (List ℕ)) → IsAct act → IfSome before IsBytes → IfSome (value_after act before) IsBytes
value_is Act.Read before fits is = is
value_is (Act.Put value) before fits is = fits.bytes
value_is Act.Del before fits is = tt

row_is : (rows : List Row) (key : List ℕ) → KeepLimits rows → IfSome (row_at rows key) IsBytes
row_is [] key are = tt
row_is (row ∷ rows) key are =
    cond_both (bytes_eq row.key key) (Some row.value) (row_at rows key) (λ (o : Option (List ℕ)). IfSome o IsBytes)
    (λ here. are.0.value.bytes) (λ other. row_is rows key are.1)

act_is : (keys : List Touched) (key : List ℕ) → AllByRecursion IsTouched keys → IsAct (act_on keys key)
act_is [] key are = tt
act_is (first ∷ keys) key are =
    cond_both (bytes_eq first.key key) first.act (act_on keys key) IsAct (λ here. are.0.act) (λ other. act_is keys key are.1)

shown_is : (branches : List Branch) → ((b : Branch) → IsIn branches b → AllByRecursion IsTouched b.keys) → (x : XidParts) (key : List ℕ)
    → IsAct ((view_named branches x).act key)
shown_is [] fit x key = tt
shown_is (b ∷ branches) fit x key =
    cond_both (xid_eq b.xid x) (view_by b.state b.keys) (view_named branches x) (λ (shows : BranchView). IsAct (shows.act key))
    (λ here. act_is b.keys key (fit b (inl refl))) (λ other. shown_is branches (λ c h. fit c (inr h)) x key)

-- ---- names

branch_named : (tx : TxParts) (b : BranchParts) → IsTx tx → IsBranch b → IsXid (xid_of tx b)
branch_named tx b is of = record { format = is.format; gtrid = is.gtrid; bqual = of.bqual }

-- the name of a branch of a transaction is an XID
name_by : (tx : TxParts) (rm : ℕ) (x : XidParts) → IsTx tx → (o : Option BranchParts) → find (is_at rm) tx.branches ≡ o
    → option_map (xid_of tx) o ≡ Some x → IsXid x
name_by tx rm x is None e named = absurd (cc (named))
name_by tx rm x is (Some b) e named =
    let each = recursion_from_All IsBranch tx.branches is.branches.each in
    let same : xid_of tx b ≡ x = cc (named) in
    subst IsXid same (branch_named tx b is (all_in IsBranch tx.branches each b (found_among (is_at rm) tx.branches b e).0))

name_is : (tx : TxParts) (rm : ℕ) (x : XidParts) → IsTx tx → xid_at tx rm ≡ Some x → IsXid x
name_is tx rm x is named = name_by tx rm x is (find (is_at rm) tx.branches) refl named

inserted_are : (x : XidParts) (xids : List XidParts) → IsXid x → AllByRecursion IsXid xids → AllByRecursion IsXid (insert_xid x xids)
inserted_are x [] is are = (is, tt)
inserted_are x (y ∷ xids) is are = cond_both (is_lt (xid_cmp x y)) _ _ (AllByRecursion IsXid) (λ before. (is, are))
    (λ after. (are.0, inserted_are x xids is are.1))

ordered_are : (before xids : List XidParts) → AllByRecursion IsXid before → AllByRecursion IsXid xids
    → AllByRecursion IsXid (fold (λ xs x. insert_xid x xs) before xids)
ordered_are before [] are more = are
ordered_are before (x ∷ xids) are more = ordered_are (insert_xid x before) xids (inserted_are x before more.0 are) more.1

-- ---- a resource manager

module _ (config : Config) (rm : ℕ) (facts : List Fact) (branches : List Branch) (held : AreHeld branches)
    (stored : (fact : Fact) → IsIn facts fact → IsFact fact) where
  abbrev Tells : Effect (List Branch) → Type 0
  Tells = λ (e : Effect (List Branch)). IsTellable e

  keys_fit : (b : Branch) → IsIn (all_branches rm (bound_branches facts) branches) b → AllByRecursion IsTouched b.keys
  keys_fit b h = elim (prepared_or_not rm facts branches b h) [
    | inl prepared ↦ subst (AllByRecursion IsTouched) (sym prepared.keys)
        (bound_fits facts stored prepared.bound (bound_stored facts prepared.bound prepared.among).voted)
    | inr own ↦ (held b own).each
  ]

  pub call_tells : (rows : List Row) → KeepLimits rows → (x : XidParts) (action : Action)
      → IsTellable (on_call rm (stored_votes rm facts) rows branches x action)
  call_tells rows are x action =
      let all = all_branches rm (bound_branches facts) branches in
      record {
        answer = named_is rows (view_named all x) (is_hindered (hinders action) all x) (λ key.
            value_is ((view_named all x).act key) (row_at rows key) (shown_is all keys_fit x key) (row_is rows key are))
            (is_spent rm facts x) action;
        sends = tt;
      }

  xid_known : (bounds : List Bound) → ((bound : Bound) → IsIn bounds bound → IsTx bound.tx)
      → AllByRecursion IsXid (filter_map (λ (bound : Bound). xid_at bound.tx rm) bounds)
  xid_known bounds are = all_each IsXid (filter_map (λ (bound : Bound). xid_at bound.tx rm) bounds) (λ x h.
      let given = filter_map_given (λ (bound : Bound). xid_at bound.tx rm) bounds x h in
      name_is given.source.tx rm x (are given.source given.among) given.gives)

  pub recover_tells : IsTellable (on_recover rm (stored_votes rm facts) branches)
  recover_tells =
      let names = filter_map (λ (bound : Bound). xid_at bound.tx rm) (bound_branches facts) in
      record {
        answer = All-from_recursion IsXid (fold (λ xs x. insert_xid x xs) [] names) (ordered_are [] names tt
            (xid_known (bound_branches facts) (λ bound h.
            (stored (Fact.VotePrepared bound.tx bound.keys) (bound_stored facts bound h).voted).0)));
        sends = tt;
      }

  pub view_tells : (tx : TxParts) → IsTellable (on_view_call config rm (stored_votes rm facts) branches tx)
  view_tells tx = record {
    answer = cond_both (is_inside config tx && is_participant tx rm) _ _ IsAnswer (λ known. tt) (λ other. tt);
    sends = tt;
  }

  vote_addressed : (tx : TxParts) (vote : Option Vote) → AreAddressed (vote_sent rm tx vote)
  vote_addressed tx None = tt
  vote_addressed tx (Some v) = (tt, tt)

  first_tells : (tx : TxParts) (x : XidParts) (spent : Bool) (idle : Option (List Touched))
      → IsTellable (first_vote rm branches tx x spent idle)
  first_tells tx x false (Some keys) = record { answer = tt; sends = (tt, tt) }
  first_tells tx x spent idle = record { answer = tt; sends = (tt, tt) }

  pub manager_tells : (name : Option XidParts) (message : Kind)
      → IsTellable (on_manager_message rm (stored_votes rm facts) branches name message)
  manager_tells (Some x) (Prepare tx) =
      let votes = stored_votes rm facts in
      cond_both (is_some (votes.vote tx)) _ _ Tells (λ voted. record { answer = tt; sends = vote_addressed tx (votes.vote tx) })
      (λ new. cond_both (votes.is_ended tx) _ _ Tells (λ ended. quiet branches)
      (λ pending. first_tells tx x (votes.is_spent x) (idle_keys branches x)))
  manager_tells (Some x) (Commit tx) =
      cond_both (is_prepared_view ((stored_votes rm facts).view tx)) _ _ Tells (λ prepared. record { answer = tt; sends = tt })
      (λ other. quiet branches)
  manager_tells (Some x) (Abort tx) =
      cond_both (is_open_view ((stored_votes rm facts).view tx)) _ _ Tells (λ pending. record { answer = tt; sends = tt })
      (λ other. quiet branches)
  manager_tells name message = quiet branches

  pub timeout_tells : (tx : TxParts) → IsTellable (on_manager_timeout config rm (stored_votes rm facts) branches tx)
  timeout_tells tx =
      let votes = stored_votes rm facts in
      cond_both (is_inside config tx) _ _ Tells
      (λ inside. record {
        answer = tt;
        sends = all_joined (λ (send : Outgoing). IsAddress send.to) (vote_sent rm tx (votes.vote tx)) _ (vote_addressed tx (votes.vote tx))
            (cond_both (is_prepared_view (votes.view tx)) _ _ AreAddressed (λ prepared. (tt, tt)) (λ other. tt));
      })
      (λ outside. record { answer = tt; sends = tt })
