-- Events and answers: what comes after each first word, and one value for one list of words. For their readers, and for lines of traces.
use Rattle.std.proofs.Common.{◌≡◌, ℕ, Bool, true, false, ◌||◌, List, refl, ap, codes, ◌<◌, ◌^◌, sym, subst, ◌∙◌, arith, decimal}
use Rattle.std.specs.Str.{bytes_eq}
use Rattle.net_script.specs.Basics.{A, L, R, Start, Put, Del, Get, End, EndFail, Rollback, Request, Call, Recover, Timeout, Event, Ask}
use Rattle.net_script.specs.Basics.{Deliver, Lose, Cut, Noise, Tear, Restart, Compact, Raise, Hear, Replace, Do, Flow, code_number}
use Rattle.net_script.specs.Basics.{number_of, XaCode, Refusal, Standing, Answer, Done, Code, Value, NoValue, Xids, Stands, Refused}
use Rattle.net_script.specs.Events.{IsEvent, event_word, event_words}
use Rattle.net_script.specs.Items.{IsCommand, command_words}
use Rattle.net_script.specs.Spelling.{no_words, ◌&◌, IsCommon, IsSpelling, list_of_words}
use Rattle.net_script.specs.Laws.{literal, a_number, a_node, some_bytes, an_xid, a_tx, manager_of, a_manager, leader_of, a_leader, party_of}
use Rattle.net_script.specs.Laws.{a_party, a_floor, an_ending, number_common}
use Rattle.net_script.proofs.Arms.{Arm, made_of, IsSaid, arm_said, apart, first_word}
use Rattle.std.specs.Fmt.{digits, signed_decimal}
use Rattle.std.proofs.lemmas.Fmt.{decimal_injective}
use Rattle.net_script.specs.Answers.{IsTold, IsAnswer, standing_text, code_text, answer_words}
use Rattle.net_script.proofs.WordLemmas.{differ}

-- ---- the first words, and what comes after each

pub deliver_arm : Arm (a_number & no_words) IsEvent event_words (codes "deliver") (λ said. Deliver said.0)
deliver_arm (Deliver n) p args e = made_of (n, tt) (p, tt) (cc) refl
deliver_arm (Ask n (Call x Start)) p args e = absurd (apart _ _ e refl)
deliver_arm line p args e = absurd (apart _ _ e refl)

pub lose_arm : Arm (a_number & no_words) IsEvent event_words (codes "lose") (λ said. Lose said.0)
lose_arm (Lose n) p args e = made_of (n, tt) (p, tt) (cc) refl
lose_arm (Ask n (Call x Start)) p args e = absurd (apart _ _ e refl)
lose_arm line p args e = absurd (apart _ _ e refl)

pub cut_arm : Arm (a_number & a_number & no_words) IsEvent event_words (codes "cut") (λ said. Cut said.0 said.1.0)
cut_arm (Cut n m) p args e = made_of (n, (m, tt)) (p.0, (p.1, tt)) (cc) refl
cut_arm (Ask n (Call x Start)) p args e = absurd (apart _ _ e refl)
cut_arm line p args e = absurd (apart _ _ e refl)

pub noise_arm : Arm (a_node & some_bytes & no_words) IsEvent event_words (codes "noise") (λ said. Noise said.0 said.1.0)
noise_arm (Noise n xs) p args e = made_of (n, (xs, tt)) (p.0, (p.1, tt)) (cc) refl
noise_arm (Ask n (Call x Start)) p args e = absurd (apart _ _ e refl)
noise_arm line p args e = absurd (apart _ _ e refl)

pub tear_arm : Arm (a_node & a_number & no_words) IsEvent event_words (codes "tear") (λ said. Tear said.0 said.1.0)
tear_arm (Tear n m) p args e = made_of (n, (m, tt)) (p.0, (p.1, tt)) (cc) refl
tear_arm (Ask n (Call x Start)) p args e = absurd (apart _ _ e refl)
tear_arm line p args e = absurd (apart _ _ e refl)

pub restart_arm : Arm (a_node & no_words) IsEvent event_words (codes "restart") (λ said. Restart said.0)
restart_arm (Restart n) p args e = made_of (n, tt) (p, tt) (cc) refl
restart_arm (Ask n (Call x Start)) p args e = absurd (apart _ _ e refl)
restart_arm line p args e = absurd (apart _ _ e refl)

pub compact_arm : Arm (a_node & no_words) IsEvent event_words (codes "compact") (λ said. Compact said.0)
compact_arm (Compact n) p args e = made_of (n, tt) (p, tt) (cc) refl
compact_arm (Ask n (Call x Start)) p args e = absurd (apart _ _ e refl)
compact_arm line p args e = absurd (apart _ _ e refl)

pub floor_arm : Arm (a_manager & a_floor & no_words) IsEvent event_words (codes "floor") (λ said. Raise said.0.0 said.1.0)
floor_arm (Raise m f) p args e = made_of (manager_of m, (f, tt)) (p.0, (p.1, tt)) (cc) refl
floor_arm (Ask n (Call x Start)) p args e = absurd (apart _ _ e refl)
floor_arm line p args e = absurd (apart _ _ e refl)

pub hear_arm : Arm (a_number & no_words) IsEvent event_words (codes "hear") (λ said. Hear said.0)
hear_arm (Hear n) p args e = made_of (n, tt) (p, tt) (cc) refl
hear_arm (Ask n (Call x Start)) p args e = absurd (apart _ _ e refl)
hear_arm line p args e = absurd (apart _ _ e refl)

pub replace_arm : Arm (a_node & a_floor & no_words) IsEvent event_words (codes "replace") (λ said. Replace said.0 said.1.0)
replace_arm (Replace n f) p args e = made_of (n, (f, tt)) (p.0, (p.1, tt)) (cc) refl
replace_arm (Ask n (Call x Start)) p args e = absurd (apart _ _ e refl)
replace_arm line p args e = absurd (apart _ _ e refl)

pub start_arm : Arm (a_manager & an_xid & no_words) IsEvent event_words (codes "start") (λ said. Ask (R said.0.0) (Call said.1.0 Start))
start_arm (Ask (R m) (Call x Start)) p args e = made_of (manager_of m, (x, tt)) (p.0, (p.1.0, tt)) (cc) refl
start_arm (Ask n (Call x Start)) p args e = absurd (p.1)
start_arm line p args e = absurd (apart _ _ e refl)

pub put_arm : Arm (a_manager & an_xid & some_bytes & some_bytes & no_words) IsEvent event_words (codes "put")
    (λ said. Ask (R said.0.0) (Call said.1.0 (Put said.1.1.0 said.1.1.1.0)))
put_arm (Ask (R m) (Call x (Put k v))) p args e =
    made_of (manager_of m, (x, (k, (v, tt)))) (p.0, (p.1.0, (p.1.1.0, (p.1.1.1, tt)))) (cc) refl
put_arm (Ask n (Call x (Put k v))) p args e = absurd (p.1)
put_arm line p args e = absurd (apart _ _ e refl)

pub del_arm : Arm (a_manager & an_xid & some_bytes & no_words) IsEvent event_words (codes "del")
    (λ said. Ask (R said.0.0) (Call said.1.0 (Del said.1.1.0)))
del_arm (Ask (R m) (Call x (Del k))) p args e = made_of (manager_of m, (x, (k, tt))) (p.0, (p.1.0, (p.1.1, tt))) (cc) refl
del_arm (Ask n (Call x (Del k))) p args e = absurd (p.1)
del_arm line p args e = absurd (apart _ _ e refl)

pub get_arm : Arm (a_manager & an_xid & some_bytes & no_words) IsEvent event_words (codes "get")
    (λ said. Ask (R said.0.0) (Call said.1.0 (Get said.1.1.0)))
get_arm (Ask (R m) (Call x (Get k))) p args e = made_of (manager_of m, (x, (k, tt))) (p.0, (p.1.0, (p.1.1, tt))) (cc) refl
get_arm (Ask n (Call x (Get k))) p args e = absurd (p.1)
get_arm line p args e = absurd (apart _ _ e refl)

pub end_arm : Arm (a_manager & an_xid & an_ending) IsEvent event_words (codes "end") (λ said. Ask (R said.0.0) (Call said.1.0 said.1.1))
end_arm (Ask (R m) (Call x End)) p args e = made_of (manager_of m, (x, End)) (p.0, (p.1.0, tt)) (cc) refl
end_arm (Ask (R m) (Call x EndFail)) p args e = made_of (manager_of m, (x, EndFail)) (p.0, (p.1.0, tt)) (cc) refl
end_arm (Ask n (Call x End)) p args e = absurd (p.1)
end_arm (Ask n (Call x EndFail)) p args e = absurd (p.1)
end_arm line p args e = absurd (apart _ _ e refl)

pub rollback_arm : Arm (a_manager & an_xid & no_words) IsEvent event_words (codes "rollback")
    (λ said. Ask (R said.0.0) (Call said.1.0 Rollback))
rollback_arm (Ask (R m) (Call x Rollback)) p args e = made_of (manager_of m, (x, tt)) (p.0, (p.1.0, tt)) (cc) refl
rollback_arm (Ask n (Call x Rollback)) p args e = absurd (p.1)
rollback_arm line p args e = absurd (apart _ _ e refl)

pub recover_arm : Arm (a_manager & no_words) IsEvent event_words (codes "recover") (λ said. Ask (R said.0.0) Recover)
recover_arm (Ask (R m) Recover) p args e = made_of (manager_of m, tt) (p.0, tt) (cc) refl
recover_arm (Ask n Recover) p args e = absurd (p.1)
recover_arm (Ask n (Call x Start)) p args e = absurd (apart _ _ e refl)
recover_arm line p args e = absurd (apart _ _ e refl)

pub view_arm : Arm (a_manager & a_tx & no_words) IsEvent event_words (codes "view") (λ said. Ask (R said.0.0) (Request.View said.1.0))
view_arm (Ask (R m) (Request.View t)) p args e = made_of (manager_of m, (t, tt)) (p.0, (p.1, tt)) (cc) refl
view_arm (Ask n (Request.View t)) p args e = absurd (p.1)
view_arm (Ask n (Call x Start)) p args e = absurd (apart _ _ e refl)
view_arm line p args e = absurd (apart _ _ e refl)

pub commit_arm : Arm (a_leader & a_tx & no_words) IsEvent event_words (codes "commit") (λ said. Ask (L said.0.0) (Request.Commit said.1.0))
commit_arm (Ask (L l) (Request.Commit t)) p args e = made_of (leader_of l, (t, tt)) (p.0, (p.1, tt)) (cc) refl
commit_arm (Ask n (Request.Commit t)) p args e = absurd (p.1)
commit_arm (Ask n (Call x Start)) p args e = absurd (apart _ _ e refl)
commit_arm line p args e = absurd (apart _ _ e refl)

pub status_arm : Arm (a_leader & a_tx & no_words) IsEvent event_words (codes "status") (λ said. Ask (L said.0.0) (Request.Status said.1.0))
status_arm (Ask (L l) (Request.Status t)) p args e = made_of (leader_of l, (t, tt)) (p.0, (p.1, tt)) (cc) refl
status_arm (Ask n (Request.Status t)) p args e = absurd (p.1)
status_arm (Ask n (Call x Start)) p args e = absurd (apart _ _ e refl)
status_arm line p args e = absurd (apart _ _ e refl)

pub timeout_arm : Arm (a_party & a_tx & no_words) IsEvent event_words (codes "timeout") (λ said. Ask said.0.0 (Timeout said.1.0))
timeout_arm (Ask (R m) (Timeout t)) p args e = made_of (party_of (R m), (t, tt)) (p.0, (p.1, tt)) (cc) refl
timeout_arm (Ask (L l) (Timeout t)) p args e = made_of (party_of (L l), (t, tt)) (p.0, (p.1, tt)) (cc) refl
timeout_arm (Ask (A n) (Timeout t)) p args e = absurd (p.1)
timeout_arm (Ask n (Call x Start)) p args e = absurd (apart _ _ e refl)
timeout_arm line p args e = absurd (apart _ _ e refl)

pub event_said : (e : Event) → IsEvent e → IsSaid IsEvent event_words e
event_said (Deliver n) p = arm_said (a_number & no_words) deliver_arm (literal refl refl) _ p _ refl
event_said (Lose n) p = arm_said (a_number & no_words) lose_arm (literal refl refl) _ p _ refl
event_said (Cut n m) p = arm_said (a_number & a_number & no_words) cut_arm (literal refl refl) _ p _ refl
event_said (Noise n xs) p = arm_said (a_node & some_bytes & no_words) noise_arm (literal refl refl) _ p _ refl
event_said (Tear n m) p = arm_said (a_node & a_number & no_words) tear_arm (literal refl refl) _ p _ refl
event_said (Restart n) p = arm_said (a_node & no_words) restart_arm (literal refl refl) _ p _ refl
event_said (Compact n) p = arm_said (a_node & no_words) compact_arm (literal refl refl) _ p _ refl
event_said (Raise m f) p = arm_said (a_manager & a_floor & no_words) floor_arm (literal refl refl) _ p _ refl
event_said (Hear n) p = arm_said (a_number & no_words) hear_arm (literal refl refl) _ p _ refl
event_said (Replace n f) p = arm_said (a_node & a_floor & no_words) replace_arm (literal refl refl) _ p _ refl
event_said (Ask (R m) (Call x Start)) p = arm_said (a_manager & an_xid & no_words) start_arm (literal refl refl) _ p _ refl
event_said (Ask (R m) (Call x (Put k v))) p =
    arm_said (a_manager & an_xid & some_bytes & some_bytes & no_words) put_arm (literal refl refl) _ p _ refl
event_said (Ask (R m) (Call x (Del k))) p = arm_said (a_manager & an_xid & some_bytes & no_words) del_arm (literal refl refl) _ p _ refl
event_said (Ask (R m) (Call x (Get k))) p = arm_said (a_manager & an_xid & some_bytes & no_words) get_arm (literal refl refl) _ p _ refl
event_said (Ask (R m) (Call x End)) p = arm_said (a_manager & an_xid & an_ending) end_arm (literal refl refl) _ p _ refl
event_said (Ask (R m) (Call x EndFail)) p = arm_said (a_manager & an_xid & an_ending) end_arm (literal refl refl) _ p _ refl
event_said (Ask (R m) (Call x Rollback)) p = arm_said (a_manager & an_xid & no_words) rollback_arm (literal refl refl) _ p _ refl
event_said (Ask (R m) Recover) p = arm_said (a_manager & no_words) recover_arm (literal refl refl) _ p _ refl
event_said (Ask (R m) (Request.View t)) p = arm_said (a_manager & a_tx & no_words) view_arm (literal refl refl) _ p _ refl
event_said (Ask (L l) (Request.Commit t)) p = arm_said (a_leader & a_tx & no_words) commit_arm (literal refl refl) _ p _ refl
event_said (Ask (L l) (Request.Status t)) p = arm_said (a_leader & a_tx & no_words) status_arm (literal refl refl) _ p _ refl
event_said (Ask (R m) (Timeout t)) p = arm_said (a_party & a_tx & no_words) timeout_arm (literal refl refl) _ p _ refl
event_said (Ask (L l) (Timeout t)) p = arm_said (a_party & a_tx & no_words) timeout_arm (literal refl refl) _ p _ refl
event_said (Ask n r) p = absurd (p.1)

pub event_injective : (a b : Event) → IsEvent a → IsEvent b → event_words a ≡ event_words b → a ≡ b
event_injective a b p q e = (event_said a p).one b q e

-- ---- the first words of other lines

abbrev pub is_other : List ℕ → Bool
is_other word =
    bytes_eq word (codes "cluster") || bytes_eq word (codes "table") || bytes_eq word (codes "flow") || bytes_eq word (codes "serve")
    || bytes_eq word (codes "now") || bytes_eq word (codes "sent") || bytes_eq word (codes "told") || bytes_eq word (codes "final")

event_is_none : (e : Event) → is_other (event_word e) ≡ false
event_is_none (Ask n (Call x Start)) = refl
event_is_none e = refl

pub event_apart : (word : List ℕ) (y : Event) → is_other word ≡ true → word ≡ event_word y → ⊥
event_apart word y other e =
    let none = event_is_none y in
    let same : is_other word ≡ is_other (event_word y) = ap is_other e in
    absurd (cc)

pub flow_arm : Arm (a_number & no_words) IsCommand command_words (codes "flow") (λ said. Flow said.0)
flow_arm (Flow n) p args e = made_of (n, tt) (p, tt) (cc) refl
flow_arm (Do y) p args e = absurd (event_apart (codes "flow") y refl (cc))

pub code_digits : (c : XaCode) → signed_decimal (code_number c) ≡ code_text c
unfolding digits
code_digits XaCode.Ok = refl
code_digits c = refl

pub refusal_small : (r : Refusal) → IsTold r → number_of r < 2 ^ 32
refusal_small Refusal.BadTx is = omega arith
refusal_small r is = omega arith

refusal_injective : (r s : Refusal) → IsTold r → IsTold s → number_of r ≡ number_of s → r ≡ s
refusal_injective Refusal.BadTx Refusal.BadTx p q e = refl
refusal_injective Refusal.BadMessage Refusal.BadMessage p q e = refl
refusal_injective Refusal.Damaged Refusal.Damaged p q e = refl
refusal_injective Refusal.RecordFault Refusal.RecordFault p q e = refl
refusal_injective Refusal.NoBallot Refusal.NoBallot p q e = refl
refusal_injective Refusal.Down Refusal.Down p q e = refl
refusal_injective Refusal.Busy Refusal.Busy p q e = refl
refusal_injective Refusal.Full Refusal.Full p q e = refl
refusal_injective Refusal.NoMemory Refusal.NoMemory p q e = refl
refusal_injective Refusal.PortFault Refusal.PortFault p q e = refl
refusal_injective Refusal.Forged Refusal.Forged p q e = refl
refusal_injective Refusal.NoSuch Refusal.NoSuch p q e = refl
refusal_injective Refusal.Forgotten Refusal.Forgotten p q e = refl
refusal_injective Refusal.InUse Refusal.InUse p q e = refl
refusal_injective r s p q e = absurd (grind (arith, p, q, e))

-- ---- first words

code_text_injective : (c d : XaCode) → code_text c ≡ code_text d → c ≡ d
code_text_injective XaCode.Ok XaCode.Ok e = refl
code_text_injective XaCode.RbRollback XaCode.RbRollback e = refl
code_text_injective XaCode.Nota XaCode.Nota e = refl
code_text_injective XaCode.Inval XaCode.Inval e = refl
code_text_injective XaCode.Proto XaCode.Proto e = refl
code_text_injective XaCode.RmFail XaCode.RmFail e = refl
code_text_injective XaCode.DupId XaCode.DupId e = refl
code_text_injective c d e = absurd (differ _ _ e refl)

standing_injective : (s t : Standing) → standing_text s ≡ standing_text t → s ≡ t
standing_injective Standing.Unknown Standing.Unknown e = refl
standing_injective Standing.Undecided Standing.Undecided e = refl
standing_injective Standing.Working Standing.Working e = refl
standing_injective Standing.Prepared Standing.Prepared e = refl
standing_injective Standing.Committed Standing.Committed e = refl
standing_injective Standing.Aborted Standing.Aborted e = refl
standing_injective s t e = absurd (differ _ _ e refl)

-- the number of a refusal that is told
pub a_refusal : IsSpelling IsTold (λ r. decimal (number_of r))
a_refusal = record {
  one = λ r s p q e.
      let small-r = refusal_small r p in
      let small-s = refusal_small s q in
      refusal_injective r s p q (decimal_injective (number_of r) (number_of s) (omega arith) (omega arith) e);
  common = λ r p. number_common (number_of r) (refusal_small r p);
}

-- ---- what comes after each first word

pub ok_arm : Arm no_words IsAnswer answer_words (codes "ok") (λ _. Done)
unfolding digits
ok_arm Done p args e = made_of tt tt (cc) refl
ok_arm (Code XaCode.Ok) p args e = absurd (apart _ _ e refl)
ok_arm (Stands Standing.Unknown) p args e = absurd (apart _ _ e refl)
ok_arm line p args e = absurd (apart _ _ e refl)

pub value_arm : Arm (some_bytes & no_words) IsAnswer answer_words (codes "value") (λ said. Value said.0)
unfolding digits
value_arm (Value xs) p args e = made_of (xs, tt) (p, tt) (cc) refl
value_arm (Code XaCode.Ok) p args e = absurd (apart _ _ e refl)
value_arm (Stands Standing.Unknown) p args e = absurd (apart _ _ e refl)
value_arm line p args e = absurd (apart _ _ e refl)

pub none_arm : Arm no_words IsAnswer answer_words (codes "none") (λ _. NoValue)
unfolding digits
none_arm NoValue p args e = made_of tt tt (cc) refl
none_arm (Code XaCode.Ok) p args e = absurd (apart _ _ e refl)
none_arm (Stands Standing.Unknown) p args e = absurd (apart _ _ e refl)
none_arm line p args e = absurd (apart _ _ e refl)

pub xids_arm : Arm (list_of_words an_xid) IsAnswer answer_words (codes "xids") (λ said. Xids said)
unfolding digits
xids_arm (Xids xs) p args e = made_of xs p (cc) refl
xids_arm (Code XaCode.Ok) p args e = absurd (apart _ _ e refl)
xids_arm (Stands Standing.Unknown) p args e = absurd (apart _ _ e refl)
xids_arm line p args e = absurd (apart _ _ e refl)

pub refused_arm : Arm (a_refusal & no_words) IsAnswer answer_words (codes "refused") (λ said. Refused said.0)
unfolding digits
refused_arm (Refused r) p args e = made_of (r, tt) (p, tt) (cc) refl
refused_arm (Code XaCode.Ok) p args e = absurd (apart _ _ e refl)
refused_arm (Stands Standing.Unknown) p args e = absurd (apart _ _ e refl)
refused_arm line p args e = absurd (apart _ _ e refl)

code_no_standing : (c : XaCode) (s : Standing) → bytes_eq (signed_decimal (code_number c)) (standing_text s) ≡ false
unfolding digits
code_no_standing XaCode.Ok Standing.Unknown = refl
code_no_standing c Standing.Unknown = refl
code_no_standing c s = refl

pub code_arm : (c : XaCode) → Arm no_words IsAnswer answer_words (signed_decimal (code_number c)) (λ _. Code c)
unfolding digits
code_arm c (Code d) p args e =
    made_of tt tt (cc) (ap Code (code_text_injective c d (sym (code_digits c) ∙ ap first_word e ∙ code_digits d)))
code_arm c (Stands s) p args e = absurd (apart _ _ e (code_no_standing c s))
code_arm XaCode.Ok line p args e = absurd (apart _ _ e refl)
code_arm c line p args e = absurd (apart _ _ e refl)

pub standing_arm : (s : Standing) → Arm no_words IsAnswer answer_words (standing_text s) (λ _. Stands s)
unfolding digits
standing_arm s (Stands t) p args e = made_of tt tt (cc) (ap Stands (standing_injective s t (ap first_word e)))
standing_arm s (Code c) p args e = absurd (apart _ _ (sym e) (code_no_standing c s))
standing_arm Standing.Unknown line p args e = absurd (apart _ _ e refl)
standing_arm s line p args e = absurd (apart _ _ e refl)

code_text_common : (c : XaCode) → IsCommon (code_text c)
code_text_common XaCode.Ok = literal refl refl
code_text_common c = literal refl refl

code_common : (c : XaCode) → IsCommon (signed_decimal (code_number c))
code_common c = subst IsCommon (sym (code_digits c)) (code_text_common c)

standing_common : (s : Standing) → IsCommon (standing_text s)
standing_common Standing.Unknown = literal refl refl
standing_common s = literal refl refl

pub answer_said : (a : Answer) → IsAnswer a → IsSaid IsAnswer answer_words a
answer_said Done p = arm_said no_words ok_arm (literal refl refl) _ p _ refl
answer_said (Value xs) p = arm_said (some_bytes & no_words) value_arm (literal refl refl) _ p _ refl
answer_said NoValue p = arm_said no_words none_arm (literal refl refl) _ p _ refl
answer_said (Xids xs) p = arm_said (list_of_words an_xid) xids_arm (literal refl refl) _ p _ refl
answer_said (Refused r) p = arm_said (a_refusal & no_words) refused_arm (literal refl refl) _ p _ refl
answer_said (Code c) p = arm_said no_words (code_arm c) (code_common c) _ p _ refl
answer_said (Stands s) p = arm_said no_words (standing_arm s) (standing_common s) _ p _ refl
