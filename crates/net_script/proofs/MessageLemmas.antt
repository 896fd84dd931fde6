-- Messages: what comes after each first word, and one value for one list of words.
use Rattle.std.proofs.Common.{◌≡◌, ℕ, ◌<◌, ◌^◌, List, [], ◌∷◌, map, Option, None, Some, refl, sym, ap, subst, ◌∙◌, arith, codes}
use Rattle.std.specs.List.{AllByRecursion}
use Rattle.std.proofs.lemmas.List.{length-map}
use Rattle.std.proofs.lemmas.List.Elements.{All-from_recursion}
use Rattle.xid.specs.Limits.{most_managers}
use Rattle.wire.specs.Messages.{IsInstance, IsReportBelow}
use Rattle.wire.proofs.Fields.{tx_valid}
use Rattle.wire.proofs.Instances.{instance_below, instances_below, few_instances}
use Rattle.net_script.specs.Basics.{TxParts, tx_text, IsMessage, message_tx, Vote, Kind, Prepare, P1a, P1b, P2a, P2b, Commit, Abort, B1a}
use Rattle.net_script.specs.Basics.{B1b, B2b, InstanceReport, InstanceAccept}
use Rattle.net_script.specs.declared.message_words.Said.{Said}
use Rattle.net_script.specs.Messages.{message_word, message_args, message_words, FitsReport, FitsReportItem, FitsAcceptItem, FitsKind}
use Rattle.net_script.specs.Messages.{IsForm, kind_of, said_words, FitsSaid}
use Rattle.net_script.specs.Spelling.{IsCommon, AreSpellings, no_words, ◌&◌, items_of_words}
use Rattle.net_script.specs.Laws.{a_number, manager_of, a_manager, acceptor_of, an_acceptor, a_tx, literal, a_vote, a_report_item}
use Rattle.net_script.specs.Laws.{an_accept_item, reported, a_report}
use Rattle.net_script.proofs.Arms.{Arm, made_of, IsSaid, arm_said, apart}

-- ---- the first words, and what comes after each and a transaction

pub prepare_arm : Arm no_words FitsSaid said_words (codes "prepare") (λ said. Said.Prepare)
prepare_arm Said.Prepare p args e = made_of tt tt (cc) refl
prepare_arm line p args e = absurd (apart _ _ e refl)

pub p1a_arm : Arm (a_manager & a_number & no_words) FitsSaid said_words (codes "p1a") (λ said. Said.P1a said.0.0 said.1.0)
p1a_arm (Said.P1a rm n) p args e = made_of (manager_of rm, (n, tt)) (p.0, (p.1, tt)) (cc) refl
p1a_arm line p args e = absurd (apart _ _ e refl)

pub p1b_arm : Arm (a_manager & a_number & a_report) FitsSaid said_words (codes "p1b")
    (λ said. Said.P1b said.0.0 said.1.0 said.1.1.report said.1.1.acceptor)
p1b_arm (Said.P1b rm n r a) p args e = made_of (manager_of rm, (n, reported r a)) (p.0, (p.1, (p.2, p.3))) (cc) refl
p1b_arm line p args e = absurd (apart _ _ e refl)

pub p2a_arm : Arm (a_manager & a_number & a_vote & no_words) FitsSaid said_words (codes "p2a")
    (λ said. Said.P2a said.0.0 said.1.0 said.1.1.0)
p2a_arm (Said.P2a rm n v) p args e = made_of (manager_of rm, (n, (v, tt))) (p.0, (p.1, (tt, tt))) (cc) refl
p2a_arm line p args e = absurd (apart _ _ e refl)

pub p2b_arm : Arm (a_manager & a_number & a_vote & an_acceptor & no_words) FitsSaid said_words (codes "p2b")
    (λ said. Said.P2b said.0.0 said.1.0 said.1.1.0 said.1.1.1.0.0)
p2b_arm (Said.P2b rm n v a) p args e =
    made_of (manager_of rm, (n, (v, (acceptor_of a, tt)))) (p.0, (p.1, (tt, (p.2, tt)))) (cc) refl
p2b_arm line p args e = absurd (apart _ _ e refl)

pub commit_arm : Arm no_words FitsSaid said_words (codes "commit") (λ said. Said.Commit)
commit_arm Said.Commit p args e = made_of tt tt (cc) refl
commit_arm line p args e = absurd (apart _ _ e refl)

pub abort_arm : Arm no_words FitsSaid said_words (codes "abort") (λ said. Said.Abort)
abort_arm Said.Abort p args e = made_of tt tt (cc) refl
abort_arm line p args e = absurd (apart _ _ e refl)

pub ask_arm : Arm (a_manager & no_words) FitsSaid said_words (codes "ask") (λ said. Said.Ask said.0.0)
ask_arm (Said.Ask rm) p args e = made_of (manager_of rm, tt) (p, tt) (cc) refl
ask_arm line p args e = absurd (apart _ _ e refl)

pub b1a_arm : Arm (a_number & no_words) FitsSaid said_words (codes "b1a") (λ said. Said.B1a said.0)
b1a_arm (Said.B1a n) p args e = made_of (n, tt) (p, tt) (cc) refl
b1a_arm line p args e = absurd (apart _ _ e refl)

pub b1b_arm : Arm (a_number & an_acceptor & items_of_words a_report_item) FitsSaid said_words (codes "b1b")
    (λ said. Said.B1b said.0 said.1.0.0 said.1.1)
b1b_arm (Said.B1b n a rs) p args e = made_of (n, (acceptor_of a, rs)) (p.0, (p.1, p.2)) (cc) refl
b1b_arm line p args e = absurd (apart _ _ e refl)

pub b2b_arm : Arm (an_acceptor & items_of_words an_accept_item) FitsSaid said_words (codes "b2b") (λ said. Said.B2b said.0.0 said.1)
b2b_arm (Said.B2b a vs) p args e = made_of (acceptor_of a, vs) (p.0, p.1) (cc) refl
b2b_arm line p args e = absurd (apart _ _ e refl)

pub said_alone : (said : Said) → FitsSaid said → IsSaid FitsSaid said_words said
said_alone Said.Prepare p = arm_said no_words prepare_arm (literal refl refl) _ p _ refl
said_alone (Said.P1a rm n) p = arm_said (a_manager & a_number & no_words) p1a_arm (literal refl refl) _ p _ refl
said_alone (Said.P1b rm n r a) p = arm_said (a_manager & a_number & a_report) p1b_arm (literal refl refl) _ p _ refl
said_alone (Said.P2a rm n v) p = arm_said (a_manager & a_number & a_vote & no_words) p2a_arm (literal refl refl) _ p _ refl
said_alone (Said.P2b rm n v a) p = arm_said (a_manager & a_number & a_vote & an_acceptor & no_words) p2b_arm (literal refl refl) _ p _ refl
said_alone Said.Commit p = arm_said no_words commit_arm (literal refl refl) _ p _ refl
said_alone Said.Abort p = arm_said no_words abort_arm (literal refl refl) _ p _ refl
said_alone (Said.Ask rm) p = arm_said (a_manager & no_words) ask_arm (literal refl refl) _ p _ refl
said_alone (Said.B1a n) p = arm_said (a_number & no_words) b1a_arm (literal refl refl) _ p _ refl
said_alone (Said.B1b n a rs) p = arm_said (a_number & an_acceptor & items_of_words a_report_item) b1b_arm (literal refl refl) _ p _ refl
said_alone (Said.B2b a vs) p = arm_said (an_acceptor & items_of_words an_accept_item) b2b_arm (literal refl refl) _ p _ refl

-- ---- with a transaction

-- what a message says of its transaction
pub record Beside (m : Kind) : Type 0 where
  pub said : Said
  pub is : kind_of (message_tx m) said ≡ m
  pub words : said_words said ≡ message_word m ∷ message_args m
  pub fits : FitsKind m → FitsSaid said

pub beside : (m : Kind) → Beside m
beside (Prepare t) = record { said = Said.Prepare; is = refl; words = refl; fits = λ p. p }
beside (P1a t rm n) = record { said = Said.P1a rm n; is = refl; words = refl; fits = λ p. p }
beside (P1b t rm n r a) = record { said = Said.P1b rm n r a; is = refl; words = refl; fits = λ p. p }
beside (P2a t rm n v) = record { said = Said.P2a rm n v; is = refl; words = refl; fits = λ p. p }
beside (P2b t rm n v a) = record { said = Said.P2b rm n v a; is = refl; words = refl; fits = λ p. p }
beside (Commit t) = record { said = Said.Commit; is = refl; words = refl; fits = λ p. p }
beside (Abort t) = record { said = Said.Abort; is = refl; words = refl; fits = λ p. p }
beside (Kind.Ask t rm) = record { said = Said.Ask rm; is = refl; words = refl; fits = λ p. p }
beside (B1a t n) = record { said = Said.B1a n; is = refl; words = refl; fits = λ p. p }
beside (B1b t n a rs) = record { said = Said.B1b n a rs; is = refl; words = refl; fits = λ p. p }
beside (B2b t a vs) = record { said = Said.B2b a vs; is = refl; words = refl; fits = λ p. p }

around : {a b t u : List ℕ} {xs ys : List (List ℕ)} → a ∷ t ∷ xs ≡ b ∷ u ∷ ys → (a ∷ xs ≡ b ∷ ys) × (t ≡ u)
around e = (cc, cc)

-- a message's words are those of what it says, and of its transaction
pub same_words : (m : Kind) {a t : List ℕ} {xs : List (List ℕ)} → a ∷ t ∷ xs ≡ message_words m
    → (a ∷ xs ≡ said_words (beside m).said) × (t ≡ tx_text (message_tx m))
same_words m e = let parts = around e in (parts.0 ∙ sym (beside m).words, parts.1)

pub message_said : (m : Kind) → IsForm m → IsSaid IsForm message_words m
message_said m p =
    let own = beside m in
    let law = said_alone own.said (own.fits p.1) in
    let common : AllByRecursion IsCommon (message_word m ∷ message_args m) =
    subst (AllByRecursion IsCommon) own.words law.common in
    record {
      one = λ other q e.
          let its = beside other in
          let parts = same_words other e in
          let tx : message_tx m ≡ message_tx other = a_tx.one (message_tx m) (message_tx other) p.0 q.0 parts.1 in
          let same : own.said ≡ its.said = law.one its.said (its.fits q.1) (own.words ∙ parts.0) in
          sym own.is ∙ ap (λ (t : TxParts). kind_of t own.said) tx ∙ ap (kind_of (message_tx other)) same ∙ its.is;
      common = (common.0, (a_tx.common (message_tx m) p.0, common.1));
    }

-- ---- a message's numbers are those of words

below : {tx : TxParts} {rm : ℕ} → IsInstance tx rm → rm < 256
below is = let low = instance_below is in omega arith

report_fits : (r : Option (ℕ × Vote)) (ballot : ℕ) → ballot < 2 ^ 32 → IsReportBelow ballot r → FitsReport r
report_fits None ballot lt is = tt
report_fits (Some a) ballot lt is = omega arith

report_items_fit : (ballot : ℕ) (items : List InstanceReport) → ballot < 2 ^ 32
    → AllByRecursion (λ n. n < most_managers) (map (λ item. item.instance) items)
    → AllByRecursion (λ item. IsReportBelow ballot item.report) items
    → AllByRecursion FitsReportItem items
report_items_fit ballot [] lt low are = tt
report_items_fit ballot (item ∷ items) lt low are = (
  record { instance = omega (arith, low.0); report = report_fits item.report ballot lt are.0 },
  report_items_fit ballot items lt low.1
      are.1,
)

accept_items_fit : (items : List InstanceAccept) → AllByRecursion (λ n. n < most_managers) (map (λ item. item.instance) items)
    → AllByRecursion (λ item. item.ballot < 2 ^ 32) items
    → AllByRecursion FitsAcceptItem items
accept_items_fit [] low are = tt
accept_items_fit (item ∷ items) low are =
    (record { instance = omega (arith, low.0); ballot = are.0 }, accept_items_fit items low.1 are.1)

pub message_fits : (m : Kind) → IsMessage m → FitsKind m
message_fits (Prepare tx) is = tt
message_fits (P1a tx rm ballot) is = (below is.0, is.1.fits)
message_fits (P1b tx rm ballot report acceptor) is =
    (below is.0, is.1.fits, report_fits report ballot is.1.fits is.2, let low = is.3 in omega arith)
message_fits (P2a tx rm ballot vote) is = (below is.0, is.1)
message_fits (P2b tx rm ballot vote acceptor) is = (below is.0, is.1, let low = is.2 in omega arith)
message_fits (Commit tx) is = tt
message_fits (Abort tx) is = tt
message_fits (Kind.Ask tx rm) is = below is
message_fits (B1a tx ballot) is = is.1.fits
message_fits (B1b tx ballot acceptor reports) is =
    let some = is.0.some in
    let few = few_instances is.0 in (
      is.1.fits,
      let low = is.2 in omega arith,
      record {
        some = omega (arith, length-map reports (λ item. item.instance));
        few = omega (arith, length-map reports (λ item. item.instance));
        each =
            All-from_recursion FitsReportItem reports (report_items_fit ballot reports is.1.fits (instances_below is.0) is.3);
      },
    )
message_fits (B2b tx acceptor accepts) is =
    let some = is.0.some in
    let few = few_instances is.0 in (
      let low = is.1 in omega arith,
      record {
        some = omega (arith, length-map accepts (λ item. item.instance));
        few = omega (arith, length-map accepts (λ item. item.instance));
        each = All-from_recursion FitsAcceptItem accepts (accept_items_fit accepts (instances_below is.0) is.2);
      },
    )

pub message_form : (m : Kind) → IsMessage m → IsForm m
message_form m is = (tx_valid m is, message_fits m is)

-- a message
pub a_message : AreSpellings IsMessage message_words
a_message = record {
  one = λ a b p q e. (message_said a (message_form a p)).one b (message_form b q) e;
  common = λ a p. (message_said a (message_form a p)).common;
}
