-- What decoding answers of a kind that was taken.
-- Needed by `plain_of` and `view_of`; BundleKinds.
use Rattle.std.proofs.Common.{◌≡◌, ℕ, Bool, true, false, cond, List, [], ◌∷◌, Option, Some, None, IsTrue, ◌↔◌, refl, sym, subst, ap, ◌∙◌}
use Rattle.std.specs.Prelude.{Result, Ok, Err, IfOk, IfErr}
use Rattle.std.proofs.lemmas.Bool.{false≢true}
use Rattle.xid.specs.declared.refusals.Refusal.{Refusal}
use Rattle.xid.specs.declared.refusals.Refusal.TheVariants.{BadMessage}
use Rattle.wire.specs.declared.message.Kind.{Kind}
use Rattle.wire.specs.Messages.{IsMessage}
use Rattle.wire.specs.Decoding.{is_message, answered, decoded}
use Rattle.wire.proofs.DecodingLemmas.{message_decides}
use Rattle.wire.proofs.Spelled.{some_same}

-- the answer to a kind, by whether it is a message
abbrev answer : Kind → Bool → Result Kind Refusal
answer m t = cond t (Ok m) (Err BadMessage)

-- a kind that passes the test of messages is answered
pub accepted : (t : Bool) (m : Kind) → (IsTrue t ↔ IsMessage m) → t ≡ true → Ok m ≡ answered (Some m)
accepted t m says is = let yes : is_message m ≡ true = (message_decides m).1 (says.0 is) in rw yes refl

-- and one that doesn't is a bad message
pub refused : (t : Bool) (m : Kind) → (IsTrue t ↔ IsMessage m) → t ≡ false → Err BadMessage ≡ answered (Some m)
refused t m says not = by (is_message m) (λ is. absurd (false≢true (sym not ∙ says.1 ((message_decides m).0 is))))
  where
    by : (a : Bool) → (a ≡ true → ⊥) → Err BadMessage ≡ cond a (Ok m) (Err BadMessage)
    by true nay = absurd (nay refl)
    by false nay = refl

ok_by : (m : Kind) (Q : Kind → Type 0) (t : Bool) → is_message m ≡ t → (IsMessage m → Q m) → IfOk (answer m t) Q
ok_by m Q true e go = go ((message_decides m).0 e)
ok_by m Q false e go = tt

ok_at : (read : Option (Kind × List ℕ)) (Q : Kind → Type 0) → ((k : Kind) → read ≡ Some (k, []) → IsMessage k → Q k) → IfOk (decoded read) Q
ok_at None Q go = tt
ok_at (Some (m, [])) Q go = ok_by m Q (is_message m) refl (go m refl)
ok_at (Some (m, x ∷ xs)) Q go = tt

-- what holds of each message that was taken to the end holds of the answer
pub if_ok : (result : Result Kind Refusal) (read : Option (Kind × List ℕ)) (Q : Kind → Type 0) → result ≡ decoded read
    → ((k : Kind) → read ≡ Some (k, []) → IsMessage k → Q k) → IfOk result Q
if_ok result read Q e go = subst (λ (r : Result Kind Refusal). IfOk r Q) (sym e) (ok_at read Q go)

-- a refusal of bytes: they don't spell a message
abbrev No : (Kind → Type 0) → Refusal → Type 0
No P e = (e ≡ BadMessage) × ((k : Kind) → IsMessage k → P k → ⊥)

err_by : (m : Kind) (P : Kind → Type 0) (t : Bool) → is_message m ≡ t → ((k : Kind) → IsMessage k → P k → m ≡ k)
    → IfErr (answer m t) (No P)
err_by m P true e go = tt
err_by m P false e go = (refl, λ k is p. false≢true (sym e ∙ (message_decides m).1 (subst IsMessage (sym (go k is p)) is)))

err_at : (read : Option (Kind × List ℕ)) (P : Kind → Type 0) → ((k : Kind) → IsMessage k → P k → read ≡ Some (k, []))
    → IfErr (decoded read) (No P)
err_at None P go = (refl, λ k is p. absurd (cc (go k is p)))
err_at (Some (m, [])) P go =
    err_by m P (is_message m) refl (λ k is p. ap (λ (x : Kind × List ℕ). x.0) (some_same (m, []) (k, []) (go k is p)))
err_at (Some (m, x ∷ xs)) P go = (refl, λ k is p. absurd (cc (ap (λ (y : Kind × List ℕ). y.1) (some_same (m, x ∷ xs) (k, []) (go k is p)))))

-- where the message that bytes spell is always taken, a refused answer means that they spell none
pub if_err : (result : Result Kind Refusal) (read : Option (Kind × List ℕ)) (P : Kind → Type 0) → result ≡ decoded read
    → ((k : Kind) → IsMessage k → P k → read ≡ Some (k, [])) → IfErr result (No P)
if_err result read P e go = subst (λ (r : Result Kind Refusal). IfErr r (No P)) (sym e) (err_at read P go)
